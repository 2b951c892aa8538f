-- What is told stays that of the publications, behind each change.
use Rattle.std.proofs.Common.{◌≡◌, ℕ, suc, ◌==◌, Bool, true, false, cond, not, ◌&&◌, List, [], ◌∷◌, ◌++◌, length, map, ◌≤◌, arith, Option, Some, None, refl, sym, ap, subst, ◌∙◌}
use Rattle.std.proofs.lemmas.Bool.Decides.{nat_tests}
use Rattle.std.specs.Prelude.{is_some, nat_lt, nat_le}
use Rattle.std.specs.List.{slice_get}
use Rattle.std.specs.HashMap.{HashMap}
use Rattle.std.specs.Option.{option_map}
use Rattle.news_types.specs.declared.query.Due.{Due}
use Rattle.news_types.specs.Names.{Bytes, same, is_in}
use Rattle.news_types.specs.History.{History}
use Rattle.news_types.specs.Members.{Each}
use Rattle.news_types.specs.Due as due
use Rattle.news_types.specs.Due.{Pub, is_first, is_first_of, release_to, is_by, given_by, left_behind, taken_back}
use Rattle.news_types.specs.Publications.{pubs, standing}
use Rattle.news_types.proofs.Members.{same_is}
use Rattle.news_types.proofs.Dues.{IsFair, release_given, standing_are_fair}
use Rattle.news_types.specs.Products.{subscribers}
use Rattle.news_types.proofs.Numbering.{CountsDown, standing_falls}
use Rattle.news_types.proofs.Subscribed.{IsToKnown, standing_are_known, listed_is}
use Rattle.feed_reasons.specs.Courses.{numbered, due_of}
use Rattle.publications.specs.Numbers.{numbers_of}
use Rattle.desk_records.specs.declared.slots.Slot.{Slot}
use Rattle.desk_records.specs.declared.slots.Slot.TheVariants as slot
use Rattle.desk_records.specs.Slots.{made_in, left_in, slot_of, after_kill, in_slot, slot_at, Told, killed, withdrawn, made_at, left_at, is_standing, width, told, told_at, is_among}
use Rattle.desk_records.specs.declared.rows.Row.{Row}
use Rattle.desk_records.specs.Dues.{place_of, IsPlaces, Tells}
use Rattle.desk_records.specs.Fills.{Fills, known_slot}
use Rattle.desk_records.proofs.Lists.{get_map, get_past, map_length}
use Rattle.desk_records.proofs.Numbers.{numbered_left, if_kept, numbered_filter, numbered_has, among_standing}
use Rattle.desk_records.proofs.Places.{place_none, place_some}
use Rattle.desk_records.proofs.Told.{told_pushed}

-- the lists may be written in another way
pub tells_moved : (at : ℕ → Option Told) (names after_names : List Bytes) (ps after_ps st after_st : List Pub) → after_names ≡ names → after_ps ≡ ps → after_st ≡ st
    → Tells at names ps st → Tells at after_names after_ps after_st
tells_moved at names after_names ps after_ps st after_st a b d tells = rw (a, b, d) tells

pub places_moved : {S : Type 0} (places : HashMap Bytes ℕ S) (names after_names : List Bytes) → after_names ≡ names → IsPlaces places names → IsPlaces places after_names
places_moved places names after_names is all = rw is all

-- ---- one more publication

made_of : (o : Option ℕ) → made_in (slot_of o) ≡ o
made_of None = refl
made_of (Some r) = refl

left_of : (o : Option ℕ) → left_in (slot_of o) ≡ o
left_of None = refl
left_of (Some r) = refl

-- it stands, and its slots are those of to whom it is due
pub record IsNew (t : Told) (p : Pub) (names : List Bytes) : Type 0 where
  pub stands : t.stands ≡ true
  pub slots : (s : Bytes) → slot_at t.slots (place_of s names) ≡ slot_of (release_to s p.due)
  pub width : length t.slots ≤ length names

pub tells_more : (before after : ℕ → Option Told) (names : List Bytes) (ps st : List Pub) (p : Pub) (t : Told) → Tells before names ps st → IsNew t p names
    → ((n : ℕ) → after n ≡ cond (p.number == n) (Some t) (before n)) → Tells after names (p ∷ ps) (p ∷ st)
tells_more before after names ps st p t tells new is = record {
  made = λ n s. ap (λ o. made_at o (place_of s names)) (is n) ∙ made (p.number == n) n s;
  left = λ n s. ap (λ o. left_at o (place_of s names)) (is n) ∙ left (p.number == n) n s;
  stands = λ n. ap is_standing (is n) ∙ stands (p.number == n) n;
  width = λ n. rw (is n) (wide (p.number == n) n);
}
  where
    made : (b : Bool) (n : ℕ) (s : Bytes) → made_at (cond b (Some t) (before n)) (place_of s names) ≡ due_of s (cond b (Some p) (numbered n ps))
    made true n s = ap made_in (new.slots s) ∙ made_of (release_to s p.due)
    made false n s = tells.made n s

    left : (b : Bool) (n : ℕ) (s : Bytes) → left_at (cond b (Some t) (before n)) (place_of s names) ≡ due_of s (cond b (Some p) (numbered n st))
    left true n s = rw new.stands (ap left_in (new.slots s) ∙ left_of (release_to s p.due))
    left false n s = tells.left n s

    stands : (b : Bool) (n : ℕ) → is_standing (cond b (Some t) (before n)) ≡ is_some (cond b (Some p) (numbered n st))
    stands true n = new.stands
    stands false n = tells.stands n

    wide : (b : Bool) (n : ℕ) → width (cond b (Some t) (before n)) ≤ length names
    wide true n = new.width
    wide false n = tells.width n

-- those to whom it is due have a place
pub slots_new : (g : History) (p : Pub) (rest : List Pub) (names : List Bytes) (slots : List Slot) (these : List Due) → standing g ≡ p ∷ rest → subscribers g ≡ names
    → ((s : Bytes) → release_to s p.due ≡ release_to s these) → Fills slots these names → (s : Bytes) → slot_at slots (place_of s names) ≡ slot_of (release_to s p.due)
slots_new g p rest names slots these first all releases fills s = fills s ∙ by (place_of s names) refl
  where
    known : IsToKnown g p
    known = (subst (Each (IsToKnown g)) first (standing_are_known g)).0

    nothing : place_of s names ≡ None → (o : Option ℕ) → release_to s p.due ≡ o → slot.NotDue ≡ slot_of o
    nothing here None is = refl
    nothing here (Some r) is = absurd (place_some s names (ap (λ ns. is_in s ns) (sym all) ∙ listed_is g s ∙ known s (ap is_some is)) here)

    by : (o : Option ℕ) → place_of s names ≡ o → known_slot o (release_to s these) ≡ slot_of (release_to s p.due)
    by None here = nothing here (release_to s p.due) refl
    by (Some i) here = ap slot_of (sym (releases s))

pub rows_new : (rows after : List Row) (row : Row) (p : Pub) (ps : List Pub) → length rows ≡ length ps → CountsDown (p ∷ ps) → after ≡ rows ++ row ∷ []
    → (n : ℕ) → told_at after n ≡ cond (p.number == n) (Some (told row)) (told_at rows n)
rows_new rows after row p ps count down is n =
    let number : suc (length rows) ≡ p.number = omega (arith, count, down.0) in
    ap (λ (all : List Row). told_at all n) is ∙ told_pushed rows row n ∙ ap (λ k. cond (k == n) (Some (told row)) (told_at rows n)) number

-- ---- what is taken back

slot_map : (m : ℕ) (slots : List Slot) (o : Option ℕ) → slot_at (map (after_kill m) slots) o ≡ after_kill m (slot_at slots o)
slot_map m slots None = refl
slot_map m slots (Some i) = ap in_slot (get_map (after_kill m) slots i) ∙ by (slice_get slots i)
  where
    by : (o : Option Slot) → in_slot (option_map (after_kill m) o) ≡ after_kill m (in_slot o)
    by None = refl
    by (Some x) = refl

kill_made : (m : ℕ) (x : Slot) → made_in (after_kill m x) ≡ made_in x
kill_made m slot.NotDue = refl
kill_made m (slot.TakenBack r) = refl
kill_made m (slot.Due r) = elim (nat_lt m r) as (λ b. made_in (cond b (slot.TakenBack r) (slot.Due r)) ≡ Some r) [ true ↦ refl | false ↦ refl ]

kill_left : (m : ℕ) (x : Slot) → left_in (after_kill m x) ≡ cond (is_by m (left_in x)) (left_in x) None
kill_left m slot.NotDue = refl
kill_left m (slot.TakenBack r) = refl
kill_left m (slot.Due r) = by (nat_lt m r) refl
  where
    by : (b : Bool) → nat_lt m r ≡ b → left_in (cond b (slot.TakenBack r) (slot.Due r)) ≡ cond (nat_le r m) (Some r) None
    by true late = let no : nat_le r m ≡ false = grind (arith, nat_tests, late) in rw no refl
    by false early = let yes : nat_le r m ≡ true = grind (arith, nat_tests, early) in rw yes refl

killed_made : (m : ℕ) (t : Option Told) (o : Option ℕ) → made_at (option_map (killed m) t) o ≡ made_at t o
killed_made m None o = refl
killed_made m (Some t) o = ap made_in (slot_map m t.slots o) ∙ kill_made m (slot_at t.slots o)

killed_left : (m : ℕ) (t : Option Told) (o : Option ℕ) → left_at (option_map (killed m) t) o ≡ cond (is_by m (left_at t o)) (left_at t o) None
killed_left m None o = refl
killed_left m (Some t) o =
    elim t.stands as (λ b. cond b (left_in (slot_at (map (after_kill m) t.slots) o)) None ≡ cond (is_by m (cond b (left_in (slot_at t.slots o)) None)) (cond b (left_in (slot_at t.slots o)) None) None) [
      | true ↦ ap left_in (slot_map m t.slots o) ∙ kill_left m (slot_at t.slots o)
      | false ↦ refl
    ]

killed_stands : (m : ℕ) (t : Option Told) → is_standing (option_map (killed m) t) ≡ is_standing t
killed_stands m None = refl
killed_stands m (Some t) = refl

killed_width : (m : ℕ) (t : Option Told) → width (option_map (killed m) t) ≡ width t
killed_width m None = refl
killed_width m (Some t) = map_length (after_kill m) t.slots

-- nothing of it is left
left_none : (t : Option Told) (o : Option ℕ) → is_standing t ≡ false → left_at t o ≡ None
left_none None o out = refl
left_none (Some t) o out = rw out refl

some_left : (m i : ℕ) (o : Option Pub) → is_some (option_map (left_behind m i) o) ≡ is_some o
some_left m i None = refl
some_left m i (Some q) = refl

pub tells_back : (before after : ℕ → Option Told) (names : List Bytes) (h : History) (m i : ℕ) → Tells before names (pubs h) (standing h)
    → ((n : ℕ) → after n ≡ cond (is_among n (numbers_of i (pubs h))) (option_map (killed m) (before n)) (before n)) → Tells after names (pubs h) (taken_back m i (standing h))
tells_back before after names h m i tells is = record {
  made = λ n s. ap (λ o. made_at o (place_of s names)) (is n) ∙ made (is_among n (numbers_of i (pubs h))) n s;
  left = λ n s. ap (λ o. left_at o (place_of s names)) (is n) ∙ left n s (numbered n (standing h)) refl ∙ ap (due_of s) (sym (numbered_left m i n (standing h)));
  stands = λ n.
      ap is_standing (is n) ∙ stands (is_among n (numbers_of i (pubs h))) n
      ∙ sym (ap is_some (numbered_left m i n (standing h)) ∙ some_left m i (numbered n (standing h)));
  width = λ n. rw (is n) (wide (is_among n (numbers_of i (pubs h))) n);
}
  where
    made : (b : Bool) (n : ℕ) (s : Bytes) → made_at (cond b (option_map (killed m) (before n)) (before n)) (place_of s names) ≡ due_of s (numbered n (pubs h))
    made true n s = killed_made m (before n) (place_of s names) ∙ tells.made n s
    made false n s = tells.made n s

    stands : (b : Bool) (n : ℕ) → is_standing (cond b (option_map (killed m) (before n)) (before n)) ≡ is_some (numbered n (standing h))
    stands true n = killed_stands m (before n) ∙ tells.stands n
    stands false n = tells.stands n

    wide : (b : Bool) (n : ℕ) → width (cond b (option_map (killed m) (before n)) (before n)) ≤ length names
    wide true n = rw (killed_width m (before n)) (tells.width n)
    wide false n = tells.width n

    gone : (b : Bool) (n : ℕ) (s : Bytes) → is_standing (before n) ≡ false → left_at (cond b (option_map (killed m) (before n)) (before n)) (place_of s names) ≡ None
    gone true n s out = left_none (option_map (killed m) (before n)) (place_of s names) (killed_stands m (before n) ∙ out)
    gone false n s out = left_none (before n) (place_of s names) out

    of : (n : ℕ) (s : Bytes) (q : Pub) (b : Bool) → numbered n (standing h) ≡ Some q
        → left_at (cond b (option_map (killed m) (before n)) (before n)) (place_of s names) ≡ release_to s (cond b (given_by m q.due) q.due)
    of n s q true found =
        let fair = (numbered_has IsFair n (standing h) q (standing_are_fair h) found).0 in
        let was : left_at (before n) (place_of s names) ≡ release_to s q.due = tells.left n s ∙ ap (due_of s) found in
        killed_left m (before n) (place_of s names) ∙ ap (λ o. cond (is_by m o) o None) was ∙ sym (release_given fair.agree.0 m s q.due fair.agree.1)
    of n s q false found = tells.left n s ∙ ap (due_of s) found

    left : (n : ℕ) (s : Bytes) (o : Option Pub) → numbered n (standing h) ≡ o
        → left_at (cond (is_among n (numbers_of i (pubs h))) (option_map (killed m) (before n)) (before n)) (place_of s names) ≡ due_of s (option_map (left_behind m i) o)
    left n s None found = gone (is_among n (numbers_of i (pubs h))) n s (tells.stands n ∙ ap is_some found)
    left n s (Some q) found = rw (among_standing h i n q found) (of n s q (q.item == i) found)

-- ---- what is withdrawn

gone_left : (t : Option Told) (o : Option ℕ) → left_at (option_map withdrawn t) o ≡ None
gone_left None o = refl
gone_left (Some t) o = refl

gone_made : (t : Option Told) (o : Option ℕ) → made_at (option_map withdrawn t) o ≡ made_at t o
gone_made None o = refl
gone_made (Some t) o = refl

gone_stands : (t : Option Told) → is_standing (option_map withdrawn t) ≡ false
gone_stands None = refl
gone_stands (Some t) = refl

gone_width : (t : Option Told) → width (option_map withdrawn t) ≡ width t
gone_width None = refl
gone_width (Some t) = refl

pub tells_gone : (before after : ℕ → Option Told) (names : List Bytes) (h : History) (i : ℕ) → Tells before names (pubs h) (standing h)
    → Each (λ (p : Pub). p.item ≡ i → is_first p.kind ≡ true) (standing h)
    → ((n : ℕ) → after n ≡ cond (is_among n (numbers_of i (pubs h))) (option_map withdrawn (before n)) (before n)) → Tells after names (pubs h) (due.withdrawn i (standing h))
tells_gone before after names h i tells firsts is = record {
  made = λ n s. ap (λ o. made_at o (place_of s names)) (is n) ∙ made (is_among n (numbers_of i (pubs h))) n s;
  left = λ n s.
      ap (λ o. left_at o (place_of s names)) (is n) ∙ left n s (numbered n (standing h)) refl
      ∙ ap (due_of s) (sym (numbered_filter stays n (standing h) (standing_falls h)));
  stands = λ n. ap is_standing (is n) ∙ stands n (numbered n (standing h)) refl ∙ ap is_some (sym (numbered_filter stays n (standing h) (standing_falls h)));
  width = λ n. rw (is n) (wide (is_among n (numbers_of i (pubs h))) n);
}
  where
    stays : Pub → Bool
    stays p = not (is_first_of i p)

    made : (b : Bool) (n : ℕ) (s : Bytes) → made_at (cond b (option_map withdrawn (before n)) (before n)) (place_of s names) ≡ due_of s (numbered n (pubs h))
    made true n s = gone_made (before n) (place_of s names) ∙ tells.made n s
    made false n s = tells.made n s

    wide : (b : Bool) (n : ℕ) → width (cond b (option_map withdrawn (before n)) (before n)) ≤ length names
    wide true n = rw (gone_width (before n)) (tells.width n)
    wide false n = tells.width n

    -- it goes where it is of the item
    goes : (n : ℕ) (q : Pub) (b : Bool) → numbered n (standing h) ≡ Some q → (q.item == i) ≡ b → is_first_of i q ≡ b
    goes n q true found item = rw ((numbered_has (λ (p : Pub). p.item ≡ i → is_first p.kind ≡ true) n (standing h) q firsts found).0 (grind (arith, nat_tests, item)), item) refl
    goes n q false found item = rw item (elim (is_first q.kind) as (λ b. (b && false) ≡ false) [ true ↦ refl | false ↦ refl ])

    none : (b : Bool) (n : ℕ) (s : Bytes) → is_standing (before n) ≡ false → left_at (cond b (option_map withdrawn (before n)) (before n)) (place_of s names) ≡ None
    none true n s out = gone_left (before n) (place_of s names)
    none false n s out = left_none (before n) (place_of s names) out

    of : (n : ℕ) (s : Bytes) (q : Pub) (b : Bool) → numbered n (standing h) ≡ Some q
        → left_at (cond b (option_map withdrawn (before n)) (before n)) (place_of s names) ≡ due_of s (cond (not b) (Some q) None)
    of n s q true found = gone_left (before n) (place_of s names)
    of n s q false found = tells.left n s ∙ ap (due_of s) found

    left : (n : ℕ) (s : Bytes) (o : Option Pub) → numbered n (standing h) ≡ o
        → left_at (cond (is_among n (numbers_of i (pubs h))) (option_map withdrawn (before n)) (before n)) (place_of s names) ≡ due_of s (if_kept stays o)
    left n s None found = none (is_among n (numbers_of i (pubs h))) n s (tells.stands n ∙ ap is_some found)
    left n s (Some q) found = rw (among_standing h i n q found, goes n q (q.item == i) found refl) (of n s q (q.item == i) found)

    none_stands : (b : Bool) (n : ℕ) → is_standing (before n) ≡ false → is_standing (cond b (option_map withdrawn (before n)) (before n)) ≡ false
    none_stands true n out = gone_stands (before n)
    none_stands false n out = out

    of_stands : (n : ℕ) (q : Pub) (b : Bool) → numbered n (standing h) ≡ Some q → is_standing (cond b (option_map withdrawn (before n)) (before n)) ≡ is_some (cond (not b) (Some q) None)
    of_stands n q true found = gone_stands (before n)
    of_stands n q false found = tells.stands n ∙ ap is_some found

    stands : (n : ℕ) (o : Option Pub) → numbered n (standing h) ≡ o → is_standing (cond (is_among n (numbers_of i (pubs h))) (option_map withdrawn (before n)) (before n)) ≡ is_some (if_kept stays o)
    stands n None found = none_stands (is_among n (numbers_of i (pubs h))) n (tells.stands n ∙ ap is_some found)
    stands n (Some q) found = rw (among_standing h i n q found, goes n q (q.item == i) found refl) (of_stands n q (q.item == i) found)

-- ---- one more subscriber

slot_past : (slots : List Slot) (i : ℕ) → length slots ≤ i → slot_at slots (Some i) ≡ slot.NotDue
slot_past slots i past = ap in_slot (get_past slots i past)

made_past : (t : Option Told) (i : ℕ) → width t ≤ i → made_at t (Some i) ≡ None
made_past None i past = refl
made_past (Some t) i past = ap made_in (slot_past t.slots i past)

either : (b : Bool) → cond b (left_in slot.NotDue) None ≡ None
either true = refl
either false = refl

left_past : (t : Option Told) (i : ℕ) → width t ≤ i → left_at t (Some i) ≡ None
left_past None i past = refl
left_past (Some t) i past = ap (λ x. cond t.stands (left_in x) None) (slot_past t.slots i past) ∙ either t.stands

made_nowhere : (t : Option Told) → made_at t None ≡ None
made_nowhere None = refl
made_nowhere (Some t) = refl

left_nowhere : (t : Option Told) → left_at t None ≡ None
left_nowhere None = refl
left_nowhere (Some t) = either t.stands

pub tells_wider : (at : ℕ → Option Told) (names : List Bytes) (ps st : List Pub) (name : Bytes) → is_in name names ≡ false → Tells at names ps st → Tells at (name ∷ names) ps st
tells_wider at names ps st name new tells = record {
  made = λ n s. made n s (same name s) refl;
  left = λ n s. left n s (same name s) refl;
  stands = tells.stands;
  width = λ n. let le = tells.width n in omega (arith, le);
}
  where
    made : (n : ℕ) (s : Bytes) (b : Bool) → same name s ≡ b → made_at (at n) (cond b (Some (length names)) (place_of s names)) ≡ due_of s (numbered n ps)
    made n s true is =
        made_past (at n) (length names) (tells.width n) ∙ sym (made_nowhere (at n)) ∙ ap (made_at (at n)) (sym (place_none name names new))
        ∙ tells.made n name ∙ ap (λ t. due_of t (numbered n ps)) (same_is name s is)
    made n s false is = tells.made n s

    left : (n : ℕ) (s : Bytes) (b : Bool) → same name s ≡ b → left_at (at n) (cond b (Some (length names)) (place_of s names)) ≡ due_of s (numbered n st)
    left n s true is =
        left_past (at n) (length names) (tells.width n) ∙ sym (left_nowhere (at n)) ∙ ap (left_at (at n)) (sym (place_none name names new))
        ∙ tells.left n name ∙ ap (λ t. due_of t (numbered n st)) (same_is name s is)
    left n s false is = tells.left n s
