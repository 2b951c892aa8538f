-- A feed has an item where something of it that stands is released to the subscriber, and nothing took the item back.
use Rattle.std.proofs.Common.{◌≡◌, ◌==◌, ℕ, ◌≤◌, Bool, true, false, cond, not, ◌&&◌, ◌||◌, List, [], ◌∷◌, ◌++◌, Option, Some, None, refl, sym, ap, subst, ◌∙◌, arith}
use Rattle.std.specs.Prelude.{nat_le, is_some}
use Rattle.std.specs.List.{filter}
use Rattle.std.proofs.lemmas.Bool.Decides.{nat_tests, Decides-eqb}
use mathlib.Core.Bool.{true≢false}
use Rattle.news_types.specs.declared.entry.Act.{Act}
use Rattle.news_types.specs.declared.entry.Act.TheVariants.{Request, Ingest}
use Rattle.news_types.specs.declared.command.Command.{Command}
use Rattle.news_types.specs.declared.command.Command.TheVariants.{Flash, Publish, Correct, Kill, Recall, Deschedule}
use Rattle.news_types.specs.declared.words.Kind.{Kind}
use Rattle.news_types.specs.declared.words.Kind.TheVariants as kind
use Rattle.news_types.specs.declared.query.Due.{Due}
use Rattle.news_types.specs.declared.story.Incoming.{Incoming}
use Rattle.news_types.specs.declared.story.Story.{Story}
use Rattle.news_types.specs.Names.{Bytes, same, is_in}
use Rattle.news_types.specs.Members.{Each}
use Rattle.news_types.specs.History.{History, moment}
use Rattle.news_types.specs.Products.{is_subscriber, subscribers}
use Rattle.news_types.specs.Due.{Pub, is_first, is_first_of, takes_back, withdrawn, release_to, is_by, had_by, given_by, left_behind, taken_back, is_due_by, release_for}
use Rattle.news_types.specs.Items.{Item, Effect, NewAt, effect_by}
use Rattle.news_types.specs.Publications.{Issue, made, pubs, standing, issued_by, issued_by_command, issued_by_effect, pub_of, pubs_of_item, pubs_of_issue, kept_by, item}
use Rattle.news_types.specs.Feeds.{feed_of, feed}
use Rattle.news_types.specs.Legal.{IsLegal}
use Rattle.news_types.proofs.Members.{same_is, none_some, each_map, each_filter, each_passes}
use Rattle.news_types.proofs.Dues.{IsFair, are_of, listed_due, release_given, each_release, standing_are_fair}
use Rattle.news_types.proofs.Subscribed.{IsToKnown, listed_is, standing_are_known}
use Rattle.story_tables.specs.Holding.{has_item, newest_of, took_back, HasItemByTables}
use Rattle.story_tables.proofs.Over.{is_over_item, any_back, not_back, IsOpen, act_open}
use Rattle.story_tables.proofs.LastOf.{clear_has, other_has, ends_has, Under, Ends}

-- ---- of an item the last publication alone takes back

abbrev By : Type 0 → Type 0 → Type 0 → Bool → Bool → Type 0
By rest none ends false c = rest
By rest none ends true false = none
By rest none ends true true = ends

-- behind nothing of the item is one that takes back; and the one that does, if there is one, ends it
abbrev Good : (Pub → List Pub → Type 0) → ℕ → List Pub → Type 0
Good E i [] = Unit {0}
Good E i (p ∷ ps) = By (Good E i ps) (any_back i ps ≡ false) (E p ps) (p.item == i) (takes_back p.kind)

good_clear : (E : Pub → List Pub → Type 0) (i : ℕ) (ps : List Pub) → any_back i ps ≡ false → Good E i ps
good_clear E i [] none = tt
good_clear E i (p ∷ ps) none = by (p.item == i) (takes_back p.kind) none (good_clear E i ps)
  where
    by : (b c : Bool) → ((b && c) || any_back i ps) ≡ false → (any_back i ps ≡ false → Good E i ps) → By (Good E i ps) (any_back i ps ≡ false) (E p ps) b c
    by false c none rest = rest none
    by true false none rest = none
    by true true none rest = absurd (true≢false none)

good_has : (i m : ℕ) (s : Bytes) (ps : List Pub) → Good (Ends i m) i ps → has_item (feed_of ps m s) i ≡ (had_by m ps i s && not (any_back i ps))
good_has i m s [] good = refl
good_has i m s (p ∷ ps) good = by (p.item == i) refl (takes_back p.kind) refl good (good_has i m s ps)
  where
    and_true : (a : Bool) → (a && true) ≡ a
    and_true true = refl
    and_true false = refl

    and_false : (a : Bool) → (a && false) ≡ false
    and_false true = refl
    and_false false = refl

    by : (b : Bool) → (p.item == i) ≡ b → (c : Bool) → takes_back p.kind ≡ c → By (Good (Ends i m) i ps) (any_back i ps ≡ false) (Ends i m p ps) b c
        → (Good (Ends i m) i ps → has_item (feed_of ps m s) i ≡ (had_by m ps i s && not (any_back i ps)))
        → has_item (feed_of (p ∷ ps) m s) i ≡ (had_by m (p ∷ ps) i s && not ((b && c) || any_back i ps))
    by false other c its good rest = other_has i m s p ps other ∙ rest good ∙ rw other refl
    by true is true back ends rest = ends_has i m s p ps is back ends ∙ sym (and_false (had_by m (p ∷ ps) i s))
    by true is false front none rest =
        let clear : any_back i (p ∷ ps) ≡ false = rw (is, front) none in
        clear_has i m s (p ∷ ps) clear ∙ sym (ap (λ (b : Bool). had_by m (p ∷ ps) i s && not b) none ∙ and_true (had_by m (p ∷ ps) i s))

-- the newest alone
abbrev Any : Pub → List Pub → Type 0
Any p ps = Unit {0}

newest_back : (i : ℕ) (ps : List Pub) → Good Any i ps → took_back (newest_of i ps) ≡ any_back i ps
newest_back i [] good = refl
newest_back i (p ∷ ps) good = by (p.item == i) (takes_back p.kind) refl good (newest_back i ps)
  where
    by : (b c : Bool) → takes_back p.kind ≡ c → By (Good Any i ps) (any_back i ps ≡ false) (Unit {0}) b c → (Good Any i ps → took_back (newest_of i ps) ≡ any_back i ps)
        → took_back (cond b (Some p) (newest_of i ps)) ≡ ((b && c) || any_back i ps)
    by false c its good rest = rest good
    by true true its good rest = its
    by true false its none rest = its ∙ sym none

-- ---- what goes and what is left

back_withdrawn : (i j : ℕ) (ps : List Pub) → any_back i (withdrawn j ps) ≡ any_back i ps
back_withdrawn i j [] = refl
back_withdrawn i j (p ∷ ps) = by p.kind refl (p.item == j) (back_withdrawn i j ps)
  where
    and_false : (a : Bool) → (a && false) ≡ false
    and_false true = refl
    and_false false = refl

    by : (k : Kind) → p.kind ≡ k → (b : Bool) → any_back i (withdrawn j ps) ≡ any_back i ps → any_back i (cond (not (is_first k && b)) (p ∷ withdrawn j ps) (withdrawn j ps)) ≡ ((p.item == i && takes_back p.kind) || any_back i ps)
    by kind.First is true rest = rw (is, and_false (p.item == i)) rest
    by kind.First is false rest = ap (λ (b : Bool). (p.item == i && takes_back p.kind) || b) rest
    by kind.Correct is b rest = ap (λ (b : Bool). (p.item == i && takes_back p.kind) || b) rest
    by kind.Kill is b rest = ap (λ (b : Bool). (p.item == i && takes_back p.kind) || b) rest
    by kind.Recall is b rest = ap (λ (b : Bool). (p.item == i && takes_back p.kind) || b) rest

back_left : (i m j : ℕ) (ps : List Pub) → any_back i (taken_back m j ps) ≡ any_back i ps
back_left i m j [] = refl
back_left i m j (p ∷ ps) = ap (λ (b : Bool). (p.item == i && takes_back p.kind) || b) (back_left i m j ps)

ends_withdrawn : (i m j : ℕ) (q : Pub) (ps : List Pub) → Ends i m q ps → Ends i m q (withdrawn j ps)
ends_withdrawn i m j q ps ends = record { come = ends.come; at = ends.at; under = each_filter (Under i q) (λ p. not (is_first_of j p)) ps ends.under }

-- where first publications go
good_withdrawn : (i m j : ℕ) (ps : List Pub) → Good (Ends i m) i ps → Good (Ends i m) i (withdrawn j ps)
good_withdrawn i m j [] good = tt
good_withdrawn i m j (p ∷ ps) good = by (not (is_first_of j p)) refl good (good_withdrawn i m j ps)
  where
    first_only : (k : Kind) (b : Bool) → not (is_first k && b) ≡ false → takes_back k ≡ false
    first_only kind.First b gone = refl
    first_only kind.Correct b gone = absurd (true≢false gone)
    first_only kind.Kill b gone = absurd (true≢false gone)
    first_only kind.Recall b gone = absurd (true≢false gone)

    stays : (b c : Bool) → By (Good (Ends i m) i ps) (any_back i ps ≡ false) (Ends i m p ps) b c → (Good (Ends i m) i ps → Good (Ends i m) i (withdrawn j ps))
        → By (Good (Ends i m) i (withdrawn j ps)) (any_back i (withdrawn j ps) ≡ false) (Ends i m p (withdrawn j ps)) b c
    stays false c good rest = rest good
    stays true false none rest = back_withdrawn i j ps ∙ none
    stays true true ends rest = ends_withdrawn i m j p ps ends

    goes : (b c : Bool) → c ≡ false → By (Good (Ends i m) i ps) (any_back i ps ≡ false) (Ends i m p ps) b c → (Good (Ends i m) i ps → Good (Ends i m) i (withdrawn j ps)) → Good (Ends i m) i (withdrawn j ps)
    goes false c front good rest = rest good
    goes true false front none rest = good_clear (Ends i m) i (withdrawn j ps) (back_withdrawn i j ps ∙ none)
    goes true true front ends rest = absurd (true≢false front)

    by : (t : Bool) → not (is_first_of j p) ≡ t → By (Good (Ends i m) i ps) (any_back i ps ≡ false) (Ends i m p ps) (p.item == i) (takes_back p.kind)
        → (Good (Ends i m) i ps → Good (Ends i m) i (withdrawn j ps)) → Good (Ends i m) i (cond t (p ∷ withdrawn j ps) (withdrawn j ps))
    by true is good rest = stays (p.item == i) (takes_back p.kind) good rest
    by false is good rest = goes (p.item == i) (takes_back p.kind) (first_only p.kind (p.item == j) is) good rest

left_had : (m i : ℕ) (s : Bytes) (p : Pub) (r : ℕ) → IsFair p → release_to s (left_behind m i p).due ≡ Some r → release_to s p.due ≡ Some r
left_had m i s p r fair is = by (p.item == i) is
  where
    if_by : (b : Bool) (o : Option ℕ) → cond b o None ≡ Some r → o ≡ Some r
    if_by true o e = e
    if_by false o e = absurd (none_some r e)

    by : (b : Bool) → release_to s (cond b (given_by m p.due) p.due) ≡ Some r → release_to s p.due ≡ Some r
    by true e = if_by (is_by m (release_to s p.due)) (release_to s p.due) (sym (release_given fair.agree.0 m s p.due fair.agree.1) ∙ e)
    by false e = e

early : (m : ℕ) (d : Due) → nat_le d.release m ≡ true → d.release ≤ m
early m d e = grind (arith, nat_tests)

-- what is left of the item's publications is released by then
left_early : (m i : ℕ) (s : Bytes) (p : Pub) (r : ℕ) → p.item ≡ i → release_to s (left_behind m i p).due ≡ Some r → r ≤ m
left_early m i s p r same is =
    let here : (p.item == i) ≡ true = (Decides-eqb p.item i).1 same in
    each_release (λ (n : ℕ). n ≤ m) s (given_by m p.due) r (each_passes (λ (d : Due). d.release ≤ m) _ p.due (early m)) (sym (ap (λ (b : Bool). release_to s (cond b (given_by m p.due) p.due)) here) ∙ is)

-- what is released to all by then is left whole
left_whole : (n j : ℕ) (s : Bytes) (q : Pub) → IsFair q → q.release ≤ n → release_to s q.due ≡ Some q.release → release_to s (left_behind n j q).due ≡ Some q.release
left_whole n j s q fair le due = by (q.item == j)
  where
    in_time : nat_le q.release n ≡ true
    in_time = grind (arith, nat_tests, le)

    by : (b : Bool) → release_to s (cond b (given_by n q.due) q.due) ≡ Some q.release
    by false = due
    by true = release_given fair.agree.0 n s q.due fair.agree.1 ∙ ap (λ (o : Option ℕ). cond (is_by n o) o None) due ∙ ap (λ (b : Bool). cond b (Some q.release) None) in_time

at_left : (n j : ℕ) (q : Pub) → Each (λ (d : Due). d.release ≡ q.release) q.due → Each (λ (d : Due). d.release ≡ q.release) (left_behind n j q).due
at_left n j q all = elim (q.item == j) as (λ b. Each (λ (d : Due). d.release ≡ q.release) (cond b (given_by n q.due) q.due)) [ true ↦ each_filter _ _ q.due all | false ↦ all ]

under_left : (i n j : ℕ) (q : Pub) (ps : List Pub) → IsFair q → q.release ≤ n → Each IsFair ps → Each (Under i q) ps → Each (Under i (left_behind n j q)) (taken_back n j ps)
under_left i n j q [] fq le fair all = tt
under_left i n j q (p ∷ ps) fq le fair all =
    ((λ here s r due. let old = all.0 here s r (left_had n j s p r fair.0 due) in (old.0, left_whole n j s q fq le old.1)), under_left i n j q ps fq le fair.1 all.1)

ends_left : (i m n j : ℕ) (q : Pub) (ps : List Pub) → IsFair q → m ≤ n → Each IsFair ps → Ends i m q ps → Ends i n (left_behind n j q) (taken_back n j ps)
ends_left i m n j q ps fq le fair ends =
    let come : q.release ≤ n = omega (arith, ends.come, le) in
    record { come = come; at = at_left n j q ends.at; under = under_left i n j q ps fq come fair ends.under }

-- where something is taken back
good_left : (i m n j : ℕ) (ps : List Pub) → m ≤ n → Each IsFair ps → Good (Ends i m) i ps → Good (Ends i n) i (taken_back n j ps)
good_left i m n j [] le fair good = tt
good_left i m n j (p ∷ ps) le fair good = by (p.item == i) (takes_back p.kind) good (good_left i m n j ps le fair.1)
  where
    by : (b c : Bool) → By (Good (Ends i m) i ps) (any_back i ps ≡ false) (Ends i m p ps) b c → (Good (Ends i m) i ps → Good (Ends i n) i (taken_back n j ps))
        → By (Good (Ends i n) i (taken_back n j ps)) (any_back i (taken_back n j ps) ≡ false) (Ends i n (left_behind n j p) (taken_back n j ps)) b c
    by false c good rest = rest good
    by true false none rest = back_left i n j ps ∙ none
    by true true ends rest = ends_left i m n j p ps fair.0 le fair.1 ends

-- at a later moment
good_later : (i m n : ℕ) (ps : List Pub) → m ≤ n → Good (Ends i m) i ps → Good (Ends i n) i ps
good_later i m n [] le good = tt
good_later i m n (p ∷ ps) le good = by (p.item == i) (takes_back p.kind) good (good_later i m n ps le)
  where
    by : (b c : Bool) → By (Good (Ends i m) i ps) (any_back i ps ≡ false) (Ends i m p ps) b c → (Good (Ends i m) i ps → Good (Ends i n) i ps)
        → By (Good (Ends i n) i ps) (any_back i ps ≡ false) (Ends i n p ps) b c
    by false c good rest = rest good
    by true false none rest = none
    by true true ends rest = record { come = omega (arith, ends.come, le); at = ends.at; under = ends.under }

-- what an entry leaves of it
back_kept : (i m : ℕ) (act : Act) (ps : List Pub) → any_back i (kept_by m act ps) ≡ any_back i ps
back_kept i m (Request caller number (Deschedule j)) ps = back_withdrawn i j ps
back_kept i m (Request caller number (Kill j session note)) ps = back_left i m j ps
back_kept i m (Request caller number (Recall j session note)) ps = back_left i m j ps
back_kept i m (Request caller number command) ps = refl
back_kept i m _ ps = refl

good_kept : (i m n : ℕ) (act : Act) (ps : List Pub) → m ≤ n → Each IsFair ps → Good (Ends i m) i ps → Good (Ends i n) i (kept_by n act ps)
good_kept i m n (Request caller number (Deschedule j)) ps le fair good = good_withdrawn i n j ps (good_later i m n ps le good)
good_kept i m n (Request caller number (Kill j session note)) ps le fair good = good_left i m n j ps le fair good
good_kept i m n (Request caller number (Recall j session note)) ps le fair good = good_left i m n j ps le fair good
good_kept i m n (Request caller number command) ps le fair good = good_later i m n ps le good
good_kept i m n _ ps le fair good = good_later i m n ps le good

-- ---- one more publication

put_new : (E : Pub → List Pub → Type 0) (h : History) (i : ℕ) (issue : Issue) (o : Option Item) (ps : List Pub) → (takes_back issue.kind ≡ false → issue.item ≡ i → any_back i ps ≡ false)
    → ((it : Item) → takes_back issue.kind ≡ true → issue.item ≡ i → E (pub_of h (made h) issue it) ps) → Good E i ps → Good E i (pubs_of_item h (made h) issue o ++ ps)
put_new E h i issue None ps clear ends good = good
put_new E h i issue (Some it) ps clear ends good = by (issue.item == i) refl (takes_back issue.kind) refl
  where
    by : (b : Bool) → (issue.item == i) ≡ b → (c : Bool) → takes_back issue.kind ≡ c → By (Good E i ps) (any_back i ps ≡ false) (E (pub_of h (made h) issue it) ps) b c
    by false is c its = good
    by true is false its = clear its ((Decides-eqb issue.item i).0 is)
    by true is true its = ends it its ((Decides-eqb issue.item i).0 is)

-- an item of which something is published that takes nothing back was taken back by none
was_clear : (h : History) (i : ℕ) (issue : Issue) → IsLegal h → IsOpen h (Some issue) → takes_back issue.kind ≡ false → issue.item ≡ i → any_back i (pubs h) ≡ false
was_clear h i issue legal free other here = not_back h i legal (ap (λ (k : ℕ). is_over_item (item h k)) (sym here) ∙ free other)

good_pubs : (h : History) (i : ℕ) → IsLegal h → Good Any i (pubs h)
good_pubs [] i legal = tt
good_pubs (e ∷ h) i legal = by (issued_by h (made h) e.moment e.act) (act_open h e.moment e.act legal.2) (good_pubs h i legal.0)
  where
    by : (o : Option Issue) → IsOpen h o → Good Any i (pubs h) → Good Any i (pubs_of_issue h (made h) o ++ pubs h)
    by None free good = good
    by (Some issue) free good = put_new Any h i issue issue.after (pubs h) (was_clear h i issue legal.0 free) (λ it back here. tt) good

any_behind : (i : ℕ) (new xs ys : List Pub) → any_back i xs ≡ any_back i ys → any_back i (new ++ xs) ≡ any_back i (new ++ ys)
any_behind i [] xs ys same = same
any_behind i (p ∷ new) xs ys same = ap (λ (b : Bool). (p.item == i && takes_back p.kind) || b) (any_behind i new xs ys same)

-- what takes back never goes
back_stands : (h : History) (i : ℕ) → any_back i (standing h) ≡ any_back i (pubs h)
back_stands [] i = refl
back_stands (e ∷ h) i =
    any_behind i (pubs_of_issue h (made h) (issued_by h (made h) e.moment e.act)) (kept_by e.moment e.act (standing h)) (pubs h) (back_kept i e.moment e.act (standing h) ∙ back_stands h i)

-- ---- a kill or a recall

taken_release : (h : History) (ps : List Pub) (k : Kind) (i release : ℕ) (s : Bytes) → takes_back k ≡ true → release_for h ps k i release s ≡ release
taken_release h ps kind.Kill i release s back = refl
taken_release h ps kind.Recall i release s back = refl
taken_release h ps kind.First i release s back = absurd (true≢false (sym back))
taken_release h ps kind.Correct i release s back = absurd (true≢false (sym back))

taken_due : (h : History) (ps : List Pub) (k : Kind) (i : ℕ) (story : Story) (release : ℕ) (targets : List Bytes) (s : Bytes) → takes_back k ≡ true → is_due_by h ps k i story release targets s ≡ had_by release ps i s
taken_due h ps kind.Kill i story release targets s back = refl
taken_due h ps kind.Recall i story release targets s back = refl
taken_due h ps kind.First i story release targets s back = absurd (true≢false (sym back))
taken_due h ps kind.Correct i story release targets s back = absurd (true≢false (sym back))

or_right : (a b : Bool) → b ≡ true → (a || b) ≡ true
or_right true b h = refl
or_right false b h = h

-- who is listed and passes the test
in_filter : (s : Bytes) (t : Bytes → Bool) (names : List Bytes) → is_in s names ≡ true → t s ≡ true → is_in s (filter t names) ≡ true
in_filter s t [] listed passes = listed
in_filter s t (x ∷ names) listed passes = by (t x) (same s x) refl refl listed (in_filter s t names)
  where
    by : (b c : Bool) → t x ≡ b → same s x ≡ c → (c || is_in s names) ≡ true → (is_in s names ≡ true → t s ≡ true → is_in s (filter t names) ≡ true) → is_in s (cond b (x ∷ filter t names) (filter t names)) ≡ true
    by true true passed alike listed rest = rw alike refl
    by true false passed other listed rest = or_right (same s x) (is_in s (filter t names)) (rest listed passes)
    by false true failed alike listed rest = absurd (true≢false (sym passes ∙ ap t (same_is s x alike) ∙ failed))
    by false false failed other listed rest = rest listed passes

module _ (h : History) (m : ℕ) (issue : Issue) (it : Item) (back : takes_back issue.kind ≡ true) (at_once : issue.release ≡ m) where
  abbrev kill : Pub
  kill = pub_of h (made h) issue it

  abbrev release_to_each : Bytes → ℕ
  release_to_each = release_for h (standing h) issue.kind issue.item issue.release

  abbrev is_told : Bytes → Bool
  is_told = is_due_by h (standing h) issue.kind issue.item kill.story issue.release issue.targets

  -- it is due to the subscribers to whom something of the item is released
  told : (s : Bytes) → is_subscriber h s ≡ true → had_by m (standing h) issue.item s ≡ true → release_to s kill.due ≡ Some issue.release
  told s known given =
      let rule : is_told s ≡ true =
      taken_due h (standing h) issue.kind issue.item kill.story issue.release issue.targets s back ∙ ap (λ (n : ℕ). had_by n (standing h) issue.item s) at_once ∙ given in
      listed_due release_to_each s (filter is_told (subscribers h))
      ∙ ap (λ (b : Bool). cond b (Some (release_to_each s)) None) (in_filter s is_told (subscribers h) (listed_is h s ∙ known) rule)
      ∙ ap Some (taken_release h (standing h) issue.kind issue.item issue.release s back)

  under_new : (i : ℕ) (l : List Pub) → issue.item ≡ i → ((s : Bytes) → had_by m l issue.item s ≡ true → had_by m (standing h) issue.item s ≡ true) → Each IsFair l → Each (IsToKnown h) l
      → Each (Under i kill) (taken_back m issue.item l)
  under_new i [] here among fair known = tt
  under_new i (p ∷ l) here among fair known = (
    (λ same_item s r due.
        let was : release_to s p.due ≡ Some r = left_had m issue.item s p r fair.0 due in
        let of : p.item ≡ issue.item = same_item ∙ sym here in
        let le : r ≤ m = left_early m issue.item s p r of due in
        (omega (arith, le, at_once), told s (known.0 s (ap is_some was)) (among s (given s r of was le)))),
    under_new i l here (λ s had. among s (or_right (p.item == issue.item && is_by m (release_to s p.due)) (had_by m l issue.item s) had)) fair.1 known.1,
  )
    where
      given : (s : Bytes) (r : ℕ) → p.item ≡ issue.item → release_to s p.due ≡ Some r → r ≤ m → had_by m (p ∷ l) issue.item s ≡ true
      given s r of was le =
          let one : (p.item == issue.item) ≡ true = (Decides-eqb p.item issue.item).1 of in
          let two : nat_le r m ≡ true = grind (arith, nat_tests, le) in
          rw (one, was, two) refl

  ends_new : (i : ℕ) → issue.item ≡ i → Ends i m kill (taken_back m issue.item (standing h))
  ends_new i here = record {
    come = omega (arith, at_once);
    at = each_map (λ (d : Due). d.release ≡ release_to_each d.subscriber) (λ (d : Due). d.release ≡ issue.release) kill.due
        (λ d is. is ∙ taken_release h (standing h) issue.kind issue.item issue.release d.subscriber back) (are_of release_to_each (filter is_told (subscribers h)));
    under = under_new i (standing h) here (λ s had. had) (standing_are_fair h) (standing_are_known h);
  }

-- ---- what stands

-- what takes back is released at once, and leaves what is taken back
abbrev IsTaking : History → ℕ → List Pub → Option Issue → Type 0
IsTaking h m kept None = Unit {0}
IsTaking h m kept (Some issue) = takes_back issue.kind ≡ true → (issue.release ≡ m) × (kept ≡ taken_back m issue.item (standing h))

module _ (h : History) (m : ℕ) where
  command_taking : (caller : Bytes) (number : ℕ) (command : Command) → IsTaking h m (kept_by m (Request caller number command) (standing h)) (issued_by_command (made h) m caller command)
  command_taking caller number (Flash story targets) = λ back. absurd (true≢false (sym back))
  command_taking caller number (Publish i session schedule embargo targets) = λ back. absurd (true≢false (sym back))
  command_taking caller number (Correct i session story) = λ back. absurd (true≢false (sym back))
  command_taking caller number (Kill i session note) = λ back. (refl, refl)
  command_taking caller number (Recall i session note) = λ back. (refl, refl)
  command_taking caller number command = tt

  effect_taking : (name : Bytes) (come : Incoming) (effect : Effect) → IsTaking h m (standing h) (issued_by_effect (made h) m name come effect)
  effect_taking name come (NewAt place true) = λ back. absurd (true≢false (sym back))
  effect_taking name come _ = tt

  act_taking : (act : Act) → IsTaking h m (kept_by m act (standing h)) (issued_by h (made h) m act)
  act_taking (Request caller number command) = command_taking caller number command
  act_taking (Ingest name come) = effect_taking name come (effect_by h (made h) name come m)
  act_taking _ = tt

good_standing : (h : History) (i : ℕ) → IsLegal h → Good (Ends i (moment h)) i (standing h)
good_standing [] i legal = tt
good_standing (e ∷ h) i legal =
    by (issued_by h (made h) e.moment e.act) (act_open h e.moment e.act legal.2) (act_taking h e.moment e.act)
    (good_kept i (moment h) e.moment e.act (standing h) legal.1 (standing_are_fair h) (good_standing h i legal.0))
  where
    by : (o : Option Issue) → IsOpen h o → IsTaking h e.moment (kept_by e.moment e.act (standing h)) o → Good (Ends i e.moment) i (kept_by e.moment e.act (standing h))
        → Good (Ends i e.moment) i (pubs_of_issue h (made h) o ++ kept_by e.moment e.act (standing h))
    by None free taking good = good
    by (Some issue) free taking good =
        put_new (Ends i e.moment) h i issue issue.after (kept_by e.moment e.act (standing h))
        (λ other here. back_kept i e.moment e.act (standing h) ∙ back_stands h i ∙ was_clear h i issue legal.0 free other here)
        (λ it back here. subst (Ends i e.moment (pub_of h (made h) issue it)) (sym (taking back).1) (ends_new h e.moment issue it back (taking back).0 i here)) good

pub has_item_by : HasItemByTables
has_item_by h s i legal =
    good_has i (moment h) s (standing h) (good_standing h i legal)
    ∙ ap (λ (b : Bool). had_by (moment h) (standing h) i s && not b) (back_stands h i ∙ sym (newest_back i (pubs h) (good_pubs h i legal)))

-- what is given, and not taken back, the feed has
pub has_item_told : (h : History) (s : Bytes) (i m : ℕ) (given took : Bool) → IsLegal h → m ≡ moment h → given ≡ had_by m (standing h) i s → took ≡ took_back (newest_of i (pubs h)) → (given && not took) ≡ has_item (feed h s) i
has_item_told h s i m given took legal at is back =
    ap (λ (b : Bool). b && not took) (is ∙ ap (λ (n : ℕ). had_by n (standing h) i s) at) ∙ ap (λ (b : Bool). had_by (moment h) (standing h) i s && not b) back ∙ sym (has_item_by h s i legal)
