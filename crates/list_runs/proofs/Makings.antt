-- The entry that made a publication.
use Rattle.std.proofs.Common.{◌≡◌, ℕ, suc, ◌<◌, ◌≤◌, ◌+◌, ◌==◌, Bool, true, false, cond, List, [], ◌∷◌, ◌++◌, length, length-append, take, map, get_or, Option, Some, None, refl, sym, ap, subst, ◌∙◌, arith}
use Rattle.std.specs.Prelude.{nat_lt}
use Rattle.std.proofs.lemmas.Bool.Decides.{nat_tests}
use Rattle.std.proofs.lemmas.List.{get_or_default}
use Rattle.news_types.specs.declared.entry.Entry.{Entry}
use Rattle.news_types.specs.declared.entry.Act.{Act}
use Rattle.news_types.specs.History.{History}
use Rattle.news_types.specs.Due.{Pub}
use Rattle.news_types.specs.Items.{Item}
use Rattle.news_types.specs.Publications.{Issue, made, pubs, issued_by, pub_of, pubs_of_item, pubs_of_issue}
use Rattle.news_types.proofs.Numbering.{CountsDown, pubs_count_down}
use Rattle.news_types.specs.declared.entry.Reply.{Reply}
use Rattle.news_io.specs.declared.record.Record.{Record}
use Rattle.entry_codec.specs.Spelling.{entry_bytes}
use Rattle.entry_codec.specs.Formed.{IsEntry}
use Rattle.newsroom.specs.declared.newsroom.Newsroom.{Newsroom}
use Rattle.news_room.specs.Opening.{bytes_of, HasRead, HasTaken}
use Rattle.news_room.proofs.Lists.{same_entry}
use Rattle.news_room.proofs.Openings.{read_on}
use Rattle.feed_reasons.specs.Courses.{numbered}
use Rattle.feed_reasons.specs.Reasons.{made_behind}
use Rattle.list_runs.specs.Lists.{first_entries, AreOf}
use Rattle.list_runs.specs.Making.{Makes, MakesAt, IsMade, IsMaking}
use Rattle.list_runs.proofs.Fronts.{is_first, went_before}

some_is : (p q : Pub) → Some p ≡ Some q → p ≡ q
some_is p q is = cc

-- ---- the number that is found

number_by : (n : ℕ) (q p : Pub) (ps : List Pub) (b : Bool) → (q.number == n) ≡ b → cond b (Some q) (numbered n ps) ≡ Some p → q.number ≡ length ps + 1
    → (numbered n ps ≡ Some p → (1 ≤ n) × (n ≤ length ps)) → (1 ≤ n) × (n ≤ suc (length ps))
number_by n q p ps true is found down later = (grind (arith, nat_tests, is, down), grind (arith, nat_tests, is, down))
number_by n q p ps false is found down later = let rest = later found in (rest.0, omega (arith, rest.1))

number_in : (n : ℕ) (p : Pub) (ps : List Pub) → CountsDown ps → numbered n ps ≡ Some p → (1 ≤ n) × (n ≤ length ps)
number_in n p [] down is = absurd cc
number_in n p (q ∷ ps) down is = number_by n q p ps (q.number == n) refl is down.0 (λ found. number_in n p ps down.1 found)

-- it lies from 1 to their count
pub number_within : (h : History) (n : ℕ) (p : Pub) → numbered n (pubs h) ≡ Some p → (1 ≤ n) × (n ≤ length (pubs h))
number_within h n p is = number_in n p (pubs h) (pubs_count_down h) is

-- and is the publication's own
pub number_is : (n : ℕ) (p : Pub) (ps : List Pub) → numbered n ps ≡ Some p → p.number ≡ n
number_is n p [] is = absurd cc
number_is n p (q ∷ ps) is = by (q.number == n) refl is (λ found. number_is n p ps found)
  where
    by : (b : Bool) → (q.number == n) ≡ b → cond b (Some q) (numbered n ps) ≡ Some p → (numbered n ps ≡ Some p → p.number ≡ n) → p.number ≡ n
    by true passes found later =
        let same : p.number ≡ q.number = ap (λ (x : Pub). x.number) (sym (some_is q p found)) in
        grind (arith, nat_tests, passes, same)
    by false fails found later = later found

-- ---- entries that follow

none_fewer : (h : History) (o : Option Issue) → length (pubs h) ≤ length (pubs_of_issue h (made h) o ++ pubs h)
none_fewer h o = omega (arith, length-append (pubs_of_issue h (made h) o) (pubs h))

-- no publication goes
pub more_pubs : (later : List Entry) (g : History) → length (pubs g) ≤ length (pubs (later ++ g))
more_pubs [] g = omega arith
more_pubs (e ∷ later) g =
    let rest = more_pubs later g in
    let here = none_fewer (later ++ g) (issued_by (later ++ g) (made (later ++ g)) e.moment e.act) in
    omega (arith, rest, here)

past_item : (n : ℕ) (h : History) (issue : Issue) (o : Option Item) → n ≤ length (pubs h) → numbered n (pubs_of_item h (made h) issue o ++ pubs h) ≡ numbered n (pubs h)
past_item n h issue None le = refl
past_item n h issue (Some it) le =
    let other : (length (pubs h) + 1 == n) ≡ false = grind (arith, nat_tests, le) in
    ap (λ (b : Bool). cond b (Some (pub_of h (made h) issue it)) (numbered n (pubs h))) other

past_issue : (n : ℕ) (h : History) (o : Option Issue) → n ≤ length (pubs h) → numbered n (pubs_of_issue h (made h) o ++ pubs h) ≡ numbered n (pubs h)
past_issue n h None le = refl
past_issue n h (Some issue) le = past_item n h issue issue.after le

-- what is found of those before is found still
pub numbered_later : (n : ℕ) (later : List Entry) (g : History) → n ≤ length (pubs g) → numbered n (pubs (later ++ g)) ≡ numbered n (pubs g)
numbered_later n [] g le = refl
numbered_later n (e ∷ later) g le =
    let more = more_pubs later g in
    past_issue n (later ++ g) (issued_by (later ++ g) (made (later ++ g)) e.moment e.act) (omega (arith, le, more)) ∙ numbered_later n later g le

-- the list behind which it was made
pub behind_it : (n : ℕ) (later : List Entry) (e : Entry) (g : History) → length (pubs g) < n → n ≤ length (pubs (e ∷ g)) → made_behind n (later ++ e ∷ g) ≡ g
behind_it n [] e g before made = let here : nat_lt (length (pubs g)) n ≡ true = grind (arith, nat_tests, before) in ap (λ (b : Bool). cond b g (made_behind n g)) here
behind_it n (x ∷ later) e g before made =
    let more = more_pubs later (e ∷ g) in
    let past : nat_lt (length (pubs (later ++ e ∷ g))) n ≡ false = grind (arith, nat_tests, more, made) in
    ap (λ (b : Bool). cond b (later ++ e ∷ g) (made_behind n (later ++ e ∷ g))) past ∙ behind_it n later e g before made

-- ---- what it published

module _ (n : ℕ) (g : History) (m : ℕ) (act : Act) (p : Pub) (before : length (pubs g) < n) where
  not_before : numbered n (pubs g) ≡ Some p → ⊥
  not_before is = let within = number_within g n p is in omega (arith, within.1, before)

  new_one : (issue : Issue) (it : Item) (b : Bool) → issued_by g (made g) m act ≡ Some issue → issue.after ≡ Some it → cond b (Some (pub_of g (made g) issue it)) (numbered n (pubs g)) ≡ Some p → IsMade g m act p
  new_one issue it true issued after found = record { issue = issue; item = it; issued = issued; after = after; is = sym (some_is _ p found) }
  new_one issue it false issued after found = absurd (not_before found)

  by_item : (issue : Issue) (o : Option Item) → issued_by g (made g) m act ≡ Some issue → issue.after ≡ o → numbered n (pubs_of_item g (made g) issue o ++ pubs g) ≡ Some p → IsMade g m act p
  by_item issue None issued after found = absurd (not_before found)
  by_item issue (Some it) issued after found = new_one issue it (length (pubs g) + 1 == n) issued after found

  by_issue : (o : Option Issue) → issued_by g (made g) m act ≡ o → numbered n (pubs_of_issue g (made g) o ++ pubs g) ≡ Some p → IsMade g m act p
  by_issue None issued found = absurd (not_before found)
  by_issue (Some issue) issued found = by_item issue issue.after issued refl found

pub makes_it : (n : ℕ) (h g : History) (e : Entry) (p : Pub) → Makes n h g e → numbered n (pubs h) ≡ Some p → IsMade g e.moment e.act p
makes_it n h g e p makes found =
    let there : numbered n (pubs (e ∷ g)) ≡ Some p =
    sym (numbered_later n makes.later (e ∷ g) makes.made) ∙ ap (λ (l : History). numbered n (pubs l)) (sym makes.is) ∙ found in
    by_issue n g e.moment e.act p makes.before (issued_by g (made g) e.moment e.act) refl there

pub makes_behind : (n : ℕ) (h g : History) (e : Entry) → Makes n h g e → made_behind n h ≡ g
makes_behind n h g e makes = ap (made_behind n) makes.is ∙ behind_it n makes.later e g makes.before makes.made

-- ---- where its record is

module _ (records : List Record) (i : ℕ) (r : Record) (lt : i < length records) (is : r ≡ get_or records i r) (m m' : Newsroom) (g : History) (reply : Reply)
    (read : HasRead m (map bytes_of (take i records)) g) (told : HasTaken m' g r reply) where
  pub makes_at : (n : ℕ) (h : History) → length (pubs g) < n → n ≤ length (pubs (told.entry ∷ g)) → AreOf records h → MakesAt records n h i
  makes_at n h before made are =
      let on = read_on records i r lt is m m' g reply read told in
      let went = went_before records (i + 1) (told.entry ∷ g) h are on.opens in
      record {
        entry = told.entry;
        record_is = record { formed = told.kept.formed.0; is = λ other. ap (λ (x : Record). x.bytes) (get_or_default records i other r lt ∙ sym is) ∙ told.is };
        makes = subst (λ (l : History). Makes n h l told.entry) (is_first records i g h are read.opens) (record { later = went.0; is = went.1; before = before; made = made });
      }

-- the newsroom of the records before it, and the entry that its record is
pub making_is : (records : List Record) (n place : ℕ) (h : History) (machine : Newsroom) (g : History) (e : Entry) (other : Record) → (at : MakesAt records n h place) → AreOf records h
    → HasRead machine (map bytes_of (take place records)) g → IsEntry e → (get_or records place other).bytes ≡ entry_bytes e → IsMaking n h machine e
making_is records n place h machine g e other at are read formed bytes =
    let same : e ≡ at.entry = same_entry e at.entry formed at.record_is.formed (sym bytes ∙ at.record_is.is other) in
    let list : g ≡ first_entries place h = is_first records place g h are read.opens in
    record {
      list = g;
      stands = read.stands;
      makes = subst (λ (x : Entry). Makes n h g x) (sym same) (subst (λ (l : History). Makes n h l at.entry) (sym list) at.makes);
    }
