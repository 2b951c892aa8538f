-- What stands of each item behind a change.
use Rattle.std.proofs.Common.{◌≡◌, ℕ, max, ◌==◌, ◌&&◌, ◌||◌, not, Bool, true, false, cond, List, [], ◌∷◌, Option, Some, None, refl, sym, ap, ◌∙◌, subst}
use Rattle.std.specs.Prelude.{nat_eq, is_some, unwrap_or}
use Rattle.std.proofs.lemmas.Bool.{eqb-true, false≢true}
use Rattle.std.specs.Option.{option_map}
use Rattle.news_types.specs.declared.query.Due.{Due}
use Rattle.news_types.specs.Names.{Bytes}
use Rattle.news_types.specs.Due.{Pub, is_first, is_first_of, standing_first, release_to, is_due, is_by, had, had_by, latest, withdrawn, left_behind, taken_back}
use Rattle.publications.specs.declared.table.OfItem.{OfItem}
use Rattle.publications.specs.Keeps.{Tells, first_of, shown_first, soonest_of, newest_of}
use Rattle.publications.specs.Steps.{left_by}

and_false : (a : Bool) → (a && false) ≡ false
and_false true = refl
and_false false = refl

both : (a b : Bool) → (a && b) ≡ true → (a ≡ true) × (b ≡ true)
both true b is = (refl, is)
both false b is = absurd (false≢true is)

-- ---- the same publications of an item

record Alike (i : ℕ) (ps qs : List Pub) : Type 0 where
  pub first : option_map shown_first (standing_first i qs) ≡ option_map shown_first (standing_first i ps)
  pub to : (s : Bytes) → had qs i s ≡ had ps i s
  pub by : (m : ℕ) (s : Bytes) → had_by m qs i s ≡ had_by m ps i s
  pub last : (s : Bytes) → latest qs i s ≡ latest ps i s

tells_alike : (i : ℕ) (ps qs : List Pub) (soonest newest : List Due) → Alike i ps qs → Tells soonest newest ps i → Tells soonest newest qs i
tells_alike i ps qs soonest newest alike tells = record {
  had_one = λ s. tells.had_one s ∙ sym (alike.to s);
  given = λ m s. tells.given m s ∙ sym (alike.by m s);
  last = λ s. tells.last s ∙ sym (alike.last s);
}

-- one of another item in front
alike_more : (p : Pub) (i : ℕ) (ps qs : List Pub) → (p.item == i) ≡ false → Alike i ps qs → Alike i ps (p ∷ qs)
alike_more p i ps qs other alike =
    let no : is_first_of i p ≡ false = ap (λ b. is_first p.kind && b) other ∙ and_false (is_first p.kind) in
    record {
      first = rw no alike.first;
      to = λ s. rw other (alike.to s);
      by = λ m s. rw other (alike.by m s);
      last = λ s. rw other (alike.last s);
    }

-- one of any item in front of both
alike_both : (p : Pub) (i : ℕ) (ps qs : List Pub) → Alike i ps qs → Alike i (p ∷ ps) (p ∷ qs)
alike_both p i ps qs alike = record {
  first = first_by (is_first_of i p);
  to = λ s. ap (λ b. ((p.item == i) && is_due s p) || b) (alike.to s);
  by = λ m s. ap (λ b. ((p.item == i) && is_by m (release_to s p.due)) || b) (alike.by m s);
  last = λ s. ap (λ n. cond (p.item == i) (max (unwrap_or (release_to s p.due) 0) n) n) (alike.last s);
}
  where
    first_by : (b : Bool) → option_map shown_first (cond b (Some p) (standing_first i qs)) ≡ option_map shown_first (cond b (Some p) (standing_first i ps))
    first_by true = refl
    first_by false = alike.first

alike_self : (i : ℕ) (ps : List Pub) → Alike i ps ps
alike_self i ps = record { first = refl; to = λ s. refl; by = λ m s. refl; last = λ s. refl }

-- a publication of another item, or one less due
alike_left : (m j i : ℕ) (p : Pub) (ps qs : List Pub) → nat_eq j i ≡ false → Alike i ps qs → Alike i (p ∷ ps) (left_behind m j p ∷ qs)
alike_left m j i p ps qs other alike = by (p.item == j) refl
  where
    by : (b : Bool) → (p.item == j) ≡ b → Alike i (p ∷ ps) (left_behind m j p ∷ qs)
    by true is =
        let e : p.item ≡ j = eqb-true p.item j is in
        let no : (p.item == i) ≡ false = rw e other in
        let no_first : is_first_of i p ≡ false = ap (λ b. is_first p.kind && b) no ∙ and_false (is_first p.kind) in
        record {
          first = rw no_first alike.first;
          to = λ s. rw no (alike.to s);
          by = λ n s. rw no (alike.by n s);
          last = λ s. rw no (alike.last s);
        }
    by false is = rw is (alike_both p i ps qs alike)

alike_taken : (m j i : ℕ) (ps : List Pub) → nat_eq j i ≡ false → Alike i ps (taken_back m j ps)
alike_taken m j i [] other = alike_self i []
alike_taken m j i (p ∷ ps) other = alike_left m j i p ps (taken_back m j ps) other (alike_taken m j i ps other)

alike_by : (taken : Option ℕ) (j i : ℕ) (ps : List Pub) → nat_eq j i ≡ false → Alike i ps (left_by taken j ps)
alike_by None j i ps other = alike_self i ps
alike_by (Some m) j i ps other = alike_taken m j i ps other

-- ---- one more publication

pub first_more : (p : Pub) (taken : Option ℕ) (st : List Pub) (i : ℕ) (of : OfItem) (old : Option OfItem) → Some (first_of of) ≡ option_map shown_first (standing_first p.item (p ∷ left_by taken p.item st))
    → option_map first_of old ≡ option_map shown_first (standing_first i st)
    → option_map first_of (cond (nat_eq p.item i) (Some of) old) ≡ option_map shown_first (standing_first i (p ∷ left_by taken p.item st))
first_more p taken st i of old first before =
    elim (nat_eq p.item i) as (λ b. nat_eq p.item i ≡ b → option_map first_of (cond b (Some of) old) ≡ option_map shown_first (standing_first i (p ∷ left_by taken p.item st))) [
      | true ↦ λ is. subst (λ n. Some (first_of of) ≡ option_map shown_first (standing_first n (p ∷ left_by taken p.item st))) (eqb-true p.item i is) first
      | false ↦ λ isnt. before ∙ sym (alike_more p i st (left_by taken p.item st) isnt (alike_by taken p.item i st isnt)).first
    ] refl

pub due_more : (p : Pub) (taken : Option ℕ) (st : List Pub) (i : ℕ) (of : OfItem) (old : Option OfItem) → Tells of.soonest.items of.newest.items (p ∷ left_by taken p.item st) p.item → Tells (soonest_of old) (newest_of old) st i
    → Tells (soonest_of (cond (nat_eq p.item i) (Some of) old)) (newest_of (cond (nat_eq p.item i) (Some of) old)) (p ∷ left_by taken p.item st) i
due_more p taken st i of old due before =
    elim (nat_eq p.item i) as (λ b. nat_eq p.item i ≡ b → Tells (soonest_of (cond b (Some of) old)) (newest_of (cond b (Some of) old)) (p ∷ left_by taken p.item st) i) [
      | true ↦ λ is. subst (λ n. Tells of.soonest.items of.newest.items (p ∷ left_by taken p.item st) n) (eqb-true p.item i is) due
      | false ↦ λ isnt. tells_alike i st (p ∷ left_by taken p.item st) _ _ (alike_more p i st (left_by taken p.item st) isnt (alike_by taken p.item i st isnt)) before
    ] refl

-- ---- one that is withdrawn

pub first_gone : (i : ℕ) (st : List Pub) → standing_first i (withdrawn i st) ≡ None
first_gone i [] = refl
first_gone i (p ∷ st) =
    elim (is_first_of i p) as (λ b. is_first_of i p ≡ b → standing_first i (cond (not b) (p ∷ withdrawn i st) (withdrawn i st)) ≡ None) [
      | true ↦ λ is. first_gone i st
      | false ↦ λ isnt. rw isnt (first_gone i st)
    ] refl

-- a first publication of an item is none of another
other_item : (i j : ℕ) (p : Pub) → nat_eq i j ≡ false → is_first_of i p ≡ true → (p.item == j) ≡ false
other_item i j p other is =
    let e : p.item ≡ i = eqb-true p.item i (both (is_first p.kind) (p.item == i) is).1 in
    rw e other

alike_withdrawn : (i j : ℕ) (st : List Pub) → nat_eq i j ≡ false → Alike j st (withdrawn i st)
alike_withdrawn i j [] other = alike_self j []
alike_withdrawn i j (p ∷ st) other =
    elim (is_first_of i p) as (λ b. is_first_of i p ≡ b → Alike j (p ∷ st) (cond (not b) (p ∷ withdrawn i st) (withdrawn i st))) [
      | true ↦ λ is. alike_less p j st (withdrawn i st) (other_item i j p other is) (alike_withdrawn i j st other)
      | false ↦ λ isnt. alike_both p j st (withdrawn i st) (alike_withdrawn i j st other)
    ] refl
  where
    alike_less : (p : Pub) (j : ℕ) (ps qs : List Pub) → (p.item == j) ≡ false → Alike j ps qs → Alike j (p ∷ ps) qs
    alike_less p j ps qs apart alike =
        let no_first : is_first_of j p ≡ false = ap (λ b. is_first p.kind && b) apart ∙ and_false (is_first p.kind) in
        record {
          first = rw no_first alike.first;
          to = λ s. rw apart (alike.to s);
          by = λ n s. rw apart (alike.by n s);
          last = λ s. rw apart (alike.last s);
        }

-- where nothing is due to the subscriber, nothing was released to it
or_none : (a b : Bool) → (a || b) ≡ false → (a ≡ false) × (b ≡ false)
or_none true b is = absurd (false≢true (sym is))
or_none false b is = (refl, is)

pub none_by : (m i : ℕ) (s : Bytes) (ps : List Pub) → had ps i s ≡ false → had_by m ps i s ≡ false
none_by m i s [] none = refl
none_by m i s (p ∷ ps) none =
    let parts = or_none ((p.item == i) && is_due s p) (had ps i s) none in
    by (p.item == i) (release_to s p.due) parts.0 (none_by m i s ps parts.1)
  where
    by : (b : Bool) (o : Option ℕ) → (b && is_some o) ≡ false → had_by m ps i s ≡ false → ((b && is_by m o) || had_by m ps i s) ≡ false
    by false o none rest = rest
    by true None none rest = rest
    by true (Some r) none rest = absurd (false≢true (sym none))

pub none_latest : (i : ℕ) (s : Bytes) (ps : List Pub) → had ps i s ≡ false → latest ps i s ≡ 0
none_latest i s [] none = refl
none_latest i s (p ∷ ps) none =
    let parts = or_none ((p.item == i) && is_due s p) (had ps i s) none in
    by (p.item == i) (release_to s p.due) parts.0 (none_latest i s ps parts.1)
  where
    by : (b : Bool) (o : Option ℕ) → (b && is_some o) ≡ false → latest ps i s ≡ 0 → cond b (max (unwrap_or o 0) (latest ps i s)) (latest ps i s) ≡ 0
    by false o none rest = rest
    by true None none rest = ap (max 0) rest
    by true (Some r) none rest = absurd (false≢true (sym none))

pub none_told : (i : ℕ) (ps : List Pub) → ((s : Bytes) → had ps i s ≡ false) → Tells [] [] ps i
none_told i ps none = record {
  had_one = λ s. sym (none s);
  given = λ m s. sym (none_by m i s ps (none s));
  last = λ s. sym (none_latest i s ps (none s));
}

pub first_less : (i j : ℕ) (st : List Pub) (old : Option OfItem) → option_map first_of old ≡ option_map shown_first (standing_first j st)
    → option_map first_of (cond (nat_eq i j) None old) ≡ option_map shown_first (standing_first j (withdrawn i st))
first_less i j st old before =
    elim (nat_eq i j) as (λ b. nat_eq i j ≡ b → option_map first_of (cond b None old) ≡ option_map shown_first (standing_first j (withdrawn i st))) [
      | true ↦ λ is. let e : i ≡ j = eqb-true i j is in rw (← e) (sym (ap (option_map shown_first) (first_gone i st)))
      | false ↦ λ isnt. before ∙ sym (alike_withdrawn i j st isnt).first
    ] refl

pub due_less : (i j : ℕ) (st : List Pub) (old : Option OfItem) → ((s : Bytes) → had (withdrawn i st) i s ≡ false) → Tells (soonest_of old) (newest_of old) st j
    → Tells (soonest_of (cond (nat_eq i j) None old)) (newest_of (cond (nat_eq i j) None old)) (withdrawn i st) j
due_less i j st old none before =
    elim (nat_eq i j) as (λ b. nat_eq i j ≡ b → Tells (soonest_of (cond b None old)) (newest_of (cond b None old)) (withdrawn i st) j) [
      | true ↦ λ is. subst (λ n. Tells [] [] (withdrawn i st) n) (eqb-true i j is) (none_told i (withdrawn i st) none)
      | false ↦ λ isnt. tells_alike j st (withdrawn i st) _ _ (alike_withdrawn i j st isnt) before
    ] refl
