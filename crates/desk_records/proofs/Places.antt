-- Places of names, and the slots of a publication for them.
use Rattle.std.proofs.Common.{◌≡◌, ◌≢◌, ℕ, suc, ◌==◌, Bool, true, false, cond, ◌||◌, List, [], ◌∷◌, length, ◌<◌, arith, Option, Some, None, refl, sym, ap, ◌∙◌}
use Rattle.std.proofs.lemmas.Bool.Decides.{nat_tests}
use Rattle.std.proofs.lemmas.Bool.{false≢true}
use Rattle.std.specs.List.{slice_get}
use Rattle.news_types.specs.declared.query.Due.{Due}
use Rattle.news_types.specs.Names.{Bytes, same, is_in}
use Rattle.news_types.specs.Due.{release_to}
use Rattle.news_types.proofs.Members.{same_is, same_self, some_is, none_some}
use Rattle.news_types.proofs.Subscribed.{same_turned}
use Rattle.desk_records.specs.declared.slots.Slot.{Slot}
use Rattle.desk_records.specs.declared.slots.Slot.TheVariants as slot
use Rattle.desk_records.specs.Slots.{in_slot, slot_at, slot_of, after_due, changed_at}
use Rattle.desk_records.specs.Dues.{place_of}
use Rattle.desk_records.specs.Fills.{known_slot, marked}
use Rattle.desk_records.proofs.Lists.{get_changed, get_there, changed_length}

pub place_within : (s : Bytes) (names : List Bytes) (i : ℕ) → place_of s names ≡ Some i → i < length names
place_within s [] i is = absurd (none_some i is)
place_within s (name ∷ names) i is = by (same name s) is (place_within s names i)
  where
    by : (b : Bool) → cond b (Some (length names)) (place_of s names) ≡ Some i → (place_of s names ≡ Some i → i < length names) → i < suc (length names)
    by true found rest = let e : length names ≡ i = some_is (length names) i found in omega (arith, e)
    by false found rest = let lt = rest found in omega (arith, lt)

-- one has a place
pub place_alike : (s t : Bytes) (names : List Bytes) (i : ℕ) → place_of s names ≡ Some i → place_of t names ≡ Some i → s ≡ t
place_alike s t [] i one two = absurd (none_some i one)
place_alike s t (name ∷ names) i one two = by (same name s) (same name t) refl refl one two (place_alike s t names i)
  where
    by : (a b : Bool) → same name s ≡ a → same name t ≡ b → cond a (Some (length names)) (place_of s names) ≡ Some i → cond b (Some (length names)) (place_of t names) ≡ Some i
        → (place_of s names ≡ Some i → place_of t names ≡ Some i → s ≡ t) → s ≡ t
    by true true is_s is_t one two rest = sym (same_is name s is_s) ∙ same_is name t is_t
    by true false is_s is_t one two rest =
        let e : length names ≡ i = some_is (length names) i one in
        let lt = place_within t names i two in
        absurd (omega (arith, e, lt))
    by false true is_s is_t one two rest =
        let e : length names ≡ i = some_is (length names) i two in
        let lt = place_within s names i one in
        absurd (omega (arith, e, lt))
    by false false is_s is_t one two rest = rest one two

pub place_none : (s : Bytes) (names : List Bytes) → is_in s names ≡ false → place_of s names ≡ None
place_none s [] out = refl
place_none s (name ∷ names) out = rw (same_turned name s) (by (same s name) out (place_none s names))
  where
    by : (b : Bool) → (b || is_in s names) ≡ false → (is_in s names ≡ false → place_of s names ≡ None) → cond b (Some (length names)) (place_of s names) ≡ None
    by true out rest = absurd (false≢true (sym out))
    by false out rest = rest out

pub place_some : (s : Bytes) (names : List Bytes) → is_in s names ≡ true → place_of s names ≢ None
place_some s [] in_it = absurd (false≢true in_it)
place_some s (name ∷ names) in_it = rw (same_turned name s) (by (same s name) in_it (place_some s names))
  where
    by : (b : Bool) → (b || is_in s names) ≡ true → (is_in s names ≡ true → place_of s names ≢ None) → cond b (Some (length names)) (place_of s names) ≢ None
    by true in_it rest = λ none. none_some (length names) (sym none)
    by false in_it rest = rest in_it

-- ---- slots that are filled

-- this, or the other where it is not due
abbrev pub or_slot : Slot → Slot → Slot
or_slot slot.NotDue other = other
or_slot one other = one

-- with what is left of these all are filled
abbrev pub Filling : List Slot → List Due → List Due → List Bytes → Type 0
Filling slots left due names = (s : Bytes) → or_slot (slot_at slots (place_of s names)) (known_slot (place_of s names) (release_to s left)) ≡ known_slot (place_of s names) (release_to s due)

due_more : (release : ℕ) (x rest : Slot) → or_slot (after_due release x) rest ≡ or_slot x (slot.Due release)
due_more release slot.NotDue rest = refl
due_more release (slot.Due r) rest = refl
due_more release (slot.TakenBack r) rest = refl

mark_there : (release : ℕ) (slots : List Slot) (i : ℕ) (rest : Slot) → i < length slots
    → or_slot (in_slot (slice_get (changed_at i (after_due release) slots) i)) rest ≡ or_slot (in_slot (slice_get slots i)) (slot.Due release)
mark_there release slots i rest lt =
    let there = get_there slots i lt in
    let self_is : (i == i) ≡ true = grind (arith, nat_tests) in
    rw (get_changed i (after_due release) slots i, self_is, there.1) (due_more release there.0 rest)

mark_other : (release : ℕ) (slots : List Slot) (j i : ℕ) → (j ≡ i → ⊥) → slice_get (changed_at j (after_due release) slots) i ≡ slice_get slots i
mark_other release slots j i other = let no : (j == i) ≡ false = grind (arith, nat_tests, other) in get_changed j (after_due release) slots i ∙ rw no refl

pub mark_more : (slots : List Slot) (d : Due) (left due : List Due) (names : List Bytes) → length slots ≡ length names
    → Filling slots (d ∷ left) due names → Filling (marked (place_of d.subscriber names) d.release slots) left due names
mark_more slots d left due names len filling s = by (place_of s names) refl ∙ filling s
  where
    apart : (i : ℕ) (o : Option ℕ) → place_of s names ≡ Some i → place_of d.subscriber names ≡ o → same s d.subscriber ≡ false → slice_get (marked o d.release slots) i ≡ slice_get slots i
    apart i None here there other = refl
    apart i (Some j) here there other =
        mark_other d.release slots j i (λ e. false≢true (sym other ∙ ap (λ t. same s t) (sym (place_alike s d.subscriber names i here (there ∙ ap (λ k. Some k) e))) ∙ same_self s))

    at : (i : ℕ) (b : Bool) → place_of s names ≡ Some i → same s d.subscriber ≡ b
        → or_slot (in_slot (slice_get (marked (place_of d.subscriber names) d.release slots) i)) (slot_of (release_to s left))
        ≡ or_slot (in_slot (slice_get slots i)) (slot_of (cond b (Some d.release) (release_to s left)))
    at i true here is =
        let its : place_of d.subscriber names ≡ Some i = ap (λ t. place_of t names) (sym (same_is s d.subscriber is)) ∙ here in
        let lt = place_within s names i here in
        rw its (mark_there d.release slots i (slot_of (release_to s left)) (omega (arith, lt, len)))
    at i false here other = ap (λ o. or_slot (in_slot o) (slot_of (release_to s left))) (apart i (place_of d.subscriber names) here refl other)

    by : (o : Option ℕ) → place_of s names ≡ o
        → or_slot (slot_at (marked (place_of d.subscriber names) d.release slots) o) (known_slot o (release_to s left))
        ≡ or_slot (slot_at slots o) (known_slot o (release_to s (d ∷ left)))
    by None here = refl
    by (Some i) here = at i (same s d.subscriber) here refl

pub marked_length : (o : Option ℕ) (release : ℕ) (slots : List Slot) → length (marked o release slots) ≡ length slots
marked_length None release slots = refl
marked_length (Some i) release slots = changed_length i (after_due release) slots
