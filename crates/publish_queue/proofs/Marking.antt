-- Releases that wait are marked as withdrawn, and passed over.
use Rattle.std.proofs.Common.{◌≡◌, ℕ, suc, ◌<◌, ◌≤◌, Bool, true, false, cond, ◌&&◌, List, [], ◌∷◌, length, map, get_or, drop, refl, sym, ap, ◌∙◌, inl, inr, ◌⊎◌, arith}
use Rattle.std.specs.Prelude.{nat_le, nat_lt}
use Rattle.std.specs.List.{AllWithin}
use mathlib.Core.Bool.{true≢false}
use Rattle.std.proofs.lemmas.Bool.{cases_lt}
use Rattle.std.proofs.lemmas.Bool.Decides.{nat_tests}
use Rattle.publish_queue.specs.declared.release.Release.{Release}
use Rattle.publish_queue.specs.declared.release.Awaited.{Awaited}
use Rattle.publish_queue.specs.Rows.{awaited_moment, awaited_number, withdrawn, emptied, release_in, live, begins_withdrawn, NoneBefore, Rising, is_among, is_between, without, marked, IsMarked}
use Rattle.publish_queue.proofs.Packing.{moment_emptied, withdrawn_emptied}

-- ---- the first ones are passed over

pub live_drop : (ws : List Awaited) → begins_withdrawn ws ≡ true → live (drop 1 ws) ≡ live ws
live_drop [] begins = absurd (true≢false (sym begins))
live_drop (w ∷ ws) begins = rw begins refl

pub rising_drop : (ws : List Awaited) → Rising ws → Rising (drop 1 ws)
rising_drop [] rises = tt
rising_drop (w ∷ ws) rises = rises.1

pub some_begins : (ws : List Awaited) → begins_withdrawn ws ≡ true → 0 < length ws
some_begins [] begins = absurd (true≢false (sym begins))
some_begins (w ∷ ws) begins = omega arith

-- ---- marks

abbrev pub mark_if : Bool → Awaited → Awaited
mark_if b w = cond b (emptied w) w

-- withdrawn, if it has one of the numbers and comes between the moments
abbrev pub mark : List ℕ → ℕ → ℕ → Awaited → Awaited
mark numbers first last w = mark_if (is_between numbers first last (release_in w)) w

same_marked : (f : Awaited → Awaited) (olds news : List Awaited) → length news ≡ length olds → ((k : ℕ) (d : Awaited) → k < length olds → get_or news k d ≡ f (get_or olds k d)) → news ≡ map f olds
same_marked f [] [] long each = refl
same_marked f [] (v ∷ vs) long each = absurd (omega (arith, long))
same_marked f (w ∷ ws) [] long each = absurd (omega (arith, long))
same_marked f (w ∷ ws) (v ∷ vs) long each =
    let first : v ≡ f w = each 0 w (omega arith) in
    let rest : vs ≡ map f ws = same_marked f ws vs (omega (arith, long)) (λ k d lt. each (suc k) d (omega (arith, lt))) in
    rw (first, rest) refl

outside : (numbers : List ℕ) (first last : ℕ) (w : Awaited) → (nat_le first (awaited_moment w) && nat_le (awaited_moment w) last) ≡ false → mark numbers first last w ≡ w
outside numbers first last w out = rw out (by (is_among (awaited_number w) numbers))
  where
    by : (b : Bool) → mark_if (b && false) w ≡ w
    by true = refl
    by false = refl

inside : (numbers : List ℕ) (first last : ℕ) (w : Awaited) → (nat_le first (awaited_moment w) && nat_le (awaited_moment w) last) ≡ true → mark numbers first last w ≡ marked numbers w
inside numbers first last w out = rw out (by (is_among (awaited_number w) numbers))
  where
    by : (b : Bool) → mark_if (b && true) w ≡ mark_if b w
    by true = refl
    by false = refl

-- the places are those of the moments
pub marks : (numbers : List ℕ) (first last from to : ℕ) (olds news : List Awaited) → IsMarked numbers from to olds news
    → AllWithin (λ (w : Awaited). nat_lt (awaited_moment w) first ≡ true) olds 0 from → AllWithin (λ (w : Awaited). nat_lt (awaited_moment w) first ≡ false) olds from (length olds)
    → AllWithin (λ (w : Awaited). nat_le (awaited_moment w) last ≡ true) olds 0 to → AllWithin (λ (w : Awaited). nat_le (awaited_moment w) last ≡ false) olds to (length olds)
    → news ≡ map (mark numbers first last) olds
marks numbers first last from to olds news are below above early late = same_marked (mark numbers first last) olds news are.long (λ k d lt. at k d lt (cases_lt k from) (cases_lt k to))
  where
    at : (k : ℕ) (d : Awaited) → k < length olds → (k < from) ⊎ (from ≤ k) → (k < to) ⊎ (to ≤ k) → get_or news k d ≡ mark numbers first last (get_or olds k d)
    at k d lt (inl less) end =
        let soon : nat_lt (awaited_moment (get_or olds k d)) first ≡ true = below k d (omega arith) less in
        let no : nat_le first (awaited_moment (get_or olds k d)) ≡ false = grind (arith, nat_tests) in
        are.before k d less ∙ sym (outside numbers first last (get_or olds k d) (rw no refl))
    at k d lt (inr more) (inl less) =
        let soon : nat_lt (awaited_moment (get_or olds k d)) first ≡ false = above k d more lt in
        let yes : nat_le first (awaited_moment (get_or olds k d)) ≡ true = grind (arith, nat_tests) in
        are.within k d lt more less ∙ sym (inside numbers first last (get_or olds k d) (rw (yes, early k d (omega arith) less) refl))
    at k d lt (inr more) (inr behind) =
        are.behind k d behind more ∙ sym (outside numbers first last (get_or olds k d) (rw (late k d behind lt) (by (nat_le first (awaited_moment (get_or olds k d))))))
      where
        by : (b : Bool) → (b && false) ≡ false
        by true = refl
        by false = refl

pub live_marks : (numbers : List ℕ) (first last : ℕ) (ws : List Awaited) → live (map (mark numbers first last) ws) ≡ without (is_between numbers first last) (live ws)
live_marks numbers first last [] = refl
live_marks numbers first last (w ∷ ws) = by (withdrawn w) (is_between numbers first last (release_in w)) refl refl (live_marks numbers first last ws)
  where
    others : List Release
    others = live (map (mark numbers first last) ws)

    by : (a b : Bool) → withdrawn w ≡ a → is_between numbers first last (release_in w) ≡ b → others ≡ without (is_between numbers first last) (live ws)
        → cond (withdrawn (mark_if b w)) others (release_in (mark_if b w) ∷ others) ≡ without (is_between numbers first last) (cond a (live ws) (release_in w ∷ live ws))
    by true true is e rest = rw (withdrawn_emptied w) rest
    by true false is e rest = rw is rest
    by false true is e rest = rw (withdrawn_emptied w, e) rest
    by false false is e rest = rw (is, e) (ap (λ z. release_in w ∷ z) rest)

moment_mark : (b : Bool) (w : Awaited) → awaited_moment (mark_if b w) ≡ awaited_moment w
moment_mark true w = moment_emptied w
moment_mark false w = refl

none_before_marks : (numbers : List ℕ) (first last m : ℕ) (ws : List Awaited) → NoneBefore m ws → NoneBefore m (map (mark numbers first last) ws)
none_before_marks numbers first last m [] all = tt
none_before_marks numbers first last m (w ∷ ws) all = (rw (moment_mark (is_between numbers first last (release_in w)) w) all.0, none_before_marks numbers first last m ws all.1)

pub rising_marks : (numbers : List ℕ) (first last : ℕ) (ws : List Awaited) → Rising ws → Rising (map (mark numbers first last) ws)
rising_marks numbers first last [] rises = tt
rising_marks numbers first last (w ∷ ws) rises = (rw (moment_mark (is_between numbers first last (release_in w)) w) (none_before_marks numbers first last (awaited_moment w) ws rises.0), rising_marks numbers first last ws rises.1)
