-- The lines of an input by the cuts at its line feeds.
use Rattle.std.proofs.Common.{◌≡◌, ◌≢◌, ◌<◌, ◌++◌, [], ◌∷◌, ℕ, suc, zero, List, All, length, get_or, sym, ⊎_elim, ◌∙◌, ap, arith, append_assoc}
use Rattle.std.specs.List.{flat_map}
use Rattle.std.proofs.lemmas.Bool.{cases_eq}
use Rattle.std.proofs.lemmas.List.{append-nil}
use Rattle.input_lines.specs.Lines.{Line, unless_empty, without_cr, ended_from, open_from, HasNoFeed, IsCut, LinesAreTheCut, EachInputIsCut}
use Rattle.input_lines.proofs.Cuts.{ended-next, open-next, ended-no_feed, open-no_feed}

-- these bytes with a line feed behind each line
abbrev joined : List (List ℕ) → List ℕ
joined raws = flat_map (λ l. l ++ 10 ∷ []) raws

all_at : {X : Type 0} (P : X → Type 0) (x : X) (xs : List X) → P x → All P xs → (k : ℕ) (d : X) → k < length (x ∷ xs) → P (get_or (x ∷ xs) k d)
all_at P x xs p ps zero d lt = p
all_at P x xs p ps (suc k) d lt = ps k d (omega (arith, lt))

all_cons : {X : Type 0} (P : X → Type 0) (x : X) (xs : List X) → P x → All P xs → All P (x ∷ xs)
all_cons P x xs p ps = λ k d lt. all_at P x xs p ps k d lt

none_in : {X : Type 0} (P : X → Type 0) → All P []
none_in P = λ k d lt. absurd (omega (arith, lt))

all_tail : {X : Type 0} (P : X → Type 0) (x : X) (xs : List X) → All P (x ∷ xs) → All P xs
all_tail P x xs all = λ k d lt. all (suc k) d (omega (arith, lt))

all_head : {X : Type 0} (P : X → Type 0) (x : X) (xs : List X) → All P (x ∷ xs) → P x
all_head P x xs all = all 0 x (omega arith)

all_push : (begun : List ℕ) (b : ℕ) → HasNoFeed begun → b ≢ 10 → HasNoFeed (begun ++ b ∷ [])
all_push [] b none other = all_cons (λ c. c ≢ 10) b [] other (none_in (λ c. c ≢ 10))
all_push (a ∷ begun) b none other = all_cons (λ c. c ≢ 10) a (begun ++ b ∷ []) (all_head (λ c. c ≢ 10) a begun none) (all_push begun b (all_tail (λ c. c ≢ 10) a begun none) other)

-- line feeds and what is behind them, as they stand in the definition
seam : (l : List ℕ) (raws : List (List ℕ)) (rest : List ℕ) → joined (l ∷ raws) ++ rest ≡ l ++ 10 ∷ (joined raws ++ rest)
seam l raws rest = append_assoc (l ++ 10 ∷ []) (joined raws) rest ∙ append_assoc l (10 ∷ []) (joined raws ++ rest)

ended_cut : (longest : ℕ) (raws : List (List ℕ)) (rest : List ℕ) → All HasNoFeed raws → HasNoFeed rest → ended_from longest [] (joined raws ++ rest) ≡ flat_map (λ l. unless_empty longest (without_cr l)) raws
ended_cut longest [] rest all none = ended-no_feed longest [] rest none
ended_cut longest (l ∷ raws) rest all none =
    ap (λ (b : List ℕ). ended_from longest [] b) (seam l raws rest)
    ∙ ended-next longest [] l (joined raws ++ rest) (all_head HasNoFeed l raws all)
    ∙ ap (λ (ls : List Line). unless_empty longest (without_cr l) ++ ls) (ended_cut longest raws rest (all_tail HasNoFeed l raws all) none)

open_cut : (raws : List (List ℕ)) (rest : List ℕ) → All HasNoFeed raws → HasNoFeed rest → open_from [] (joined raws ++ rest) ≡ rest
open_cut [] rest all none = open-no_feed [] rest none
open_cut (l ∷ raws) rest all none =
    ap (λ (b : List ℕ). open_from [] b) (seam l raws rest) ∙ open-next [] l (joined raws ++ rest) (all_head HasNoFeed l raws all)
    ∙ open_cut raws rest (all_tail HasNoFeed l raws all) none

pub lines_are_the_cut : LinesAreTheCut
lines_are_the_cut longest bytes raws rest cut =
    ap (λ (b : List ℕ). ended_from longest [] b ++ unless_empty longest (open_from [] b)) cut.0
    ∙ ap (λ (ls : List Line). ls ++ unless_empty longest (open_from [] (joined raws ++ rest))) (ended_cut longest raws rest cut.1 cut.2)
    ∙ ap (λ (b : List ℕ). flat_map (λ l. unless_empty longest (without_cr l)) raws ++ unless_empty longest b) (open_cut raws rest cut.1 cut.2)

-- a cut of bytes behind a line that has begun
each_from : (begun bytes : List ℕ) → HasNoFeed begun → (raws : List (List ℕ)) × ((rest : List ℕ) × IsCut (begun ++ bytes) raws rest)
each_from begun [] none = ([], (begun, (append-nil begun, none_in HasNoFeed, none)))
each_from begun (b ∷ bytes) none = ⊎_elim
    (λ (feed : b ≡ 10). let r : (raws : List (List ℕ)) × ((rest : List ℕ) × IsCut bytes raws rest) = each_from [] bytes (none_in (λ c. c ≢ 10)) in
    (begun ∷ r.0, (r.1.0, (ap (λ (c : ℕ). begun ++ c ∷ bytes) feed ∙ ap (λ (l : List ℕ). begun ++ 10 ∷ l) r.1.1.0 ∙ sym (seam begun r.0 r.1.0), all_cons HasNoFeed begun r.0 none r.1.1.1, r.1.1.2))))
    (λ (other : b ≢ 10). let r : (raws : List (List ℕ)) × ((rest : List ℕ) × IsCut ((begun ++ b ∷ []) ++ bytes) raws rest) = each_from (begun ++ b ∷ []) bytes (all_push begun b none other) in
    (r.0, (r.1.0, (sym (append_assoc begun (b ∷ []) bytes) ∙ r.1.1.0, r.1.1.1, r.1.1.2))))
    (cases_eq b 10)

pub each_input_is_cut : EachInputIsCut
each_input_is_cut bytes = each_from [] bytes (none_in (λ c. c ≢ 10))
