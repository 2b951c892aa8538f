-- Lists of what was kept, the newest first, and what stands for one.
use Rattle.std.specs.Prelude.{ℕ, Bool, List}
use Rattle.news_io.specs.Clock.{Gave}
use Rattle.news_io.specs.Left.{IsLeft, Between}
use Rattle.news_io.specs.Moments.{Elapses}

-- what a member of the input is answered, what follows the list, the newest first, whether one of that would pass the limit, and the readings of the clock
pub record Outcome (T : Type 0) : Type 0 where
  pub text : List ℕ
  pub adds : List T
  pub passes : Bool
  pub took : List ℕ

-- the outcome of a member of the input, as a line, at a list and a reading of the clock
abbrev pub Meaning : Type 0 → Type 0 → Type 0
Meaning T X = List T → X → ℕ → Outcome T

-- how values of a type stand for lists, and what a crash may leave of one
pub record Life (T C A : Type 0) : Type 1 where
  pub stands : A → List T → Type 0
  pub doubts : A → T → Type 0
  pub moment : A → ℕ
  pub left_since : A → ℕ → C → Type 0
  -- what was left opens to this list
  pub opens : C → List T → Type 0
  -- the readings that its clock has ahead, where the clock tells them
  pub tells : A → Type 0
  pub ahead : A → ℕ → ℕ
  -- a crash now leaves the list, or the list with one entry in doubt
  pub leaves_now : (it : A) (h : List T) (found : C) → stands it h → left_since it (moment it) found → IsLeft opens h (doubts it) found

-- the readings that were taken, where they are told
pub record Took {T C A : Type 0} (L : Life T C A) (old new : A) (readings : List ℕ) : Type 0 where
  pub told : L.tells old → L.tells new
  pub gave : L.tells old → Gave (L.ahead old) readings (L.ahead new)

-- it stood for h and stands for g, and each moment leaves something between
pub record Kept {T C A : Type 0} (L : Life T C A) (old new : A) (h g : List T) : Type 0 where
  pub list : L.stands new g
  pub time : Elapses (L.moment old) (L.moment new) (L.left_since old) (L.left_since new) (Between L.opens h g (L.doubts old) (L.doubts new))
