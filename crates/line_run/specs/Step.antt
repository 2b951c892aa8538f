-- What one line's answer is.
use Rattle.std.specs.Prelude.{◌≡◌, ◌⊎◌, ℕ, true, false, List, [], ◌∷◌, ◌++◌, Result, Ok, Err, Vec}
use Rattle.std.specs.declared.alloc.Global.{Global}
use Rattle.news_io.specs.Faults.{Rose}
use Rattle.line_run.specs.Life.{Meaning, Life, Took, Kept}
use Rattle.line_run.specs.declared.answering.Stopped.{Stopped}
use Rattle.line_run.specs.declared.answering.Stopped.TheVariants.{Fault, Full, Memory}

-- of the entries that a line adds, the newest first, this one comes next behind those that are kept
abbrev pub IsNext : {T : Type 0} → List T → List T → T → Type 0
IsNext {T = T} adds part e = (later : List T) × (adds ≡ later ++ e ∷ part)

-- it has the text, and all entries are kept; where one was, nothing is in doubt
pub record IsAnswered {T C A X : Type 0} (M : Meaning T X) (L : Life T C A) (old new : A) (h : List T) (line : X) (text : List ℕ) : Type 0 where
  pub at : ℕ
  pub text_is : text ≡ (M h line at).text
  pub fits : (M h line at).passes ≡ false
  pub kept : Kept L old new h ((M h line at).adds ++ h)
  pub calm : (e : T) → L.doubts new e → ((M h line at).adds ≡ []) × L.doubts old e
  pub clock : Took L old new (M h line at).took

-- the keeper stopped it, and not want of memory
abbrev pub KeeperStopped : Stopped → Type 0
KeeperStopped Fault = Unit {0}
KeeperStopped Full = Unit {0}
KeeperStopped Memory = ⊥

-- it has none, and the first of the entries are kept, all by one reading of the clock
pub record IsStopped {T C A X : Type 0} (M : Meaning T X) (L : Life T C A) (old new : A) (h : List T) (line : X) (why : Stopped) : Type 0 where
  pub at : ℕ
  pub part : List T
  pub first : (later : List T) × ((M h line at).adds ≡ later ++ part)
  -- the keeper leaves at least one of them
  pub unkept : KeeperStopped why → (e : T) × IsNext (M h line at).adds part e
  pub full : why ≡ Full → (M h line at).passes ≡ true
  pub kept : Kept L old new h (part ++ h)
  -- a fault may have left the entry that was tried, and nothing else
  pub doubt : (e : T) → L.doubts new e → ((part ≡ []) × L.doubts old e) ⊎ ((why ≡ Fault) × IsNext (M h line at).adds part e)
  pub took : List ℕ
  pub some : (took ≡ []) ⊎ (took ≡ (M h line at).took)
  pub clock : Took L old new took

abbrev pub IsStep : {T C A X : Type 0} → Meaning T X → Life T C A → A → A → List T → X → Result (Vec ℕ Global) Stopped → Type 0
IsStep M L old new h line (Ok text) = IsAnswered M L old new h line text.items
IsStep M L old new h line (Err why) = IsStopped M L old new h line why

-- a fault is answered only where the count rose, and else it is as it was
abbrev pub StepCounts : ℕ → ℕ → Result (Vec ℕ Global) Stopped → Type 0
StepCounts before now (Err Fault) = Rose before now
StepCounts before now r = now ≡ before
