-- What is fixed while the lines of an input are answered.
use Rattle.std.specs.Prelude.{ℕ}
use Rattle.std.specs.Borrow.{GName}

pub record LineShelf (S : Type 0) : Type 0 where
  -- what is fixed of the machine, and which machine it is
  pub shelf : S
  pub machine : GName
  -- the longest line, in bytes without its end
  pub longest : ℕ
