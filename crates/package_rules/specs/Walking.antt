-- How far the lines of a package were gone through.
use Rattle.std.specs.Prelude.{◌≡◌, ℕ, nat_eq}
use Rattle.std.specs.HashSet.{contains}
use Rattle.package_rules.specs.declared.lines.Steps.{Steps}
use Rattle.package_rules.specs.Opening.{Walk, is_opened}

-- the steps have the lines, and know what was opened
pub record IsAt (s : Steps) (w : Walk) : Type 0 where
  pub lines : s.lines.items ≡ w.lines
  pub opened : (n : ℕ) → contains nat_eq s.opened n ≡ is_opened n w
