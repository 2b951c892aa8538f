-- What has another at hand, and lives as the other does.
use Rattle.std.specs.Borrow.{GName}
use Rattle.line_run.specs.Life.{Life}

-- what is fixed of it: what is fixed of the other, and which other it has at hand
pub record Hand (S : Type 0) : Type 0 where
  pub shelf : S
  pub name : GName

-- its life is that of what it has at hand, while it keeps to what is fixed
abbrev pub along : {T C A B : Type 0} → Life T C A → (B → A) → (B → Type 0) → Life T C B
along L hand keeps = record {
  stands = λ b h. keeps b × L.stands (hand b) h;
  doubts = λ b. L.doubts (hand b);
  moment = λ b. L.moment (hand b);
  left_since = λ b. L.left_since (hand b);
  opens = L.opens;
  tells = λ b. L.tells (hand b);
  ahead = λ b. L.ahead (hand b);
  leaves_now = λ b h found stands left. L.leaves_now (hand b) h found stands.1 left;
}
