-- Bytes of an input that decide nothing yet, so that more have to come.
use Rattle.std.specs.Prelude.{◌≡◌, ℕ, ◌<◌, ◌++◌, false, List, length, nat_eq}
use Rattle.std.specs.List.{list_any}
use Rattle.httparse.specs.Grammar.{RequestHead, HasNoRequest, MayBecomeRequest}
use Rattle.http_wire.specs.Limits.{most_head}
use Rattle.http_wire.specs.Heads.{lines, says, of_length}
use Rattle.http_wire.specs.Requests.{BeginsWith}

-- no line ends in these bytes
abbrev pub EndsNoLine : List ℕ → Type 0
EndsNoLine bytes = list_any (λ b. nat_eq b 10) bytes ≡ false

-- the bytes hold no whole head, and up to their last line end they may become one
pub record BeginsHead (bytes : List ℕ) : Type 0 where
  pub ended : List ℕ
  pub tail : List ℕ
  pub is : bytes ≡ ended ++ tail
  pub last : EndsNoLine tail
  pub none : HasNoRequest bytes
  pub may : MayBecomeRequest ended

pub data IsUnfinished (bytes : List ℕ) : Type 0 where
  -- a head has begun, and is not too long yet
  in_head : BeginsHead bytes → length bytes < most_head → IsUnfinished bytes
  -- the head stands there, and fewer bytes behind it than its body has
  in_body : (head : RequestHead) (rest : List ℕ) (n : ℕ) → BeginsWith bytes head rest → says (lines head) ≡ of_length n → length rest < n → IsUnfinished bytes

-- a whole head stands there
abbrev pub HasWholeHead : List ℕ → Type 0
HasWholeHead bytes = (head : RequestHead) × (rest : List ℕ) × BeginsWith bytes head rest
