-- What passes over a link in a turn, and how counts of faults go.
use Rattle.std.specs.Prelude.{◌≡◌, ℕ, Bool, true, false, List, ◌++◌}
use Rattle.news_types.specs.Names.{Bytes}
use Rattle.news_io.specs.Clock.{ClockMeaning, Gave}
use Rattle.news_io.specs.Faults.{Rose}
use Rattle.news_io.specs.Link.{Passed, LinkMeaning, Goes}

-- A link that tells was sent these frames, and gave these replies, each with its subscriber; and these passed in its calls, in order.
pub record Passes {L : Type 0} (link : LinkMeaning L) (old new : L) (frames replies : List (Bytes × Bytes)) (passed : List Passed) : Type 0 where
  pub tells : link.tells new
  pub sent : link.sent new ≡ link.sent old ++ frames
  pub said : link.said new ≡ link.said old ++ replies
  pub goes : Goes link old new passed

-- a clock that tells gave these readings
pub record Reads {C : Type 0} (clock : ClockMeaning C) (old new : C) (readings : List ℕ) : Type 0 where
  pub tells : clock.tells new
  pub gave : Gave (clock.ahead old) readings (clock.ahead new)

-- a count of faults rose where something failed, and else it is as it was
abbrev pub CountsFaults : Bool → ℕ → ℕ → Type 0
CountsFaults true before now = Rose before now
CountsFaults false before now = now ≡ before
