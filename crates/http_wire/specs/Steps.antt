-- What the steps of a reader did.
use Rattle.std.specs.Prelude.{◌≡◌, ℕ, ◌+◌, ◌<◌, ◌≤◌, ◌++◌, Bool, true, false, List, length, ⊤, Option, Some, None, Result, Ok, Err}
use Rattle.httparse.specs.Grammar.{RequestHead, HasNoRequest, NeverHasRequest, MayBecomeRequest, EndsInTarget}
use Rattle.httparse.specs.Spans.{IsRequestWithin, IsRequestAt}
use Rattle.httparse.specs.declared.spans.HeaderSpan.{HeaderSpan}
use Rattle.httparse.specs.declared.spans.RequestSpans.{RequestSpans}
use Rattle.http_wire.specs.Limits.{front, most_head, most_read, most_body}
use Rattle.http_wire.specs.Heads.{Says, coded, bad_length, too_much, of_length, lines, says, asker, closes_after}
use Rattle.http_wire.specs.Unfinished.{BeginsHead}
use Rattle.http_wire.specs.Wires.{CountsWire, stop_wire}
use Rattle.http_wire.specs.declared.stop.Stop.{Stop}
use Rattle.http_wire.specs.declared.stop.Stop.TheVariants.{HeadFault, TooLarge, Chunked, ReadFault, Memory}
use Rattle.http_wire.specs.declared.ruling.Begun.{Begun}

-- a count of faults, where nothing stopped or this did
abbrev pub CountsStop : {A : Type 0} → ℕ → ℕ → Result A Stop → Type 0
CountsStop before now (Ok x) = now ≡ before
CountsStop before now (Err why) = CountsWire before now (stop_wire why)

-- ---- more bytes

-- more bytes stand behind the others, or these alone
abbrev pub Adds : List ℕ → List ℕ → Result Bool Stop → Type 0
Adds old new (Ok true) = (piece : List ℕ) × (new ≡ old ++ piece)
Adds old new (Ok false) = new ≡ old
Adds old new (Err why) = new ≡ old

abbrev pub Grows : ℕ → ℕ → Result Bool Stop → Type 0
Grows before now (Ok true) = (before < now) × (now ≤ before + most_read)
Grows before now (Ok false) = now ≡ before
Grows before now (Err why) = now ≡ before

-- why a read brings nothing
abbrev pub IsUnread : Stop → Type 0
IsUnread ReadFault = ⊤
IsUnread Memory = ⊤
IsUnread why = ⊥

-- why a body does not come: the input ended, or a read brought nothing
abbrev pub IsCutShort : Stop → Type 0
IsCutShort HeadFault = ⊤
IsCutShort why = IsUnread why

-- ---- a head

-- the head that was found stands there
pub record HasHead (bytes : List ℕ) (spans : List HeaderSpan) (r : RequestSpans) : Type 0 where
  pub within : IsRequestWithin (front bytes) spans r
  pub head : RequestHead
  pub at : IsRequestAt (front bytes) spans r head

-- what stands there is refused, or is too long
abbrev pub IsNoHead : List ℕ → Stop → Type 0
IsNoHead bytes HeadFault = NeverHasRequest (front bytes) × ¬ (EndsInTarget (front bytes))
IsNoHead bytes TooLarge = (most_head ≤ length bytes) × HasNoRequest (front bytes) × MayBecomeRequest (front bytes)
IsNoHead bytes why = ⊥

-- a head stands there, or has begun, or there is none
abbrev pub IsHeadIn : List ℕ → List HeaderSpan → Result (Option RequestSpans) Stop → Type 0
IsHeadIn bytes spans (Ok (Some r)) = HasHead bytes spans r
IsHeadIn bytes spans (Ok None) = BeginsHead bytes × (length bytes < most_head)
IsHeadIn bytes spans (Err why) = IsNoHead bytes why

-- ---- what a head asks for

-- what the lines say stops the reader, or memory was wanted
abbrev pub IsSaid : Says → Stop → Type 0
IsSaid said Chunked = said ≡ coded
IsSaid said HeadFault = said ≡ bad_length
IsSaid said TooLarge = said ≡ too_much
IsSaid said Memory = ⊤
IsSaid said why = ⊥

abbrev pub IsRuled : Says → Result ℕ Stop → Type 0
IsRuled said (Ok n) = (said ≡ of_length n) × (n ≤ most_body)
IsRuled said (Err why) = IsSaid said why

-- what the head says but for the body
pub record IsBegun (h : RequestHead) (b : Begun) : Type 0 where
  pub method : b.method ≡ h.method
  pub target : b.target ≡ h.target
  pub user : b.user ≡ asker (lines h)
  pub close : b.close ≡ closes_after h.minor (lines h)

-- what the head says, with the body's length
abbrev pub IsExamined : RequestHead → Result (Begun × ℕ) Stop → Type 0
IsExamined h (Ok x) = IsBegun h x.0 × (says (lines h) ≡ of_length x.1) × (x.1 ≤ most_body)
IsExamined h (Err why) = IsSaid (says (lines h)) why
