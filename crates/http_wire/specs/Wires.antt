-- What one call gives of a connection's input.
use Rattle.std.specs.Prelude.{◌≡◌, ◌⊎◌, ℕ, ◌≤◌, List, length, ⊤, Result, Ok, Err}
use Rattle.news_io.specs.Faults.{Rose}
use Rattle.http_wire.specs.Limits.{most_body}
use Rattle.http_wire.specs.Requests.{Asks, Ends, at_end, head_fault, too_large, chunked_body}
use Rattle.http_wire.specs.Unfinished.{IsUnfinished, HasWholeHead}
use Rattle.http_wire.specs.declared.stop.Stop.{Stop}
use Rattle.http_wire.specs.declared.stop.Stop.TheVariants as stop
use Rattle.http_wire.specs.declared.request.HttpRequest.{HttpRequest}
use Rattle.http_wire.specs.declared.request.Wire.{Wire}
use Rattle.http_wire.specs.declared.request.Wire.TheVariants.{Request, End, HeadFault, TooLarge, Chunked, ReadFault, Memory}

-- what the input that was left gives next, and what is left of it afterwards: all of it where that is no request
abbrev pub IsWire : List ℕ → List ℕ → Wire → Type 0
IsWire input left (Request r) = Asks input r left
IsWire input left End = Ends input at_end × (left ≡ input)
IsWire input left HeadFault = Ends input head_fault × (left ≡ input)
IsWire input left TooLarge = Ends input too_large × (left ≡ input)
IsWire input left Chunked = Ends input chunked_body × (left ≡ input)
IsWire input left ReadFault = left ≡ input
IsWire input left Memory = left ≡ input

-- What the bytes at hand have: the ending that was told, as if they were all of the input. Where the source failed they
-- are unfinished, and so they are where there was no room for another read; memory may also be wanted for a request whose
-- head stands there.
abbrev pub IsAtHand : List ℕ → Wire → Type 0
IsAtHand bytes (Request r) = ⊤
IsAtHand bytes End = Ends bytes at_end
IsAtHand bytes HeadFault = Ends bytes head_fault
IsAtHand bytes TooLarge = Ends bytes too_large
IsAtHand bytes Chunked = Ends bytes chunked_body
IsAtHand bytes ReadFault = IsUnfinished bytes
IsAtHand bytes Memory = IsUnfinished bytes ⊎ HasWholeHead bytes

-- the count rose for a fault, and else it is as it was
abbrev pub CountsWire : ℕ → ℕ → Wire → Type 0
CountsWire before now ReadFault = (before ≤ now) × Rose before now
CountsWire before now (Request r) = now ≡ before
CountsWire before now End = now ≡ before
CountsWire before now HeadFault = now ≡ before
CountsWire before now TooLarge = now ≡ before
CountsWire before now Chunked = now ≡ before
CountsWire before now Memory = now ≡ before

-- a request's body is not too long, whether or not the source tells what it gives
abbrev pub IsShort : Wire → Type 0
IsShort (Request r) = length r.body ≤ most_body
IsShort End = ⊤
IsShort HeadFault = ⊤
IsShort TooLarge = ⊤
IsShort Chunked = ⊤
IsShort ReadFault = ⊤
IsShort Memory = ⊤

-- ---- why no request comes

abbrev pub stop_wire : Stop → Wire
stop_wire stop.End = End
stop_wire stop.HeadFault = HeadFault
stop_wire stop.TooLarge = TooLarge
stop_wire stop.Chunked = Chunked
stop_wire stop.ReadFault = ReadFault
stop_wire stop.Memory = Memory

-- a request, or why none comes
abbrev pub given : Result HttpRequest Stop → Wire
given (Ok r) = Request r
given (Err why) = stop_wire why
