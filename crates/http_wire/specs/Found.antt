-- What the bytes of a head's front say, once at most 16384 of them are looked at.
use Rattle.std.specs.Prelude.{ℕ, List, ⊤}
use Rattle.httparse.specs.Grammar.{RequestHead, HasNoRequest, NeverHasRequest, MayBecomeRequest, EndsInTarget}
use Rattle.httparse.specs.Spans.{IsRequestAt, IsRequestWithin}
use Rattle.httparse.specs.declared.spans.HeaderSpan.{HeaderSpan}
use Rattle.http_wire.specs.declared.head.Found.{Found}
use Rattle.http_wire.specs.declared.head.Found.TheVariants.{Whole, More, Never}

-- a head stands there, or may still come, or never comes
abbrev pub IsFound : List ℕ → List HeaderSpan → Found → Type 0
IsFound bytes spans (Whole r) = (h : RequestHead) × IsRequestAt bytes spans r h
IsFound bytes spans More = HasNoRequest bytes × MayBecomeRequest bytes
IsFound bytes spans Never = NeverHasRequest bytes

-- the same, with the corner settled: bytes that end inside a target are not refused yet
abbrev pub IsDecided : List ℕ → List HeaderSpan → Found → Type 0
IsDecided bytes spans (Whole r) = (h : RequestHead) × IsRequestAt bytes spans r h
IsDecided bytes spans More = HasNoRequest bytes × MayBecomeRequest bytes
IsDecided bytes spans Never = NeverHasRequest bytes × ¬ (EndsInTarget bytes)

-- the places of its parts lie in the bytes
abbrev pub IsFoundWithin : List ℕ → List HeaderSpan → Found → Type 0
IsFoundWithin bytes spans (Whole r) = IsRequestWithin bytes spans r
IsFoundWithin bytes spans More = ⊤
IsFoundWithin bytes spans Never = ⊤
