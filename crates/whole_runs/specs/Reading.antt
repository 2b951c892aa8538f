-- An input that is read to its end.
use Rattle.std.specs.Prelude.{ℕ, [], Result, Ok, Err}
use Rattle.std.specs.Global.{Vec}
use Rattle.news_io.specs.Source.{SourceMeaning}
use Rattle.line_run.specs.declared.ending.Ending.{Ending}
use Rattle.wire_run.specs.Reading.{IsReadThrough}

-- its first bytes, as many as matter; or what ended the reading
abbrev pub IsWholeRead : {S : Type 0} → SourceMeaning S → ℕ → S → S → Result (Vec ℕ) Ending → Type 0
IsWholeRead source most i i' (Ok kept) = IsReadThrough source most i i' kept.items (Ok tt)
IsWholeRead source most i i' (Err why) = IsReadThrough source most i i' [] (Err why)
