-- What decoding answers, and which acts are small.
use Rattle.std.specs.Prelude.{◌≡◌, Result, Ok, Err}
use Rattle.news_types.specs.declared.entry.Act.{Act}
use Rattle.news_types.specs.declared.entry.Act.TheVariants.{Advance, Attempt, Receipt, Halt, Ingest, Request}
use Rattle.entry_codec.specs.declared.fault.CodecFault.{CodecFault}
use Rattle.entry_codec.specs.declared.fault.CodecFault.TheVariants as codec

-- this value, unless memory ran out
abbrev pub IsOrMemory : {A : Type 0} → Result A CodecFault → A → Type 0
IsOrMemory (Ok x) e = x ≡ e
IsOrMemory (Err codec.Memory) e = Unit {0}
IsOrMemory (Err (codec.At at)) e = ⊥

-- the acts whose records take no memory
abbrev pub IsSmall : Act → Type 0
IsSmall Advance = Unit {0}
IsSmall (Attempt _ _) = Unit {0}
IsSmall (Receipt _ _) = Unit {0}
IsSmall Halt = Unit {0}
IsSmall (Ingest _ _) = ⊥
IsSmall (Request _ _ _) = ⊥
