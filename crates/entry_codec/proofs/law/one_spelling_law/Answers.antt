use Rattle.byte_formats.proofs.Whole.{one_spelling}
use Rattle.entry_codec.specs.Formed.{IsEntry}
use Rattle.entry_codec.specs.Commands.{entry}
use Rattle.entry_codec.proofs.EntryLaws.{entry_lawful}
use Rattle.entry_codec.proofs.law.one_spelling_law.Goals as goal

pub returns : goal.returns
returns c = one_spelling entry IsEntry entry_lawful
