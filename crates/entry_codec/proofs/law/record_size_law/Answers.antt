use Rattle.entry_codec.proofs.Lengths.{entry_len}
use Rattle.entry_codec.proofs.law.record_size_law.Goals as goal

pub returns : goal.returns
returns c = entry_len
