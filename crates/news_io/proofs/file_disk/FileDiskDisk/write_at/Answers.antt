use Rattle.news_io.proofs.Over.{torn_same}
use Rattle.news_io.proofs.file_disk.FileDiskDisk.write_at.Goals as goal

pub returns-clause-crash : goal.returns-clause-crash
returns-clause-crash g c = λ x now. (x, tt, torn_same _ _ x)
