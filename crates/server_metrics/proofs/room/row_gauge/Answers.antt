use Rattle.std.proofs.Common.{refl}
use Rattle.server_metrics.proofs.room.row_gauge.Goals as goal

pub returns : goal.returns
returns c = λ h keeps. rw (c.age_since.ensures, c.is_paused.ensures, c.oldest.ensures h keeps) refl
