use Rattle.std.proofs.Common.{leb-true}
use Rattle.archive_query.proofs.Letters.{itself_over}
use Rattle.archive_query.proofs.near.mend_other.Goals as goal

pub returns-in-empty-clause-mended : goal.returns-in-empty-clause-mended
returns-in-empty-clause-mended c is =
    itself_over c.args.character c.full_folding.result.now c.args.into.now c.full_folding.ensures.value c.in-empty.len_below (leb-true 128 c.args.character is) c.requires.lower
