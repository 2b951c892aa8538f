use Rattle.std.proofs.Common.{ap, ◌∙◌}
use Rattle.content_filters.specs.Keeps.{last_beside}
use Rattle.content_filters.proofs.Blocks.{last_blocks}
use Rattle.content_filters.proofs.table.Filters.block.Goals as goal

pub returns : goal.returns
returns c h story keeps verdicts =
    c.last_beside.ensures
    ∙ ap (λ names. last_beside names c.args.off.now) c.as_slice.ensures.value
    ∙ last_blocks c.args.self.now h story c.args.verdicts.now c.args.off.now keeps verdicts
