use Rattle.newsroom.proofs.Sorted.{silent}
use Rattle.newsroom.proofs.Allowed.{allows}
use Rattle.newsroom.proofs.newsroom.Newsroom.prepare_parts.Goals as goal

pub returns-in-Flash-clause-change : goal.returns-in-Flash-clause-change
returns-in-Flash-clause-change c h caller number stands legal = rw c.in-Flash.is (c.prepare_flash.ensures.change h caller number stands legal.1)

pub returns-in_default-clause-change : goal.returns-in_default-clause-change
returns-in_default-clause-change c h caller number stands legal =
    c.prepare_silent.ensures.change h caller number stands
    (silent c.args.command.now c.in_default.not-Flash c.in_default.not-Deschedule c.in_default.not-Publish c.in_default.not-Correct c.in_default.not-Kill c.in_default.not-Recall)
    (allows h caller number c.args.command.now c.args.moment legal.2.1) legal

pub returns-in-Deschedule-clause-change : goal.returns-in-Deschedule-clause-change
returns-in-Deschedule-clause-change c h caller number stands legal =
    rw c.in-Deschedule.is (c.prepare_deschedule.ensures.change h caller number stands (rw c.in-Deschedule.is at legal))
