use Rattle.std.proofs.Common.{sym, ◌∙◌}
use Rattle.content_filters.proofs.Facts.{by_list}
use Rattle.content_filters.proofs.table.Filters.judge.Goals as goal

pub returns-in-None-clause-list : goal.returns-in-None-clause-list
returns-in-None-clause-list c h keeps is = sym (by_list h c.args.command.now is) ∙ sym (c.in-None.ensures.facts _ _ _ keeps)

pub returns-in-Some-clause-list : goal.returns-in-Some-clause-list
returns-in-Some-clause-list c h keeps is = sym (by_list h c.args.command.now is) ∙ sym (c.in-Some.ensures.facts _ _ _ keeps)
