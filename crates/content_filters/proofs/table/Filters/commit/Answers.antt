use Rattle.std.proofs.Common.{◌≡◌, ◌<◌, false, length, add-zero}
use Rattle.news_types.specs.declared.command.Command.TheVariants.{AddCondition, AddFilter, SetFilter, SetBlock}
use Rattle.news_types.specs.Conditions.{condition, condition_count}
use Rattle.news_types.specs.Filters.{filters, has_filter}
use Rattle.content_filters.proofs.Changed.{requested, new_allowed, room_allowed, there_allowed, block_allowed}
use Rattle.content_filters.proofs.table.Filters.commit.Goals as goal

pub returns-in-AddCondition : goal.returns-in-AddCondition
returns-in-AddCondition c h e caller number command keeps is act =
    let kept = c.in-AddCondition.condition in
    let step : command ≡ AddCondition c.in-AddCondition.name kept.field kept.op kept.values = rw c.in-AddCondition.is at is.step in
    requested _ h e caller number command act (rw step (c.add_condition.ensures (condition h) (condition_count h) (filters h) keeps))

pub returns-in-AddFilter : goal.returns-in-AddFilter
returns-in-AddFilter c h e caller number command keeps is act =
    let kept = c.in-AddFilter.filter in
    let step : command ≡ AddFilter kept.name kept.statements = rw c.in-AddFilter.is at is.step in
    let new : has_filter kept.name (filters h) ≡ false = new_allowed (condition h) (condition_count h) (filters h) kept.name kept.statements (rw step at is.allowed) in
    let room : length (filters h) < 1024 = room_allowed (condition h) (condition_count h) (filters h) kept.name kept.statements (rw step at is.allowed) in
    requested _ h e caller number command act (rw (step, add-zero) (c.add_filter.ensures (condition h) (condition_count h) (filters h) keeps new room))

pub returns-in-SetStatements : goal.returns-in-SetStatements
returns-in-SetStatements c h e caller number command keeps is act =
    let filter = c.in-SetStatements.filter in
    let statements = c.in-SetStatements.statements in
    let step : command ≡ SetFilter filter statements = rw c.in-SetStatements.is at is.step in
    requested _ h e caller number command act (rw (step, add-zero) (c.set_statements.ensures (condition h) (condition_count h) (filters h) keeps (there_allowed (condition h) (condition_count h) (filters h) filter statements (rw step at is.allowed))))

pub returns-in-SetBlock : goal.returns-in-SetBlock
returns-in-SetBlock c h e caller number command keeps is act =
    let filter = c.in-SetBlock.filter in
    let step : command ≡ SetBlock filter c.in-SetBlock.on = rw c.in-SetBlock.is at is.step in
    requested _ h e caller number command act (rw (step, add-zero) (c.set_block.ensures (condition h) (condition_count h) (filters h) keeps (block_allowed (condition h) (condition_count h) (filters h) filter c.in-SetBlock.on (rw step at is.allowed))))
