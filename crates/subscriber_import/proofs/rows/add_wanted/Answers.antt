use Rattle.std.proofs.Common.{[], Some, sym, ◌∙◌}
use Rattle.subscriber_import.specs.Seen.{seen}
use Rattle.subscriber_import.proofs.Importing.{there_row, no_memory}
use Rattle.subscriber_import.proofs.rows.add_wanted.Goals as goal

pub returns-then-there : goal.returns-then-there
returns-then-there g c = ([], λ b stands. there_row g.K.Keeper.keeper c.args.room.now b c.args.caller c.args.now (seen c.args.wanted) stands (sym c.if-there.true ∙ c.in-Ok.ensures b stands))

pub returns-in-Err : goal.returns-in-Err
returns-in-Err g c = ([], λ b stands. no_memory g.K.Keeper.keeper c.args.room.now b c.args.caller c.args.now (Some (seen c.args.wanted)) stands)
