use Rattle.std.proofs.Common.{List, [], map, ◌∙◌, ap}
use Rattle.csv.specs.Records.{fields_of}
use Rattle.csv.specs.declared.record.ByteRecord.{ByteRecord}
use Rattle.subscriber_import.specs.Table.{rows_of, behind_head}
use Rattle.subscriber_import.proofs.Importing.{none_imported, no_head}
use Rattle.subscriber_import.proofs.import.import_table.Goals as goal

pub returns-in-Err : goal.returns-in-Err
returns-in-Err g c = ([], λ b stands. none_imported g.K.Keeper.keeper c.args.caller c.args.now c.args.room.now b (behind_head (rows_of c.args.table.now)) stands)

pub returns : goal.returns
returns g c =
    let none = c.in-None.ensures ∙ ap (λ (l : List ByteRecord). behind_head (map fields_of l)) c.as_slice.ensures.value ∙ ap behind_head c.in-Ok.ensures in
    ([], λ b stands. no_head g.K.Keeper.keeper c.args.caller c.args.now c.args.room.now b (behind_head (rows_of c.args.table.now)) stands none)
