use Rattle.std.proofs.Common.{[], ◌∙◌, sym, ap, Option}
use Rattle.std.specs.Option.{option_map}
use Rattle.csv.specs.Records.{fields_of}
use Rattle.subscriber_import.specs.declared.wanted.Wanted.{Wanted}
use Rattle.subscriber_import.specs.Fields.{wanted_of}
use Rattle.subscriber_import.specs.Seen.{seen}
use Rattle.subscriber_import.proofs.Importing.{bad_row, no_memory}
use Rattle.subscriber_import.proofs.rows.import_row.Goals as goal

pub returns-in-Ok-None : goal.returns-in-Ok-None
returns-in-Ok-None g c = (
  [],
  λ b stands.
      bad_row g.K.Keeper.keeper c.args.room.now b c.args.caller c.args.now (wanted_of (fields_of c.args.row.now)) stands
      (ap (λ (o : Option Wanted). option_map seen o) (sym c.in-Ok-None.field-0-is) ∙ c.in-Ok-None.ensures.value),
)

pub returns-in-Err : goal.returns-in-Err
returns-in-Err g c = ([], λ b stands. no_memory g.K.Keeper.keeper c.args.room.now b c.args.caller c.args.now (wanted_of (fields_of c.args.row.now)) stands)
