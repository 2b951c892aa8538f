use Rattle.std.proofs.Common.{inl, inr, refl, subst}
use Rattle.news_types.specs.Names.{Bytes}
use Rattle.run_status.specs.declared.status.Status.{Status}
use Rattle.room_reports.specs.Written.{IsStopped}
use Rattle.subscriber_import.specs.Table.{rows_of, behind_head}
use Rattle.subscriber_import.specs.Steps.{Imports}
use Rattle.whole_runs.proofs.import.import_input.Goals as goal

pub returns-in-Ok : goal.returns-in-Ok
returns-in-Ok g c =
    let found = c.import_table-imported.ensures in
    inl (record {
      table = c.in-Ok.table.items;
      part = c.in-Ok.ensures;
      now = c.now-now.result;
      read = λ told. (c.now-now.ensures.told told, c.now-now.ensures.given told);
      imported = c.import_table-imported.result;
      more = found.0;
      imports = λ b stands.
          subst (λ (t : Bytes). Imports g.K.Keeper.keeper c.args.room.now c.import_table-imported.new.room b c.args.caller c.now-now.result (behind_head (rows_of t)) found.0 c.import_table-imported.result) c.deref.ensures.value (found.1 b stands);
      told = c.tell_imported.ensures;
    })

pub returns-in-Err : goal.returns-in-Err
returns-in-Err g c =
    inr (record {
      why = c.in-Err.why;
      part = c.in-Err.ensures;
      same = refl;
      same_clock = refl;
      stopped = subst (λ (s : Status). IsStopped g.O.Sink.sink s c.args.output.now c.tell_stop.new.output c.tell_stop.result) c.from.ensures c.tell_stop.ensures;
    })
