use Rattle.std.proofs.Common.{◌∙◌}
use Rattle.news_room.proofs.Records.{record_of}
use Rattle.news_room.proofs.room.Room.append.Goals as goal

pub append-requires-clause-framed : goal.append-requires-clause-framed
append-requires-clause-framed g c = (record_of c.args.entry.now c.as_slice.result.now c.in-Ok.ensures.entry (c.as_slice.ensures ∙ c.in-Ok.ensures.bytes)).frame

pub returns-in-Ok-append-clause-step : goal.returns-in-Ok-append-clause-step
returns-in-Ok-append-clause-step g c =
    let t = c.in-Ok-append.ensures in (
      c.as_slice.result.now,
      record {
        record_is = record_of c.args.entry.now c.as_slice.result.now c.in-Ok.ensures.entry (c.as_slice.ensures ∙ c.in-Ok.ensures.bytes);
        grown = t.used;
        did = record { full = rw c.limit_of.ensures.limit at t.full; count = t.count; label = t.label; told = t.told; list_is = t.kept; doubt = t.doubts; crash = t.crash };
      },
    )

pub returns-in-Err-Fault-clause-step : goal.returns-in-Err-Fault-clause-step
returns-in-Err-Fault-clause-step g c =
    let t = c.in-Err-Fault.ensures in (
      c.as_slice.result.now,
      record {
        record_is = record_of c.args.entry.now c.as_slice.result.now c.in-Ok.ensures.entry (c.as_slice.ensures ∙ c.in-Ok.ensures.bytes);
        same = t.used_err;
        did = record {
          full = rw c.limit_of.ensures.limit at (rw c.in-Err-Fault.field-0-is at t.full);
          count = rw c.in-Err-Fault.field-0-is at t.count;
          label = t.label;
          told = t.told;
          list_is = t.same;
          doubt = rw c.in-Err-Fault.field-0-is at t.doubts;
          crash = t.crash;
        };
      },
    )

pub returns-clause-step : goal.returns-clause-step
returns-clause-step g c =
    let t = c.in-Err-Full.ensures in (
      c.as_slice.result.now,
      record {
        record_is = record_of c.args.entry.now c.as_slice.result.now c.in-Ok.ensures.entry (c.as_slice.ensures ∙ c.in-Ok.ensures.bytes);
        same = t.used_err;
        did = record {
          full = rw c.limit_of.ensures.limit at (rw c.in-Err-Full.field-0-is at t.full);
          count = rw c.in-Err-Full.field-0-is at t.count;
          label = t.label;
          told = t.told;
          list_is = t.same;
          doubt = rw c.in-Err-Full.field-0-is at t.doubts;
          crash = t.crash;
        };
      },
    )
