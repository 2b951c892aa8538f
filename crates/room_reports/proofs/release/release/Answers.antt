use Rattle.std.proofs.Common.{inl, inr, sym, ap}
use Rattle.room_reports.specs.Parts.{released}
use Rattle.room_reports.proofs.release.release.Goals as goal

pub tick-requires : goal.tick-requires
tick-requires g c = record { stands = c.requires }

pub returns-in-Kept : goal.returns-in-Kept
returns-in-Kept g c = (
  record {
    now = c.now-now.result;
    read = λ told. (c.now-now.ensures.told told, c.now-now.ensures.given told);
    ticked = c.tick.result;
    more = c.tick.ensures.0;
    happens = c.tick.ensures.1;
  },
  elim c.in-Kept.is [ inl kept ↦ sym (ap released kept.1) | inr still ↦ sym (ap released still) ],
)

pub returns-in-Fault : goal.returns-in-Fault
returns-in-Fault g c = (
  record {
    now = c.now-now.result;
    read = λ told. (c.now-now.ensures.told told, c.now-now.ensures.given told);
    ticked = c.tick.result;
    more = c.tick.ensures.0;
    happens = c.tick.ensures.1;
  },
  sym (ap released c.in-Fault.is),
)

pub returns-in-Full : goal.returns-in-Full
returns-in-Full g c = (
  record {
    now = c.now-now.result;
    read = λ told. (c.now-now.ensures.told told, c.now-now.ensures.given told);
    ticked = c.tick.result;
    more = c.tick.ensures.0;
    happens = c.tick.ensures.1;
  },
  sym (ap released c.in-Full.is),
)
