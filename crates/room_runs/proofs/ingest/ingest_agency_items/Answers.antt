use Rattle.std.proofs.Common.{refl, rules}
use Rattle.room_runs.proofs.ingest.ingest_agency_items.Goals as goal

pub run_agency_items-requires-clause-stands : goal.run_agency_items-requires-clause-stands
run_agency_items-requires-clause-stands g c =
    let b = c.requires.holds.0 in
    let before = c.requires.holds.1.0 in
    let holds = c.requires.holds.1.1 in
    (record { store = b.store; told = b.told; before = before; provider = c.args.provider; room = _; clock = _ }, (b.list, record { room_stands = holds.stands; uses = holds.uses; same_provider = refl; same_room = refl; same_clock = refl }))

pub returns-clause-answered : goal.returns-clause-answered
returns-clause-answered g c b before holds =
    let run = c.run_agency_items.ensures.run (record { store = b.store; told = b.told; before = before; provider = c.args.provider; room = _; clock = _ }) b.list (record { room_stands = holds.stands; uses = holds.uses; same_provider = refl; same_room = refl; same_clock = refl }) in
    let crash = c.run_agency_items.ensures.crash (record { store = b.store; told = b.told; before = before; provider = c.args.provider; room = _; clock = _ }) b.list (record { room_stands = holds.stands; uses = holds.uses; same_provider = refl; same_room = refl; same_clock = refl }) in
    let same_room = crash.stands.same_room in
    let same = crash.stands.same_clock in
    record {
      shelf = record { store = b.store; told = b.told; before = before; provider = c.args.provider; room = _; clock = _ };
      same_book = refl;
      same_start = refl;
      old = _;
      new = c.run_agency_items.new.desk;
      before = record { room_is = refl; clock_is = refl };
      after = record { room_is = search rules; clock_is = search rules };
      run = run;
      crash = crash;
    }

pub returns-clause-complete : goal.returns-clause-complete
returns-clause-complete g c told few reads writes keeper =
    let b = c.requires.holds.0 in
    let before = c.requires.holds.1.0 in
    let holds = c.requires.holds.1.1 in
    let crash = c.run_agency_items.ensures.crash (record { store = b.store; told = b.told; before = before; provider = c.args.provider; room = _; clock = _ }) b.list (record { room_stands = holds.stands; uses = holds.uses; same_provider = refl; same_room = refl; same_clock = refl }) in
    let same_room = crash.stands.same_room in
    c.run_agency_items.ensures.complete told few reads writes (λ rose. keeper (search rules))
