use Rattle.store_files.proofs.Stores.{opened_behind, err_behind}
use Rattle.store_files.proofs.store.open_listed.Goals as goal

pub returns-in-Err-clause-refused : goal.returns-in-Err-clause-refused
returns-in-Err-clause-refused g c = c.in-Err.ensures.refused

pub returns-in-Ok-clause-opened : goal.returns-in-Ok-clause-opened
returns-in-Ok-clause-opened g c =
    let d = g.D.Disk.disk in
    let asked = c.refuse_other_kinds in
    opened_behind d
    c.args.log asked.new.log c.args.side asked.new.side asked.ensures.still asked.ensures.still_side c.in-Ok.ensures.calm c.open_pair.result
    c.open_pair.ensures.opened

pub returns-in-Ok-clause-refused : goal.returns-in-Ok-clause-refused
returns-in-Ok-clause-refused g c =
    let d = g.D.Disk.disk in
    let asked = c.refuse_other_kinds in
    err_behind d
    c.args.log asked.new.log c.args.side asked.new.side asked.ensures.still asked.ensures.still_side c.in-Ok.ensures.calm
    c.in-Ok.ensures.own c.open_pair.result c.open_pair.ensures.cause c.open_pair.ensures.count c.open_pair.ensures.crash c.open_pair.ensures.still
