use Rattle.std.proofs.Common.{rules, ◌∙◌, sym, ap, subst}
use Rattle.news_journal.specs.Stands.{disk_of}
use Rattle.store_files.specs.Trouble.{trouble_of_file}
use Rattle.store_files.specs.declared.trouble.Trouble.TheVariants.{WrongStore, Store}
use Rattle.standby_files.specs.Kinds.{IsKind, IsOwnRefused, IsOwnStandby}
use Rattle.standby_files.specs.Opening.{IsRefused, IsOpenStandby}
use Rattle.standby_files.proofs.Openings.{Before, before_own, before_made, opened_behind, refused_behind, kind_refused, unmade_refused, other_is, calm_made, rose_made}
use Rattle.standby_files.proofs.Second.{if_ok, if_err}
use Rattle.standby_files.proofs.opening.open_standby.Goals as goal

-- ---- two empty files

pub returns-in-Ok-clause-opened : goal.returns-in-Ok-clause-opened
returns-in-Ok-clause-opened g c =
    let d = g.D.Disk.disk in
    let asked = c.kind_of.ensures in
    let made = c.in-Ok.ensures in
    let new = c.into_disk.result in
    let first : Before d c.args.store c.args.log c.args.side (disk_of c.in-Ok.journal) c.kind_of.new.side =
    before_made c.args.store (search rules) d c.args.log c.args.side c.kind_of.new.log c.kind_of.new.side (disk_of c.in-Ok.journal) asked.still asked.still_side
    (λ told told'. subst (IsKind c.args.store (d.seen c.args.log) (d.seen c.args.side)) c.in-Ok-Empty.field-0-is (c.in-Ok-Empty.ensures.kind told told'))
    (λ told none. let logs = made.tells told none in logs.told)
    (calm_made (d.faults c.args.log) (d.faults c.args.side) (d.faults c.kind_of.new.log) (d.faults c.kind_of.new.side) (d.faults (disk_of c.in-Ok.journal)) c.in-Ok-Empty.ensures.count.calm made.calm) made.bytes made.crash in
    let before : Before d c.args.store c.args.log c.args.side new c.kind_of.new.side = subst (λ x. Before d c.args.store c.args.log c.args.side x c.kind_of.new.side) (sym c.into_disk.ensures) first in
    if_ok (IsOwnStandby d c.args.store new c.kind_of.new.side) (IsOpenStandby d c.args.store c.args.log c.args.side) c.open_own.result
    (λ s o. opened_behind d c.args.store (search rules) c.args.log c.args.side new c.kind_of.new.side before s o) c.open_own.ensures.opened

pub returns-in-Ok-clause-refused : goal.returns-in-Ok-clause-refused
returns-in-Ok-clause-refused g c =
    let d = g.D.Disk.disk in
    let asked = c.kind_of.ensures in
    let made = c.in-Ok.ensures in
    let new = c.into_disk.result in
    let first : Before d c.args.store c.args.log c.args.side (disk_of c.in-Ok.journal) c.kind_of.new.side =
    before_made c.args.store (search rules) d c.args.log c.args.side c.kind_of.new.log c.kind_of.new.side (disk_of c.in-Ok.journal) asked.still asked.still_side
    (λ told told'. subst (IsKind c.args.store (d.seen c.args.log) (d.seen c.args.side)) c.in-Ok-Empty.field-0-is (c.in-Ok-Empty.ensures.kind told told'))
    (λ told none. let logs = made.tells told none in logs.told)
    (calm_made (d.faults c.args.log) (d.faults c.args.side) (d.faults c.kind_of.new.log) (d.faults c.kind_of.new.side) (d.faults (disk_of c.in-Ok.journal)) c.in-Ok-Empty.ensures.count.calm made.calm) made.bytes made.crash in
    let before : Before d c.args.store c.args.log c.args.side new c.kind_of.new.side = subst (λ x. Before d c.args.store c.args.log c.args.side x c.kind_of.new.side) (sym c.into_disk.ensures) first in
    if_err (λ e. IsOwnRefused d c.args.store new c.kind_of.new.side e.0 e.1 e.2) (λ e. IsRefused d c.args.store c.args.log c.args.side e.0 e.1 e.2) c.open_own.result
    (λ e r. refused_behind d c.args.store (search rules) c.args.log c.args.side new c.kind_of.new.side before e.0 e.1 e.2 r) c.open_own.ensures.refused

pub returns-in-Err-create-clause-refused : goal.returns-in-Err-create-clause-refused
returns-in-Err-create-clause-refused g c =
    let d = g.D.Disk.disk in
    let asked = c.kind_of.ensures in
    let failed = c.in-Err-create.ensures in
    unmade_refused c.args.store (search rules) d c.args.log c.args.side c.kind_of.new.log c.kind_of.new.side c.in-Err-create.log c.from.result (c.from.ensures ∙ ap trouble_of_file failed.fault.0) asked.still asked.still_side
    (λ told told'. subst (IsKind c.args.store (d.seen c.args.log) (d.seen c.args.side)) c.in-Ok-Empty.field-0-is (c.in-Ok-Empty.ensures.kind told told'))
    (rose_made (d.faults c.args.log) (d.faults c.args.side) (d.faults c.kind_of.new.log) (d.faults c.kind_of.new.side) (d.faults c.in-Err-create.log) c.in-Ok-Empty.ensures.count.calm failed.fault.2) failed.crash_err

-- ---- another's

pub returns-in-Ok-Other-clause-refused : goal.returns-in-Ok-Other-clause-refused
returns-in-Ok-Other-clause-refused g c =
    let d = g.D.Disk.disk in
    let asked = c.kind_of.ensures in
    kind_refused d c.args.store c.args.log c.args.side c.kind_of.new.log c.kind_of.new.side WrongStore asked.still asked.still_side
    (λ told told'. other_is c.args.store (d.seen c.args.log) (d.seen c.args.side) (subst (IsKind c.args.store (d.seen c.args.log) (d.seen c.args.side)) c.in-Ok-Other.field-0-is (c.in-Ok-Other.ensures.kind told told')))
    c.in-Ok-Other.ensures.count.calm

-- ---- this store's, or no newsroom's

pub returns-in-Ok-Own-clause-opened : goal.returns-in-Ok-Own-clause-opened
returns-in-Ok-Own-clause-opened g c =
    let d = g.D.Disk.disk in
    let asked = c.kind_of.ensures in
    let before : Before d c.args.store c.args.log c.args.side c.kind_of.new.log c.kind_of.new.side =
    before_own d c.args.store c.args.log c.args.side c.kind_of.new.log c.kind_of.new.side asked.still asked.still_side c.in-Ok-Own.ensures.count.calm
    (λ told told'. subst (IsKind c.args.store (d.seen c.args.log) (d.seen c.args.side)) c.in-Ok-Own.field-0-is (c.in-Ok-Own.ensures.kind told told')) in
    if_ok (IsOwnStandby d c.args.store c.kind_of.new.log c.kind_of.new.side) (IsOpenStandby d c.args.store c.args.log c.args.side) c.open_own-in-Ok-Own.result
    (λ s o. opened_behind d c.args.store (search rules) c.args.log c.args.side c.kind_of.new.log c.kind_of.new.side before s o) c.open_own-in-Ok-Own.ensures.opened

pub returns-in-Ok-Own-clause-refused : goal.returns-in-Ok-Own-clause-refused
returns-in-Ok-Own-clause-refused g c =
    let d = g.D.Disk.disk in
    let asked = c.kind_of.ensures in
    let before : Before d c.args.store c.args.log c.args.side c.kind_of.new.log c.kind_of.new.side =
    before_own d c.args.store c.args.log c.args.side c.kind_of.new.log c.kind_of.new.side asked.still asked.still_side c.in-Ok-Own.ensures.count.calm
    (λ told told'. subst (IsKind c.args.store (d.seen c.args.log) (d.seen c.args.side)) c.in-Ok-Own.field-0-is (c.in-Ok-Own.ensures.kind told told')) in
    if_err (λ e. IsOwnRefused d c.args.store c.kind_of.new.log c.kind_of.new.side e.0 e.1 e.2) (λ e. IsRefused d c.args.store c.args.log c.args.side e.0 e.1 e.2) c.open_own-in-Ok-Own.result
    (λ e r. refused_behind d c.args.store (search rules) c.args.log c.args.side c.kind_of.new.log c.kind_of.new.side before e.0 e.1 e.2 r) c.open_own-in-Ok-Own.ensures.refused

pub returns-in-Err-clause-refused : goal.returns-in-Err-clause-refused
returns-in-Err-clause-refused g c =
    let d = g.D.Disk.disk in
    let asked = c.kind_of.ensures in
    subst (λ t. IsRefused d c.args.store c.args.log c.args.side c.kind_of.new.log c.kind_of.new.side t) (sym c.from-in-Err.ensures)
    (kind_refused d c.args.store c.args.log c.args.side c.kind_of.new.log c.kind_of.new.side Store asked.still asked.still_side (λ told told'. tt) c.in-Err.ensures.count.failed)
