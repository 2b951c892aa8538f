use Rattle.std.proofs.Common.{◌≤◌, ℕ, List, Ok, Err, sym, length, subst}
use Rattle.std.proofs.lemmas.Result.{err_from_is_err_and}
use Rattle.news_journal.specs.Opened.{HeaderAs, RecordsAs, HoldsRecords}
use Rattle.news_journal.specs.Window.{Shows}
use Rattle.news_journal.proofs.Progress.{header_fault, record_fault, no_fault, enough_for_header}
use Rattle.news_journal.proofs.opening.read_log.Goals as goal

pub returns-in_err-head-clause-damage : goal.returns-in_err-head-clause-damage
returns-in_err-head-clause-damage g c = λ told.
    let shows = c.in_ok-cover.ensures.shows told (c.new-window.ensures (g.D.Disk.disk.seen c.args.disk.now)) in
    let bytes = c.part.ensures.bytes (g.D.Disk.disk.seen c.args.disk.now) shows (c.in_ok-cover.ensures.covers told (c.new-window.ensures (g.D.Disk.disk.seen c.args.disk.now))) in
    let e = err_from_is_err_and c.from_residual-in_err-head.result c.from_residual-in_err-head.ensures.1 in
    rw (e.1, e.2) (header_fault _ _ (subst (λ (l : List ℕ). HeaderAs l (Err c.in_err-head.field-0.0)) bytes c.in_err-head.ensures))

pub returns-in_err-gate-clause-damage : goal.returns-in_err-gate-clause-damage
returns-in_err-gate-clause-damage g c = λ told.
    let shows = c.in_ok-cover.ensures.shows told (c.new-window.ensures (g.D.Disk.disk.seen c.args.disk.now)) in
    let bytes = c.part.ensures.bytes (g.D.Disk.disk.seen c.args.disk.now) shows (c.in_ok-cover.ensures.covers told (c.new-window.ensures (g.D.Disk.disk.seen c.args.disk.now))) in
    let head = subst (λ (l : List ℕ). HeaderAs l (Ok (c.in_ok-head.head, c.in_ok-head.header))) bytes c.in_ok-head.ensures in
    let same = c.cover.ensures.still.seen_same in
    let long = subst (λ (l : List ℕ). 64 ≤ length l) (sym same) (enough_for_header _ head.0) in
    let reads = c.in_err-gate.ensures.reads (c.cover.ensures.still.told told) (subst (Shows c.cover.new.self) (sym same) shows) long in
    let e = err_from_is_err_and c.from_residual-in_err-gate.result c.from_residual-in_err-gate.ensures.1 in
    rw (e.1, e.2) (record_fault _ _ head.0 (subst (λ (l : List ℕ). RecordsAs l (Err c.in_err-gate.field-0.0)) same reads))

pub returns-clause-whole : goal.returns-clause-whole
returns-clause-whole g c = λ told.
    let shows = c.in_ok-cover.ensures.shows told (c.new-window.ensures (g.D.Disk.disk.seen c.args.disk.now)) in
    let bytes = c.part.ensures.bytes (g.D.Disk.disk.seen c.args.disk.now) shows (c.in_ok-cover.ensures.covers told (c.new-window.ensures (g.D.Disk.disk.seen c.args.disk.now))) in
    let head = subst (λ (l : List ℕ). HeaderAs l (Ok (c.in_ok-head.head, c.in_ok-head.header))) bytes c.in_ok-head.ensures in
    let same = c.cover.ensures.still.seen_same in
    let long = subst (λ (l : List ℕ). 64 ≤ length l) (sym same) (enough_for_header _ head.0) in
    let reads = c.in_ok-gate.ensures.reads (c.cover.ensures.still.told told) (subst (Shows c.cover.new.self) (sym same) shows) long in
    no_fault _ c.in_ok-gate.gate c.in_ok-gate.records.items head.0 (subst (λ (l : List ℕ). HoldsRecords l c.in_ok-gate.gate c.in_ok-gate.records.items) same reads)

pub returns-clause-head : goal.returns-clause-head
returns-clause-head g c = λ told.
    let shows = c.in_ok-cover.ensures.shows told (c.new-window.ensures (g.D.Disk.disk.seen c.args.disk.now)) in
    let bytes = c.part.ensures.bytes (g.D.Disk.disk.seen c.args.disk.now) shows (c.in_ok-cover.ensures.covers told (c.new-window.ensures (g.D.Disk.disk.seen c.args.disk.now))) in
    let head = subst (λ (l : List ℕ). HeaderAs l (Ok (c.in_ok-head.head, c.in_ok-head.header))) bytes c.in_ok-head.ensures in
    head.1

pub returns-clause-header : goal.returns-clause-header
returns-clause-header g c = λ told.
    let shows = c.in_ok-cover.ensures.shows told (c.new-window.ensures (g.D.Disk.disk.seen c.args.disk.now)) in
    let bytes = c.part.ensures.bytes (g.D.Disk.disk.seen c.args.disk.now) shows (c.in_ok-cover.ensures.covers told (c.new-window.ensures (g.D.Disk.disk.seen c.args.disk.now))) in
    let head = subst (λ (l : List ℕ). HeaderAs l (Ok (c.in_ok-head.head, c.in_ok-head.header))) bytes c.in_ok-head.ensures in
    head.2

pub returns-clause-reads : goal.returns-clause-reads
returns-clause-reads g c = λ told.
    let shows = c.in_ok-cover.ensures.shows told (c.new-window.ensures (g.D.Disk.disk.seen c.args.disk.now)) in
    let bytes = c.part.ensures.bytes (g.D.Disk.disk.seen c.args.disk.now) shows (c.in_ok-cover.ensures.covers told (c.new-window.ensures (g.D.Disk.disk.seen c.args.disk.now))) in
    let head = subst (λ (l : List ℕ). HeaderAs l (Ok (c.in_ok-head.head, c.in_ok-head.header))) bytes c.in_ok-head.ensures in
    let same = c.cover.ensures.still.seen_same in
    let long = subst (λ (l : List ℕ). 64 ≤ length l) (sym same) (enough_for_header _ head.0) in
    let reads = c.in_ok-gate.ensures.reads (c.cover.ensures.still.told told) (subst (Shows c.cover.new.self) (sym same) shows) long in
    subst (λ (l : List ℕ). HoldsRecords l c.in_ok-gate.gate c.in_ok-gate.records.items) same reads
