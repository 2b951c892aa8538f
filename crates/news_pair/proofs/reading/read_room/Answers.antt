use Rattle.std.proofs.Common.{◌≡◌, ◌≤◌, ℕ, List, Ok, Err, sym, ap, length, subst, arith, length-take, rules}
use Rattle.std.proofs.lemmas.Result.{err_from_is_err_and}
use Rattle.news_journal.specs.Opened.{RecordsAs, HoldsRecords}
use Rattle.news_journal.specs.Window.{Shows}
use Rattle.news_pair.specs.Opened.{RoomHeadAs}
use Rattle.news_pair.proofs.WereRead.{record_file, records_are, room_fault, log_fault, log_whole}
use Rattle.news_pair.proofs.reading.read_room.Goals as goal

pub returns-in_err-head-clause-judged : goal.returns-in_err-head-clause-judged
returns-in_err-head-clause-judged g c = λ told.
    let file = g.D.Disk.disk.seen c.args.disk.now in
    let shows = c.in_ok-cover.ensures.shows told (c.new-window.ensures file) in
    let bytes = c.part.ensures.bytes file shows (c.in_ok-cover.ensures.covers told (c.new-window.ensures file)) in
    let e = err_from_is_err_and c.from_residual-in_err-head.result c.from_residual-in_err-head.ensures.1 in
    rw (e.1, e.2) (room_fault file _ (subst (λ (l : List ℕ). RoomHeadAs l (Err c.in_err-head.field-0.0)) bytes c.in_err-head.ensures))

pub returns-in_err-gate-clause-judged : goal.returns-in_err-gate-clause-judged
returns-in_err-gate-clause-judged g c = λ told.
    let file = g.D.Disk.disk.seen c.args.disk.now in
    let shows = c.in_ok-cover.ensures.shows told (c.new-window.ensures file) in
    let bytes = c.part.ensures.bytes file shows (c.in_ok-cover.ensures.covers told (c.new-window.ensures file)) in
    let head = subst (λ (l : List ℕ). RoomHeadAs l (Ok c.in_ok-head.head)) bytes c.in_ok-head.ensures in
    let size : length c.in_ok-head.head.bytes ≡ 64 = search rules in
    let whole : 64 ≤ length (g.D.Disk.disk.seen c.args.disk.now) = omega (arith, length-take 64 (g.D.Disk.disk.seen c.args.disk.now), ap length head.1, size) in
    let same = c.cover.ensures.still.seen_same in
    let long = subst (λ (l : List ℕ). 64 ≤ length l) (sym same) whole in
    let reads = c.in_err-gate.ensures.reads (c.cover.ensures.still.told told) (subst (Shows c.cover.new.self) (sym same) shows) long in
    let e = err_from_is_err_and c.from_residual-in_err-gate.result c.from_residual-in_err-gate.ensures.1 in
    rw (e.1, e.2) (log_fault file _ head.0 (subst (λ (l : List ℕ). RecordsAs l (Err c.in_err-gate.field-0.0)) same reads))

pub returns-clause-judged : goal.returns-clause-judged
returns-clause-judged g c = λ told.
    let file = g.D.Disk.disk.seen c.args.disk.now in
    let shows = c.in_ok-cover.ensures.shows told (c.new-window.ensures file) in
    let bytes = c.part.ensures.bytes file shows (c.in_ok-cover.ensures.covers told (c.new-window.ensures file)) in
    let head = subst (λ (l : List ℕ). RoomHeadAs l (Ok c.in_ok-head.head)) bytes c.in_ok-head.ensures in
    let size : length c.in_ok-head.head.bytes ≡ 64 = search rules in
    let whole : 64 ≤ length (g.D.Disk.disk.seen c.args.disk.now) = omega (arith, length-take 64 (g.D.Disk.disk.seen c.args.disk.now), ap length head.1, size) in
    let same = c.cover.ensures.still.seen_same in
    let long = subst (λ (l : List ℕ). 64 ≤ length l) (sym same) whole in
    let reads = c.in_ok-gate.ensures.reads (c.cover.ensures.still.told told) (subst (Shows c.cover.new.self) (sym same) shows) long in
    log_whole file c.in_ok-gate.gate c.in_ok-gate.records.items head.0 (subst (λ (l : List ℕ). HoldsRecords l c.in_ok-gate.gate c.in_ok-gate.records.items) same reads)

pub returns-clause-head : goal.returns-clause-head
returns-clause-head g c = c.in_ok-head.ensures.2

pub returns-clause-reads : goal.returns-clause-reads
returns-clause-reads g c = λ told.
    let file = g.D.Disk.disk.seen c.args.disk.now in
    let shows = c.in_ok-cover.ensures.shows told (c.new-window.ensures file) in
    let bytes = c.part.ensures.bytes file shows (c.in_ok-cover.ensures.covers told (c.new-window.ensures file)) in
    let head = subst (λ (l : List ℕ). RoomHeadAs l (Ok c.in_ok-head.head)) bytes c.in_ok-head.ensures in
    let size : length c.in_ok-head.head.bytes ≡ 64 = search rules in
    let whole : 64 ≤ length (g.D.Disk.disk.seen c.args.disk.now) = omega (arith, length-take 64 (g.D.Disk.disk.seen c.args.disk.now), ap length head.1, size) in
    let same = c.cover.ensures.still.seen_same in
    let long = subst (λ (l : List ℕ). 64 ≤ length l) (sym same) whole in
    let reads = c.in_ok-gate.ensures.reads (c.cover.ensures.still.told told) (subst (Shows c.cover.new.self) (sym same) shows) long in
    record_file _ _ _ _ (sym head.1) (subst (λ (l : List ℕ). HoldsRecords l c.in_ok-gate.gate c.in_ok-gate.records.items) same reads)

pub returns-clause-records : goal.returns-clause-records
returns-clause-records g c = λ told.
    let file = g.D.Disk.disk.seen c.args.disk.now in
    let shows = c.in_ok-cover.ensures.shows told (c.new-window.ensures file) in
    let bytes = c.part.ensures.bytes file shows (c.in_ok-cover.ensures.covers told (c.new-window.ensures file)) in
    let head = subst (λ (l : List ℕ). RoomHeadAs l (Ok c.in_ok-head.head)) bytes c.in_ok-head.ensures in
    let size : length c.in_ok-head.head.bytes ≡ 64 = search rules in
    let whole : 64 ≤ length (g.D.Disk.disk.seen c.args.disk.now) = omega (arith, length-take 64 (g.D.Disk.disk.seen c.args.disk.now), ap length head.1, size) in
    let same = c.cover.ensures.still.seen_same in
    let long = subst (λ (l : List ℕ). 64 ≤ length l) (sym same) whole in
    let reads = c.in_ok-gate.ensures.reads (c.cover.ensures.still.told told) (subst (Shows c.cover.new.self) (sym same) shows) long in
    records_are file c.in_ok-gate.gate c.in_ok-gate.records.items (subst (λ (l : List ℕ). HoldsRecords l c.in_ok-gate.gate c.in_ok-gate.records.items) same reads)
