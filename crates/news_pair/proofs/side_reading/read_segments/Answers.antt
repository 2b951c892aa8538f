use Rattle.std.proofs.Common.{rules, ◌≡◌, ◌≤◌, ℕ, List, Err, sym, ◌∙◌, ap, length, subst, arith, take}
use Rattle.std.proofs.lemmas.Result.{err_from_is_err_and}
use Rattle.news_journal.specs.Opened.{RecordsAs, HoldsRecords}
use Rattle.news_journal.specs.Window.{Shows}
use Rattle.news_pair.specs.Pair.{side_head}
use Rattle.news_pair.specs.Damage.{is_bare, difference}
use Rattle.news_pair.proofs.Rows.{difference_front, no_difference}
use Rattle.news_pair.proofs.WereRead.{record_file, bare_front, bare_is, bare_whole, bare_beside, long_side, head_fault, side_fault, side_whole, file_beside}
use Rattle.news_pair.proofs.side_reading.read_segments.Goals as goal

pub returns-then-is_bare-clause-whole : goal.returns-then-is_bare-clause-whole
returns-then-is_bare-clause-whole g c = λ told.
    let file = g.D.Disk.disk.seen c.args.disk.now in
    let shows = c.in_ok-cover.ensures.shows told (c.new-window.ensures file) in
    let bytes = c.part-bytes.ensures.bytes file shows (c.in_ok-cover.ensures.covers told (c.new-window.ensures file)) in
    bare_whole c.args.store.now file (sym (bare_front file) ∙ ap is_bare (sym bytes) ∙ sym c.is_bare.ensures ∙ c.if-is_bare.true)

pub returns-then-is_bare-clause-reads : goal.returns-then-is_bare-clause-reads
returns-then-is_bare-clause-reads g c = λ told.
    let file = g.D.Disk.disk.seen c.args.disk.now in
    let shows = c.in_ok-cover.ensures.shows told (c.new-window.ensures file) in
    let bytes = c.part-bytes.ensures.bytes file shows (c.in_ok-cover.ensures.covers told (c.new-window.ensures file)) in
    bare_is file (sym (bare_front file) ∙ ap is_bare (sym bytes) ∙ sym c.is_bare.ensures ∙ c.if-is_bare.true)

pub returns-then-is_bare-clause-records : goal.returns-then-is_bare-clause-records
returns-then-is_bare-clause-records g c = λ told.
    let file = g.D.Disk.disk.seen c.args.disk.now in
    let shows = c.in_ok-cover.ensures.shows told (c.new-window.ensures file) in
    let bytes = c.part-bytes.ensures.bytes file shows (c.in_ok-cover.ensures.covers told (c.new-window.ensures file)) in
    bare_beside file (sym (bare_front file) ∙ ap is_bare (sym bytes) ∙ sym c.is_bare.ensures ∙ c.if-is_bare.true)

pub returns-in-Some-clause-damage : goal.returns-in-Some-clause-damage
returns-in-Some-clause-damage g c = λ told.
    let file = g.D.Disk.disk.seen c.args.disk.now in
    let size : length c.side_header.result ≡ 64 = search rules in
    let shows = c.in_ok-cover.ensures.shows told (c.new-window.ensures file) in
    let bytes = c.part-bytes.ensures.bytes file shows (c.in_ok-cover.ensures.covers told (c.new-window.ensures file)) in
    let bare = sym (bare_front file) ∙ ap is_bare (sym bytes) ∙ sym c.is_bare.ensures ∙ c.if-is_bare.false in
    let head_long : length (side_head c.args.store.now) ≤ 65 = omega (arith, ap length (sym c.side_header.ensures), size) in
    let seen = ap (λ (h : List ℕ). difference 0 h c.part-bytes.result.now) c.side_header.ensures ∙ ap (difference 0 (side_head c.args.store.now)) bytes ∙ difference_front 0 65 (side_head c.args.store.now) file head_long in
    head_fault c.args.store.now file (c.in-Some.at, c.in-Some.found) bare (sym seen ∙ sym c.difference.ensures ∙ c.in-Some.is)

pub returns-in_err-gate-clause-damage : goal.returns-in_err-gate-clause-damage
returns-in_err-gate-clause-damage g c = λ told.
    let file = g.D.Disk.disk.seen c.args.disk.now in
    let size : length c.side_header.result ≡ 64 = search rules in
    let shows = c.in_ok-cover.ensures.shows told (c.new-window.ensures file) in
    let bytes = c.part-bytes.ensures.bytes file shows (c.in_ok-cover.ensures.covers told (c.new-window.ensures file)) in
    let bare = sym (bare_front file) ∙ ap is_bare (sym bytes) ∙ sym c.is_bare.ensures ∙ c.if-is_bare.false in
    let head_long : length (side_head c.args.store.now) ≤ 65 = omega (arith, ap length (sym c.side_header.ensures), size) in
    let seen = ap (λ (h : List ℕ). difference 0 h c.part-bytes.result.now) c.side_header.ensures ∙ ap (difference 0 (side_head c.args.store.now)) bytes ∙ difference_front 0 65 (side_head c.args.store.now) file head_long in
    let same = c.cover.ensures.still.seen_same in
    let long = subst (λ (l : List ℕ). 64 ≤ length l) (sym same) (long_side file bare) in
    let reads = c.in_err-gate.ensures.reads (c.cover.ensures.still.told told) (subst (Shows c.cover.new.self) (sym same) shows) long in
    let e = err_from_is_err_and c.from_residual-in_err-gate.result c.from_residual-in_err-gate.ensures.1 in
    rw (e.1, e.2) (side_fault c.args.store.now file _ bare (sym seen ∙ sym c.difference.ensures ∙ c.in_default.is) (subst (λ (l : List ℕ). RecordsAs l (Err c.in_err-gate.field-0.0)) same reads))

pub returns-clause-whole : goal.returns-clause-whole
returns-clause-whole g c = λ told.
    let file = g.D.Disk.disk.seen c.args.disk.now in
    let size : length c.side_header.result ≡ 64 = search rules in
    let shows = c.in_ok-cover.ensures.shows told (c.new-window.ensures file) in
    let bytes = c.part-bytes.ensures.bytes file shows (c.in_ok-cover.ensures.covers told (c.new-window.ensures file)) in
    let bare = sym (bare_front file) ∙ ap is_bare (sym bytes) ∙ sym c.is_bare.ensures ∙ c.if-is_bare.false in
    let head_long : length (side_head c.args.store.now) ≤ 65 = omega (arith, ap length (sym c.side_header.ensures), size) in
    let seen = ap (λ (h : List ℕ). difference 0 h c.part-bytes.result.now) c.side_header.ensures ∙ ap (difference 0 (side_head c.args.store.now)) bytes ∙ difference_front 0 65 (side_head c.args.store.now) file head_long in
    let same = c.cover.ensures.still.seen_same in
    let long = subst (λ (l : List ℕ). 64 ≤ length l) (sym same) (long_side file bare) in
    let reads = c.in_ok-gate.ensures.reads (c.cover.ensures.still.told told) (subst (Shows c.cover.new.self) (sym same) shows) long in
    side_whole c.args.store.now file c.in_ok-gate.gate c.in_ok-gate.records.items bare (sym seen ∙ sym c.difference.ensures ∙ c.in_default.is) (subst (λ (l : List ℕ). HoldsRecords l c.in_ok-gate.gate c.in_ok-gate.records.items) same reads)

pub returns-clause-reads : goal.returns-clause-reads
returns-clause-reads g c = λ told.
    let file = g.D.Disk.disk.seen c.args.disk.now in
    let size : length c.side_header.result ≡ 64 = search rules in
    let shows = c.in_ok-cover.ensures.shows told (c.new-window.ensures file) in
    let bytes = c.part-bytes.ensures.bytes file shows (c.in_ok-cover.ensures.covers told (c.new-window.ensures file)) in
    let bare = sym (bare_front file) ∙ ap is_bare (sym bytes) ∙ sym c.is_bare.ensures ∙ c.if-is_bare.false in
    let head_long : length (side_head c.args.store.now) ≤ 65 = omega (arith, ap length (sym c.side_header.ensures), size) in
    let seen = ap (λ (h : List ℕ). difference 0 h c.part-bytes.result.now) c.side_header.ensures ∙ ap (difference 0 (side_head c.args.store.now)) bytes ∙ difference_front 0 65 (side_head c.args.store.now) file head_long in
    let same = c.cover.ensures.still.seen_same in
    let long = subst (λ (l : List ℕ). 64 ≤ length l) (sym same) (long_side file bare) in
    let reads = c.in_ok-gate.ensures.reads (c.cover.ensures.still.told told) (subst (Shows c.cover.new.self) (sym same) shows) long in
    let none = sym seen ∙ sym c.difference.ensures ∙ c.in_default.is in
    let sixty_four : length (side_head c.args.store.now) ≡ 64 = ap length (sym c.side_header.ensures) ∙ size in
    let head = ap (λ (n : ℕ). take n file) (sym sixty_four) ∙ no_difference 0 (side_head c.args.store.now) file none in
    record_file _ _ _ _ head (subst (λ (l : List ℕ). HoldsRecords l c.in_ok-gate.gate c.in_ok-gate.records.items) same reads)

pub returns-clause-records : goal.returns-clause-records
returns-clause-records g c = λ told.
    let file = g.D.Disk.disk.seen c.args.disk.now in
    let shows = c.in_ok-cover.ensures.shows told (c.new-window.ensures file) in
    let bytes = c.part-bytes.ensures.bytes file shows (c.in_ok-cover.ensures.covers told (c.new-window.ensures file)) in
    let bare = sym (bare_front file) ∙ ap is_bare (sym bytes) ∙ sym c.is_bare.ensures ∙ c.if-is_bare.false in
    let same = c.cover.ensures.still.seen_same in
    let long = subst (λ (l : List ℕ). 64 ≤ length l) (sym same) (long_side file bare) in
    let reads = c.in_ok-gate.ensures.reads (c.cover.ensures.still.told told) (subst (Shows c.cover.new.self) (sym same) shows) long in
    file_beside file c.in_ok-gate.gate c.in_ok-gate.records.items bare (subst (λ (l : List ℕ). HoldsRecords l c.in_ok-gate.gate c.in_ok-gate.records.items) same reads)
