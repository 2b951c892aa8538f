use Rattle.std.proofs.Common.{◌<◌, ◌∙◌, arith, ap, sym, subst, length, List}
use Rattle.std.proofs.lemmas.Result.{err_from_is_err_and}
use Rattle.std.specs.Prelude.{slice_get}
use Rattle.news_types.specs.Names.{Bytes}
use Rattle.news_io.specs.declared.record.Record.{Record}
use Rattle.news_journal.specs.Opened.{payloads, places}
use Rattle.news_pair.specs.Pair.{Joined}
use Rattle.news_pair.specs.Opened.{places_of}
use Rattle.news_pair.proofs.WereRead.{side_stands, side_base, side_packed, side_small, store_read, base_read, byte_read, pair_first, pair_second, pair_third, pair_whole}
use Rattle.news_pair.proofs.Placed.{placed_pair}
use Rattle.news_pair.proofs.reading.read_both.Goals as goal

pub returns-in_err-head-clause-judged : goal.returns-in_err-head-clause-judged
returns-in_err-head-clause-judged g c = λ told told'.
    let e = err_from_is_err_and c.from_residual.result c.from_residual.ensures.1 in
    rw (e.1, e.2) (pair_first (g.D.Disk.disk.seen c.args.log.now) (g.D.Disk.disk.seen c.args.side.now) _ (c.in_err-head.ensures.judged told))

pub returns-in_err-found-clause-judged : goal.returns-in_err-found-clause-judged
returns-in_err-found-clause-judged g c = λ told told'.
    let room = c.in_ok-head.field-0 in
    let r = c.in_ok-head.ensures in
    let e = err_from_is_err_and c.from_residual-in_err-found.result c.from_residual-in_err-found.ensures.1 in
    rw (e.1, e.2)
    (pair_second (g.D.Disk.disk.seen c.args.log.now) (g.D.Disk.disk.seen c.args.side.now) room.head.store _
    (store_read room.head.bytes room.head.store room.head.base room.gate (payloads room.records.items) (g.D.Disk.disk.seen c.args.log.now) r.head (r.reads told)) (r.judged told) (c.in_err-found.ensures.judged told'))

pub returns-in_err-gathered-clause-judged : goal.returns-in_err-gathered-clause-judged
returns-in_err-gathered-clause-judged g c = λ told told'.
    let room = c.in_ok-head.field-0 in
    let r = c.in_ok-head.ensures in
    let s = c.in_ok-found.ensures in
    let log = g.D.Disk.disk.seen c.args.log.now in
    let f = r.reads told in
    let e = err_from_is_err_and c.from_residual-in_err-gathered.result c.from_residual-in_err-gathered.ensures.1 in
    rw (e.1, e.2)
    (pair_third log (g.D.Disk.disk.seen c.args.side.now) room.head.store room.head.base (slice_get room.head.bytes 10) (places room.records.items) (places_of c.in_ok-found.found)
    (store_read room.head.bytes room.head.store room.head.base room.gate (payloads room.records.items) log r.head f) (base_read room.head.bytes room.head.store room.head.base room.gate (payloads room.records.items) log r.head f)
    (byte_read room.head.bytes room.head.store room.head.base room.gate (payloads room.records.items) log r.head f) (r.records told) (s.records told') _ (r.judged told) (s.judged told') c.in_err-gathered.ensures.judged)

pub returns-clause-judged : goal.returns-clause-judged
returns-clause-judged g c = λ told told'.
    let room = c.in_ok-head.field-0 in
    let r = c.in_ok-head.ensures in
    let s = c.in_ok-found.ensures in
    let log = g.D.Disk.disk.seen c.args.log.now in
    let f = r.reads told in
    pair_whole log (g.D.Disk.disk.seen c.args.side.now) room.head.store room.head.base (slice_get room.head.bytes 10) (places room.records.items) (places_of c.in_ok-found.found)
    (store_read room.head.bytes room.head.store room.head.base room.gate (payloads room.records.items) log r.head f) (base_read room.head.bytes room.head.store room.head.base room.gate (payloads room.records.items) log r.head f)
    (byte_read room.head.bytes room.head.store room.head.base room.gate (payloads room.records.items) log r.head f) (r.records told) (s.records told') (r.judged told) (s.judged told') c.in_ok-gathered.ensures.judged

pub returns-clause-loaded : goal.returns-clause-loaded
returns-clause-loaded g c = λ told told'.
    let room = c.in_ok-head.field-0 in
    let r = c.in_ok-head.ensures in
    let s = c.in_ok-found.ensures in
    let found = c.in_ok-found.found in
    let all = c.in_ok-gathered.ensures.gathered in
    let tail = payloads room.records.items in
    let beside = s.reads told' in
    let packed = side_packed room.head.store (g.D.Disk.disk.seen c.args.side.now) found r.head.store_is beside s.small in
    record {
      room = r.head;
      tail = tail;
      log_is = r.reads told;
      empty_is = λ e. ap (λ (l : List Record). payloads l) (sym c.deref.ensures.value) ∙ c.has_none-empty.ensures.none e;
      full_is = λ e. subst (λ (l : List Record). 0 < length (payloads l)) c.deref.ensures.value (c.has_none-empty.ensures.some e);
      stands = side_stands room.head.store (g.D.Disk.disk.seen c.args.side.now) found c.in_ok-gathered.gathered.end beside all.are all.end_is s.small;
      bare = side_base found room.head.base c.in_ok-gathered.gathered.end all.bare all.end_is s.some;
      packed_is = all.packed_is ∙ ap length (sym packed);
      joined = subst (λ (l : List Bytes). Joined room.head.base l tail (payloads c.in_ok-gathered.gathered.records.items)) (sym packed) all.joined;
    }

pub gather-requires-clause-size : goal.gather-requires-clause-size
gather-requires-clause-size g c = side_small c.in_ok-found.found c.in_ok-found.ensures.place c.in_ok-found.ensures.small

pub gather-requires-clause-size_log : goal.gather-requires-clause-size_log
gather-requires-clause-size_log g c = omega (arith, c.in_ok-head.ensures.place, c.in_ok-head.ensures.small)

pub returns-clause-placed : goal.returns-clause-placed
returns-clause-placed g c = λ told told'.
    let room = c.in_ok-head.field-0 in
    let r = c.in_ok-head.ensures in
    let log = g.D.Disk.disk.seen c.args.log.now in
    placed_pair log (g.D.Disk.disk.seen c.args.side.now) room.head.base (places room.records.items) (places_of c.in_ok-found.found) c.in_ok-gathered.gathered.records.items
    (base_read room.head.bytes room.head.store room.head.base room.gate (payloads room.records.items) log r.head (r.reads told))
    (r.records told) (c.in_ok-found.ensures.records told') (c.in_ok-gathered.ensures.placed r.of_log)
