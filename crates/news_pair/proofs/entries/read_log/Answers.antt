use Rattle.std.proofs.Common.{◌≡◌, None, List, map, sym, subst, ap, ◌∙◌}
use Rattle.std.specs.Prelude.{All}
use Rattle.news_types.specs.Names.{Bytes}
use Rattle.news_io.specs.declared.record.Record.{Record}
use Rattle.news_journal.specs.Opened.{payloads, places}
use Rattle.entry_codec.specs.Spelling.{entry_bytes}
use Rattle.entry_segments.specs.Spelled.{entries_in, IsPayload}
use Rattle.entry_segments.proofs.Spelled.{payloads_are as spelled_again}
use Rattle.news_pair.specs.Packing.{out_of_order, pack_damage, IsPackDamage}
use Rattle.news_pair.proofs.PackLog.{pack_first, pack_rest, pack_later, payloads_are}
use Rattle.news_pair.proofs.entries.read_log.Goals as goal

pub returns-in-Err-clause-judged : goal.returns-in-Err-clause-judged
returns-in-Err-clause-judged g c = λ told.
    let log = g.D.Disk.disk.seen c.args.disk.now in
    subst (IsPackDamage (pack_damage (g.D.Disk.disk.seen c.args.disk.now))) (sym c.met_in_reading.ensures) (pack_first log c.in-Err.fault (c.in-Err.ensures.judged told))

pub returns-in_ok-payloads-in-Ok-check_order-clause-judged : goal.returns-in_ok-payloads-in-Ok-check_order-clause-judged
returns-in_ok-payloads-in-Ok-check_order-clause-judged g c = λ told.
    let r = c.in-Ok.ensures in
    let rs = c.in-Ok.room.records.items in
    pack_rest (g.D.Disk.disk.seen c.args.disk.now) rs (r.judged told) (r.records told)
    ∙ subst (λ (l : List Record). out_of_order 0 (places l) ≡ None) c.deref.ensures.value c.in-Ok-check_order.ensures.judged

pub returns-in_ok-payloads-in-Ok-check_order-clause-entries : goal.returns-in_ok-payloads-in-Ok-check_order-clause-entries
returns-in_ok-payloads-in-Ok-check_order-clause-entries g c = λ told.
    let rs = c.in-Ok.room.records.items in
    let each = subst (λ (l : List Record). All IsPayload (payloads l)) c.deref.ensures.value c.in-Ok-check_order.ensures.each in
    ap (λ (ps : List Bytes). map entry_bytes (entries_in ps)) c.in_ok-payloads-in-Ok-check_order.ensures ∙ spelled_again (payloads rs) each
    ∙ payloads_are (g.D.Disk.disk.seen c.args.disk.now) rs (c.in-Ok.ensures.records told)

pub returns-in-Err-check_order-clause-judged : goal.returns-in-Err-check_order-clause-judged
returns-in-Err-check_order-clause-judged g c = λ told.
    let r = c.in-Ok.ensures in
    let rs = c.in-Ok.room.records.items in
    pack_later (g.D.Disk.disk.seen c.args.disk.now) rs (r.judged told) (r.records told) c.in-Err-check_order.fault
    (subst (λ (l : List Record). IsPackDamage (out_of_order 0 (places l)) c.in-Err-check_order.fault) c.deref.ensures.value c.in-Err-check_order.ensures.judged)
