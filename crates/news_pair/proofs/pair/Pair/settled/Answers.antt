use Rattle.std.proofs.Common.{sym, subst, refl, List, ℕ}
use Rattle.news_types.specs.Names.{Bytes}
use Rattle.news_io.specs.Disk.{DiskGains}
use Rattle.news_io.specs.declared.record.Record.{Record}
use Rattle.news_journal.specs.Opened.{payloads}
use Rattle.news_journal.proofs.Time.{elapses_weaker}
use Rattle.news_pair.specs.Pair.{PairOpens}
use Rattle.news_pair.specs.Stands.{HoldsList}
use Rattle.news_pair.proofs.WereRead.{loaded_opens, loaded_holds}
use Rattle.news_pair.proofs.pair.Pair.settled.Goals as goal

pub returns-in-Err-clause-crash_err : goal.returns-in-Err-clause-crash_err
returns-in-Err-clause-crash_err g c = λ told told' only only' l.
    let disk = g.D.Disk.disk in
    let loaded = c.args.loaded in
    elapses_weaker _ _ _ _ _ _ (c.put_base.ensures.crash told only loaded.gate l.tail l.empty_is l.log_is)
    (λ f made s left. loaded_opens loaded (disk.seen c.args.log) (disk.seen c.args.side) l f s (only' s left) made)

pub returns-in-Ok-clause-pairs : goal.returns-in-Ok-clause-pairs
returns-in-Ok-clause-pairs g c = λ told told' only only' l.
    let disk = g.D.Disk.disk in
    let loaded = c.args.loaded in
    let put = c.in-Ok.ensures in
    let j = c.at_gate.ensures in
    let file = put.file told loaded.gate l.tail l.empty_is l.log_is in
    subst (λ (rs : List Record). HoldsList disk c.at_gate.result c.args.side c.in-Ok.head.store c.in-Ok.head.base loaded.gathered.packed loaded.gathered.end (payloads rs)) (sym c.of.ensures)
    (subst (λ (store : Bytes). HoldsList disk c.at_gate.result c.args.side store c.in-Ok.head.base loaded.gathered.packed loaded.gathered.end (payloads loaded.gathered.records.items)) (sym put.store)
    (loaded_holds loaded (disk.seen c.args.log) (disk.seen c.args.side) l disk c.at_gate.result c.put_base.new.log c.args.side c.in-Ok.head.bytes c.in-Ok.head.base put.head j.disk j.head j.gate j.ajar
    (c.put_base.ensures.told told) told' refl file (put.durable told only) only' put.full put.empty))

pub returns-in-Ok-clause-crash : goal.returns-in-Ok-clause-crash
returns-in-Ok-clause-crash g c = λ told told' only only' l.
    let disk = g.D.Disk.disk in
    let loaded = c.args.loaded in
    subst (λ d. DiskGains disk c.args.log d (λ (f : List ℕ). (s : List ℕ) → disk.may_leave c.args.side s → PairOpens loaded.head.store f s (payloads loaded.gathered.records.items))) (sym c.at_gate.ensures.disk)
    (elapses_weaker _ _ _ _ _ _ (c.put_base.ensures.crash told only loaded.gate l.tail l.empty_is l.log_is)
    (λ f made s left. loaded_opens loaded (disk.seen c.args.log) (disk.seen c.args.side) l f s (only' s left) made))
