use Rattle.std.proofs.Common.{inl, inr, sym, subst, List}
use Rattle.news_types.specs.Names.{Bytes}
use Rattle.news_journal.specs.Opened.{payloads}
use Rattle.news_pair.specs.Stands.{HoldsList}
use Rattle.news_pair.specs.Law.{list_is}
use Rattle.news_journal.proofs.Time.{elapses_weaker, elapses_then}
use Rattle.news_pair.proofs.WereRead.{loaded_is, loaded_along, opens_by, opens_still}
use Rattle.news_pair.proofs.pair.Pair.open.Goals as goal

pub returns-in-Ok-settled-clause-opens : goal.returns-in-Ok-settled-clause-opens
returns-in-Ok-settled-clause-opens g c = λ told told'.
    let l = c.in-Ok.ensures.loaded told told' in
    opens_by _ _ _ c.in-Ok.loaded.head.store _ _ c.in-Ok-settled.ensures.header c.in-Ok-settled.ensures.records (loaded_is c.in-Ok.loaded (g.D.Disk.disk.seen c.args.log) (g.D.Disk.disk.seen c.args.side) l)

pub returns-in-Ok-settled-clause-tells : goal.returns-in-Ok-settled-clause-tells
returns-in-Ok-settled-clause-tells g c = λ told told'.
    let still = c.load_both.ensures.still told in
    let still' = c.load_both.ensures.still_side told' in
    let l = c.in-Ok.ensures.loaded told told' in
    let l1 = loaded_along c.in-Ok.loaded (g.D.Disk.disk.seen c.args.log) (g.D.Disk.disk.seen c.load_both.new.log) (g.D.Disk.disk.seen c.args.side) (g.D.Disk.disk.seen c.load_both.new.side) still.seen_same still'.seen_same l in
    let only = c.in-Ok.ensures.durable told in
    let only' = c.in-Ok.ensures.durable_side told' in
    let p = c.in-Ok-settled.opened.pair in
    let pairs = c.in-Ok-settled.ensures.pairs (still.told told) (still'.told told') only only' l1 in
    subst (λ (h : List Bytes). HoldsList g.D.Disk.disk p.log p.side p.store p.base p.packed p.end h) (sym (list_is g.D.Disk.disk p (payloads c.in-Ok-settled.opened.records) pairs)) pairs

pub returns-in-Ok-settled-clause-list : goal.returns-in-Ok-settled-clause-list
returns-in-Ok-settled-clause-list g c = λ told told'.
    let still = c.load_both.ensures.still told in
    let still' = c.load_both.ensures.still_side told' in
    let l = c.in-Ok.ensures.loaded told told' in
    let l1 = loaded_along c.in-Ok.loaded (g.D.Disk.disk.seen c.args.log) (g.D.Disk.disk.seen c.load_both.new.log) (g.D.Disk.disk.seen c.args.side) (g.D.Disk.disk.seen c.load_both.new.side) still.seen_same still'.seen_same l in
    let only = c.in-Ok.ensures.durable told in
    let only' = c.in-Ok.ensures.durable_side told' in
    list_is g.D.Disk.disk c.in-Ok-settled.opened.pair (payloads c.in-Ok-settled.opened.records) (c.in-Ok-settled.ensures.pairs (still.told told) (still'.told told') only only' l1)

pub returns-in-Ok-settled-clause-crash : goal.returns-in-Ok-settled-clause-crash
returns-in-Ok-settled-clause-crash g c = λ told told'.
    let still = c.load_both.ensures.still told in
    let still' = c.load_both.ensures.still_side told' in
    let l = c.in-Ok.ensures.loaded told told' in
    let l1 = loaded_along c.in-Ok.loaded (g.D.Disk.disk.seen c.args.log) (g.D.Disk.disk.seen c.load_both.new.log) (g.D.Disk.disk.seen c.args.side) (g.D.Disk.disk.seen c.load_both.new.side) still.seen_same still'.seen_same l in
    let only = c.in-Ok.ensures.durable told in
    let only' = c.in-Ok.ensures.durable_side told' in
    elapses_then _ _ _ _ _ _ _
    (elapses_weaker _ _ _ _ _ _ still.time (λ f left. inl left))
    (elapses_weaker _ _ _ _ _ _ (c.in-Ok-settled.ensures.crash (still.told told) (still'.told told') only only' l1)
    (λ f opens. inr (λ s left store long h o. opens_still c.in-Ok.loaded.head.store store (g.D.Disk.disk.seen c.args.log) (g.D.Disk.disk.seen c.args.side) f s (payloads c.in-Ok.loaded.gathered.records.items) h l.room.store_is long
    (loaded_is c.in-Ok.loaded (g.D.Disk.disk.seen c.args.log) (g.D.Disk.disk.seen c.args.side) l) o (opens s (subst (λ d. g.D.Disk.disk.may_leave d s) c.in-Ok-settled.ensures.side left)))))

pub returns-in-Err-settled-clause-crash_err : goal.returns-in-Err-settled-clause-crash_err
returns-in-Err-settled-clause-crash_err g c = λ told told'.
    let still = c.load_both.ensures.still told in
    let still' = c.load_both.ensures.still_side told' in
    let l = c.in-Ok.ensures.loaded told told' in
    let l1 = loaded_along c.in-Ok.loaded (g.D.Disk.disk.seen c.args.log) (g.D.Disk.disk.seen c.load_both.new.log) (g.D.Disk.disk.seen c.args.side) (g.D.Disk.disk.seen c.load_both.new.side) still.seen_same still'.seen_same l in
    let only = c.in-Ok.ensures.durable told in
    let only' = c.in-Ok.ensures.durable_side told' in
    elapses_then _ _ _ _ _ _ _
    (elapses_weaker _ _ _ _ _ _ still.time (λ f left. inl left))
    (elapses_weaker _ _ _ _ _ _ (c.in-Err-settled.ensures.crash_err (still.told told) (still'.told told') only only' l1)
    (λ f opens. inr (λ s left store long h o. opens_still c.in-Ok.loaded.head.store store (g.D.Disk.disk.seen c.args.log) (g.D.Disk.disk.seen c.args.side) f s (payloads c.in-Ok.loaded.gathered.records.items) h l.room.store_is long
    (loaded_is c.in-Ok.loaded (g.D.Disk.disk.seen c.args.log) (g.D.Disk.disk.seen c.args.side) l) o (opens s (subst (λ d. g.D.Disk.disk.may_leave d s) c.in-Err-settled.ensures.side_err left)))))
