use Rattle.std.proofs.Common.{◌∷◌, ◌++◌, sym, subst, ◌∙◌}
use Rattle.news_journal.specs.Stands.{IsShut}
use Rattle.news_journal.specs.Log.{room_head, records}
use Rattle.news_pair.specs.Pair.{six}
use Rattle.news_pair.specs.Stands.{LogStays}
use Rattle.news_pair.specs.Law.{length-six}
use Rattle.news_pair.proofs.Pairing.{lift_pair}
use Rattle.news_pair.proofs.Packed.{has_first, empty_finds, empty_holds}
use Rattle.news_pair.proofs.pair.Pair.emptied.Goals as goal

pub returns-clause-pairs : goal.returns-clause-pairs
returns-clause-pairs g c = λ h pairs shut all some.
    let disk = g.D.Disk.disk in
    let self = c.args.self in
    let f = has_first disk self.log self.side self.store self.base self.packed self.end h pairs shut some in
    let same = c.into_disk-log.ensures in
    let told = subst disk.tells (sym same) pairs.log_is.told in
    let head = c.with_base-head.ensures pairs.head.edition (six self.base) self.store (length-six self.base) (c.head.ensures ∙ pairs.head.is) in
    let shut' = subst (λ d. IsShut (room_head pairs.head.edition (six self.base) self.store ++ records (f.first ∷ f.others)) (disk.seen d) (disk.may_leave d)) (sym same) f.shut in
    let is = c.in_default.ensures.seen told pairs.head.edition (six self.base) self.store f.first f.others (length-six self.base) pairs.head.store_is shut' in
    let j = c.at_gate.ensures in
    empty_holds disk self.log self.side self.store self.base self.packed self.end h pairs all some c.at_gate.result c.empty_log.new.disk is.0
    j.disk (j.head ∙ head) j.gate j.ajar (c.empty_log.ensures.told told) is.1 (c.in_default.ensures.durable told)

pub returns-clause-crash : goal.returns-clause-crash
returns-clause-crash g c = λ h pairs shut all some.
    let disk = g.D.Disk.disk in
    let self = c.args.self in
    let f = has_first disk self.log self.side self.store self.base self.packed self.end h pairs shut some in
    let same = c.into_disk-log.ensures in
    let told = subst disk.tells (sym same) pairs.log_is.told in
    let shut' = subst (λ d. IsShut (room_head pairs.head.edition (six self.base) self.store ++ records (f.first ∷ f.others)) (disk.seen d) (disk.may_leave d)) (sym same) f.shut in
    subst (λ d. LogStays disk self.store h self.side self.log.disk d) (sym c.at_gate.ensures.disk)
    (subst (λ d. LogStays disk self.store h self.side d c.empty_log.new.disk) same
    (lift_pair disk self.store c.into_disk-log.result c.empty_log.new.disk self.side _ _ _ _
    (c.empty_log.ensures.crash told pairs.head.edition (six self.base) self.store f.first f.others pairs.head.is_edition (length-six self.base) pairs.head.store_is f.fit f.small shut')
    (empty_finds disk self.log self.side self.store self.base self.packed self.end h pairs all some (f.first ∷ f.others) f.are)))

pub returns-in-Err-clause-crash_err : goal.returns-in-Err-clause-crash_err
returns-in-Err-clause-crash_err g c = λ h pairs shut all some.
    let disk = g.D.Disk.disk in
    let self = c.args.self in
    let f = has_first disk self.log self.side self.store self.base self.packed self.end h pairs shut some in
    let same = c.into_disk-log.ensures in
    let told = subst disk.tells (sym same) pairs.log_is.told in
    let shut' = subst (λ d. IsShut (room_head pairs.head.edition (six self.base) self.store ++ records (f.first ∷ f.others)) (disk.seen d) (disk.may_leave d)) (sym same) f.shut in
    subst (λ d. LogStays disk self.store h self.side d c.empty_log.new.disk) same
    (lift_pair disk self.store c.into_disk-log.result c.empty_log.new.disk self.side _ _ _ _
    (c.empty_log.ensures.crash told pairs.head.edition (six self.base) self.store f.first f.others pairs.head.is_edition (length-six self.base) pairs.head.store_is f.fit f.small shut')
    (empty_finds disk self.log self.side self.store self.base self.packed self.end h pairs all some (f.first ∷ f.others) f.are))
