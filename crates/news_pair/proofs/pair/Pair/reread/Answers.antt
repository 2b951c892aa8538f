use Rattle.std.proofs.Common.{◌≡◌, ◌∙◌, None, ap, sym, subst, refl, arith}
use Rattle.news_journal.specs.Opened.{Still}
use Rattle.news_pair.specs.Damage.{payloads_in, records_in}
use Rattle.news_pair.specs.Packing.{pack_damage, IsPackDamage}
use Rattle.news_pair.specs.Stands.{LogStays}
use Rattle.news_pair.proofs.Chains.{log_stays}
use Rattle.news_pair.proofs.Reread.{log_payloads, reread_stays, list_same, reread_holds}
use Rattle.news_pair.proofs.pair.Pair.reread.Goals as goal

pub returns-in-Ok-clause-pairs : goal.returns-in-Ok-clause-pairs
returns-in-Ok-clause-pairs g c = λ h pairs.
    let disk = g.D.Disk.disk in
    let self = c.args.self in
    let j = c.at_gate.ensures in
    let still = subst (λ d. Still g.D.Disk.disk d c.read_log.new.disk) c.into_disk-log.ensures c.read_log.ensures.still in
    reread_holds disk self.log self.side self.store self.base self.packed self.end h pairs c.requires.shut c.read_log.new.disk still c.at_gate.result j.disk (j.head ∙ c.head-head.ensures) (j.gate ∙ omega (arith, c.size-gate.ensures)) j.ajar

pub returns-in-Ok-clause-entries : goal.returns-in-Ok-clause-entries
returns-in-Ok-clause-entries g c = λ h pairs.
    let disk = g.D.Disk.disk in
    let self = c.args.self in
    let j = c.at_gate.ensures in
    let still = subst (λ d. Still g.D.Disk.disk d c.read_log.new.disk) c.into_disk-log.ensures c.read_log.ensures.still in
    let told = subst disk.tells (sym c.into_disk-log.ensures) pairs.log_is.told in
    c.in-Ok.ensures.entries told
    ∙ ap (λ d. payloads_in (records_in (g.D.Disk.disk.seen d))) c.into_disk-log.ensures
    ∙ log_payloads disk self.log self.side self.store self.base self.packed self.end h pairs c.requires.shut
    ∙ sym (list_same disk self.log self.side self.store self.base self.packed self.end h pairs c.requires.shut c.read_log.new.disk still c.at_gate.result j.disk (j.head ∙ c.head-head.ensures) (j.gate ∙ omega (arith, c.size-gate.ensures)) j.ajar)

pub returns-in-Ok-clause-whole : goal.returns-in-Ok-clause-whole
returns-in-Ok-clause-whole g c = λ h pairs.
    let told = subst g.D.Disk.disk.tells (sym c.into_disk-log.ensures) pairs.log_is.told in
    subst (λ d. pack_damage (g.D.Disk.disk.seen d) ≡ None) c.into_disk-log.ensures (c.in-Ok.ensures.judged told)

pub returns-in-Err-clause-damage : goal.returns-in-Err-clause-damage
returns-in-Err-clause-damage g c = λ h pairs.
    let told = subst g.D.Disk.disk.tells (sym c.into_disk-log.ensures) pairs.log_is.told in
    subst (λ d. IsPackDamage (pack_damage (g.D.Disk.disk.seen d)) c.in-Err.fault) c.into_disk-log.ensures (c.in-Err.ensures.judged told)

pub returns-in-Ok-clause-crash : goal.returns-in-Ok-clause-crash
returns-in-Ok-clause-crash g c = λ h pairs.
    let disk = g.D.Disk.disk in
    let self = c.args.self in
    let still = subst (λ d. Still g.D.Disk.disk d c.read_log.new.disk) c.into_disk-log.ensures c.read_log.ensures.still in
    log_stays disk self.store h _ _ _ _ refl
    (subst (λ d. LogStays g.D.Disk.disk c.args.self.store h c.args.self.side c.args.self.log.disk d) (sym c.at_gate.ensures.disk)
    (reread_stays disk self.log self.side self.store self.base self.packed self.end h pairs c.requires.shut c.read_log.new.disk still))

pub returns-in-Err-clause-crash_err : goal.returns-in-Err-clause-crash_err
returns-in-Err-clause-crash_err g c = λ h pairs.
    let disk = g.D.Disk.disk in
    let self = c.args.self in
    let still = subst (λ d. Still g.D.Disk.disk d c.read_log.new.disk) c.into_disk-log.ensures c.read_log.ensures.still in
    log_stays disk self.store h _ _ _ _ refl
    (reread_stays disk self.log self.side self.store self.base self.packed self.end h pairs c.requires.shut c.read_log.new.disk still)
