use Rattle.std.proofs.Common.{◌≡◌, ◌⊎◌, ◌+◌, ◌-◌, ◌<◌, ◌^◌, sym, subst, ◌∙◌, arith, List, ℕ, [], ◌∷◌, ◌++◌, Some, refl}
use Rattle.news_io.specs.Keeper.{payload_of}
use Rattle.news_io.specs.Disk.{DiskGains}
use Rattle.news_journal.specs.Log.{opened}
use Rattle.news_journal.proofs.Time.{elapses_weaker}
use Rattle.news_pair.specs.Pair.{side_head}
use Rattle.news_pair.specs.Stands.{SideStays}
use Rattle.news_pair.proofs.Pairing.{lift_side}
use Rattle.news_pair.proofs.Packed.{has_segments, side_logs, segment_finds, segment_holds, by_head, doubted}
use Rattle.news_pair.proofs.pair.Pair.with_segment.Goals as goal

pub returns-clause-pairs : goal.returns-clause-pairs
returns-clause-pairs g c = λ h pairs some es segment size next.
    let disk = g.D.Disk.disk in
    let self = c.args.self in
    let payload = payload_of c.args.framed.now in
    let sum : c.args.self.packed + c.args.count < 2 ^ 48 = omega arith in
    let has = has_segments self.store (disk.seen self.side) (disk.may_leave self.side) self.end pairs.side_is some in
    let j = c.at_gate-side.ensures in
    let logs = side_logs disk self.log self.side self.store self.base self.packed self.end h pairs has.0 has.1 c.at_gate-side.result j.disk (j.head ∙ c.side_header.ensures) j.gate j.ajar in
    let end : c.size-end.result - 1 ≡ c.write_record.new.self.gate = omega (arith, c.size-end.ensures) in
    segment_holds disk self.log self.side self.store self.base self.packed self.end h pairs has.0 has.1 payload es c.args.count segment size next c.write_record.new.self (c.in_default.ensures.logs has.0 logs) (c.write_record.ensures.head ∙ j.head ∙ c.side_header.ensures) c.in_default.ensures.shut (c.in_default.ensures.durable logs.told) _ _ refl sum end _ c.into_disk-2.ensures

pub returns-clause-crash : goal.returns-clause-crash
returns-clause-crash g c = λ h pairs shut some es segment size next.
    let disk = g.D.Disk.disk in
    let self = c.args.self in
    let payload = payload_of c.args.framed.now in
    let has = has_segments self.store (disk.seen self.side) (disk.may_leave self.side) self.end pairs.side_is some in
    let j = c.at_gate-side.ensures in
    let logs = side_logs disk self.log self.side self.store self.base self.packed self.end h pairs has.0 has.1 c.at_gate-side.result j.disk (j.head ∙ c.side_header.ensures) j.gate j.ajar in
    subst (λ d. SideStays disk self.store h self.log.disk self.side d) (sym c.into_disk-2.ensures)
    (lift_side disk self.store self.log.disk self.side c.write_record.new.self.disk _ _ _ _
    (subst (λ d. DiskGains disk d c.write_record.new.self.disk (λ (f : List ℕ). (opened (side_head self.store) f ≡ Some has.0) ⊎ (opened (side_head self.store) f ≡ Some (has.0 ++ payload ∷ [])))) j.disk
    (elapses_weaker _ _ _ _ _ _ (c.in_default.ensures.crash has.0 logs) (λ f either. by_head _ _ f _ _ (j.head ∙ c.side_header.ensures) either)))
    (segment_finds disk self.log self.side self.store self.base self.packed self.end h pairs has.0 has.1 payload es c.args.count segment size next shut))

pub returns-in-Err-clause-crash_err : goal.returns-in-Err-clause-crash_err
returns-in-Err-clause-crash_err g c = λ h pairs shut some es segment size next.
    let disk = g.D.Disk.disk in
    let self = c.args.self in
    let payload = payload_of c.args.framed.now in
    let has = has_segments self.store (disk.seen self.side) (disk.may_leave self.side) self.end pairs.side_is some in
    let j = c.at_gate-side.ensures in
    let logs = side_logs disk self.log self.side self.store self.base self.packed self.end h pairs has.0 has.1 c.at_gate-side.result j.disk (j.head ∙ c.side_header.ensures) j.gate j.ajar in
    subst (λ d. SideStays disk self.store h self.log.disk self.side d) (sym c.into_disk-in-Err.ensures)
    (lift_side disk self.store self.log.disk self.side c.write_record.new.self.disk _ _ _ _
    (subst (λ d. DiskGains disk d c.write_record.new.self.disk (λ (f : List ℕ). (opened (side_head self.store) f ≡ Some has.0) ⊎ (opened (side_head self.store) f ≡ Some (has.0 ++ payload ∷ [])))) j.disk
    (elapses_weaker _ _ _ _ _ _ (c.in-Err.ensures.crash_err has.0 logs) (λ f leaves. by_head _ _ f _ _ (j.head ∙ c.side_header.ensures) (doubted _ _ _ (c.in-Err.ensures.doubts has.0 logs) _ leaves))))
    (segment_finds disk self.log self.side self.store self.base self.packed self.end h pairs has.0 has.1 payload es c.args.count segment size next shut))
