use Rattle.std.proofs.Common.{◌<◌, ◌∙◌, ap, sym, subst, arith, length, drop, map}
use Rattle.std.proofs.lemmas.List.{length-map}
use Rattle.entry_codec.specs.Spelling.{entry_bytes}
use Rattle.news_journal.specs.Stands.{list_of}
use Rattle.entry_segments.specs.Spelled.{entry_in, entries_in}
use Rattle.entry_segments.proofs.Spelled.{entries_are}
use Rattle.news_pair.proofs.Chains.{stays_then, log_stays}
use Rattle.news_pair.proofs.Filled.{gate_some, lacking, all_lacking, entries_full, entries_filled, disk_not_full}
use Rattle.news_pair.proofs.pair.Pair.packed_with.Goals as goal

pub returns-in-Err-clause-full : goal.returns-in-Err-clause-full
returns-in-Err-clause-full g c = λ h pairs shut are. disk_not_full _ _ _ c.in-Err.failed.2 c.in-Err.ensures.disk_fault

pub returns-in-Err-filled-clause-crash_err : goal.returns-in-Err-filled-clause-crash_err
returns-in-Err-filled-clause-crash_err g c = λ h pairs shut are.
    let disk = g.D.Disk.disk in
    let self = c.args.self in
    let e = c.in-Ok.ensures in
    let p = c.in-Ok.pair in
    let lacks = lacking disk self.log self.side self.store self.base self.packed self.end h pairs (entries_in c.args.payloads.now) c.saturating_sub-both.result are (omega (arith, c.saturating_sub-both.ensures)) in
    let left = ap (map entry_bytes) c.behind.ensures.behind ∙ lacks ∙ ap (λ n. drop n h) (sym e.packed) in
    stays_then disk self.store h p.store _ _ _ _ _ _ e.store (e.crash h pairs shut)
    (c.in-Err-filled.ensures.crash_err h (e.pairs h pairs) (ap (λ j. j.ajar) e.log ∙ shut) (omega (arith, gate_some self.end, e.end)) left)

pub returns-in-Err-filled-clause-full : goal.returns-in-Err-filled-clause-full
returns-in-Err-filled-clause-full g c = λ h pairs shut are.
    let disk = g.D.Disk.disk in
    let self = c.args.self in
    let e = c.in-Ok.ensures in
    let lacks = lacking disk self.log self.side self.store self.base self.packed self.end h pairs (entries_in c.args.payloads.now) c.saturating_sub-both.result are (omega (arith, c.saturating_sub-both.ensures)) in
    entries_full _ c.in-Ok.pair.end _ c.in-Ok.pair.packed (entries_in c.behind.result.now) _ c.in-Err-filled.failed.2 e.end e.packed
    (entries_are c.behind.result.now (c.behind.ensures.each c.requires.each))
    (ap (map entry_bytes) c.behind.ensures.behind ∙ lacks) c.in-Err-filled.ensures.full

pub returns-in-Ok-emptied-clause-filled : goal.returns-in-Ok-emptied-clause-filled
returns-in-Ok-emptied-clause-filled g c = λ h pairs shut are.
    let disk = g.D.Disk.disk in
    let self = c.args.self in
    let e = c.in-Ok.ensures in
    let lacks = lacking disk self.log self.side self.store self.base self.packed self.end h pairs (entries_in c.args.payloads.now) c.saturating_sub-both.result are (omega (arith, c.saturating_sub-both.ensures)) in
    entries_filled _ c.in-Ok.pair.end _ c.in-Ok.pair.packed (entries_in c.behind.result.now) _ _ e.end e.packed
    (entries_are c.behind.result.now (c.behind.ensures.each c.requires.each))
    (ap (map entry_bytes) c.behind.ensures.behind ∙ lacks) c.in-Ok-filled.ensures.fills

pub returns-in-Ok-emptied-clause-pairs : goal.returns-in-Ok-emptied-clause-pairs
returns-in-Ok-emptied-clause-pairs g c = λ h pairs shut are.
    let disk = g.D.Disk.disk in
    let self = c.args.self in
    let e = c.in-Ok.ensures in
    let f = c.in-Ok-filled.ensures in
    let lacks = lacking disk self.log self.side self.store self.base self.packed self.end h pairs (entries_in c.args.payloads.now) c.saturating_sub-both.result are (omega (arith, c.saturating_sub-both.ensures)) in
    let left = ap (map entry_bytes) c.behind.ensures.behind ∙ lacks ∙ ap (λ n. drop n h) (sym e.packed) in
    let all = all_lacking disk self.log self.side self.store self.base self.packed self.end h pairs (drop c.saturating_sub-both.result (entries_in c.args.payloads.now)) lacks in
    let log = f.log ∙ e.log in
    c.in-Ok-emptied.ensures.pairs h (f.pairs h (e.pairs h pairs) (omega (arith, gate_some self.end, e.end)) left) (ap (λ j. j.ajar) log ∙ shut)
    (omega (arith, f.packed, e.packed, ap length c.behind.ensures.behind, length-map c.behind.result.now entry_in, all))
    (subst (λ j. 0 < length (list_of g.D.Disk.disk j)) (sym log) (omega (arith, ap length are, length-map (entries_in c.args.payloads.now) entry_bytes, length-map c.args.payloads.now entry_in, c.requires.some)))

pub returns-in-Ok-emptied-clause-packed : goal.returns-in-Ok-emptied-clause-packed
returns-in-Ok-emptied-clause-packed g c = λ h pairs shut are.
    let disk = g.D.Disk.disk in
    let self = c.args.self in
    let e = c.in-Ok.ensures in
    let f = c.in-Ok-filled.ensures in
    let m = c.in-Ok-emptied.ensures in
    let lacks = lacking disk self.log self.side self.store self.base self.packed self.end h pairs (entries_in c.args.payloads.now) c.saturating_sub-both.result are (omega (arith, c.saturating_sub-both.ensures)) in
    let all = all_lacking disk self.log self.side self.store self.base self.packed self.end h pairs (drop c.saturating_sub-both.result (entries_in c.args.payloads.now)) lacks in
    (omega (arith, m.packed, f.packed, e.packed, ap length c.behind.ensures.behind, length-map c.behind.result.now entry_in, all), m.base ∙ sym m.packed)

pub returns-in-Ok-emptied-clause-crash : goal.returns-in-Ok-emptied-clause-crash
returns-in-Ok-emptied-clause-crash g c = λ h pairs shut are.
    let disk = g.D.Disk.disk in
    let self = c.args.self in
    let e = c.in-Ok.ensures in
    let f = c.in-Ok-filled.ensures in
    let m = c.in-Ok-emptied.ensures in
    let p = c.in-Ok.pair in
    let q = c.in-Ok-filled.pair in
    let lacks = lacking disk self.log self.side self.store self.base self.packed self.end h pairs (entries_in c.args.payloads.now) c.saturating_sub-both.result are (omega (arith, c.saturating_sub-both.ensures)) in
    let left = ap (map entry_bytes) c.behind.ensures.behind ∙ lacks ∙ ap (λ n. drop n h) (sym e.packed) in
    let all = all_lacking disk self.log self.side self.store self.base self.packed self.end h pairs (drop c.saturating_sub-both.result (entries_in c.args.payloads.now)) lacks in
    let log = f.log ∙ e.log in
    let gate : 0 < c.in-Ok.pair.end = omega (arith, gate_some self.end, e.end) in
    stays_then disk self.store h q.store _ _ _ _ _ _ (f.store ∙ e.store)
    (stays_then disk self.store h p.store _ _ _ _ _ _ e.store (e.crash h pairs shut) (f.crash h (e.pairs h pairs) (ap (λ j. j.ajar) e.log ∙ shut) gate left))
    (log_stays disk q.store h _ _ _ _ m.side
    (m.crash h (f.pairs h (e.pairs h pairs) gate left) (ap (λ j. j.ajar) log ∙ shut) (omega (arith, f.packed, e.packed, ap length c.behind.ensures.behind, length-map c.behind.result.now entry_in, all))
    (subst (λ j. 0 < length (list_of g.D.Disk.disk j)) (sym log) (omega (arith, ap length are, length-map (entries_in c.args.payloads.now) entry_bytes, length-map c.args.payloads.now entry_in, c.requires.some)))))

pub returns-in-Err-emptied-clause-crash_err : goal.returns-in-Err-emptied-clause-crash_err
returns-in-Err-emptied-clause-crash_err g c = λ h pairs shut are.
    let disk = g.D.Disk.disk in
    let self = c.args.self in
    let e = c.in-Ok.ensures in
    let f = c.in-Ok-filled.ensures in
    let m = c.in-Err-emptied.ensures in
    let p = c.in-Ok.pair in
    let q = c.in-Ok-filled.pair in
    let lacks = lacking disk self.log self.side self.store self.base self.packed self.end h pairs (entries_in c.args.payloads.now) c.saturating_sub-both.result are (omega (arith, c.saturating_sub-both.ensures)) in
    let left = ap (map entry_bytes) c.behind.ensures.behind ∙ lacks ∙ ap (λ n. drop n h) (sym e.packed) in
    let all = all_lacking disk self.log self.side self.store self.base self.packed self.end h pairs (drop c.saturating_sub-both.result (entries_in c.args.payloads.now)) lacks in
    let log = f.log ∙ e.log in
    let gate : 0 < c.in-Ok.pair.end = omega (arith, gate_some self.end, e.end) in
    stays_then disk self.store h q.store _ _ _ _ _ _ (f.store ∙ e.store)
    (stays_then disk self.store h p.store _ _ _ _ _ _ e.store (e.crash h pairs shut) (f.crash h (e.pairs h pairs) (ap (λ j. j.ajar) e.log ∙ shut) gate left))
    (log_stays disk q.store h _ _ _ _ m.side_err
    (m.crash_err h (f.pairs h (e.pairs h pairs) gate left) (ap (λ j. j.ajar) log ∙ shut) (omega (arith, f.packed, e.packed, ap length c.behind.ensures.behind, length-map c.behind.result.now entry_in, all))
    (subst (λ j. 0 < length (list_of g.D.Disk.disk j)) (sym log) (omega (arith, ap length are, length-map (entries_in c.args.payloads.now) entry_bytes, length-map c.args.payloads.now entry_in, c.requires.some)))))
