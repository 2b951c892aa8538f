use Rattle.std.proofs.Common.{rules, ◌≡◌, ◌∙◌, None, ap, subst, arith, length, map, List, length-drop}
use Rattle.std.proofs.lemmas.List.{length-map}
use Rattle.news_types.specs.declared.entry.Entry.{Entry}
use Rattle.entry_codec.specs.Spelling.{entry_bytes}
use Rattle.entry_segments.specs.Spelled.{entry_in, entries_in}
use Rattle.news_pair.specs.Filling.{Fills, FullAs}
use Rattle.news_pair.specs.Steps.Stays.{as_they_are}
use Rattle.news_pair.proofs.Chains.{stays_then}
use Rattle.news_pair.proofs.Filled.{fills_none, fills_next, full_next, next_left}
use Rattle.news_pair.proofs.pair.Pair.+filled.Goals as goal

pub returns-then-is_empty-clause-crash : goal.returns-then-is_empty-clause-crash
returns-then-is_empty-clause-crash g t c = λ h pairs shut some left. as_they_are

pub returns-then-is_empty-clause-fills : goal.returns-then-is_empty-clause-fills
returns-then-is_empty-clause-fills g t c =
    let none : length c.args.payloads.now ≡ 0 = search rules in
    fills_none c.args.self.end c.args.self.packed (entries_in c.args.payloads.now) (length-map c.args.payloads.now entry_in ∙ none)

pub returns-in-Ok-filled-clause-pairs : goal.returns-in-Ok-filled-clause-pairs
returns-in-Ok-filled-clause-pairs g t c = λ h pairs some left.
    let e = c.in-Ok.ensures in
    let is = c.behind.ensures.behind in
    c.in-Ok-filled.ensures.pairs h (e.pairs h pairs some left) (omega (arith, e.end, some))
    (ap (map entry_bytes) is ∙ next_left c.args.self.end c.args.self.packed (entries_in c.args.payloads.now) c.in-Ok.next.1 e.longest h left c.in-Ok.next.0.packed e.packed)

pub returns-in-Ok-filled-clause-crash : goal.returns-in-Ok-filled-clause-crash
returns-in-Ok-filled-clause-crash g t c = λ h pairs shut some left.
    let e = c.in-Ok.ensures in
    let is = c.behind.ensures.behind in
    stays_then g.D.Disk.disk c.args.self.store h c.in-Ok.next.0.store _ _ _ _ _ _ e.store (e.crash h pairs shut some left)
    (c.in-Ok-filled.ensures.crash h (e.pairs h pairs some left) (ap (λ j. j.ajar) e.log ∙ shut) (omega (arith, e.end, some))
    (ap (map entry_bytes) is ∙ next_left c.args.self.end c.args.self.packed (entries_in c.args.payloads.now) c.in-Ok.next.1 e.longest h left c.in-Ok.next.0.packed e.packed))

pub returns-in-Err-filled-clause-crash_err : goal.returns-in-Err-filled-clause-crash_err
returns-in-Err-filled-clause-crash_err g t c = λ h pairs shut some left.
    let e = c.in-Ok.ensures in
    let is = c.behind.ensures.behind in
    stays_then g.D.Disk.disk c.args.self.store h c.in-Ok.next.0.store _ _ _ _ _ _ e.store (e.crash h pairs shut some left)
    (c.in-Err-filled.ensures.crash_err h (e.pairs h pairs some left) (ap (λ j. j.ajar) e.log ∙ shut) (omega (arith, e.end, some))
    (ap (map entry_bytes) is ∙ next_left c.args.self.end c.args.self.packed (entries_in c.args.payloads.now) c.in-Ok.next.1 e.longest h left c.in-Ok.next.0.packed e.packed))

pub returns-in-Ok-filled-clause-packed : goal.returns-in-Ok-filled-clause-packed
returns-in-Ok-filled-clause-packed g t c =
    let e = c.in-Ok.ensures in
    omega (arith, c.in-Ok-filled.ensures.packed, e.packed, e.longest.within, ap length c.behind.ensures.behind, length-drop c.in-Ok.next.1 (entries_in c.args.payloads.now))

pub returns-in-Ok-filled-clause-fills : goal.returns-in-Ok-filled-clause-fills
returns-in-Ok-filled-clause-fills g t c =
    let e = c.in-Ok.ensures in
    fills_next c.args.self.end c.args.self.packed (entries_in c.args.payloads.now) c.in-Ok.next.1 e.longest e.room c.in-Ok.next.0.end c.in-Ok.next.0.packed e.end e.packed None
    (subst (λ (l : List Entry). Fills c.in-Ok.next.0.end c.in-Ok.next.0.packed l None) c.behind.ensures.behind c.in-Ok-filled.ensures.fills)

pub returns-in-Err-filled-clause-full : goal.returns-in-Err-filled-clause-full
returns-in-Err-filled-clause-full g t c =
    let e = c.in-Ok.ensures in
    full_next c.args.self.end c.args.self.packed (entries_in c.args.payloads.now) c.in-Ok.next.1 e.longest e.room c.in-Ok.next.0.end c.in-Ok.next.0.packed e.end e.packed c.in-Err-filled.failed.2
    (subst (λ (l : List Entry). FullAs c.in-Ok.next.0.end c.in-Ok.next.0.packed l c.in-Err-filled.failed.2) c.behind.ensures.behind c.in-Err-filled.ensures.full)
