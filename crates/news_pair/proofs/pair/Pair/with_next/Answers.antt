use Rattle.std.proofs.Common.{◌+◌, ◌∙◌, ap, arith, take, map, ℕ}
use Rattle.std.proofs.lemmas.List.{length-map}
use Rattle.entry_codec.specs.Spelling.{entry_bytes}
use Rattle.news_journal.specs.declared.log.Journal.{Journal}
use Rattle.entry_segments.specs.Spelled.{entry_in, entries_in}
use Rattle.news_pair.proofs.Chains.{side_stays, as_was}
use Rattle.news_pair.proofs.Filled.{frame_size, frame_is, frame_few, frame_holds, next_count, next_is, full_here, taken_some}
use Rattle.news_pair.proofs.pair.Pair.with_next.Goals as goal

pub returns-in-Err-clause-crash_err : goal.returns-in-Err-clause-crash_err
returns-in-Err-clause-crash_err g c = λ h pairs shut some left. as_was g.D.Disk.disk c.args.self.store h _ _ _ c.into_disk.ensures

pub returns-then-size-length-gt-MOST-clause-crash_err : goal.returns-then-size-length-gt-MOST-clause-crash_err
returns-then-size-length-gt-MOST-clause-crash_err g c = λ h pairs shut some left. as_was g.D.Disk.disk c.args.self.store h _ _ _ c.into_disk-then-size-length-gt-MOST.ensures

pub overflow_sub-result : goal.overflow_sub-result
overflow_sub-result g c = omega (arith, c.len-length.ensures, frame_size c.args.self.packed (entries_in c.args.payloads.now) c.in-Ok.next.taken c.in-Ok.ensures.longest c.in-Ok.next.framed.items c.in-Ok.ensures.framed)

pub returns-then-size-length-gt-MOST-clause-full : goal.returns-then-size-length-gt-MOST-clause-full
returns-then-size-length-gt-MOST-clause-full g c =
    let n = c.in-Ok.next in
    let size = frame_size c.args.self.packed (entries_in c.args.payloads.now) c.in-Ok.next.taken c.in-Ok.ensures.longest c.in-Ok.next.framed.items c.in-Ok.ensures.framed in
    full_here c.args.self.end c.args.self.packed (entries_in c.args.payloads.now) n.taken c.in-Ok.ensures.longest _ _ (omega (arith, size, c.len-length.ensures, c.if-size-length-gt-MOST.true)) (omega arith) (omega (arith, size, c.len-length.ensures))

pub with_segment-requires-clause-framed : goal.with_segment-requires-clause-framed
with_segment-requires-clause-framed g c = frame_is c.args.self.packed (entries_in c.args.payloads.now) c.in-Ok.next.taken c.in-Ok.ensures.longest c.deref.result.now (c.deref.ensures.value ∙ c.in-Ok.ensures.framed)

pub with_segment-requires-clause-few : goal.with_segment-requires-clause-few
with_segment-requires-clause-few g c = frame_few c.args.self.packed (entries_in c.args.payloads.now) c.in-Ok.next.taken c.in-Ok.ensures.longest c.deref.result.now (c.deref.ensures.value ∙ c.in-Ok.ensures.framed)

pub returns-in-Ok-with_segment-clause-room : goal.returns-in-Ok-with_segment-clause-room
returns-in-Ok-with_segment-clause-room g c =
    let size = frame_size c.args.self.packed (entries_in c.args.payloads.now) c.in-Ok.next.taken c.in-Ok.ensures.longest c.in-Ok.next.framed.items c.in-Ok.ensures.framed in
    omega (arith, size, c.len-length.ensures, c.if-size-length-gt-MOST.false)

pub returns-in-Ok-with_segment-clause-end : goal.returns-in-Ok-with_segment-clause-end
returns-in-Ok-with_segment-clause-end g c =
    let size = frame_size c.args.self.packed (entries_in c.args.payloads.now) c.in-Ok.next.taken c.in-Ok.ensures.longest c.deref.result.now (c.deref.ensures.value ∙ c.in-Ok.ensures.framed) in
    c.in-Ok-with_segment.ensures.end ∙ ap (λ (n : ℕ). c.args.self.end + n) size

pub returns-in-Ok-with_segment-clause-pairs : goal.returns-in-Ok-with_segment-clause-pairs
returns-in-Ok-with_segment-clause-pairs g c = λ h pairs some left.
    let base = c.args.self.packed in
    let es = entries_in c.args.payloads.now in
    let taken = c.in-Ok.next.taken in
    let longest = c.in-Ok.ensures.longest in
    c.in-Ok-with_segment.ensures.pairs h pairs some (map entry_bytes (take taken es)) (frame_holds base es taken longest c.deref.result.now (c.deref.ensures.value ∙ c.in-Ok.ensures.framed))
    (next_count c.args.self.end base es taken longest h left) (next_is c.args.self.end base es taken longest h left)

pub returns-in-Ok-with_segment-clause-crash : goal.returns-in-Ok-with_segment-clause-crash
returns-in-Ok-with_segment-clause-crash g c = λ h pairs shut some left.
    let base = c.args.self.packed in
    let es = entries_in c.args.payloads.now in
    let taken = c.in-Ok.next.taken in
    let longest = c.in-Ok.ensures.longest in
    side_stays g.D.Disk.disk c.args.self.store h _ _ _ _ (ap (λ (j : Journal _). j.disk) c.in-Ok-with_segment.ensures.log)
    (c.in-Ok-with_segment.ensures.crash h pairs shut some (map entry_bytes (take taken es)) (frame_holds base es taken longest c.deref.result.now (c.deref.ensures.value ∙ c.in-Ok.ensures.framed))
    (next_count c.args.self.end base es taken longest h left) (next_is c.args.self.end base es taken longest h left))

pub returns-clause-crash_err : goal.returns-clause-crash_err
returns-clause-crash_err g c = λ h pairs shut some left.
    let base = c.args.self.packed in
    let es = entries_in c.args.payloads.now in
    let taken = c.in-Ok.next.taken in
    let longest = c.in-Ok.ensures.longest in
    side_stays g.D.Disk.disk c.args.self.store h _ _ _ _ c.in-Err-with_segment.ensures.log_err
    (c.in-Err-with_segment.ensures.crash_err h pairs shut some (map entry_bytes (take taken es)) (frame_holds base es taken longest c.deref.result.now (c.deref.ensures.value ∙ c.in-Ok.ensures.framed))
    (next_count c.args.self.end base es taken longest h left) (next_is c.args.self.end base es taken longest h left))

pub returns-in-Ok-with_segment-clause-some : goal.returns-in-Ok-with_segment-clause-some
returns-in-Ok-with_segment-clause-some g c = taken_some c.args.self.packed (entries_in c.args.payloads.now) c.in-Ok.next.taken c.in-Ok.ensures.longest

pub returns-in-Ok-with_segment-clause-within : goal.returns-in-Ok-with_segment-clause-within
returns-in-Ok-with_segment-clause-within g c = omega (arith, c.in-Ok.ensures.longest.within, length-map c.args.payloads.now entry_in)
