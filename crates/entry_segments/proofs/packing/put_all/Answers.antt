use Rattle.std.proofs.Common.{◌<◌, ◌++◌, ◌∙◌, ap, arith, length}
use Rattle.std.proofs.lemmas.List.{length-map}
use Rattle.entry_segments.specs.Segment.{packed, all_packed}
use Rattle.entry_segments.specs.Spelled.{entry_in, entries_in}
use Rattle.entry_segments.proofs.Fitting.{in_time_at, packed_at}
use Rattle.entry_segments.proofs.Spelled.{entry_at}
use Rattle.entry_segments.proofs.packing.put_all.Goals as goal

pub put_payload-requires-clause-in_time : goal.put_payload-requires-clause-in_time
put_payload-requires-clause-in_time c =
    let ps = c.args.payloads.now in
    let i = c.loop-payload.payload-index in
    let p = c.payload-item.result in
    let lt : i < length (entries_in ps) = omega (arith, c.loop-payload-test.true, length-map ps entry_in) in
    let at = entry_at ps i p c.loop-payload-test.true c.payload-item.is in
    let later = (in_time_at (entries_in ps) i (entry_in p) c.loop-payload.moment lt at c.loop-payload.invariant.in_time).0 in
    omega (arith, later, ap (λ b. (entry_in b).moment) c.as_slice.ensures)

pub loop-payload-preserved : goal.loop-payload-preserved
loop-payload-preserved c =
    let ps = c.args.payloads.now in
    let ns = c.args.names.now in
    let es = entries_in ps in
    let i = c.loop-payload.payload-index in
    let p = c.payload-item.result in
    let before = c.loop-payload.moment in
    let out = c.loop-payload.out.items in
    let lt : i < length (entries_in ps) = omega (arith, c.loop-payload-test.true, length-map ps entry_in) in
    let at = entry_at ps i p c.loop-payload-test.true c.payload-item.is in
    let same = c.in_ok-moment.ensures.moment ∙ ap (λ b. (entry_in b).moment) c.as_slice.ensures in
    let wrote = c.in_ok-moment.ensures.bytes ∙ ap (λ b. out ++ packed ns before (entry_in b)) c.as_slice.ensures in
    let total = c.args.out.now.items ++ all_packed ns 0 es in
    rw same (record {
      bytes = packed_at ns es i (entry_in p) before out out c.put_payload.new.out.items total lt at wrote c.loop-payload.invariant.bytes;
      in_time = (in_time_at es i (entry_in p) before lt at c.loop-payload.invariant.in_time).1;
    })
