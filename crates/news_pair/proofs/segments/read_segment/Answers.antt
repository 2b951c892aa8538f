use Rattle.std.proofs.Common.{◌≡◌, ◌≤◌, ◌-◌, arith, ◌∙◌, ℕ, List, Ok, Err, Some, map, length, refl, sym, ap, subst}
use Rattle.std.proofs.lemmas.List.{length-map}
use Rattle.news_types.specs.Names.{Bytes}
use Rattle.byte_formats.specs.Gives.{all_of}
use Rattle.byte_formats.proofs.Alls.{all_again}
use Rattle.entry_codec.specs.Spelling.{entry_bytes}
use Rattle.entry_segments.specs.Reading.{segment}
use Rattle.entry_segments.specs.Answers.{IsWhole}
use Rattle.entry_segments.proofs.SegmentLaws.{segment_sound}
use Rattle.news_pair.specs.Segments.{spelled, segment_in}
use Rattle.news_pair.proofs.Sizes.{segment_long}
use Rattle.news_pair.proofs.segments.read_segment.Goals as goal

pub returns-in-Ok-clause-found : goal.returns-in-Ok-clause-found
unfolding segment_in
returns-in-Ok-clause-found c =
    let f = c.in-Ok.ensures.found in
    let read : all_of segment c.args.payload.now ≡ Ok f.of = ap (all_of segment) f.is ∙ all_again segment IsWhole segment_sound f.of f.whole in
    ap spelled read ∙ ap (λ (n : ℕ). Some (n, map entry_bytes f.of.entries)) (sym f.has.base) ∙ ap (λ (l : List Bytes). Some (c.in-Ok.segment.base, l)) (sym f.has.payloads)

pub returns-in-Err-At-clause-fault : goal.returns-in-Err-At-clause-fault
returns-in-Err-At-clause-fault c = λ at e.
    let told = rw c.in-Err-At.field-0-is at c.in-Err-At.ensures in
    let same : c.in-Err-At.at ≡ at = cc in
    subst (λ (n : ℕ). (all_of segment c.args.payload.now ≡ Err (length c.args.payload.now - n)) × (n ≤ length c.args.payload.now)) same (told.place c.in-Err-At.at refl, (told.fault c.in-Err-At.at refl).within)

pub returns-in-Ok-clause-few : goal.returns-in-Ok-clause-few
returns-in-Ok-clause-few c =
    let f = c.in-Ok.ensures.found in
    omega (arith, ap length f.has.payloads, length-map f.of.entries entry_bytes, segment_long f.of.base f.of.entries, ap length f.is)
