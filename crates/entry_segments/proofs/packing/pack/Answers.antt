use Rattle.std.proofs.Common.{◌≡◌, ◌∙◌, ap, sym, subst, arith, length, take, List}
use Rattle.std.specs.Prelude.{IfOk}
use Rattle.std.proofs.lemmas.List.{length-map}
use Rattle.news_types.specs.Names.{Bytes}
use Rattle.news_types.specs.declared.entry.Entry.{Entry}
use Rattle.entry_segments.specs.declared.packing.Packed.{Packed}
use Rattle.entry_segments.specs.Segment.{segment, InTime}
use Rattle.entry_segments.specs.Packing.{IsLongest}
use Rattle.entry_segments.specs.Spelled.{entry_in, entries_in}
use Rattle.entry_segments.proofs.packing.pack.Goals as goal

as_many : (es : List Entry) (ps : List Bytes) → entries_in ps ≡ es → length ps ≡ length es
as_many es ps are = sym (length-map ps entry_in) ∙ ap length are

pub pack_payloads-requires-clause-some : goal.pack_payloads-requires-clause-some
pack_payloads-requires-clause-some c =
    let are = ap entries_in c.as_slice.ensures.value ∙ c.in_ok-payloads.ensures.entries in
    omega (arith, c.requires.some, as_many c.args.entries.now c.as_slice.result.now are)

pub pack_payloads-requires-clause-in_time : goal.pack_payloads-requires-clause-in_time
pack_payloads-requires-clause-in_time c = subst (InTime 0) (sym (ap entries_in c.as_slice.ensures.value ∙ c.in_ok-payloads.ensures.entries)) c.requires.in_time

pub pack_payloads-requires-clause-below : goal.pack_payloads-requires-clause-below
pack_payloads-requires-clause-below c =
    let are = ap entries_in c.as_slice.ensures.value ∙ c.in_ok-payloads.ensures.entries in
    omega (arith, c.requires.below, as_many c.args.entries.now c.as_slice.result.now are)

pub returns-clause-payload : goal.returns-clause-payload
returns-clause-payload c =
    let are = ap entries_in c.as_slice.ensures.value ∙ c.in_ok-payloads.ensures.entries in
    subst (λ (es : List Entry). IfOk c.pack_payloads.result (λ (p : Packed). p.payload ≡ segment c.args.base (take p.taken es))) are c.pack_payloads.ensures.payload

pub returns-clause-longest : goal.returns-clause-longest
returns-clause-longest c =
    let are = ap entries_in c.as_slice.ensures.value ∙ c.in_ok-payloads.ensures.entries in
    subst (λ (es : List Entry). IfOk c.pack_payloads.result (λ (p : Packed). IsLongest c.args.base es p.taken)) are c.pack_payloads.ensures.longest
