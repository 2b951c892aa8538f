use Rattle.std.proofs.Common.{◌≡◌, ◌≤◌, ◌<◌, ◌+◌, ◌^◌, ◌∙◌, ap, sym, subst, arith, length, take, length-take, [], ℕ, List}
use Rattle.std.specs.Prelude.{All}
use Rattle.std.proofs.lemmas.List.{length-map, take-map}
use Rattle.std.proofs.lemmas.List.Elements.{All-take}
use Rattle.news_types.specs.Names.{Bytes}
use Rattle.news_types.specs.declared.entry.Entry.{Entry}
use Rattle.entry_codec.specs.Formed.{IsEntry}
use Rattle.news_types.specs.Names.{AreInOrder}
use Rattle.entry_segments.specs.Segment.{names_of, segment, InTime}
use Rattle.entry_segments.specs.Packing.{fitting, IsLongest}
use Rattle.entry_segments.specs.Spelled.{entry_in, entries_in, IsPayload}
use Rattle.entry_segments.proofs.Fitting.{taken_room, taken_within, front_few, in_time_front, names_of_ascend, is_longest, segment_written}
use Rattle.entry_segments.proofs.Spelled.{entries_are}
use Rattle.entry_segments.proofs.packing.pack_payloads.Goals as goal

names_few : (es : List Entry) (t : ℕ) → t ≡ fitting 14 [] 0 es → length (names_of (take t es)) ≤ 65535
names_few es t is = subst (λ (n : ℕ). length (names_of (take n es)) ≤ 65535) (sym is) (taken_room es).1

within : (ps : List Bytes) (t : ℕ) → t ≡ fitting 14 [] 0 (entries_in ps) → t ≤ length ps
within ps t is = omega (arith, is, taken_within (entries_in ps), length-map ps entry_in)

pub slice_bounds-front-end : goal.slice_bounds-front-end
slice_bounds-front-end c = let t = c.in_ok-taken.field-0.taken in omega (arith, length-take t c.args.payloads.now, within c.args.payloads.now t c.in_ok-taken.ensures.taken)

pub overflow_cast-taken : goal.overflow_cast-taken
overflow_cast-taken c =
    let es = entries_in c.args.payloads.now in
    omega (arith, length-take (fitting 14 [] 0 es) es, taken_within es, front_few es, c.in_ok-taken.ensures.taken)

pub put_names-requires : goal.put_names-requires
put_names-requires c =
    let h = ap length (c.of-names.ensures ∙ c.in_ok-taken.ensures.names) in
    omega (arith, h, names_few (entries_in c.args.payloads.now) c.in_ok-taken.field-0.taken c.in_ok-taken.ensures.taken)

pub put_all-requires-clause-in_time : goal.put_all-requires-clause-in_time
put_all-requires-clause-in_time c =
    let ps = c.args.payloads.now in
    let t = c.in_ok-taken.field-0.taken in
    subst (InTime 0) (take-map entry_in t ps) (in_time_front 0 (entries_in ps) t c.requires.in_time)

pub put_all-requires-clause-few : goal.put_all-requires-clause-few
put_all-requires-clause-few c =
    let h = ap length (c.as_slice.ensures ∙ c.of-names.ensures ∙ c.in_ok-taken.ensures.names) in
    omega (arith, h, names_few (entries_in c.args.payloads.now) c.in_ok-taken.field-0.taken c.in_ok-taken.ensures.taken)

pub put_all-requires-clause-up : goal.put_all-requires-clause-up
put_all-requires-clause-up c = subst AreInOrder (sym (c.as_slice.ensures ∙ c.of-names.ensures ∙ c.in_ok-taken.ensures.names)) (names_of_ascend (take c.in_ok-taken.field-0.taken (entries_in c.args.payloads.now)))

pub returns-clause-payload : goal.returns-clause-payload
returns-clause-payload c =
    let ps = c.args.payloads.now in
    let es = entries_in ps in
    let t = c.in_ok-taken.field-0.taken in
    let front = entries_in (take t ps) in
    let same = take-map entry_in t ps in
    let long : t ≡ length front = omega (arith, length-map (take t ps) entry_in, length-take t ps, within ps t c.in_ok-taken.ensures.taken) in
    let names = c.of-names.ensures ∙ c.in_ok-taken.ensures.names ∙ ap (λ (l : List Entry). names_of l) same in
    c.of.ensures
    ∙ segment_written c.new-out.result.items c.put_head.new.out.items c.put_names.new.out.items c.put_all.new.out.items c.args.base t c.of-names.result c.as_slice.result.now front c.new-out.ensures.items c.in_ok-put_head.ensures c.in_ok-put_names.ensures.bytes
    c.in_ok-put_all.ensures c.as_slice.ensures names long
    ∙ ap (segment c.args.base) (sym same)

pub returns-clause-longest : goal.returns-clause-longest
returns-clause-longest c =
    let ps = c.args.payloads.now in
    let es = entries_in ps in
    let is = c.in_ok-taken.ensures.taken in
    let n = fitting 14 [] 0 es in
    let each = subst (All IsEntry) (sym (take-map entry_in n ps)) (entries_are (take n ps) (All-take IsPayload n ps c.requires.each)) in
    let some = subst (λ (n : ℕ). 0 < n) is (c.in_ok-taken.ensures.some c.requires.some) in
    let below : c.args.base + length es < 2 ^ 48 = omega (arith, c.requires.below, length-map ps entry_in) in
    subst (IsLongest c.args.base es) (sym is) (is_longest c.args.base es below c.requires.in_time each some)
