use Rattle.std.proofs.Common.{◌≡◌, true, [], refl, sym, ap, ◌∙◌, is_ok}
use Rattle.std.proofs.lemmas.Bool.{false≢true}
use Rattle.std.specs.List.{insert}
use Rattle.news_types.specs.Names.{same, is_in, AreInOrder}
use Rattle.news_types.proofs.InOrder.{rises, inserted_in_order, any_inserted, there_already, found_there}
use Rattle.news_types.proofs.order.insert_in_order.Goals as goal

grown : (c : goal.After-insert) → c.insert.new.self.items ≡ insert c.args.names.now.items c.in-Err.place c.args.name
grown c = let done : is_ok c.insert.result ≡ true = c.insert.ensures.succeeds c.requires in c.insert.ensures.items ∙ rw done refl

pub returns-in-Err-clause-order : goal.returns-in-Err-clause-order
returns-in-Err-clause-order c sorted =
    let names = c.deref.result.now in
    let same_names = c.deref.ensures.value in
    let in_order : AreInOrder names = rw same_names sorted in
    let parts = c.in-Err.ensures.position (rises names c.args.name in_order) in
    let more : AreInOrder (insert names c.in-Err.place c.args.name) = inserted_in_order names c.args.name c.in-Err.place in_order c.in-Err.ensures.bound parts.0 parts.1 in
    rw (grown c, ← same_names) more

pub returns-in-Err-clause-each : goal.returns-in-Err-clause-each
returns-in-Err-clause-each c sorted other = ap (is_in other) (grown c) ∙ any_inserted (same other) c.args.names.now.items c.in-Err.place c.args.name

found : (c : goal.In_default) → is_in c.args.name c.args.names.now.items ≡ true
found c = rw (← c.deref.ensures.value) (found_there c.deref.result.now c.args.name c.in_default.field-0 [] c.in_default.ensures.bound (c.in_default.ensures.ok []))

pub returns-in_default-clause-each : goal.returns-in_default-clause-each
returns-in_default-clause-each c sorted other = there_already c.args.names.now.items c.args.name other (found c)

pub returns-in_default-clause-len : goal.returns-in_default-clause-len
returns-in_default-clause-len c sorted none = absurd (false≢true (sym none ∙ found c))
