use Rattle.std.proofs.Common.{List, ℕ, ◌++◌, ◌∙◌, ◌≡◌, ap, take, refl}
use Rattle.http_wire.proofs.Writes.{by_take, stops, then_puts, from_all}
use Rattle.http_wire.proofs.page.Page.put.Goals as goal

pub returns-in_err-write_all-clause-wrote : goal.returns-in_err-write_all-clause-wrote
returns-in_err-write_all-clause-wrote g c tells =
    let same : c.as_slice.result.now ≡ c.args.self.now = c.as_slice.ensures ∙ c.if-add.ensures in
    let err = c.in_err-write_all.ensures.err in
    stops g.O.Sink.sink c.args.sink.now c.write_all.new.sink c.args.self.now c.args.more.now c.add.new.self c.from_residual.result c.from_residual.ensures.0
    (by_take g.O.Sink.sink c.args.sink.now c.write_all.new.sink err.0 c.args.self.now
    (err.2 tells ∙ ap (λ (l : List ℕ). g.O.Sink.sink.taken c.args.sink.now ++ take err.0 l) same))

pub returns-clause-wrote : goal.returns-clause-wrote
returns-clause-wrote g c tells =
    let same : c.as_slice.result.now ≡ c.args.self.now = c.as_slice.ensures ∙ c.if-add.ensures in
    let mid = c.in_ok-write_all.ensures.told tells in
    then_puts g.O.Sink.sink c.args.sink.now c.write_all.new.sink c.write_all-2.new.sink c.args.self.now c.args.more.now c.clear.new.self c.write_all-2.result
    (c.in_ok-write_all.ensures.ok tells ∙ ap (λ (l : List ℕ). g.O.Sink.sink.taken c.args.sink.now ++ l) same)
    (c.write_all-2.ensures.ok mid)
    (from_all g.O.Sink.sink c.write_all.new.sink c.write_all-2.new.sink c.args.more.now c.args.more.now c.write_all-2.result mid refl c.write_all-2.ensures.err)
    c.clear.ensures
