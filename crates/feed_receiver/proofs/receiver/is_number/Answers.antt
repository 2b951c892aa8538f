use Rattle.std.proofs.Common.{arith, sym, ◌∙◌}
use Rattle.std.proofs.lemmas.Bool.{eqb-true, eqb-false}
use Rattle.news_types.proofs.Members.{same_is}
use Rattle.byte_formats.proofs.Laws.{bytes_from}
use Rattle.feed_receiver.proofs.Numbered as numbered
use Rattle.feed_receiver.proofs.receiver.is_number.Goals as goal

pub returns-then-eq : goal.returns-then-eq
returns-then-eq c =
    let bytes = c.args.bytes.now in
    let ib = bytes_from bytes (λ i. omega (arith, c.type_inv.bytes i)) in
    let mine = same_is c.in-Ok.frame.to c.args.name.now (sym c.eq.ensures ∙ c.if-eq.true) in
    numbered.matched _ _ _
    (λ yes. numbered.is_number bytes ib _ c.in-Ok.ensures.frame c.args.name.now c.args.k mine (sym c.from.ensures ∙ eqb-true _ _ yes))
    (λ other n. eqb-false _ _ other (c.from.ensures ∙ numbered.number_is bytes ib _ c.in-Ok.ensures.frame c.args.name.now c.args.k n))

pub returns-else-eq : goal.returns-else-eq
returns-else-eq c =
    let bytes = c.args.bytes.now in
    let ib = bytes_from bytes (λ i. omega (arith, c.type_inv.bytes i)) in
    let other = numbered.not_same c.in-Ok.frame.to c.args.name.now (sym c.eq.ensures ∙ c.if-eq.false) in
    rw c.if-eq.false (λ n. other (numbered.number_mine bytes ib _ c.in-Ok.ensures.frame c.args.name.now c.args.k n))

pub returns-in-Err : goal.returns-in-Err
returns-in-Err c = numbered.no_number c.args.bytes.now _ c.in-Err.ensures.fault c.args.name.now c.args.k
