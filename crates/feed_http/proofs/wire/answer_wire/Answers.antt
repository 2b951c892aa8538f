use Rattle.std.proofs.Common.{◌≡◌, [], ◌∷◌, ◌++◌, ℕ, List, map, refl, sym, ap, ◌∙◌, subst, arith}
use Rattle.std.specs.Global.{Vec}
use Rattle.std.proofs.lemmas.List.{nil_from_length, map_push}
use Rattle.std.proofs.lemmas.List.Elements.{All-head, All-rest, All-same}
use Rattle.wire_bodies.specs.Bodies.{FitsMember}
use Rattle.desk_routes.specs.declared.response.Response.{Response}
use Rattle.feed_http.specs.Turn.{IsToldAs}
use Rattle.feed_http.specs.Wires.{rows_response, IsEndedAs}
use Rattle.feed_http.proofs.Wires.{has_none, row_put, row_ends, row_starves, whole_wire}
use Rattle.feed_http.proofs.wire.answer_wire.Goals as goal

abbrev texts_of : List (Vec ℕ) → List (List ℕ)
texts_of rows = map (λ row. row.items) rows

pub loop-member-init : goal.loop-member-init
loop-member-init g c =
    let rest : c.into_iter-member-iterator.result.rest.items ≡ c.args.wire.members = c.into_iter-member-iterator.ensures.into_iter_gives.0 ∙ c.into_vec-member-items.ensures in
    record {
      ready = c.requires.ready;
      fits = All-same FitsMember _ _ rest c.requires.fits;
      has = has_none g.A.Answers.turn g.C.Clock.clock c.args.room.now c.args.clock.now c.args.wire.caller c.args.wire.provider c.args.wire.members _ _ rest (ap texts_of c.new-rows.ensures.items);
    }

pub answer_member-came-requires-clause-fits : goal.answer_member-came-requires-clause-fits
answer_member-came-requires-clause-fits g c = All-head FitsMember _ _ (All-same FitsMember _ _ (sym c.in-Some.ensures.steps.0) c.loop-member.invariant.fits)

pub returns-in-Err-clause-answered : goal.returns-in-Err-clause-answered
returns-in-Err-clause-answered g c =
    let same : texts_of c.as_slice.result.now ≡ texts_of c.loop-member.rows.items = ap texts_of (c.as_slice.ensures.value ∙ c.in-Err.ensures.items) in
    row_starves g.A.Answers.turn g.C.Clock.clock c.args.room.now c.loop-member.room c.args.clock.now c.loop-member.clock c.now-now.new.self c.args.wire _ _ c.in-Some.member (texts_of c.loop-member.rows.items) c.loop-member.stop c.now-now.result
    c.loop-member.invariant.has c.in-Some.ensures.steps.0 c.notify.result c.tell_ended-response.result c.notify.ensures c.now-now.ensures.told c.now-now.ensures.given
    (subst (λ (texts : List (List ℕ)). IsEndedAs texts c.notify.result c.tell_ended-response.result) same c.tell_ended-response.ensures)

pub loop-member-preserved : goal.loop-member-preserved
loop-member-preserved g c =
    let inv = c.loop-member.invariant in
    let put : c.put_row.new.rows.items ≡ c.loop-member.rows.items ++ c.in-Ok.row ∷ [] =
    c.put_row.ensures ∙ ap (λ (r : Vec ℕ). c.reserve.new.self.items ++ r ∷ []) c.in-Ok.row-is ∙ ap (λ (rows : List (Vec ℕ)). rows ++ c.in-Ok.row ∷ []) c.in_default.ensures.items in
    let texts : texts_of c.put_row.new.rows.items ≡ texts_of c.loop-member.rows.items ++ c.in-Ok.row.items ∷ [] = ap texts_of put ∙ map_push (λ (row : Vec ℕ). row.items) c.loop-member.rows.items c.in-Ok.row in
    record {
      ready = c.answer_member-came.ensures.ready;
      fits = All-rest FitsMember _ _ _ c.in-Some.ensures.steps.0 inv.fits;
      has = row_put g.A.Answers.turn g.C.Clock.clock c.args.room.now c.loop-member.room c.answer_member-came.new.room c.args.clock.now c.loop-member.clock c.now-now.new.self c.args.wire _ _ c.in-Some.member (texts_of c.loop-member.rows.items) c.loop-member.stop c.or-stop.result c.now-now.result c.answer_member-came.result
          inv.has c.in-Some.ensures.steps.0 c.answer_member-came.ensures.came c.in-Ok.row c.in-Ok.is c.now-now.ensures.told c.now-now.ensures.given (texts_of c.put_row.new.rows.items) texts c.or-stop.ensures;
    }

pub returns-in-Err-row-clause-answered : goal.returns-in-Err-row-clause-answered
returns-in-Err-row-clause-answered g c =
    let same : texts_of c.as_slice-in-Err-row.result.now ≡ texts_of c.loop-member.rows.items = ap texts_of (c.as_slice-in-Err-row.ensures.value ∙ c.in_default.ensures.items) in
    row_ends g.A.Answers.turn g.C.Clock.clock c.args.room.now c.loop-member.room c.answer_member-came.new.room c.args.clock.now c.loop-member.clock c.now-now.new.self c.args.wire _ _ c.in-Some.member (texts_of c.loop-member.rows.items) c.loop-member.stop c.or-stop.result c.now-now.result c.answer_member-came.result
    c.loop-member.invariant.has c.in-Some.ensures.steps.0 c.answer_member-came.ensures.came c.in-Err-row.ending c.tell_ended-response-in-Err-row.result c.in-Err-row.is c.now-now.ensures.told c.now-now.ensures.given
    (subst (λ (texts : List (List ℕ)). IsEndedAs texts c.in-Err-row.ending c.tell_ended-response-in-Err-row.result) same
    (subst (λ (e : Response). IsEndedAs (texts_of c.as_slice-in-Err-row.result.now) e c.tell_ended-response-in-Err-row.result) c.in-Err-row.ending-is c.tell_ended-response-in-Err-row.ensures))
    c.or-stop.ensures

pub returns-clause-answered : goal.returns-clause-answered
returns-clause-answered g c =
    let it = c.loop-member.member-iterator in
    let none : it.rest.items ≡ [] = nil_from_length it.rest.items (omega (arith, it.rest.ok.0, c.in-None.ensures.steps.0)) in
    whole_wire g.A.Answers.turn g.C.Clock.clock c.args.wire c.tell_rows.result c.loop-member.invariant.has none
    (subst (λ (texts : List (List ℕ)). IsToldAs (rows_response 200 texts) c.tell_rows.result) (ap texts_of c.as_slice-2.ensures.value) c.tell_rows.ensures)
