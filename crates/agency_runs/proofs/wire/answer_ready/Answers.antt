use Rattle.std.proofs.Common.{ap, refl, sym, ◌∙◌}
use Rattle.std.proofs.lemmas.List.Elements.{All-head, All-rest, All-same}
use Rattle.agency_wires.specs.Gives.{Pending}
use Rattle.wire_run.proofs.Ready.{ready_starts, ready_next, ready_stops, ready_ends}
use Rattle.agency_runs.specs.Places.{IsPlaced}
use Rattle.agency_runs.proofs.wire.answer_ready.Goals as goal

pub loop-found-init : goal.loop-found-init
loop-found-init g c = record {
  stands = c.requires.stands;
  placed = c.requires.placed;
  so_far = λ shelf h stands. ready_starts _ _ _ _ _ h _ stands;
  rest = refl;
  calm = refl;
  calm_output = refl;
}

pub answer_found-requires-clause-placed : goal.answer_found-requires-clause-placed
answer_found-requires-clause-placed g c =
    All-head IsPlaced _ _ (All-same IsPlaced _ _ (sym (ap (λ (r : Pending). r.ready) c.in-Some.ensures.found)) c.loop-found.invariant.placed)

pub returns-in-Err-clause-did : goal.returns-in-Err-clause-did
returns-in-Err-clause-did g c = λ shelf h stands.
    ready_stops _ _ _ _ _ _ _ _ _ h _ _ _ _ _ (c.loop-found.invariant.so_far shelf h stands) (ap (λ (r : Pending). r.ready) c.in-Some.ensures.found) (λ k here. c.in-Err.ensures.did shelf k here)

pub loop-found-preserved : goal.loop-found-preserved
loop-found-preserved g c =
    let inv = c.loop-found.invariant in
    record {
      stands = (inv.stands.0, (_, (c.in_default-answer_found.ensures.did inv.stands.0 inv.stands.1.0 inv.stands.1.1).kept.list));
      placed = All-rest IsPlaced _ _ _ (ap (λ (r : Pending). r.ready) c.in-Some.ensures.found) inv.placed;
      so_far = λ shelf h stands. ready_next _ _ _ _ _ _ _ _ _ h _ _ _ _ (inv.so_far shelf h stands) (ap (λ (r : Pending). r.ready) c.in-Some.ensures.found) (λ k here. c.in_default-answer_found.ensures.did shelf k here);
      rest = sym (ap (λ (r : Pending). record r { ready = c.args.reader.now.ready }) c.in-Some.ensures.found) ∙ inv.rest;
      calm = c.in_default-answer_found.ensures.causes.0 ∙ inv.calm;
      calm_output = c.in_default-answer_found.ensures.causes.1 ∙ inv.calm_output;
    }

pub returns-clause-did : goal.returns-clause-did
returns-clause-did g c = λ shelf h stands. ready_ends _ _ _ _ _ _ _ h _ _ (c.loop-found.invariant.so_far shelf h stands) c.in_default.ensures.none
