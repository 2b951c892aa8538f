use Rattle.std.proofs.Common.{◌≡◌, [], List, Result, refl, sym, ◌∙◌, subst, arith}
use Rattle.std.proofs.lemmas.List.{nil_from_length}
use Rattle.std.proofs.lemmas.List.Elements.{All-head, All-rest, All-same}
use Rattle.std.specs.Prelude.{IfOk}
use Rattle.news_types.specs.Fits.{FitsIncoming}
use Rattle.news_types.specs.declared.story.Incoming.{Incoming}
use Rattle.wire_run.proofs.Ready.{ReadySoFar, ready_starts, ready_next, ready_stops, ready_ends}
use Rattle.agency_items.specs.declared.fault.ItemFault.{ItemFault}
use Rattle.agency_runs.specs.Members.{of_read}
use Rattle.agency_runs.proofs.items.answer_each.Goals as goal

pub loop-told-init : goal.loop-told-init
loop-told-init g c =
    let rest : c.into_iter-told-iterator.result.rest.items ≡ c.args.members.items = c.into_iter-told-iterator.ensures.into_iter_gives.0 in
    record {
      stands = c.requires.stands;
      fits = All-same (λ (told : Result Incoming ItemFault). IfOk told FitsIncoming) _ _ rest c.requires.fits;
      so_far = λ shelf h stands. subst (λ (left : List (Result Incoming ItemFault)). ReadySoFar (of_read (g.A.Ingesting.meaning shelf)) (g.A.Ingesting.life shelf) g.O.Sink.sink c.args.desk.now c.args.desk.now c.args.output.now c.args.output.now h c.args.members.items left) (sym rest)
          (ready_starts _ _ _ _ _ h _ stands);
      calm = refl;
      calm_output = refl;
    }

pub answer_item-requires-clause-fits : goal.answer_item-requires-clause-fits
answer_item-requires-clause-fits g c =
    All-head (λ (told : Result Incoming ItemFault). IfOk told FitsIncoming) _ _ (All-same (λ (told : Result Incoming ItemFault). IfOk told FitsIncoming) _ _ (sym c.in-Some.ensures.steps.0) c.loop-told.invariant.fits)

pub returns-in-Err-clause-did : goal.returns-in-Err-clause-did
returns-in-Err-clause-did g c = λ shelf h stands.
    ready_stops _ _ _ _ _ _ _ _ _ h _ _ _ _ _ (c.loop-told.invariant.so_far shelf h stands) c.in-Some.ensures.steps.0 (λ k here. c.in-Err.ensures.did shelf k here)

pub loop-told-preserved : goal.loop-told-preserved
loop-told-preserved g c =
    let inv = c.loop-told.invariant in
    record {
      stands = (inv.stands.0, (_, (c.in_default.ensures.did inv.stands.0 inv.stands.1.0 inv.stands.1.1).kept.list));
      fits = All-rest (λ (told : Result Incoming ItemFault). IfOk told FitsIncoming) _ _ _ c.in-Some.ensures.steps.0 inv.fits;
      so_far = λ shelf h stands. ready_next _ _ _ _ _ _ _ _ _ h _ _ _ _ (inv.so_far shelf h stands) c.in-Some.ensures.steps.0 (λ k here. c.in_default.ensures.did shelf k here);
      calm = c.in_default.ensures.causes.0 ∙ inv.calm;
      calm_output = c.in_default.ensures.causes.1 ∙ inv.calm_output;
    }

pub returns-clause-did : goal.returns-clause-did
returns-clause-did g c = λ shelf h stands.
    let it = c.loop-told.told-iterator in
    let none : it.rest.items ≡ [] = nil_from_length it.rest.items (omega (arith, it.rest.ok.0, c.in-None.ensures.steps.0)) in
    ready_ends _ _ _ _ _ _ _ h _ _ (c.loop-told.invariant.so_far shelf h stands) none
