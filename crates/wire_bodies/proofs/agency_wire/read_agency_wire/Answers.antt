use Rattle.std.proofs.Common.{length, sym, ◌∙◌, eqb-true, arith}
use Rattle.std.proofs.lemmas.List.Elements.{All-same}
use Rattle.agency_wires.specs.Gives.{gives}
use Rattle.wire_bodies.specs.Bodies.{agency_member, FitsMember}
use Rattle.wire_bodies.proofs.Counted.{kept_piece, fault_piece, kept_end, fault_end}
use Rattle.wire_bodies.proofs.Placed.{messages_fit}
use Rattle.wire_bodies.proofs.agency_wire.read_agency_wire.Goals as goal

pub returns-in-Err-clause-value : goal.returns-in-Err-clause-value
returns-in-Err-clause-value c =
    fault_piece agency_member (gives c.loop-rest.reader) _ _ _ c.loop-rest.rest.now _ _ _ c.split_at.ensures.front c.split_at.ensures.back c.loop-rest.invariant.kept (c.in-Err.ensures.fault c.split_at.result.1.now)

pub loop-rest-preserved : goal.loop-rest-preserved
loop-rest-preserved c = record {
  open_yet = c.in_default.ensures.open;
  place = omega (arith, c.in_default.ensures.at, c.split_at.ensures.front_len, c.split_at.ensures.back_len, c.loop-rest.invariant.place);
  kept = kept_piece agency_member (gives c.loop-rest.reader) _ _ _ _ c.loop-rest.rest.now _ _ _ c.split_at.ensures.front c.split_at.ensures.back c.loop-rest.invariant.kept (c.in_default.ensures.kept c.split_at.result.1.now);
  few = c.in_default.ensures.few;
}

pub returns-in-Err-keep_last-clause-value : goal.returns-in-Err-keep_last-clause-value
returns-in-Err-keep_last-clause-value c =
    fault_end agency_member (gives c.loop-rest.reader) _ _ c.loop-rest.rest.now _ (eqb-true (length c.loop-rest.rest.now) 0 (sym c.is_empty.ensures ∙ c.loop-rest-test.false)) c.loop-rest.invariant.kept c.in-Err-keep_last.ensures.fault

pub returns-clause-value : goal.returns-clause-value
returns-clause-value c =
    kept_end agency_member (gives c.loop-rest.reader) _ _ _ c.loop-rest.rest.now (eqb-true (length c.loop-rest.rest.now) 0 (sym c.is_empty.ensures ∙ c.loop-rest-test.false)) c.loop-rest.invariant.kept
    c.in_default-keep_last.ensures.kept c.in_default-keep_last.ensures.few

pub returns-clause-fits : goal.returns-clause-fits
returns-clause-fits c =
    All-same FitsMember _ _ (kept_end agency_member (gives c.loop-rest.reader) _ _ _ _ (eqb-true (length c.loop-rest.rest.now) 0 (sym c.is_empty.ensures ∙ c.loop-rest-test.false)) c.loop-rest.invariant.kept c.in_default-keep_last.ensures.kept c.in_default-keep_last.ensures.few).0
    (messages_fit c.args.body.now (omega arith))
