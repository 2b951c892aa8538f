use Rattle.std.proofs.Common.{◌+◌, sym, ◌∙◌}
use Rattle.std.proofs.lemmas.List.{take_rest}
use Rattle.text7901.proofs.Parts.{place_found, place_none, before_place, behind_place, before_none, behind_none}
use Rattle.agency_wires.proofs.bytes.split_around.Goals as goal

pub returns-in-Some-clause-front : goal.returns-in-Some-clause-front
returns-in-Some-clause-front c = before_place _ _ _ (place_found c.args.stop c.args.bytes.now c.in-Some.i c.in-Some.ensures.place)

pub returns-in-Some-clause-back : goal.returns-in-Some-clause-back
returns-in-Some-clause-back c =
    take_rest c.args.bytes.now (c.in-Some.i + 1) ∙ behind_place _ _ _ (place_found c.args.stop c.args.bytes.now c.in-Some.i c.in-Some.ensures.place)

pub returns-in-None-clause-front : goal.returns-in-None-clause-front
returns-in-None-clause-front c = sym (before_none _ _ (place_none c.args.stop c.args.bytes.now c.in-None.ensures.place))

pub returns-in-None-clause-back : goal.returns-in-None-clause-back
returns-in-None-clause-back c = sym (behind_none _ _ (place_none c.args.stop c.args.bytes.now c.in-None.ensures.place))
