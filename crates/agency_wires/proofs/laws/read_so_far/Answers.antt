use Rattle.std.proofs.Common.{ap, ◌∙◌, ◌++◌, arith, length}
use Rattle.std.proofs.lemmas.List.{take_all}
use Rattle.std.proofs.lemmas.List.Folds.{length-flat_map-take}
use Rattle.agency_wires.specs.Gives.{gives}
use Rattle.text7901.specs.Gives.{stream}
use Rattle.agency_wires.specs.Messages.{messages}
use Rattle.agency_wires.proofs.laws.read_so_far.Goals as goal

pub feed-requires-clause-fits : goal.feed-requires-clause-fits
feed-requires-clause-fits c =
    let h = length-flat_map-take (λ p. p.items) c.args.pieces.now c.loop-piece.piece-index c.piece-item.result c.loop-piece-test.true in
    let same = ap (λ p. length p.items) c.piece-item.is in
    let seen = ap length c.deref.ensures.value in
    omega (arith, h, same, seen, c.loop-piece.invariant.place, c.requires.fits)

pub returns-clause-front : goal.returns-clause-front
returns-clause-front c = λ more.
    (gives c.loop-piece.reader more, c.loop-piece.invariant.members more ∙ ap (λ z. messages (stream z ++ more)) (take_all c.loop-piece.piece-index c.args.pieces.now c.loop-piece-test.false))
