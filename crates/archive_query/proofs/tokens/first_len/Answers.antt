use Rattle.std.proofs.Common.{◌+◌, ◌∙◌, refl, sym, subst, arith}
use Rattle.std.specs.Prelude.{slice_index}
use Rattle.archive_query.specs.declared.tokens.Place.{Place}
use Rattle.archive_query.proofs.Cutting.{GoesTo, goes_on}
use Rattle.archive_query.proofs.tokens.first_len.Goals as goal

pub loop-i-preserved : goal.loop-i-preserved
loop-i-preserved c =
    let text = c.args.text.now in
    subst (λ (place : Place). GoesTo text (c.loop-i.i + 1) place) (sym c.place_after-place.ensures)
    (goes_on text c.loop-i.i c.loop-i.place (slice_index text c.loop-i.i) (omega arith) refl (sym c.ends_token.ensures ∙ c.if-ends_token.false) c.loop-i.invariant)
