use Rattle.std.proofs.Common.{◌∷◌, subst, sym, arith}
use Rattle.newsroom.specs.Stands.{StandsFor}
use Rattle.newsroom.specs.declared.newsroom.Newsroom.{Newsroom}
use Rattle.news_room.proofs.Openings.{as_many, read_on}
use Rattle.list_runs.proofs.Makings.{makes_at}
use Rattle.list_runs.proofs.making.find_place.Goals as goal

pub take-requires-clause-stands : goal.take-requires-clause-stands
take-requires-clause-stands c =
    let inv = c.loop-place.invariant in
    let count = as_many c.args.records.now c.loop-place.place c.loop-place.replay.machine inv.0 c.loop-place.auto.place-end inv.1 in
    (inv.0, (inv.1.stands, omega (arith, c.requires.few, c.loop-place-test.true, count)))

pub publication_count-requires : goal.publication_count-requires
publication_count-requires c =
    let inv = c.loop-place.invariant in
    let count = as_many c.args.records.now c.loop-place.place c.loop-place.replay.machine inv.0 c.loop-place.auto.place-end inv.1 in
    let told = c.in-Ok-take.ensures.takes inv.0 inv.1.stands inv.1.opens.kept in
    c.stories.ensures.place
    (told.entry ∷ inv.0, (subst (λ (m : Newsroom). StandsFor m (told.entry ∷ inv.0)) (sym c.newsroom.ensures) told.stands, omega (arith, c.requires.few, c.loop-place-test.true, count)))

pub returns-then-publication_count-publication-clause-makes : goal.returns-then-publication_count-publication-clause-makes
returns-then-publication_count-publication-clause-makes c h are =
    let inv = c.loop-place.invariant in
    let told = c.in-Ok-take.ensures.takes inv.0 inv.1.stands inv.1.opens.kept in
    let stands = subst (λ (m : Newsroom). StandsFor m (told.entry ∷ inv.0)) (sym c.newsroom.ensures) told.stands in
    let counted = c.publication_count.ensures (told.entry ∷ inv.0) (c.stories.ensures.keeps (told.entry ∷ inv.0) stands) in
    makes_at c.args.records.now c.loop-place.place c.index-records-place.result c.loop-place-test.true c.index-records-place.is
    c.loop-place.replay.machine c.take.new.self.machine inv.0 _ inv.1 told c.args.publication h inv.2 (omega (arith, c.if-publication_count-publication.true, counted)) are

pub loop-place-preserved : goal.loop-place-preserved
loop-place-preserved c =
    let inv = c.loop-place.invariant in
    let told = c.in-Ok-take.ensures.takes inv.0 inv.1.stands inv.1.opens.kept in
    let stands = subst (λ (m : Newsroom). StandsFor m (told.entry ∷ inv.0)) (sym c.newsroom.ensures) told.stands in
    let counted = c.publication_count.ensures (told.entry ∷ inv.0) (c.stories.ensures.keeps (told.entry ∷ inv.0) stands) in
    let on = read_on c.args.records.now c.loop-place.place c.index-records-place.result c.loop-place-test.true c.index-records-place.is
    c.loop-place.replay.machine c.take.new.self.machine inv.0 _ inv.1 told in
    (told.entry ∷ inv.0, on, omega (arith, c.if-publication_count-publication.false, counted))
