use Rattle.std.proofs.Common.{◌≡◌, Bool, true, false, refl, []}
use Rattle.std.specs.Prelude.{if◌then◌else◌, length}
use Rattle.news_types.specs.declared.query.Answer.{Answer}
use Rattle.news_types.specs.declared.query.Answer.TheVariants as told
use Rattle.news_types.specs.declared.words.Thing.TheVariants as thing
use Rattle.news_types.specs.Products.{is_subscriber}
use Rattle.subscriber_import.proofs.rows.is_there.Goals as goal

not_there : (there : Bool) (fed answer : Answer) → answer ≡ (if there then fed else told.Unknown thing.Subscriber) → (answer ≡ fed → ⊥) → false ≡ there
not_there false fed answer is not = refl
not_there true fed answer is not = absurd (not is)

pub returns : goal.returns
returns g c b stands =
    not_there (is_subscriber b.list c.args.subscriber) _ _ (c.in_ok-answer.ensures.plain refl b (λ s k. []) stands) (λ is. c.in_default.not-Feed _ _ _ is)
