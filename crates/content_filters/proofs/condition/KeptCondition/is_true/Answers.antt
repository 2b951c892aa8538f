use Rattle.std.proofs.Common.{◌≡◌, sym, ◌∙◌, rules}
use denote.Enum.Bare.{same_true}
use Rattle.news_types.specs.contracts.words.Field.{the_type}
use Rattle.news_types.specs.declared.words.Field.TheVariants.{Urgency}
use Rattle.content_filters.proofs.Urgency.{by_urgency}
use Rattle.content_filters.proofs.condition.KeptCondition.is_true.Goals as goal

pub returns-then-eq-clause-value : goal.returns-then-eq-clause-value
returns-then-eq-clause-value c folds =
    let kept = c.args.self.now in
    let is : kept.field ≡ Urgency = same_true the_type (search rules) _ _ (sym c.eq.ensures ∙ c.if-eq.true) in
    rw is (by_urgency c.args.story.now kept.op kept.values c.compares.result c.urgency_byte.result (rw is at kept.valid) c.urgency_byte.ensures (rw c.as_slice-values.ensures at c.compares.ensures))
