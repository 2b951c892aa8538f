use Rattle.std.proofs.Common.{ℕ, Option, ap, ◌∙◌}
use Rattle.std.specs.Prelude.{nat_le, unwrap_or}
use Rattle.feed_reasons.specs.declared.course.Course.TheVariants.{Sent}
use Rattle.desk_questions.proofs.Coursed.{due_known}
use Rattle.desk_questions.proofs.courses.sent.Goals as goal

pub returns : goal.returns
returns c = λ h stands due come.
    let n = c.args.publication in
    let s = c.args.subscriber.now in
    let placed = c.unwrap_or-k.ensures ∙ ap (λ (o : Option ℕ). unwrap_or o 0) (c.entry.ensures.stands h (c.stories.ensures.keeps h stands) due come) in
    let receipt = c.acked.ensures h stands (due_known h n s c.args.release due) in
    λ k. Sent (placed k) (nat_le (placed k) (receipt k))
