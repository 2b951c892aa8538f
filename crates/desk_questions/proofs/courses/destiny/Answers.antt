use Rattle.std.proofs.Common.{Option, Some, sym, ap, ◌∙◌}
use Rattle.std.specs.Prelude.{option_map}
use Rattle.feed_reasons.specs.declared.course.Course.{Course}
use Rattle.desk_views.specs.Publications.{Destined}
use Rattle.desk_questions.specs.Publications.{destiny_at}
use Rattle.desk_questions.proofs.Coursed.{facts, not_made}
use Rattle.desk_questions.proofs.courses.destiny.Goals as goal

pub returns : goal.returns
returns c = λ h stands.
    let n = c.args.publication in
    let s = c.args.subscriber.now in
    let fact = c.in-Some.fact in
    let is = sym c.in-Some.is ∙ c.due.ensures h (c.dues.ensures h stands) in
    let course_is = c.course_by.ensures h stands is in
    let told : (Course → Option Destined) = λ course. Some (record { subscriber = s; release = fact.release; course = course }) in
    ap told course_is ∙ sym (ap (option_map (destiny_at h n s)) (facts h n s fact is).made)

pub returns-in_default : goal.returns-in_default
returns-in_default c = λ h stands.
    let n = c.args.publication in
    let s = c.args.subscriber.now in
    sym (ap (option_map (destiny_at h n s)) (not_made h n s (sym c.in_default.is ∙ c.due.ensures h (c.dues.ensures h stands))))
