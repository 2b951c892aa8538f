use Rattle.std.proofs.Common.{ℕ, Option, sym, ap, ◌∙◌}
use Rattle.news_types.specs.Publications.{standing}
use Rattle.feed_reasons.specs.Courses.{course_by, due_of, numbered}
use Rattle.desk_questions.proofs.Coursed.{not_made}
use Rattle.desk_questions.proofs.courses.course.Goals as goal

pub returns-in-Some : goal.returns-in-Some
returns-in-Some c = λ h stands. c.course_by.ensures h stands (sym c.in-Some.is ∙ c.due.ensures h (c.dues.ensures h stands))

pub returns-in-None : goal.returns-in-None
returns-in-None c = λ h stands.
    let n = c.args.publication in
    let s = c.args.subscriber.now in
    sym (ap (λ (o : Option ℕ). course_by h s n o (due_of s (numbered n (standing h)))) (not_made h n s (sym c.in-None.is ∙ c.due.ensures h (c.dues.ensures h stands))))
