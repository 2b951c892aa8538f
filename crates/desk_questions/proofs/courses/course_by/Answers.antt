use Rattle.std.proofs.Common.{◌≤◌, ◌<◌, ◌∙◌, arith}
use Rattle.news_types.specs.History.{moment}
use Rattle.desk_questions.proofs.Coursed.{stands_still, taken_back, waits, was_sent}
use Rattle.desk_questions.proofs.courses.course_by.Goals as goal

pub returns : goal.returns
returns c = λ h stands is.
    let n = c.args.publication in
    let s = c.args.subscriber.now in
    let fact = c.args.fact in
    let now = c.moment.ensures h stands in
    let come : fact.release ≤ moment h = omega (arith, now, c.if-moment-fact.false) in
    c.sent.ensures h stands (stands_still h n s fact is c.if-not-fact.false) come
    ∙ was_sent h n s fact is c.if-not-fact.false come

pub returns-then-not-fact : goal.returns-then-not-fact
returns-then-not-fact c = λ h stands is. taken_back h c.args.publication c.args.subscriber.now c.args.fact is c.if-not-fact.true

pub returns-then-moment-fact : goal.returns-then-moment-fact
returns-then-moment-fact c = λ h stands is.
    let now = c.moment.ensures h stands in
    let later : moment h < c.args.fact.release = omega (arith, now, c.if-moment-fact.true) in
    waits h c.args.publication c.args.subscriber.now c.args.fact is c.if-not-fact.false later
