use Rattle.std.proofs.Common.{[], ◌∷◌, sym, subst}
use Rattle.news_types.specs.History.{moment}
use Rattle.news_types.specs.Publications.{standing}
use Rattle.publish_queue.specs.Keeps.{HasRoom, facts}
use Rattle.publish_queue.specs.Many.{names_in}
use Rattle.publish_queue.specs.Order.{Differ}
use Rattle.publish_queue.specs.Withdrawn.{AreWithin}
use Rattle.story_tables.proofs.Carried.{alike}
use Rattle.story_tables.specs.Feeds.{Adds, Resumes, Issues, Retracts, Takes, Stays}
use Rattle.story_tables.proofs.feeds.go.Goals as goal

pub publish-requires-clause-room : goal.publish-requires-clause-room
publish-requires-clause-room c =
    let fits : HasRoom c.args.queue.now c.in-Publish.number c.in-Publish.release c.in-Publish.due.items × Differ (names_in c.in-Publish.due.items) = rw c.in-Publish.is at c.requires in
    subst (HasRoom c.args.queue.now c.in-Publish.number c.in-Publish.release) (sym c.deref.ensures.value) fits.0

pub take_back-requires-clause-room : goal.take_back-requires-clause-room
take_back-requires-clause-room c =
    let fits : HasRoom c.args.queue.now c.in-TakeBack.number c.args.moment c.in-TakeBack.due.items × Differ (names_in c.in-TakeBack.due.items) = rw c.in-TakeBack.is at c.requires in
    subst (HasRoom c.args.queue.now c.in-TakeBack.number c.args.moment) (sym c.deref-in-TakeBack-3.ensures.value) fits.0

pub returns-in-Subscriber : goal.returns-in-Subscriber
returns-in-Subscriber c h g keeps is later at =
    let does : Adds c.in-Subscriber.name h g = rw c.in-Subscriber.is at is in
    c.advance.ensures.keeps _ (alike _ _ (facts g) does.subscribed does.stands does.sent.receipts does.sent.attempts does.sent.last (c.add_subscriber.ensures.keeps _ keeps does.new)) later

pub returns-in-Resume : goal.returns-in-Resume
returns-in-Resume c h g keeps is later at =
    let does : Resumes c.in-Resume.name h g = rw c.in-Resume.is at is in
    c.advance-in-Resume.ensures.keeps _ (alike _ _ (facts g) does.subscribed does.stands does.receipts does.attempts does.last (c.resume.ensures.keeps _ keeps does.there)) later

pub returns-in-Publish : goal.returns-in-Publish
returns-in-Publish c h g keeps is later at =
    let does : Issues c.in-Publish.number c.in-Publish.release c.in-Publish.due.items h g = rw c.in-Publish.is at is in
    c.publish.ensures h g keeps (subst (λ l. Issues c.in-Publish.number c.in-Publish.release l h g) (sym c.deref.ensures.value) does) later

pub returns-in-TakeBack : goal.returns-in-TakeBack
returns-in-TakeBack c h g keeps is later at =
    let does : Retracts c.in-TakeBack.numbers.items c.in-TakeBack.spans.items c.in-TakeBack.number c.in-TakeBack.due.items h g = rw c.in-TakeBack.is at is in
    c.take_back.ensures h g keeps
    (subst (λ l. Retracts c.deref-in-TakeBack.result.now c.deref-in-TakeBack-2.result.now c.in-TakeBack.number l h g) (sym c.deref-in-TakeBack-3.ensures.value)
    (subst (λ l. Retracts c.deref-in-TakeBack.result.now l c.in-TakeBack.number c.in-TakeBack.due.items h g) (sym c.deref-in-TakeBack-2.ensures.value)
    (subst (λ l. Retracts l c.in-TakeBack.spans.items c.in-TakeBack.number c.in-TakeBack.due.items h g) (sym c.deref-in-TakeBack.ensures.value) does))) later at

pub returns-in-Withdraw : goal.returns-in-Withdraw
returns-in-Withdraw c h g keeps is later at =
    let does : Takes c.in-Withdraw.number c.in-Withdraw.release c.in-Withdraw.spans.items h g = rw c.in-Withdraw.is at is in
    c.advance-in-Withdraw.ensures.keeps _ (alike _ _ (facts g) does.subscribed does.stands does.sent.receipts does.sent.attempts does.sent.last (c.withdraw.ensures.keeps _ keeps does.waits does.has (subst (λ l. AreWithin (moment h) (c.in-Withdraw.number ∷ []) l (standing h)) (sym c.deref-in-Withdraw.ensures.value) does.within))) later

pub returns-in-Nothing : goal.returns-in-Nothing
returns-in-Nothing c h g keeps is later at =
    let does : Stays h g = rw c.in-Nothing.is at is in
    c.advance-in-Nothing.ensures.keeps _ (alike _ _ (facts g) does.subscribed does.stands does.sent.receipts does.sent.attempts does.sent.last keeps) later
