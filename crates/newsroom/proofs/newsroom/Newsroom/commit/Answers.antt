use Rattle.std.proofs.Common.{◌∷◌, sym, ap, ◌∙◌, subst}
use Rattle.news_types.specs.declared.entry.Act.{Act}
use Rattle.news_types.specs.Outcome.{reply_to, entry_of}
use Rattle.newsroom.specs.declared.change.Change.{Change}
use Rattle.newsroom.specs.Stands.{StandsFor}
use Rattle.newsroom.specs.Changes.{IsForAct}
use Rattle.newsroom.proofs.Kept.{request_by, ingest_by}
use Rattle.newsroom.proofs.newsroom.Newsroom.commit.Goals as goal

pub keep_request-requires-clause-stands : goal.keep_request-requires-clause-stands
keep_request-requires-clause-stands c =
    let given = c.requires.stands in
    let h = given.0 in
    let e = given.1 in
    let r = request_by c.in-Request.request e.moment e.act h (subst (λ (x : Change). IsForAct x e.moment e.act h) c.in-Request.is given.2.1.act) in
    (h, e.moment, r.0, r.1, r.2, (given.2.0, r.4, given.2.2))

pub keep_ingest-requires-clause-stands : goal.keep_ingest-requires-clause-stands
keep_ingest-requires-clause-stands c =
    let given = c.requires.stands in
    let h = given.0 in
    let e = given.1 in
    let r = ingest_by c.in-Ingest.ingest e.moment e.act h (subst (λ (x : Change). IsForAct x e.moment e.act h) c.in-Ingest.is given.2.1.act) in
    (h, e.moment, r.0, r.1, (given.2.0, r.3, given.2.2))

pub returns-in-Request-clause-stands : goal.returns-in-Request-clause-stands
returns-in-Request-clause-stands c h e stands is =
    let r = request_by c.in-Request.request e.moment e.act h (subst (λ (x : Change). IsForAct x e.moment e.act h) c.in-Request.is is.act) in
    subst (λ (act : Act). StandsFor c.keep_request.new.self (entry_of e.moment act ∷ h)) (sym r.3) (c.keep_request.ensures.stands h e.moment r.0 r.1 r.2 stands r.4)

pub returns-in-Request-clause-reply : goal.returns-in-Request-clause-reply
returns-in-Request-clause-reply c h e stands is =
    let r = request_by c.in-Request.request e.moment e.act h (subst (λ (x : Change). IsForAct x e.moment e.act h) c.in-Request.is is.act) in
    c.keep_request.ensures.reply h e.moment r.0 r.1 r.2 stands r.4 ∙ sym (ap (reply_to h e.moment) r.3)

pub returns-in-Ingest-clause-stands : goal.returns-in-Ingest-clause-stands
returns-in-Ingest-clause-stands c h e stands is =
    let r = ingest_by c.in-Ingest.ingest e.moment e.act h (subst (λ (x : Change). IsForAct x e.moment e.act h) c.in-Ingest.is is.act) in
    subst (λ (act : Act). StandsFor c.keep_ingest.new.self (entry_of e.moment act ∷ h)) (sym r.2) (c.keep_ingest.ensures.stands h e.moment r.0 r.1 stands r.3)

pub returns-in-Ingest-clause-reply : goal.returns-in-Ingest-clause-reply
returns-in-Ingest-clause-reply c h e stands is =
    let r = ingest_by c.in-Ingest.ingest e.moment e.act h (subst (λ (x : Change). IsForAct x e.moment e.act h) c.in-Ingest.is is.act) in
    c.keep_ingest.ensures.reply h e.moment r.0 r.1 stands r.3 ∙ sym (ap (reply_to h e.moment) r.2)
