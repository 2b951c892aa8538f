use Rattle.std.proofs.Common.{◌≤◌, arith, subst}
use Rattle.news_types.specs.History.{moment}
use Rattle.news_room.proofs.Legal.{refused_may_not, legal_for}
use Rattle.news_room.proofs.Openings.{unlawful_told}
use Rattle.news_room.proofs.replay.keep_large.Goals as goal

pub returns-then-entry-moment-clause-keeps : goal.returns-then-entry-moment-clause-keeps
returns-then-entry-moment-clause-keeps c =
    λ h is.
    unlawful_told c.args.machine.now h c.args.here.now c.args.entry.now c.unlawful.result
    (λ legal. let before = c.if-entry-moment.true in let same = c.moment.ensures h is in absurd (omega (arith, before, same, legal.1)))
    c.unlawful.ensures

pub returns-in-Change-clause-keeps : goal.returns-in-Change-clause-keeps
returns-in-Change-clause-keeps c =
    λ h is.
    let later : moment h ≤ c.args.entry.now.moment = subst (λ m. m ≤ c.args.entry.now.moment) (c.moment.ensures h is) c.if-entry-moment.false in
    let for_it = c.in-Change.ensures.change h is later in
    let stays = c.prepare.ensures.stays h is in
    record {
      legal = legal_for c.in-Change.change c.args.entry.now h for_it;
      stands = c.commit.ensures.stands h c.args.entry.now stays for_it;
      reply_is = c.commit.ensures.reply h c.args.entry.now stays for_it;
    }

pub returns-in-Settled-clause-keeps : goal.returns-in-Settled-clause-keeps
returns-in-Settled-clause-keeps c =
    λ h is.
    unlawful_told c.prepare.new.self h c.args.here.now c.args.entry.now c.unlawful-in-Settled.result
    (λ legal. refused_may_not h c.args.entry.now.moment c.args.entry.now.act c.prepare.result (c.prepare.ensures.outcome h is) c.in-Settled.is legal.2)
    c.unlawful-in-Settled.ensures
