use Rattle.std.proofs.Common.{◌≡◌, ◌+◌, true, length, sym, ap, ◌∙◌, arith}
use Rattle.news_room.specs.Opening.{replies_plainly}
use Rattle.news_room.proofs.Openings.{unlawful_told, small_reply}
use Rattle.news_room.proofs.replay.keep_small.Goals as goal

pub returns-then-not-legal-clause-keeps : goal.returns-then-not-legal-clause-keeps
returns-then-not-legal-clause-keeps c =
    λ h is.
    unlawful_told c.args.machine.now h c.args.here.now c.args.entry.now c.unlawful.result
    (λ legal. let shown : c.legal.result ≡ true = c.legal.ensures.exact h is c.requires.small legal in let test = c.if-not-legal.true in absurd (cc (shown, test)))
    c.unlawful.ensures

pub returns-clause-keeps : goal.returns-clause-keeps
returns-clause-keeps c =
    λ h is.
    let lawful = c.legal.ensures.lawful h is c.if-not-legal.false in
    let after = c.apply.ensures.stands h is lawful.0 in
    let place : c.entries.result ≡ length h + 1 = omega (arith, c.entries.ensures _ after) in
    record {
      legal = lawful.0;
      stands = after;
      reply_is =
          c.plain_reply.ensures ∙ ap replies_plainly place
          ∙ sym (small_reply h c.args.entry.now.moment c.args.entry.now.act c.requires.small);
    }
