use Rattle.std.proofs.Common.{refl, ◌∙◌}
use Rattle.newsroom.proofs.Allowed.{allowed}
use Rattle.newsroom.proofs.Kept.{last_is}
use Rattle.newsroom.proofs.newsroom.Newsroom.take_memory.Goals as goal

pub returns-clause-change : goal.returns-clause-change
returns-clause-change c h stands legal =
    let caller = c.args.caller.now in
    let number = c.args.number in
    let command = c.args.command.now in
    let m = c.args.moment in
    let story = c.in_ok-parts.ensures.change h caller number stands legal in
    record {
      legal = legal;
      parts = story.parts;
      dues = story.dues;
      rules = c.in_ok-rules.ensures.change h (c.prepare_parts.ensures.stays h stands).rules (allowed h caller number command m legal.2.1);
      stops = c.is_stop.ensures;
      who = refl;
      last = last_is number _ command _ _ c.in_ok-copy.ensures (c.reply.ensures ∙ story.parts.reply);
    }
