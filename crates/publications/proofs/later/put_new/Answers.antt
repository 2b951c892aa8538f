use Rattle.std.proofs.Common.{◌||◌, sym, ap, ◌∙◌}
use Rattle.news_types.specs.Names.{same}
use Rattle.publications.specs.Later.{is_there}
use Rattle.publications.proofs.Following.{there_more}
use Rattle.publications.proofs.Known.{known_more}
use Rattle.publications.proofs.later.put_new.Goals as goal

pub returns-in_ok-push-clause-knows : goal.returns-in_ok-push-clause-knows
returns-in_ok-push-clause-knows c s =
    let one = c.args.one in
    let all = c.args.all.now.items in
    c.in_ok-insert.ensures.knows s ∙ known_more s one.subscriber _ ∙ ap (λ b. b || same s one.subscriber) (c.requires s) ∙ sym (there_more s one all) ∙ sym (ap (is_there s) c.in_ok-push.ensures.items)
