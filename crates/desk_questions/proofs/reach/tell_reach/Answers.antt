use Rattle.std.proofs.Common.{map, sym, ap, ◌∙◌}
use Rattle.std.specs.Option.{option_copied}
use Rattle.news_types.specs.Publications.{item}
use Rattle.desk_questions.specs.Reach.{reach_bytes, reached_in}
use Rattle.desk_questions.proofs.Reaching.{all_told}
use Rattle.desk_questions.proofs.reach.tell_reach.Goals as goal

pub returns : goal.returns
returns c = λ h stands.
    all_told h c.args.item c.args.targets.now (item h c.args.item) c.in-Some.story.now c.in_ok-reach_object.field-0
    (sym (ap option_copied c.in-Some.is) ∙ c.story.ensures h (c.stories.ensures.keeps h stands))
    (sym (c.has_feeds.ensures h (c.stories-2.ensures.keeps h stands)) ∙ c.if-not-has_feeds.false)
    (c.in_ok-reach_object.ensures ∙ ap reach_bytes (ap (map reached_in) c.deref.ensures.value ∙ c.in_ok-rows.ensures h stands))
