use Rattle.std.proofs.Common.{◌+◌, ◌∙◌, sym, ap, subst, arith}
use Rattle.news_types.specs.declared.words.Kind.TheVariants as kind
use Rattle.news_types.specs.Names.{is_in}
use Rattle.news_types.specs.Publications.{item_count, standing}
use Rattle.news_types.specs.Due.{release_to, due_names}
use Rattle.publish_queue.specs.Order.{Differ}
use Rattle.story_tables.proofs.Publishing.{none_had, standing_to}
use Rattle.newsroom.proofs.Differ.{ordered_differ}
use Rattle.newsroom.proofs.DueTo.{due_to_each}
use Rattle.newsroom.proofs.Recorded.{flashes}
use Rattle.newsroom.proofs.newsroom.Newsroom.prepare_flash.Goals as goal

pub prepare_flash-requires-clause-differ : goal.prepare_flash-requires-clause-differ
prepare_flash-requires-clause-differ c =
    let h = c.requires.stands.0 in
    let stands = c.requires.stands.1.0 in
    subst Differ (sym (c.in_ok-releases.ensures.names ∙ c.as_slice-names.ensures))
    (ordered_differ _ (c.in_ok-due.ensures h (standing h) (item_count h + 1) c.args.moment stands.rules (λ s. sym (none_had (item_count h) (item_count h + 1) (standing h) s (omega arith) (standing_to h)))).order)

pub returns-clause-change : goal.returns-clause-change
returns-clause-change c h caller number stands later =
    let m = c.args.moment in
    let i = item_count h + 1 in
    let due = c.in_ok-due.ensures h (standing h) i m stands.rules (λ s. sym (none_had (item_count h) i (standing h) s (omega arith) (standing_to h))) in
    let told = due_to_each h (standing h) kind.First i c.args.story.now m c.args.targets.now _ _ (c.in_ok-releases.ensures.each h (standing h) i stands.rules tt)
    (λ s. ap (is_in s) c.as_slice-names.ensures ∙ due.each s ∙ ap (λ names. is_in s (due_names h (standing h) kind.First i c.args.story.now m names)) c.as_slice.ensures) in
    record {
      parts = c.in_ok-parts.ensures.change h caller number stands.stories stands.entries later told;
      dues = c.in_ok-dues.ensures.change h _ stands.dues (flashes h m caller number c.args.story.now c.args.targets.now _ (λ s. ap (release_to s) c.deref.ensures.value ∙ told s));
    }
