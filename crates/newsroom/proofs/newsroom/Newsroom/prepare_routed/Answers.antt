use Rattle.std.proofs.Common.{◌+◌, map, [], ◌∙◌, sym, ap, subst, arith}
use Rattle.std.specs.Prelude.{max}
use Rattle.news_types.specs.declared.words.Kind.TheVariants as kind
use Rattle.news_types.specs.Names.{is_in}
use Rattle.news_types.specs.Publications.{item_count, standing}
use Rattle.news_types.specs.Due.{release_to, due_at}
use Rattle.publish_queue.specs.Order.{Differ}
use Rattle.story_tables.proofs.Publishing.{none_had, standing_to}
use Rattle.newsroom.proofs.Differ.{ordered_differ}
use Rattle.newsroom.proofs.DueTo.{due_to_each}
use Rattle.newsroom.proofs.Recorded.{routes}
use Rattle.newsroom.proofs.newsroom.Newsroom.prepare_routed.Goals as goal

pub prepare_routed-requires-clause-differ : goal.prepare_routed-requires-clause-differ
prepare_routed-requires-clause-differ c =
    let h = c.requires.stands.0 in
    let stands = c.requires.stands.1.0 in
    subst Differ (sym (c.in_ok-releases.ensures.names ∙ c.as_slice-names.ensures))
    (ordered_differ _ (c.in_ok-due.ensures h (standing h) (item_count h + 1) c.args.moment stands.rules (λ s. sym (none_had (item_count h) (item_count h + 1) (standing h) s (omega arith) (standing_to h)))).order)

pub returns-clause-change : goal.returns-clause-change
returns-clause-change c h stands later does =
    let i = item_count h + 1 in
    let story = c.args.come.now.story in
    let release = max c.args.moment c.args.come.now.embargo in
    let due = c.in_ok-due.ensures h (standing h) i release stands.rules (λ s. sym (none_had (item_count h) i (standing h) s (omega arith) (standing_to h))) in
    let told = due_to_each h (standing h) kind.First i story release [] _ _ (c.in_ok-releases.ensures.each h (standing h) i stands.rules tt ∙ ap (λ r. map (due_at h (standing h) kind.First i r) c.as_slice-names.result.now) c.later-release.ensures)
    (λ s. ap (is_in s) c.as_slice-names.ensures ∙ due.each s) in
    record {
      parts = c.in_ok-parts.ensures.change h stands.stories stands.entries later does told;
      dues = c.in_ok-dues.ensures.change h _ stands.dues (routes h c.args.moment c.args.provider.now c.args.come.now c.args.place.now _ does (λ s. ap (release_to s) c.deref.ensures.value ∙ told s));
    }
