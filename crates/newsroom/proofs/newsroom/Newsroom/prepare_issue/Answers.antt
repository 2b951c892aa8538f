use Rattle.std.proofs.Common.{sym, ap, ◌∙◌, subst}
use Rattle.news_types.specs.Names.{is_in}
use Rattle.news_types.specs.Publications.{standing}
use Rattle.news_types.specs.Due.{release_to, due_names}
use Rattle.publish_queue.specs.Order.{Differ}
use Rattle.newsroom.proofs.Differ.{ordered_differ}
use Rattle.newsroom.proofs.DueTo.{due_to_each}
use Rattle.newsroom.proofs.Issuing.{earlier_by, latest_by}
use Rattle.newsroom.proofs.newsroom.Newsroom.prepare_issue.Goals as goal

pub prepare_issue-requires-clause-differ : goal.prepare_issue-requires-clause-differ
prepare_issue-requires-clause-differ c =
    let h = c.requires.stands.0 in
    let stands = c.requires.stands.1.0 in
    let issue = c.args.issue in
    let earlier = earlier_by _ _ (standing h) issue.kind issue.item issue.release c.as_slice-2.ensures (c.in_ok-reached.ensures h stands.stories) in
    subst Differ (sym (c.in_ok-releases.ensures.names ∙ c.as_slice-names.ensures)) (ordered_differ _ (c.in_ok-due.ensures h (standing h) issue.item issue.release stands.rules earlier).order)

pub returns-clause-change : goal.returns-clause-change
returns-clause-change c h caller number stands issues legal same =
    let issue = c.args.issue in
    let earlier = earlier_by _ _ (standing h) issue.kind issue.item issue.release c.as_slice-2.ensures (c.in_ok-reached.ensures h stands.stories) in
    let due = c.in_ok-due.ensures h (standing h) issue.item issue.release stands.rules earlier in
    let from = latest_by issue.kind _ (standing h) issue.item (c.latest-latest.ensures h stands.stories) in
    let told = due_to_each h (standing h) issue.kind issue.item issue.story issue.release issue.targets _ _ (c.in_ok-releases.ensures.each h (standing h) issue.item stands.rules from)
    (λ s. ap (is_in s) c.as_slice-names.ensures ∙ due.each s ∙ (λ j. is_in s (due_names h (standing h) issue.kind issue.item (c.as_story.ensures j) issue.release (c.as_slice.ensures j)))) in
    record {
      parts = c.in_ok-parts.ensures.change h caller number stands.stories stands.entries issues legal same told;
      dues = c.in_ok-dues.ensures.change h caller number c.args.command.now stands.dues issues same (c.numbers-numbers.ensures h stands.stories) (λ s. ap (release_to s) c.deref.ensures.value ∙ told s);
    }
