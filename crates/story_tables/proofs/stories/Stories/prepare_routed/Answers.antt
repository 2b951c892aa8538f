use Rattle.item_table.specs.Identities.{identity_of}
use Rattle.std.proofs.Common.{Some, refl, ap, ◌∙◌}
use Rattle.news_types.specs.declared.words.State.TheVariants.{Scheduled}
use Rattle.item_table.specs.declared.change.Step.TheVariants as step
use Rattle.item_table.specs.Rows.{new_row}
use Rattle.news_types.specs.declared.words.Kind.TheVariants as kind
use Rattle.story_tables.proofs.Publishing.{first_with}
use Rattle.story_tables.proofs.RoutedOut.{routed_items, routed_publications, routed_feeds, routed_reply}
use Rattle.story_tables.proofs.stories.Stories.prepare_routed.Goals as goal

pub returns-in_err-publications-clause-stays : goal.returns-in_err-publications-clause-stays
returns-in_err-publications-clause-stays c h keeps = record { items = keeps.items; publications = c.prepare.ensures.stays _ _ keeps.publications; queue = keeps.queue }

pub returns-in_err-items-clause-stays : goal.returns-in_err-items-clause-stays
returns-in_err-items-clause-stays c h keeps = record { items = c.prepare_come.ensures.stays _ keeps.items; publications = c.prepare.ensures.stays _ _ keeps.publications; queue = keeps.queue }

pub returns-in_err-reserve_for-clause-stays : goal.returns-in_err-reserve_for-clause-stays
returns-in_err-reserve_for-clause-stays c h keeps = record {
  items = c.prepare_come.ensures.stays _ keeps.items;
  publications = c.prepare.ensures.stays _ _ keeps.publications;
  queue = c.reserve_for.ensures.keeps _ keeps.queue;
}

pub returns-clause-stays : goal.returns-clause-stays
returns-clause-stays c h keeps = record {
  items = c.prepare_come.ensures.stays _ keeps.items;
  publications = c.prepare.ensures.stays _ _ keeps.publications;
  queue = c.reserve_for.ensures.keeps _ keeps.queue;
}

pub returns-clause-change : goal.returns-clause-change
returns-clause-change c h keeps counted after does due =
    let m = c.args.moment in
    let name = c.args.provider in
    let come = c.args.come.now in
    let place = c.args.place.now in
    let item = c.next_item-item.ensures h keeps in
    let publication = c.next_publication-number.ensures h keeps in
    let shared = c.in_ok-shared.ensures ∙ c.in_ok-copy.ensures in
    let shown = c.in_ok-share.ensures ∙ shared in
    let release = c.later-release.ensures in
    rw release (record {
      at = refl;
      reply = routed_reply h m name come place does c.args.entries c.next_item-item.result c.next_publication-number.result counted item publication;
      items = routed_items h m name come place does c.in_ok-items.items (c.in_ok-items.ensures.change ∙ ap (λ s. step.Make (new_row Scheduled s come.created) (Some (identity_of name come.identity))) shared);
      publications = routed_publications h m name come place does c.in_ok-publications.publications _ _ c.next_publication-number.result c.next_item-item.result c.args.due.items c.in_ok-publications.ensures.change
          (λ j. record { item = c.next_item-item.result; version = 1; kind = kind.First; release = release j; story = shown j })
          (λ j. first_with c.next_publication-number.result (release j) ((c.of-2.ensures ∙ c.new.ensures.items) j))
          (c.in_ok-from_slice.ensures.items ∙ c.deref.ensures.value) (c.in_ok-from_slice-2.ensures.items ∙ c.deref-2.ensures.value) c.requires.differ publication item due;
      feeds = routed_feeds h m name come place does c.next_publication-number.result c.args.due publication after due;
    })
