use Rattle.std.proofs.Common.{List, None, refl, ap, ◌∙◌}
use Rattle.news_types.specs.declared.words.State.TheVariants.{Scheduled}
use Rattle.item_table.specs.declared.change.Step.TheVariants as step
use Rattle.item_table.specs.Rows.{new_row}
use Rattle.news_types.specs.declared.words.Kind.TheVariants as kind
use Rattle.news_types.specs.Names.{Bytes}
use Rattle.story_tables.proofs.Publishing.{flash_items, flash_publications, flash_feeds, flash_reply, first_with}
use Rattle.story_tables.proofs.stories.Stories.prepare_flash.Goals as goal

pub returns-in_err-publications-clause-stays : goal.returns-in_err-publications-clause-stays
returns-in_err-publications-clause-stays c h keeps = record { items = keeps.items; publications = c.prepare.ensures.stays _ _ keeps.publications; queue = keeps.queue }

pub returns-in_err-items-clause-stays : goal.returns-in_err-items-clause-stays
returns-in_err-items-clause-stays c h keeps = record { items = c.prepare_new.ensures.stays _ keeps.items; publications = c.prepare.ensures.stays _ _ keeps.publications; queue = keeps.queue }

pub returns-in_err-reserve_for-clause-stays : goal.returns-in_err-reserve_for-clause-stays
returns-in_err-reserve_for-clause-stays c h keeps = record {
  items = c.prepare_new.ensures.stays _ keeps.items;
  publications = c.prepare.ensures.stays _ _ keeps.publications;
  queue = c.reserve_for.ensures.keeps _ keeps.queue;
}

pub returns-clause-stays : goal.returns-clause-stays
returns-clause-stays c h keeps = record {
  items = c.prepare_new.ensures.stays _ keeps.items;
  publications = c.prepare.ensures.stays _ _ keeps.publications;
  queue = c.reserve_for.ensures.keeps _ keeps.queue;
}

pub returns-clause-change : goal.returns-clause-change
returns-clause-change c h caller number keeps counted later due =
    let story = c.args.story.now in
    let targets = c.args.targets.now in
    let m = c.args.moment in
    let item = c.next_item-item.ensures h keeps in
    let publication = c.next_publication-number.ensures h keeps in
    let shared = c.in_ok-shared.ensures ∙ c.in_ok-copy.ensures in
    let shown = c.in_ok-share.ensures ∙ shared in
    record {
      at = refl;
      reply = flash_reply h m number caller story targets c.args.entries c.next_item-item.result c.next_publication-number.result counted item publication;
      items = flash_items h m number caller story targets c.in_ok-items.items (c.in_ok-items.ensures.change ∙ ap (λ s. step.Make (new_row Scheduled s 0) None) shared);
      publications = flash_publications h m number caller story targets c.in_ok-publications.publications _ _ c.next_publication-number.result c.next_item-item.result c.args.due.items c.in_ok-publications.ensures.change
          (ap (λ s. record { item = c.next_item-item.result; version = 1; kind = kind.First; release = m; story = s }) shown)
          (ap (λ (t : List Bytes). first_with c.next_publication-number.result m t) c.in_ok-copy-2.ensures)
          (c.in_ok-from_slice.ensures.items ∙ c.deref.ensures.value) (c.in_ok-from_slice-2.ensures.items ∙ c.deref-2.ensures.value) c.requires.differ publication item due;
      feeds = flash_feeds h m number caller story targets c.next_publication-number.result c.args.due publication later due;
    }
