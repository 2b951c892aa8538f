use Rattle.std.proofs.Common.{ℕ, ◌∷◌, refl, sym, ap, subst, ◌∙◌}
use Rattle.news_types.specs.declared.entry.Act.TheVariants.{Request}
use Rattle.news_types.specs.Outcome.{entry_of}
use Rattle.news_types.specs.Publications.{made, pubs, standing, issued_by_command}
use Rattle.publish_queue.specs.Keeps.{HasRoom as HasQueueRoom}
use Rattle.publications.specs.Steps.{IsFor as IsForPublications}
use Rattle.story_tables.specs.declared.issue.Issue.{Issue}
use Rattle.story_tables.specs.Publishing.{IsDueTo}
use Rattle.story_tables.specs.Issued.{IsTold, given_by_kind}
use Rattle.story_tables.proofs.Issued.{does_of, issue_is, told, issued_pubs, issued_standing, issued_feeds, issued_reply, step_for}
use Rattle.story_tables.proofs.stories.Stories.prepare_issue.Goals as goal

pub returns-clause-change : goal.returns-clause-change
returns-clause-change c h caller number keeps counted issues legal same are =
    let command = c.args.command.now in
    let m = c.args.moment in
    let n = c.next_publication-number.result in
    let found = issue_is (issued_by_command (made h) m caller command) c.args.issue same in
    let what = found.0 in
    let it = found.1 in
    let does = does_of h m number caller command what it issues found.2 found.3 legal in
    let p = told h m number caller command what it found.2 found.3 does legal in
    let number_is = c.next_publication-number.ensures h keeps in
    let due_is = subst (λ (x : Issue). IsDueTo c.args.due.items h (standing h) x.kind x.item x.story x.release x.targets) found.4 are in
    record {
      at = refl;
      reply = issued_reply h m number caller command what it found.2 found.3 does legal c.args.entries n c.args.issue counted number_is found.4;
      items = c.set_to-items.ensures.change h caller number keeps does.old (c.in_ok-given.ensures ∙ ap (λ (x : Issue). given_by_kind x.kind x.story) found.4 ∙ sym does.given);
      publications =
          subst (λ l. IsForPublications c.in_ok-publications.publications (pubs h) (standing h) l (standing (entry_of m (Request caller number command) ∷ h))) (sym (issued_pubs h m number caller command what it found.2 found.3 does legal))
          (subst (λ l. IsForPublications c.in_ok-publications.publications (pubs h) (standing h) (p ∷ pubs h) l) (sym (issued_standing h m number caller command what it found.2 found.3 does legal))
          (c.in_ok-publications.ensures.change (pubs h) (standing h) p keeps.publications found.4 number_is (subst (λ l. IsTold what.kind p l (standing h)) (sym c.deref.ensures.value) (does.told c.args.due.items c.requires.differ due_is))));
      feeds = issued_feeds h m number caller command what it found.2 found.3 does legal c.in_ok-feeds.feeds n c.args.due
          (step_for c.in_ok-feeds.feeds h c.args.issue what it n c.args.due found.4 (c.in_ok-feeds.ensures.step (pubs h) (standing h) (c.prepare_publication.ensures.stays _ _ keeps.publications))) number_is due_is;
    }

pub returns-clause-room : goal.returns-clause-room
returns-clause-room c = record {
  items = c.set_to-items.ensures.room;
  publications = c.in_ok-publications.ensures.room;
  feeds =
      let fits = subst (HasQueueRoom c.reserve_for.new.self c.next_publication-number.result c.own_release-own.result) c.deref-2.ensures.value c.in_ok-reserve_for.ensures.ok in
      c.in_ok-feeds.ensures.room c.reserve_for.new.self c.args.moment
      (subst (λ (r : ℕ). HasQueueRoom c.reserve_for.new.self c.next_publication-number.result r c.args.due.items) c.own_release-own.ensures fits) c.requires.differ;
}

pub returns-in_err-publications-clause-stays : goal.returns-in_err-publications-clause-stays
returns-in_err-publications-clause-stays c h keeps = record { items = keeps.items; publications = c.prepare_publication.ensures.stays _ _ keeps.publications; queue = keeps.queue }

pub returns-in_err-reserve_for-clause-stays : goal.returns-in_err-reserve_for-clause-stays
returns-in_err-reserve_for-clause-stays c h keeps = record {
  items = keeps.items;
  publications = c.prepare_publication.ensures.stays _ _ keeps.publications;
  queue = c.reserve_for.ensures.keeps _ keeps.queue;
}

pub returns-in_err-feeds-clause-stays : goal.returns-in_err-feeds-clause-stays
returns-in_err-feeds-clause-stays c h keeps = record {
  items = keeps.items;
  publications = c.prepare_publication.ensures.stays _ _ keeps.publications;
  queue = c.reserve_for.ensures.keeps _ keeps.queue;
}

pub returns-clause-stays : goal.returns-clause-stays
returns-clause-stays c h keeps = record {
  items = keeps.items;
  publications = c.prepare_publication.ensures.stays _ _ keeps.publications;
  queue = c.reserve_for.ensures.keeps _ keeps.queue;
}
