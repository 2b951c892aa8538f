-- What an ingest does that is published at once.
use Rattle.std.proofs.Common.{Global, ◌≡◌, ℕ, ◌+◌, ◌≤◌, ◌==◌, Bool, true, false, cond, List, [], ◌∷◌, ◌++◌, length, max, Some, None, refl, sym, ap, ◌∙◌, subst, arith}
use Rattle.std.specs.Prelude.{Vec}
use Rattle.std.specs.Option.{option_map}
use Rattle.std.proofs.lemmas.Bool.{eq-eqb}
use Rattle.news_types.specs.declared.entry.Act.TheVariants.{Ingest}
use Rattle.news_types.specs.declared.story.Incoming.{Incoming}
use Rattle.news_types.specs.declared.rules.Place.{Place}
use Rattle.news_types.specs.declared.entry.Reply.{Reply}
use Rattle.news_types.specs.declared.words.State.TheVariants.{Scheduled}
use Rattle.news_types.specs.declared.words.Kind.TheVariants as kind
use Rattle.news_types.specs.declared.story.Story.{Story}
use Rattle.news_types.specs.declared.query.Due.{Due}
use Rattle.news_types.specs.Names.{Bytes}
use Rattle.news_types.specs.Members.{Each}
use Rattle.news_types.specs.History.{History, moment}
use Rattle.news_types.specs.Due.{Pub, standing_first, had, due_list}
use Rattle.news_types.specs.Items.{Effect, NewAt, items_by_effect}
use Rattle.news_types.specs.Publications.{effect, issued_by_effect, pubs_of_issue, made, item_count, pubs, standing}
use Rattle.news_types.specs.Outcome.{reply_to, entry_of, with_issue, item_of_effect}
use Rattle.news_types.proofs.Dues.{new_are_fair, IsFair as IsFairPub}
use Rattle.news_types.proofs.Subscribed.{listed_is, new_are_known, IsToKnown}
use Rattle.item_table.specs.declared.change.ItemChange.{ItemChange}
use Rattle.item_table.specs.declared.change.Step.TheVariants as step
use Rattle.item_table.specs.Rows.{new_row}
use Rattle.item_table.specs.Identities.{identity_of}
use Rattle.publications.specs.declared.table.Published.{Published}
use Rattle.publications.specs.declared.table.OfItem.{OfItem}
use Rattle.publications.specs.declared.change.PublicationChange.{PublicationChange}
use Rattle.publications.specs.declared.change.Step.TheVariants as pub_step
use Rattle.publications.specs.Keeps.{First, Tells, shown_first, first_of}
use Rattle.publications.specs.Steps.{IsFor as IsForPublications, Leads as LeadsPublications}
use Rattle.publish_queue.specs.Order.{Differ}
use Rattle.publish_queue.specs.Many.{names_in}
use Rattle.publish_queue.specs.Keeps.{IsFair}
use Rattle.story_tables.specs.Feeds.{FeedsFor}
use Rattle.story_tables.specs.declared.feeds.FeedStep.TheVariants as feed_step
use Rattle.story_tables.specs.Publishing.{IsDueTo}
use Rattle.story_tables.specs.Ingests.{IsForIngest}
use Rattle.story_tables.proofs.Publishing.{none_had, standing_to, first_told}
use Rattle.story_tables.proofs.Ingested.{MakesOne, item_made}

self_item : (i : ℕ) → (i == i) ≡ true
self_item i = eq-eqb i i refl

module _ (h : History) (m : ℕ) (name : Bytes) (come : Incoming) (place : Place) (does : effect h name come m ≡ NewAt place true) where
  abbrev story : Story
  story = come.story

  abbrev targets : List Bytes
  targets = []

  abbrev release : ℕ
  release = max m come.embargo

  abbrev pub issued : Pub
  issued = record {
    number = length (pubs h) + 1;
    item = item_count h + 1;
    version = 1;
    kind = kind.First;
    story = story;
    release = release;
    targets = targets;
    due = due_list h (standing h) kind.First (item_count h + 1) story release targets;
  }

  abbrev pub behind : History
  behind = entry_of m (Ingest name come) ∷ h

  new_ones : pubs_of_issue h (made h) (issued_by_effect (made h) m name come (effect h name come m)) ≡ issued ∷ []
  new_ones = ap (λ (e : Effect). pubs_of_issue h (made h) (issued_by_effect (made h) m name come e)) does

  pub routed_items : (change : ItemChange) → change.step ≡ step.Make (new_row Scheduled story come.created) (Some (identity_of name come.identity)) → IsForIngest change h m name come
  routed_items change is = item_made h m name come change Scheduled (Some place) is (subst MakesOne (sym does) tt) (ap (items_by_effect (made h) name come) does)

  nothing_had : (s : Bytes) → had (standing h) (item_count h + 1) s ≡ false
  nothing_had s = none_had (item_count h) (item_count h + 1) (standing h) s (omega arith) (standing_to h)

  abbrev first_at : ℕ → First
  first_at k = record { number = k; release = release; targets = targets }

  pub routed_publications : (change : PublicationChange) (row : Published) (of : OfItem) (n i : ℕ) (due : List Due) → change.step ≡ pub_step.Publish n row of
      → row ≡ record { item = i; version = 1; kind = kind.First; release = release; story = story } → first_of of ≡ record { number = n; release = release; targets = targets }
      → of.soonest.items ≡ due → of.newest.items ≡ due → Differ (names_in due)
      → n ≡ length (pubs h) + 1 → i ≡ item_count h + 1 → IsDueTo due h (standing h) kind.First (item_count h + 1) story release targets
      → IsForPublications change (pubs h) (standing h) (pubs behind) (standing behind)
  routed_publications change row of n i due is row_is of_is soonest_is newest_is differ number_is item_is due_is =
      record {
        leads = subst (λ s. LeadsPublications s (pubs h) (standing h) (pubs behind) (standing behind)) (sym is) (record {
          p = issued;
          taken = None;
          is_number = number_is;
          all = ap (λ (new : List Pub). new ++ pubs h) new_ones;
          stands = ap (λ (new : List Pub). new ++ standing h) new_ones;
          shows = row_is ∙ ap (λ (k : ℕ). record { item = k; version = 1; kind = kind.First; release = release; story = story }) item_is;
          first = ap (λ (o : First). Some o) of_is ∙ ap (λ (k : ℕ). Some (first_at k)) number_is
              ∙ sym (ap (λ (b : Bool). option_map shown_first (cond b (Some issued) (standing_first (item_count h + 1) (standing h)))) (self_item (item_count h + 1)));
          due = subst (λ (l : List Due). Tells of.soonest.items l (issued ∷ standing h) (item_count h + 1)) (sym newest_is)
              (subst (λ (l : List Due). Tells l due (issued ∷ standing h) (item_count h + 1)) (sym soonest_is) (first_told issued (standing h) due differ due_is nothing_had));
        });
      }

  routed_fair : IsFair issued
  routed_fair = let known = (subst (Each IsFairPub) new_ones (new_are_fair h (made h) m (Ingest name come))).0 in record { agree = known.agree; from = known.from }

  pub routed_feeds : (n : ℕ) (due : Vec Due Global) → n ≡ length (pubs h) + 1 → moment h ≤ m → IsDueTo due.items h (standing h) kind.First (item_count h + 1) story release targets → FeedsFor (feed_step.Publish n release due) h behind
  routed_feeds n due number_is later due_is = record {
    subscribed = refl;
    sent = record { receipts = λ s. refl; attempts = λ s. refl; last = λ s. refl };
    p = issued;
    stands = ap (λ (new : List Pub). new ++ standing h) new_ones;
    is_number = sym number_is;
    is_release = refl;
    is_due_to = λ s. sym (due_is s);
    later = omega (arith, later);
    fair = routed_fair;
    known = λ s there. listed_is h s ∙ (subst (Each (IsToKnown h)) new_ones (new_are_known (entry_of m (Ingest name come)) h)).0 s there;
  }

  abbrev reply_at : ℕ → ℕ → ℕ → Reply
  reply_at l i n = record { entry = l + 1; item = i; publication = n; release = release }

  pub routed_reply : (l i n : ℕ) → l ≡ length h → i ≡ item_count h + 1 → n ≡ length (pubs h) + 1 → reply_at l i n ≡ reply_to h m (Ingest name come)
  routed_reply l i n one two three = (λ j. reply_at (one j) (two j) (three j)) ∙ sym (ap (λ (e : Effect). with_issue (issued_by_effect (made h) m name come e) h (item_of_effect h e)) does)
