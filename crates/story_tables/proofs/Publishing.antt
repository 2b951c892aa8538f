-- What a first publication does.
use Rattle.std.proofs.Common.{Global, ◌≡◌, ℕ, ◌+◌, ◌<◌, ◌≤◌, max, ◌==◌, ◌&&◌, ◌||◌, Bool, true, false, cond, List, [], ◌∷◌, length, get_or, drop, Option, Some, None, is_some, refl, sym, ap, ◌∙◌, subst, arith}
use Rattle.std.specs.Prelude.{Vec, nat_le, unwrap_or}
use Rattle.std.specs.List.{list_all}
use Rattle.std.specs.Option.{option_map}
use Rattle.std.proofs.lemmas.List.{at_drop_more}
use Rattle.std.proofs.lemmas.Bool.{false≢true, eq-eqb}
use Rattle.std.proofs.lemmas.Bool.Decides.{nat_tests}
use Rattle.news_types.specs.declared.entry.Act.TheVariants.{Request}
use Rattle.news_types.specs.declared.entry.Reply.{Reply}
use Rattle.news_types.specs.declared.command.Command.TheVariants as command
use Rattle.news_types.specs.declared.words.State.TheVariants.{Scheduled}
use Rattle.news_types.specs.declared.words.Kind.TheVariants as kind
use Rattle.news_types.specs.declared.story.Story.{Story}
use Rattle.news_types.specs.declared.query.Due.{Due}
use Rattle.news_types.specs.Names.{Bytes, same, is_in}
use Rattle.news_types.specs.Members.{Each}
use Rattle.news_types.specs.History.{History, moment}
use Rattle.news_types.specs.Products.{subscribers, is_subscriber}
use Rattle.news_types.specs.declared.query.Publication.{Publication}
use Rattle.news_types.specs.Due.{Pub, shown, standing_first, had, is_by, release_to, due_list}
use Rattle.news_types.specs.Items.{fresh}
use Rattle.news_types.specs.Publications.{made, item_count, pubs, standing}
use Rattle.news_types.specs.Outcome.{reply_to, entry_of}
use Rattle.news_types.proofs.Members.{same_is, each_map}
use Rattle.news_types.proofs.Dues.{new_are_fair}
use Rattle.news_types.proofs.Subscribed.{listed_is, new_are_known}
use Rattle.news_types.proofs.Numbering.{IsShownAmong, standing_among, each_among, ItemTo, OfItemTo, pub_items}
use Rattle.item_table.specs.declared.change.ItemChange.{ItemChange}
use Rattle.item_table.specs.declared.change.Step.TheVariants as step
use Rattle.item_table.specs.Rows.{new_row}
use Rattle.item_table.specs.Steps.{IsFor as IsForItems, Leads}
use Rattle.publications.specs.declared.table.Published.{Published}
use Rattle.publications.specs.declared.table.OfItem.{OfItem}
use Rattle.publications.specs.declared.change.PublicationChange.{PublicationChange}
use Rattle.publications.specs.declared.change.Step.TheVariants as pub_step
use Rattle.publications.specs.Keeps.{First, Tells, shown_first, first_of, is_given}
use Rattle.publications.proofs.Firsts.{none_by, none_latest}
use Rattle.publish_queue.specs.Order.{Differ}
use Rattle.publish_queue.specs.Many.{names_in}
use Rattle.publish_queue.specs.Keeps.{IsFair}
use Rattle.publications.specs.Steps.{IsFor as IsForPublications, Leads as LeadsPublications}
use Rattle.story_tables.specs.Keeps.{facts_at}
use Rattle.story_tables.specs.Feeds.{FeedsFor}
use Rattle.story_tables.specs.declared.feeds.FeedStep.TheVariants as feed_step
use Rattle.story_tables.specs.Publishing.{IsDueTo}

-- ---- who is there

told_by : (h : History) (s : Bytes) (b : Bool) → is_some (cond b (Some (facts_at h s)) None) ≡ b
told_by h s true = refl
told_by h s false = refl

pub told_there : (h : History) (s : Bytes) (b : Bool) → b ≡ is_in s (subscribers h) → is_some (cond b (Some (facts_at h s)) None) ≡ is_subscriber h s
told_there h s b is = told_by h s b ∙ is ∙ listed_is h s

module _ {A : Type 0} (p : A → Bool) (xs : List A) (i : ℕ) (x : A) (lt : i < length xs) (is : x ≡ get_or xs i x) where
  all_here : list_all p (drop i xs) ≡ (p x && list_all p (drop (i + 1) xs))
  all_here = at_drop_more (list_all p) xs i x lt ∙ rw (← is) refl

  pub all_over : p x ≡ true → list_all p (drop (i + 1) xs) ≡ list_all p (drop i xs)
  all_over holds = sym (all_here ∙ ap (λ b. b && list_all p (drop (i + 1) xs)) holds)

  pub all_hit : p x ≡ false → false ≡ list_all p (drop i xs)
  all_hit fails = sym (all_here ∙ ap (λ b. b && list_all p (drop (i + 1) xs)) fails)

-- ---- an item of which nothing was published

pub none_had : (n i : ℕ) (ps : List Pub) (s : Bytes) → n < i → Each (OfItemTo n) ps → had ps i s ≡ false
none_had n i [] s past to = refl
none_had n i (p ∷ ps) s past to =
    let le : p.item ≤ n = to.0.1 in
    let no : (p.item == i) ≡ false = grind (arith, nat_tests) in
    rw no (none_had n i ps s past to.1)

pub standing_to : (h : History) → Each (OfItemTo (item_count h)) (standing h)
standing_to h = each_map (IsShownAmong (pubs h)) (OfItemTo (item_count h)) (standing h) (λ p among. each_among (λ (q : Publication). ItemTo (item_count h) q.item) (pubs h) (shown p) (pub_items h) among) (standing_among h)

self_item : (i : ℕ) → (i == i) ≡ true
self_item i = eq-eqb i i refl

or_false : (a : Bool) → (a || false) ≡ a
or_false true = refl
or_false false = refl

-- ---- a first publication of an item of which nothing else stands

-- each has one release
has_named : (s : Bytes) (due : List Due) → is_in s (names_in due) ≡ is_some (release_to s due)
has_named s [] = refl
has_named s (d ∷ due) = by (same s d.subscriber) (has_named s due)
  where
    by : (b : Bool) → is_in s (names_in due) ≡ is_some (release_to s due) → (b || is_in s (names_in due)) ≡ is_some (cond b (Some d.release) (release_to s due))
    by true rest = refl
    by false rest = rest

none_given : (m : ℕ) (s : Bytes) (due : List Due) → is_in s (names_in due) ≡ false → is_given m s due ≡ false
none_given m s [] none = refl
none_given m s (d ∷ due) none = by (same s d.subscriber) none (none_given m s due)
  where
    by : (b : Bool) → (b || is_in s (names_in due)) ≡ false → (is_in s (names_in due) ≡ false → is_given m s due ≡ false) → ((b && nat_le d.release m) || is_given m s due) ≡ false
    by true absent rest = absurd (false≢true (sym absent))
    by false absent rest = rest absent

-- of names that differ, one has come where its release has
given_one : (m : ℕ) (s : Bytes) (due : List Due) → Differ (names_in due) → is_given m s due ≡ is_by m (release_to s due)
given_one m s [] differ = refl
given_one m s (d ∷ due) differ = by (same s d.subscriber) refl (given_one m s due differ.1)
  where
    by : (b : Bool) → same s d.subscriber ≡ b → is_given m s due ≡ is_by m (release_to s due) → ((b && nat_le d.release m) || is_given m s due) ≡ is_by m (cond b (Some d.release) (release_to s due))
    by true alike rest =
        let absent : is_in s (names_in due) ≡ false = ap (λ t. is_in t (names_in due)) (same_is s d.subscriber alike) ∙ differ.0 in
        rw (none_given m s due absent) (or_false _)
    by false other rest = rest

-- ---- what such a publication leaves

max_zero : (n : ℕ) → max n 0 ≡ n
max_zero n = omega arith

pub first_told : (p : Pub) (ps : List Pub) (due : List Due) → Differ (names_in due) → ((s : Bytes) → release_to s due ≡ release_to s p.due) → ((s : Bytes) → had ps p.item s ≡ false) → Tells due due (p ∷ ps) p.item
first_told p ps due differ are none = record {
  had_one = λ s. has_named s due ∙ ap is_some (are s) ∙ sym (rw (self_item p.item, none s) (or_false _));
  given = λ m s. given_one m s due differ ∙ ap (is_by m) (are s) ∙ sym (rw (self_item p.item, none_by m p.item s ps (none s)) (or_false _));
  last = λ s. ap (λ (o : Option ℕ). unwrap_or o 0) (are s) ∙ sym (rw (self_item p.item, none_latest p.item s ps (none s)) (max_zero _));
}

abbrev pub first_with : ℕ → ℕ → List Bytes → First
first_with n m targets = record { number = n; release = m; targets = targets }

-- ---- a flash

module _ (h : History) (m number : ℕ) (caller : Bytes) (story : Story) (targets : List Bytes) where
  abbrev pub flashed : Pub
  flashed = record {
    number = length (pubs h) + 1;
    item = item_count h + 1;
    version = 1;
    kind = kind.First;
    story = story;
    release = m;
    targets = targets;
    due = due_list h (standing h) kind.First (item_count h + 1) story m targets;
  }

  abbrev pub behind_flash : History
  behind_flash = entry_of m (Request caller number (command.Flash story targets)) ∷ h

  pub flash_items : (change : ItemChange) → change.step ≡ step.Make (new_row Scheduled story 0) None → IsForItems change ((made h).items) ((made behind_flash).items)
  flash_items change is =
      record {
        leads = subst (λ s. Leads s ((made h).items) ((made behind_flash).items)) (sym is) (record {
          it = fresh Scheduled story None None;
          behind = refl;
          row = refl;
          called = λ p t. refl;
        });
      }

  nothing_had : (s : Bytes) → had (standing h) (item_count h + 1) s ≡ false
  nothing_had s = none_had (item_count h) (item_count h + 1) (standing h) s (omega arith) (standing_to h)

  abbrev first_at : ℕ → First
  first_at k = record { number = k; release = m; targets = targets }

  pub flash_publications : (change : PublicationChange) (row : Published) (of : OfItem) (n i : ℕ) (due : List Due) → change.step ≡ pub_step.Publish n row of
      → row ≡ record { item = i; version = 1; kind = kind.First; release = m; story = story } → first_of of ≡ record { number = n; release = m; targets = targets }
      → of.soonest.items ≡ due → of.newest.items ≡ due → Differ (names_in due)
      → n ≡ length (pubs h) + 1 → i ≡ item_count h + 1 → IsDueTo due h (standing h) kind.First (item_count h + 1) story m targets
      → IsForPublications change (pubs h) (standing h) (pubs behind_flash) (standing behind_flash)
  flash_publications change row of n i due is row_is of_is soonest_is newest_is differ number_is item_is due_is =
      record {
        leads = subst (λ s. LeadsPublications s (pubs h) (standing h) (pubs behind_flash) (standing behind_flash)) (sym is) (record {
          p = flashed;
          taken = None;
          is_number = number_is;
          all = refl;
          stands = refl;
          shows = row_is ∙ ap (λ (k : ℕ). record { item = k; version = 1; kind = kind.First; release = m; story = story }) item_is;
          first = ap (λ (o : First). Some o) of_is ∙ ap (λ (k : ℕ). Some (first_at k)) number_is
              ∙ sym (ap (λ (b : Bool). option_map shown_first (cond b (Some flashed) (standing_first (item_count h + 1) (standing h)))) (self_item (item_count h + 1)));
          due = subst (λ (l : List Due). Tells of.soonest.items l (flashed ∷ standing h) (item_count h + 1)) (sym newest_is)
              (subst (λ (l : List Due). Tells l due (flashed ∷ standing h) (item_count h + 1)) (sym soonest_is) (first_told flashed (standing h) due differ due_is nothing_had));
        });
      }

  flash_fair : IsFair flashed
  flash_fair = let known = (new_are_fair h (made h) m (Request caller number (command.Flash story targets))).0 in record { agree = known.agree; from = known.from }

  pub flash_feeds : (n : ℕ) (due : Vec Due Global) → n ≡ length (pubs h) + 1 → moment h ≤ m → IsDueTo due.items h (standing h) kind.First (item_count h + 1) story m targets → FeedsFor (feed_step.Publish n m due) h behind_flash
  flash_feeds n due number_is later due_is = record {
    subscribed = refl;
    sent = record { receipts = λ s. refl; attempts = λ s. refl; last = λ s. refl };
    p = flashed;
    stands = refl;
    is_number = sym number_is;
    is_release = refl;
    is_due_to = λ s. sym (due_is s);
    later = later;
    fair = flash_fair;
    known = λ s there. listed_is h s ∙ (new_are_known (entry_of m (Request caller number (command.Flash story targets))) h).0 s there;
  }

  abbrev reply_at : ℕ → ℕ → ℕ → Reply
  reply_at l i n = record { entry = l + 1; item = i; publication = n; release = m }

  pub flash_reply : (l i n : ℕ) → l ≡ length h → i ≡ item_count h + 1 → n ≡ length (pubs h) + 1 → reply_at l i n ≡ reply_to h m (Request caller number (command.Flash story targets))
  flash_reply l i n one two three = λ j. reply_at (one j) (two j) (three j)
