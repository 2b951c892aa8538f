-- What the items and the publications of a legal list are, said of its entries.
use Rattle.std.specs.Prelude.{◌≡◌, ◌≤◌, ◌<◌, ◌⊎◌, ℕ, ◌+◌, max, min, Bool, true, false, not, ◌&&◌, ◌||◌, ◌==◌, List, [], ◌∷◌, ◌++◌, length, if◌then◌else◌, Option, Some, None, option_map, unwrap_or, IsTrue, slice_get}
use Rattle.std.specs.List.{list_any}
use Rattle.news_types.specs.declared.entry.Entry.{Entry}
use Rattle.news_types.specs.declared.entry.Act.{Act}
use Rattle.news_types.specs.declared.entry.Act.TheVariants.{Ingest, Request}
use Rattle.news_types.specs.declared.command.Command.TheVariants.{Create, Flash, Edit, Publish, Correct, Kill, Recall, Deschedule}
use Rattle.news_types.specs.declared.rules.Place.{Place}
use Rattle.news_types.specs.declared.words.Kind.{Kind}
use Rattle.news_types.specs.declared.words.Kind.TheVariants as kind
use Rattle.news_types.specs.declared.words.PubStatus.{PubStatus}
use Rattle.news_types.specs.declared.words.PubStatus.TheVariants.{Canceled}
use Rattle.news_types.specs.declared.story.Story.{Story}
use Rattle.news_types.specs.Names.{Bytes, same}
use Rattle.news_types.specs.History.{History}
use Rattle.news_types.specs.Products.{permitted, lag}
use Rattle.news_types.specs.Due.{Pub, is_first, takes_back, standing_first, targets_of, release_to}
use Rattle.news_types.specs.Items.{Item, NewAt}
use Rattle.news_types.specs.Publications.{noted, item, item_count, pubs, standing, effect}
use Rattle.news_types.specs.Legal.{IsLegal}

-- ---- items

-- the act is an ingest of this provider, under this identity
abbrev pub is_ingest_of : Bytes → Bytes → Act → Bool
is_ingest_of provider identity (Ingest name come) = same name provider && same come.identity identity
is_ingest_of provider identity _ = false

-- the list has such an ingest
abbrev pub has_come : Bytes → Bytes → History → Bool
has_come provider identity h = list_any (λ (e : Entry). is_ingest_of provider identity e.act) h

-- the act makes an item behind the list: a create, a flash, or the first ingest of its provider under its identity
abbrev pub makes_an_item : Act → History → Bool
makes_an_item (Request caller number (Create desk story)) h = true
makes_an_item (Request caller number (Flash story targets)) h = true
makes_an_item (Ingest name come) h = not (has_come name come.identity h)
makes_an_item _ h = false

-- how many items the entries made
abbrev pub items_made : History → ℕ
items_made [] = 0
items_made (e ∷ h) = if makes_an_item e.act h then items_made h + 1 else items_made h

-- items are numbered in the order of their making: the act makes item i behind the list
abbrev pub makes : ℕ → Act → History → Bool
makes i act h = makes_an_item act h && i == items_made h + 1

-- item i came from the provider under the identity: it was made by such an ingest
abbrev pub came_from : Bytes → Bytes → ℕ → History → Bool
came_from provider identity i [] = false
came_from provider identity i (e ∷ h) = if makes i e.act h then is_ingest_of provider identity e.act else came_from provider identity i h

abbrev pub is_canceled : PubStatus → Bool
is_canceled Canceled = true
is_canceled _ = false

-- the act replaces item i: an ingest, not of a canceled item, from whose provider the item came under its identity
abbrev pub replaces : ℕ → Act → History → Bool
replaces i (Ingest name come) h = not (is_canceled come.status) && came_from name come.identity i h
replaces i _ h = false

-- there are as many items as were made
abbrev pub ItemsAreCounted : Type 0
ItemsAreCounted = (h : History) → IsLegal h → item_count h ≡ items_made h

-- ---- versions

-- the act adds a version to item i: an edit, correction, kill or recall of it, or an ingest that replaces it
abbrev pub adds_version : ℕ → Act → History → Bool
adds_version i (Request caller number (Edit j session story)) h = i == j
adds_version i (Request caller number (Correct j session story)) h = i == j
adds_version i (Request caller number (Kill j session note)) h = i == j
adds_version i (Request caller number (Recall j session note)) h = i == j
adds_version i act h = replaces i act h

-- how many entries did
abbrev pub versions_added : ℕ → History → ℕ
versions_added i [] = 0
versions_added i (e ∷ h) = if adds_version i e.act h then versions_added i h + 1 else versions_added i h

-- an item has version 1, and one more for each entry that added one
abbrev pub VersionsAreCounted : Type 0
VersionsAreCounted = (h : History) → IsLegal h → (i : ℕ) (it : Item) → item h i ≡ Some it → it.version ≡ 1 + versions_added i h

-- ---- stories

-- the act gives item i its story: it makes the item, edits or corrects it, or replaces it
abbrev pub gives_story : ℕ → Act → History → Bool
gives_story i (Request caller number (Edit j session story)) h = i == j
gives_story i (Request caller number (Correct j session story)) h = i == j
gives_story i act h = makes i act h || replaces i act h

-- the story of an act that has one
abbrev pub story_of : Act → Option Story
story_of (Request caller number (Create desk story)) = Some story
story_of (Request caller number (Flash story targets)) = Some story
story_of (Request caller number (Edit j session story)) = Some story
story_of (Request caller number (Correct j session story)) = Some story
story_of (Ingest name come) = Some come.story
story_of _ = None

-- the story of the newest entry that gave item i one
abbrev pub newest_story : ℕ → History → Option Story
newest_story i [] = None
newest_story i (e ∷ h) = if gives_story i e.act h then story_of e.act else newest_story i h

-- an item has the newest of the stories that it was given, and there is none for a number that no item has
abbrev pub StoriesAreNewest : Type 0
StoriesAreNewest = (h : History) → IsLegal h → (i : ℕ) → option_map (λ (it : Item). it.story) (item h i) ≡ newest_story i h

-- ---- publications

-- what the entry behind the list publishes is this
abbrev pub IsNextPublication : Entry → History → Pub → Type 0
IsNextPublication e h p = pubs (e ∷ h) ≡ p ∷ pubs h

-- an entry of the list published it, and it has the next number behind those that were published before
pub record WasPublished (h : History) (p : Pub) : Type 0 where
  pub newer : List Entry
  pub entry : Entry
  pub before : History
  pub is : h ≡ newer ++ entry ∷ before
  pub published : IsNextPublication entry before p
  pub number : p.number ≡ length (pubs before) + 1

abbrev pub EachWasPublished : Type 0
EachWasPublished = (h : History) (k : ℕ) (p : Pub) → slice_get (pubs h) k ≡ Some p → WasPublished h p

-- a publication of this kind and item, with this release and these targets
pub record IsPublicationOf (k : Kind) (i time : ℕ) (names : List Bytes) (p : Pub) : Type 0 where
  pub of_kind : p.kind ≡ k
  pub of_item : p.item ≡ i
  pub released : p.release ≡ time
  pub targeted : p.targets ≡ names

-- the act publishes behind the list at the moment: a flash, a publish, a correction, a kill or a recall, and an ingest that makes an
-- item which is published at once
abbrev pub IsPublishing : Act → ℕ → History → Type 0
IsPublishing (Request caller number (Flash story targets)) m h = Unit {0}
IsPublishing (Request caller number (Publish i session schedule embargo targets)) m h = Unit {0}
IsPublishing (Request caller number (Correct i session story)) m h = Unit {0}
IsPublishing (Request caller number (Kill i session note)) m h = Unit {0}
IsPublishing (Request caller number (Recall i session note)) m h = Unit {0}
IsPublishing (Ingest name come) m h = (place : Place) × (effect h name come m ≡ NewAt place true)
IsPublishing act m h = ⊥

-- each such entry of a legal list publishes one
abbrev pub PublishingActsPublish : Type 0
PublishingActsPublish = (e : Entry) (h : History) → IsLegal (e ∷ h) → IsPublishing e.act e.moment h → (p : Pub) × IsNextPublication e h p

-- what an act publishes behind the list at the moment: a flash and an ingest the new item, a publish its item, these for the first time;
-- a correction, kill or recall its item again, for the targets of the item's first publication
abbrev pub IsPublishedByAct : Act → ℕ → History → Pub → Type 0
IsPublishedByAct (Request caller number (Flash story targets)) m h p = IsPublicationOf kind.First (item_count h + 1) m targets p
IsPublishedByAct (Request caller number (Publish i session schedule embargo targets)) m h p = IsPublicationOf kind.First i (max m (max (unwrap_or schedule 0) (unwrap_or embargo 0))) targets p
IsPublishedByAct (Request caller number (Correct i session story)) m h p = IsPublicationOf kind.Correct i m (targets_of (standing_first i (standing h))) p
IsPublishedByAct (Request caller number (Kill i session note)) m h p = IsPublicationOf kind.Kill i m (targets_of (standing_first i (standing h))) p
IsPublishedByAct (Request caller number (Recall i session note)) m h p = IsPublicationOf kind.Recall i m (targets_of (standing_first i (standing h))) p
IsPublishedByAct (Ingest name come) m h p = IsPublicationOf kind.First (item_count h + 1) (max m come.embargo) [] p
IsPublishedByAct act m h p = ⊥

-- the note of a kill or recall
abbrev pub note_of : Act → Option Bytes
note_of (Request caller number (Kill i session note)) = Some note
note_of (Request caller number (Recall i session note)) = Some note
note_of _ = None

-- no other entry publishes; and what one publishes shows the item as it is behind the entry, of a kill or recall with the note as its body
pub record ShowsItem (e : Entry) (h : History) (p : Pub) : Type 0 where
  pub act : IsPublishing e.act e.moment h
  pub what : IsPublishedByAct e.act e.moment h p
  pub it : Item
  pub there : item (e ∷ h) p.item ≡ Some it
  pub version : p.version ≡ it.version
  pub story : p.story ≡ noted (note_of e.act) it.story

abbrev pub PublicationsShowItems : Type 0
PublicationsShowItems = (e : Entry) (h : History) (p : Pub) → IsNextPublication e h p → ShowsItem e h p

-- ---- to whom a publication is due, and its release for each, by the list before its entry

-- a publication of the item stands for the subscriber, with this release for it
abbrev pub StandsFor : History → ℕ → Bytes → ℕ → Type 0
StandsFor h i s release = (k : ℕ) × (p : Pub) × (slice_get (standing h) k ≡ Some p) × (p.item ≡ i) × (release_to s p.due ≡ Some release)

-- later by the lag, but not behind the last second of the year 9999; and no earlier than the release itself
abbrev pub delayed : ℕ → ℕ → ℕ
delayed release lag = max release (min (release + lag) 253402300799)

-- the release is the latest of a first one and those of the item's publications that stand for the subscriber
pub record IsLatest (h : History) (i : ℕ) (s : Bytes) (first release : ℕ) : Type 0 where
  pub from : first ≤ release
  pub behind : (earlier : ℕ) → StandsFor h i s earlier → earlier ≤ release
  pub one : (release ≡ first) ⊎ StandsFor h i s release

-- whom a publication reaches, and when. A first one: those to whom it is permitted, each later by its lag. A correction: these, and
-- all for whom a publication of the item stands, and no earlier than any of them. A kill or recall: exactly those for whom a
-- publication of the item stands that is released to them by then, at its own release
abbrev pub Reaches : Kind → History → Pub → Bytes → ℕ → Type 0
Reaches kind.First h p s release = IsTrue (permitted h p.story p.targets s) × (release ≡ delayed p.release (lag h s))
Reaches kind.Correct h p s release =
    (IsTrue (permitted h p.story p.targets s) ⊎ ((earlier : ℕ) × StandsFor h p.item s earlier)) × IsLatest h p.item s (delayed p.release (lag h s)) release
Reaches kind.Kill h p s release = ((earlier : ℕ) × StandsFor h p.item s earlier × (earlier ≤ p.release)) × (release ≡ p.release)
Reaches kind.Recall h p s release = ((earlier : ℕ) × StandsFor h p.item s earlier × (earlier ≤ p.release)) × (release ≡ p.release)

-- a publication is due to those whom it reaches and to nobody else, each with the release at which it does
abbrev pub DueToThoseReached : Type 0
DueToThoseReached = (e : Entry) (h : History) (p : Pub) → IsNextPublication e h p → (s : Bytes) (release : ℕ) →
    (release_to s p.due ≡ Some release → Reaches p.kind h p s release) × (Reaches p.kind h p s release → release_to s p.due ≡ Some release)

-- ---- what stands for whom

-- the publication is the first of its item, and behind it the item was descheduled
pub record IsDescheduled (h : History) (p : Pub) : Type 0 where
  pub first : IsTrue (is_first p.kind)
  pub newer : List Entry
  pub entry : Entry
  pub before : History
  pub is : h ≡ newer ++ entry ∷ before
  pub behind : p.number ≤ length (pubs before)
  pub caller : Bytes
  pub number : ℕ
  pub act : entry.act ≡ Request caller number (Deschedule p.item)

-- a later kill or recall of the publication's item has a release before this one
pub record IsKilledBefore (h : History) (p : Pub) (release : ℕ) : Type 0 where
  pub place : ℕ
  pub kill : Pub
  pub there : slice_get (pubs h) place ≡ Some kill
  pub back : IsTrue (takes_back kill.kind)
  pub item : kill.item ≡ p.item
  pub later : p.number < kill.number
  pub before : kill.release < release

-- the publication of this number stands for the subscriber, with this release for it
abbrev pub StandsWith : History → ℕ → Bytes → ℕ → Type 0
StandsWith h n s release = (k : ℕ) × (p : Pub) × (slice_get (standing h) k ≡ Some p) × (p.number ≡ n) × (release_to s p.due ≡ Some release)

-- it is due to the subscriber with this release, was not descheduled, and not killed before that release
abbrev pub IsLeftTo : History → Pub → Bytes → ℕ → Type 0
IsLeftTo h p s release = (release_to s p.due ≡ Some release) × (IsDescheduled h p → ⊥) × (IsKilledBefore h p release → ⊥)

-- a publication stands for those to whom it is left, and for nobody else
abbrev pub StandsForThoseLeft : Type 0
StandsForThoseLeft = (h : History) → IsLegal h → (k : ℕ) (p : Pub) → slice_get (pubs h) k ≡ Some p → (s : Bytes) (release : ℕ) →
    (StandsWith h p.number s release → IsLeftTo h p s release) × (IsLeftTo h p s release → StandsWith h p.number s release)
