-- Each publication of a list was made by an entry, and shows its item.
use Rattle.std.proofs.Common.{◌≡◌, ℕ, zero, suc, ◌+◌, ◌≤◌, ◌⊎◌, inl, inr, max, true, false, Option, Some, None, List, [], ◌∷◌, ◌++◌, length, refl, sym, ap, ◌∙◌, subst, arith}
use Rattle.std.specs.Prelude.{slice_get, is_some}
use Rattle.news_types.specs.declared.entry.Entry.{Entry}
use Rattle.news_types.specs.declared.entry.Act.{Act}
use Rattle.news_types.specs.declared.entry.Act.TheVariants.{Ingest, Request}
use Rattle.news_types.specs.declared.command.Command.{Command}
use Rattle.news_types.specs.declared.command.Command.TheVariants.{Flash, Publish, Correct, Kill, Recall}
use Rattle.news_types.specs.declared.words.Kind.TheVariants as kind
use Rattle.news_types.specs.declared.story.Incoming.{Incoming}
use Rattle.news_types.specs.Names.{Bytes, same}
use Rattle.news_types.specs.History.{History}
use Rattle.news_types.specs.Due.{Pub, standing_first}
use Rattle.news_types.specs.Items.{Item, item_numbered, changed, changed_by, at_moment, made_by, named_item, item_after, with_made, Effect, New, NewAt, Replaces, Cancels, Settled, routed_item, items_by_effect, effect_by}
use Rattle.news_types.specs.Publications.{noted, Issue, first_issue, later_issue, release_at, made, item, pubs, standing, issued_by, issued_by_command, issued_by_effect, pub_of, pubs_of_item, pubs_of_issue}
use Rattle.news_types.proofs.Members.{some_is, none_some}
use Rattle.news_types.proofs.Bounds.{new_pubs, new_pubs_few}
use Rattle.news_types.proofs.Firsts.{numbered_hit, numbered_new}
use Rattle.news_types.proofs.Legal.{missing_row, item_there, still_there}
use Rattle.news_types.specs.Denial.{absent, first_missing, missing}
use Rattle.news_types.specs.Legal.{Follows}
use Rattle.news_types.specs.declared.words.Thing.{Thing}
use Rattle.news_types.specs.declared.words.Thing.TheVariants as thing
use mathlib.Core.Bool.{true≢false}
use Rattle.news_types.proofs.Numbering.{CountsDown, pubs_count_down}
use Rattle.world_laws.specs.Facts.{IsNextPublication, WasPublished, EachWasPublished, IsPublishing, PublishingActsPublish, IsPublishedByAct, note_of, ShowsItem, PublicationsShowItems}

-- ---- each was published

-- an entry publishes one, or none
one_or_none : (ps : List Pub) → length ps ≤ 1 → (ps ≡ []) ⊎ ((p : Pub) × (ps ≡ p ∷ []))
one_or_none [] few = inl refl
one_or_none (p ∷ []) few = inr (p, refl)
one_or_none (p ∷ q ∷ ps) few = absurd (omega (arith, few))

was_published : (h : History) (k : ℕ) (p : Pub) → slice_get (pubs h) k ≡ Some p → WasPublished h p
was_published [] k p is = absurd (none_some p is)
was_published (e ∷ h) k p is = by (one_or_none (new_pubs e h) (new_pubs_few e h)) (was_published h)
  where
    later : WasPublished h p → WasPublished (e ∷ h) p
    later was = record { newer = e ∷ was.newer; entry = was.entry; before = was.before; is = ap (λ l. e ∷ l) was.is; published = was.published; number = was.number }

    here : (q : Pub) (k : ℕ) → new_pubs e h ≡ q ∷ [] → slice_get (q ∷ pubs h) k ≡ Some p → ((j : ℕ) (x : Pub) → slice_get (pubs h) j ≡ Some x → WasPublished h x) → WasPublished (e ∷ h) p
    here q zero new at old =
        let made_of : pubs (e ∷ h) ≡ q ∷ pubs h = ap (λ l. l ++ pubs h) new in
        let same = some_is q p at in
        record { newer = []; entry = e; before = h; is = refl; published = made_of ∙ ap (λ (x : Pub). x ∷ pubs h) same; number = sym (ap (λ (x : Pub). x.number) same) ∙ (subst CountsDown made_of (pubs_count_down (e ∷ h))).0 }
    here q (suc j) new at old = later (old j p at)

    by : (new_pubs e h ≡ []) ⊎ ((q : Pub) × (new_pubs e h ≡ q ∷ [])) → ((j : ℕ) (x : Pub) → slice_get (pubs h) j ≡ Some x → WasPublished h x) → WasPublished (e ∷ h) p
    by (inl none) old = later (old k p (sym (ap (λ l. slice_get (l ++ pubs h) k) none) ∙ is))
    by (inr one) old = here one.0 k one.1 (sym (ap (λ l. slice_get (l ++ pubs h) k) one.1) ∙ is) old

pub each_was_published : EachWasPublished
each_was_published = was_published

-- what an entry publishes is made of its issue
pub record IsMade (e : Entry) (h : History) (p : Pub) : Type 0 where
  pub issue : Issue
  pub item : Item
  pub issued : issued_by h (made h) e.moment e.act ≡ Some issue
  pub after : issue.after ≡ Some item
  pub is : pub_of h (made h) issue item ≡ p

longer : (p : Pub) (ps : List Pub) → ps ≡ p ∷ ps → ⊥
longer p ps same = let more : length ps ≡ suc (length ps) = ap length same in omega (arith, more)

head_is : (p q : Pub) (ps : List Pub) → q ∷ ps ≡ p ∷ ps → q ≡ p
head_is p q ps same = cc

pub made_of : (e : Entry) (h : History) (p : Pub) → IsNextPublication e h p → IsMade e h p
made_of e h p is = by (issued_by h (made h) e.moment e.act) refl is
  where
    of_item : (issue : Issue) (o : Option Item) → issued_by h (made h) e.moment e.act ≡ Some issue → issue.after ≡ o → pubs_of_item h (made h) issue o ++ pubs h ≡ p ∷ pubs h → IsMade e h p
    of_item issue None issued after same = absurd (longer p (pubs h) same)
    of_item issue (Some it) issued after same = record { issue = issue; item = it; issued = issued; after = after; is = head_is p (pub_of h (made h) issue it) (pubs h) same }

    by : (o : Option Issue) → issued_by h (made h) e.moment e.act ≡ o → pubs_of_issue h (made h) o ++ pubs h ≡ p ∷ pubs h → IsMade e h p
    by None issued same = absurd (longer p (pubs h) same)
    by (Some issue) issued same = of_item issue issue.after issued refl same

-- ---- what it shows

-- the issue of an act, and the item behind it
record Issued (h : History) (e : Entry) (issue : Issue) (it : Item) : Type 0 where
  pub act : IsPublishing e.act e.moment h
  pub what : IsPublishedByAct e.act e.moment h (pub_of h (made h) issue it)
  pub there : item (e ∷ h) issue.item ≡ Some it
  pub note : issue.note ≡ note_of e.act

-- an issue of the item that a command changed
module _ (h : History) (m : ℕ) (caller : Bytes) (number : ℕ) (issue : Issue) (it : Item) where
  abbrev entry : Command → Entry
  entry command = record { moment = m; act = Request caller number command }

  from_issue : (e : Entry) (one : Issue) → Some one ≡ Some issue → (one.after ≡ Some it → Issued h e one it) → issue.after ≡ Some it → Issued h e issue it
  from_issue e one is of after = subst (λ (x : Issue). x.after ≡ Some it → Issued h e x it) (some_is one issue is) of after

  -- the named item is behind the command what the issue has
  named_there : (command : Command) → made_by command ≡ None → (i : ℕ) → i ≡ named_item command → item_after (made h) m caller command ≡ Some it → item (entry command ∷ h) i ≡ Some it
  named_there command none i same is =
      let change : Item → Item = λ x. changed_by caller command (at_moment m (standing_first (named_item command) (standing h)) x) in
      ap (λ (o : Option Item). item_numbered (with_made o (changed (named_item command) change (made h).items) (made h).items) i) none
      ∙ ap (λ (j : ℕ). item_numbered (changed (named_item command) change (made h).items) j) same
      ∙ numbered_hit (named_item command) change (made h).items ∙ is

  new_there : (x : Item) → x ≡ it → item_numbered ((made h).items ++ x ∷ []) (length (made h).items + 1) ≡ Some it
  new_there x same = numbered_new x (made h).items ∙ ap Some same

  command_issued : (command : Command) → issued_by_command (made h) m caller command ≡ Some issue → issue.after ≡ Some it → Issued h (entry command) issue it
  command_issued (Flash story targets) issued after =
      from_issue (entry (Flash story targets)) (first_issue (length (made h).items + 1) (made_by (Flash story targets)) m targets) issued
      (λ is. record { act = tt; what = record { of_kind = refl; of_item = refl; released = refl; targeted = refl }; there = new_there _ (some_is _ it is); note = refl }) after
  command_issued (Publish i session schedule embargo targets) issued after =
      let command : Command = Publish i session schedule embargo targets in
      from_issue (entry command) (first_issue i (item_after (made h) m caller command) (release_at m schedule embargo) targets) issued
      (λ is. record { act = tt; what = record { of_kind = refl; of_item = refl; released = refl; targeted = refl }; there = named_there command refl i refl is; note = refl }) after
  command_issued (Correct i session story) issued after =
      let command : Command = Correct i session story in
      from_issue (entry command) (later_issue kind.Correct (made h) i (item_after (made h) m caller command) m None) issued
      (λ is. record { act = tt; what = record { of_kind = refl; of_item = refl; released = refl; targeted = refl }; there = named_there command refl i refl is; note = refl }) after
  command_issued (Kill i session note) issued after =
      let command : Command = Kill i session note in
      from_issue (entry command) (later_issue kind.Kill (made h) i (item_after (made h) m caller command) m (Some note)) issued
      (λ is. record { act = tt; what = record { of_kind = refl; of_item = refl; released = refl; targeted = refl }; there = named_there command refl i refl is; note = refl }) after
  command_issued (Recall i session note) issued after =
      let command : Command = Recall i session note in
      from_issue (entry command) (later_issue kind.Recall (made h) i (item_after (made h) m caller command) m (Some note)) issued
      (λ is. record { act = tt; what = record { of_kind = refl; of_item = refl; released = refl; targeted = refl }; there = named_there command refl i refl is; note = refl }) after
  command_issued command issued after = absurd (none_some issue issued)

  effect_issued : (name : Bytes) (come : Incoming) (effect : Effect) → effect_by h (made h) name come m ≡ effect → issued_by_effect (made h) m name come effect ≡ Some issue → issue.after ≡ Some it → Issued h (record { moment = m; act = Ingest name come }) issue it
  effect_issued name come (NewAt place true) is issued after =
      from_issue (record { moment = m; act = Ingest name come }) (first_issue (length (made h).items + 1) (Some (routed_item name come place true)) (max m come.embargo) []) issued
      (λ same. record {
        act = (place, is);
        what = record { of_kind = refl; of_item = refl; released = refl; targeted = refl };
        there = ap (λ (x : Effect). item_numbered (items_by_effect (made h) name come x) (length (made h).items + 1)) is ∙ new_there (routed_item name come place true) (some_is _ it same);
        note = refl;
      }) after
  effect_issued name come (NewAt place false) is issued after = absurd (none_some issue issued)
  effect_issued name come New is issued after = absurd (none_some issue issued)
  effect_issued name come (Replaces i) is issued after = absurd (none_some issue issued)
  effect_issued name come (Cancels i) is issued after = absurd (none_some issue issued)
  effect_issued name come (Settled i) is issued after = absurd (none_some issue issued)

act_issued : (h : History) (m : ℕ) (act : Act) (issue : Issue) (it : Item) → issued_by h (made h) m act ≡ Some issue → issue.after ≡ Some it → Issued h (record { moment = m; act = act }) issue it
act_issued h m (Request caller number command) issue it issued after = command_issued h m caller number issue it command issued after
act_issued h m (Ingest name come) issue it issued after = effect_issued h m [] 0 issue it name come (effect_by h (made h) name come m) refl issued after
act_issued h m act issue it issued after = absurd (none_some issue issued)

pub publications_show_items : PublicationsShowItems
publications_show_items e h p is =
    let one = made_of e h p is in
    let issued = act_issued h e.moment e.act one.issue one.item one.issued one.after in
    subst (ShowsItem e h) one.is
    (record { act = issued.act; what = issued.what; it = one.item; there = issued.there; version = refl; story = ap (λ (note : Option Bytes). noted note one.item.story) issued.note })

-- ---- which entries publish

abbrev PublishesOne : History → List Pub → Type 0
PublishesOne h new = (p : Pub) × (new ++ pubs h ≡ p ∷ pubs h)

one_of_item : (h : History) (issue : Issue) (o : Option Item) → is_some o ≡ true → PublishesOne h (pubs_of_item h (made h) issue o)
one_of_item h issue None there = absurd (true≢false (sym there))
one_of_item h issue (Some it) there = (pub_of h (made h) issue it, refl)

first_front : (xs ys : List Thing) → first_missing (xs ++ ys) ≡ None → first_missing xs ≡ None
first_front [] ys none = refl
first_front (x ∷ xs) ys none = none

-- the item that a command names is there behind it
after_there : (h : History) (m : ℕ) (caller : Bytes) (command : Command) → first_missing (absent (is_some (item h (named_item command))) thing.Item) ≡ None → is_some (item_after (made h) m caller command) ≡ true
after_there h m caller command none = still_there _ (item h (named_item command)) (item_there (item h (named_item command)) none)

command_publishes : (h : History) (m : ℕ) (caller : Bytes) (number : ℕ) (command : Command) → first_missing (missing h command) ≡ None → IsPublishing (Request caller number command) m h → PublishesOne h (pubs_of_issue h (made h) (issued_by_command (made h) m caller command))
command_publishes h m caller number (Flash story targets) none says = (_, refl)
command_publishes h m caller number (Publish i session schedule embargo targets) none says =
    let command : Command = Publish i session schedule embargo targets in
    let o : Option Item = item_after (made h) m caller command in one_of_item h (first_issue i o (release_at m schedule embargo) targets) o (after_there h m caller command (first_front _ _ none))
command_publishes h m caller number (Correct i session story) none says =
    let o : Option Item = item_after (made h) m caller (Correct i session story) in one_of_item h (later_issue kind.Correct (made h) i o m None) o (after_there h m caller (Correct i session story) none)
command_publishes h m caller number (Kill i session note) none says =
    let o : Option Item = item_after (made h) m caller (Kill i session note) in one_of_item h (later_issue kind.Kill (made h) i o m (Some note)) o (after_there h m caller (Kill i session note) none)
command_publishes h m caller number (Recall i session note) none says =
    let o : Option Item = item_after (made h) m caller (Recall i session note) in one_of_item h (later_issue kind.Recall (made h) i o m (Some note)) o (after_there h m caller (Recall i session note) none)
command_publishes h m caller number command none says = absurd says

act_publishes : (h : History) (m : ℕ) (act : Act) → Follows h act m → IsPublishing act m h → PublishesOne h (pubs_of_issue h (made h) (issued_by h (made h) m act))
act_publishes h m (Request caller number command) follows says = command_publishes h m caller number command (missing_row h caller number command m follows.1) says
act_publishes h m (Ingest name come) follows says =
    let issued : Option Issue = issued_by_effect (made h) m name come (NewAt says.0 true) in
    subst (λ (x : Effect). PublishesOne h (pubs_of_issue h (made h) (issued_by_effect (made h) m name come x))) (sym says.1) (_, refl)
act_publishes h m act follows says = absurd says

pub publishing_acts_publish : PublishingActsPublish
publishing_acts_publish e h legal says = act_publishes h e.moment e.act legal.2 says
