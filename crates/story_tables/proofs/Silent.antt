-- What commands that publish and withdraw nothing do.
use Rattle.std.proofs.Common.{◌≡◌, ℕ, zero, suc, ◌+◌, ◌-◌, ◌==◌, true, false, Option, Some, None, List, [], ◌∷◌, length, refl, sym, ap, ◌∙◌, subst, arith}
use Rattle.std.specs.Prelude.{unwrap_or}
use Rattle.std.specs.List.{slice_get}
use Rattle.std.proofs.lemmas.Bool.{false≢true}
use Rattle.std.proofs.lemmas.Bool.Decides.{nat_tests}
use Rattle.news_types.specs.declared.entry.Act.TheVariants.{Request}
use Rattle.news_types.specs.declared.command.Command.{Command}
use Rattle.news_types.specs.declared.command.Command.TheVariants as command
use Rattle.news_types.specs.declared.story.Story.{Story}
use Rattle.news_types.specs.declared.words.State.TheVariants.{Draft}
use Rattle.news_types.specs.Names.{Bytes}
use Rattle.news_types.specs.History.{History}
use Rattle.news_types.specs.Desks.{working}
use Rattle.news_types.specs.Due.{Pub, standing_first}
use Rattle.news_types.specs.Items.{Item, item_numbered, changed, changed_at, at_moment, changed_by, made_by, named_item, fresh, story_after}
use Rattle.news_types.specs.Publications.{made, pubs, standing}
use Rattle.news_types.specs.Outcome.{reply_to, entry_of, item_of_command}
use Rattle.news_types.proofs.Members.{some_is, none_some}
use Rattle.news_types.proofs.Changes.{IsSilent, silent_pubs, count_named}
use Rattle.item_table.specs.declared.row.Setting.{Setting}
use Rattle.item_table.specs.declared.change.ItemChange.{ItemChange}
use Rattle.item_table.specs.declared.change.Step.TheVariants as step
use Rattle.item_table.specs.Rows.{row_of, set_to, new_row}
use Rattle.item_table.specs.Steps.{IsFor as IsForItems, Sets, Leads}
use Rattle.publications.specs.declared.change.PublicationChange.{PublicationChange}
use Rattle.publications.specs.declared.change.Step.TheVariants as pub_step
use Rattle.publications.specs.Steps.{IsFor as IsForPublications, Leads as LeadsPublications}
use Rattle.item_commands.specs.Given.{story_given}
use Rattle.story_tables.specs.Asked.{set_by}
use Rattle.story_tables.specs.Feeds.{FeedsFor, feeds_of}
use Rattle.story_tables.specs.Parts.{is_silent, Allows}

pub silent_is : (command : Command) → is_silent command ≡ true → IsSilent command
silent_is (command.Flash story targets) is = absurd (false≢true is)
silent_is (command.Publish i session schedule embargo targets) is = absurd (false≢true is)
silent_is (command.Correct i session story) is = absurd (false≢true is)
silent_is (command.Kill i session note) is = absurd (false≢true is)
silent_is (command.Recall i session note) is = absurd (false≢true is)
silent_is (command.Deschedule i) is = absurd (false≢true is)
silent_is _ is = tt

-- a story stays where a command gives none
pub story_set : (command : Command) (before : Story) → story_after command before ≡ unwrap_or (story_given command) before
story_set (command.Edit i session story) before = refl
story_set (command.Correct i session story) before = refl
story_set _ before = refl

-- an item that is not there is not changed
past_at : (k : ℕ) (f : Item → Item) (xs : List Item) → slice_get xs k ≡ None → changed_at k f xs ≡ xs
past_at k f [] none = refl
past_at zero f (x ∷ xs) none = absurd (none_some x (sym none))
past_at (suc k) f (x ∷ xs) none = ap (λ ys. x ∷ ys) (past_at k f xs none)

pub past : (i : ℕ) (f : Item → Item) (xs : List Item) → item_numbered xs i ≡ None → changed i f xs ≡ xs
past zero f xs none = refl
past (suc i) f xs none =
    let no : (suc i == 0) ≡ false = grind (arith, nat_tests) in
    let less : suc i - 1 ≡ i = omega arith in
    rw (no, less) (past_at i f xs (sym (rw (no, less) refl) ∙ none))

module _ (h : History) (m number : ℕ) (caller : Bytes) where
  abbrev pub behind : Command → History
  behind command = entry_of m (Request caller number command) ∷ h

  -- the item that a command names is set
  pub item_set : (command : Command) (change : ItemChange) (it : Item) → made_by command ≡ None → item_numbered ((made h).items) (named_item command) ≡ Some it
      → change.step ≡ step.Set (named_item command) (set_by command m (standing_first (named_item command) (standing h)) it)
      → IsForItems change ((made h).items) ((made (behind command)).items)
  item_set command change it old there is =
      let i : ℕ = named_item command in
      let first : Option Pub = standing_first i (standing h) in
      let to : Setting = set_by command m first it in
      let sets : Sets i (set_to to) ((made h).items) ((made (behind command)).items) = record {
        change = λ (x : Item). changed_by caller command (at_moment m first x);
        behind = count_named h m number caller command old;
        row = λ x at.
            let e : it ≡ x = some_is it x (sym there ∙ at) in
            subst (λ (y : Item). row_of (changed_by caller command (at_moment m first y)) ≡ set_to to (row_of y)) e
            (ap (λ (s : Story). record { state = to.state; version = to.version; story = s; created = (row_of it).created }) (story_set command it.story));
        called = λ x at p t. refl;
      } in
      record { leads = subst (λ s. Leads s ((made h).items) ((made (behind command)).items)) (sym is) sets }

  pub item_stays : (command : Command) (change : ItemChange) → made_by command ≡ None → item_numbered ((made h).items) (named_item command) ≡ None → change.step ≡ step.Nothing
      → IsForItems change ((made h).items) ((made (behind command)).items)
  item_stays command change old none is =
      record { leads = subst (λ s. Leads s ((made h).items) ((made (behind command)).items)) (sym is) (count_named h m number caller command old ∙ past (named_item command) _ ((made h).items) none) }

  pub item_made : (desk : Bytes) (story : Story) (change : ItemChange) → change.step ≡ step.Make (new_row Draft story 0) None → IsForItems change ((made h).items) ((made (behind (command.Create desk story))).items)
  item_made desk story change is =
      record {
        leads = subst (λ s. Leads s ((made h).items) ((made (behind (command.Create desk story))).items)) (sym is) (record {
          it = fresh Draft story (Some (record { desk = desk; stage = working })) None;
          behind = refl;
          row = refl;
          called = λ p t. refl;
        });
      }

  -- nothing is published or withdrawn
  pub publications_stay : (command : Command) (change : PublicationChange) → is_silent command ≡ true → change.step ≡ pub_step.Nothing
      → IsForPublications change (pubs h) (standing h) (pubs (behind command)) (standing (behind command))
  publications_stay command change silent is =
      let stay = silent_pubs h m number caller command (silent_is command silent) in
      record { leads = subst (λ s. LeadsPublications s (pubs h) (standing h) (pubs (behind command)) (standing (behind command))) (sym is) (record { all = stay.0; stands = stay.1 }) }

  pub silent_reply : (command : Command) → is_silent command ≡ true → reply_to h m (Request caller number command) ≡ record { entry = length h + 1; item = item_of_command h command; publication = 0; release = 0 }
  silent_reply (command.Flash story targets) is = absurd (false≢true is)
  silent_reply (command.Publish i session schedule embargo targets) is = absurd (false≢true is)
  silent_reply (command.Correct i session story) is = absurd (false≢true is)
  silent_reply (command.Kill i session note) is = absurd (false≢true is)
  silent_reply (command.Recall i session note) is = absurd (false≢true is)
  silent_reply (command.Deschedule i) is = absurd (false≢true is)
  silent_reply _ is = refl

  pub feeds_for : (command : Command) → is_silent command ≡ true → Allows command h → FeedsFor (feeds_of command) h (behind command)
  feeds_for (command.Flash story targets) is may = absurd (false≢true is)
  feeds_for (command.Publish i session schedule embargo targets) is may = absurd (false≢true is)
  feeds_for (command.Correct i session story) is may = absurd (false≢true is)
  feeds_for (command.Kill i session note) is may = absurd (false≢true is)
  feeds_for (command.Recall i session note) is may = absurd (false≢true is)
  feeds_for (command.Deschedule i) is may = absurd (false≢true is)
  feeds_for (command.AddSubscriber subscriber format products lag) is may = record {
    subscribed = refl;
    stands = refl;
    sent = record { receipts = λ s. refl; attempts = λ s. refl; last = λ s. refl };
    new = may;
  }
  feeds_for (command.Resume subscriber) is may = record {
    subscribed = refl;
    stands = refl;
    receipts = λ s. refl;
    attempts = λ s. refl;
    last = λ s. refl;
    there = may;
  }
  feeds_for _ is may = record {
    subscribed = refl;
    stands = refl;
    sent = record { receipts = λ s. refl; attempts = λ s. refl; last = λ s. refl };
  }

-- a silent command that is no creation makes no item
pub not_made : (given : Command) → is_silent given ≡ true → ((desk : Bytes) (story : Story) → given ≡ command.Create desk story → ⊥) → made_by given ≡ None
not_made (command.Create desk story) is other = absurd (other desk story refl)
not_made (command.Flash story targets) is other = absurd (false≢true is)
not_made _ is other = refl
