-- The records of what is due and of the wires behind an entry.
use Rattle.std.proofs.Common.{◌≡◌, ℕ, ◌+◌, max, ◌==◌, Bool, true, false, cond, Option, Some, None, List, [], ◌∷◌, ◌++◌, refl, sym, ap, subst, ◌∙◌}
use Rattle.std.specs.Option.{option_map}
use Rattle.std.proofs.lemmas.Bool.{false≢true}
use mathlib.Core.Bool.{true≢false}
use Rattle.news_types.specs.declared.entry.Act.{Act}
use Rattle.news_types.specs.declared.entry.Act.TheVariants.{Advance, Attempt, Receipt, Halt, Request, Ingest}
use Rattle.news_types.specs.declared.command.Command.{Command}
use Rattle.news_types.specs.declared.command.Command.TheVariants as command
use Rattle.news_types.specs.declared.words.Format.{Format}
use Rattle.news_types.specs.declared.words.Kind.{Kind}
use Rattle.news_types.specs.declared.words.Kind.TheVariants as kind
use Rattle.news_types.specs.declared.words.State.{State}
use Rattle.news_types.specs.declared.words.State.TheVariants.{Scheduled}
use Rattle.news_types.specs.declared.story.Incoming.{Incoming}
use Rattle.news_types.specs.declared.story.Story.{Story}
use Rattle.news_types.specs.declared.rules.Place.{Place}
use Rattle.news_types.specs.declared.query.Due.{Due}
use Rattle.news_types.specs.Names.{Bytes}
use Rattle.news_types.specs.Members.{Each}
use Rattle.news_types.specs.History.{History}
use Rattle.news_types.specs.Products.{subscribers}
use Rattle.news_types.specs.Due.{Pub, is_first, takes_back, taken_back, standing_first}
use Rattle.news_types.specs.Items as items
use Rattle.news_types.specs.Items.{Item, state_at, routed_item}
use Rattle.news_types.specs.Publications.{Issue, made, item, item_count, pubs, standing, effect, issued_by, issued_by_command, issued_by_effect, pub_of, pubs_of_item, pubs_of_issue, kept_by, kept_by_command}
use Rattle.news_types.specs.Legal.{IsLegal}
use Rattle.news_types.specs.Outcome.{entry_of, reply_to, with_issue, item_of_effect}
use Rattle.news_types.proofs.Members.{some_is, none_some, each_map}
use Rattle.news_types.proofs.Legal.{descheduled}
use Rattle.publications.specs.Numbers.{numbers_of}
use Rattle.story_tables.specs.declared.ingest.Effect.{Effect}
use Rattle.story_tables.specs.declared.ingest.Effect.TheVariants.{New, NewAt, Replaces, Cancels, Settled}
use Rattle.story_tables.specs.declared.issue.Issue as declared_issue
use Rattle.story_tables.specs.Ingests.{effect_of, IsUnpublished}
use Rattle.story_tables.specs.Issued.{issues, issue_of, issued_of}
use Rattle.story_tables.specs.Parts.{is_silent}
use Rattle.story_tables.specs.Publishing.{IsDueTo}
use Rattle.story_tables.proofs.Later.{is_later, is_past, later_at, past_of, IsOfPast}
use Rattle.desk_views.specs.declared.wire.Wire.{Wire}
use Rattle.desk_views.specs.Wires.{wire_of, last_wire}
use Rattle.desk_records.specs.declared.dues.Dues.{Dues}
use Rattle.desk_records.specs.declared.wires.Wires.{Wires}
use Rattle.desk_records.specs.Dues.{KeepsDues}
use Rattle.desk_records.specs.DueSteps.{AddsSubscriber, Publishes, TakesBack, Withdraws, Stays}
use Rattle.desk_records.specs.Wires.{KeepsWires}
use Rattle.newsroom.specs.Acts.{IsSmall}
use Rattle.newsroom.proofs.Allowed.{allows}

-- ---- what stays

-- the server's own acts change neither
pub dues_kept : (t : Dues) (h : History) (act : Act) (m : ℕ) → IsSmall act → KeepsDues t h → KeepsDues t (entry_of m act ∷ h)
dues_kept t h Advance m small keeps = record { places = keeps.places; count = keeps.count; rows = keeps.rows }
dues_kept t h (Attempt s k) m small keeps = record { places = keeps.places; count = keeps.count; rows = keeps.rows }
dues_kept t h (Receipt s n) m small keeps = record { places = keeps.places; count = keeps.count; rows = keeps.rows }
dues_kept t h Halt m small keeps = record { places = keeps.places; count = keeps.count; rows = keeps.rows }
dues_kept t h _ m small keeps = absurd small

pub wires_kept : (t : Wires) (h : History) (act : Act) (m : ℕ) → IsSmall act → KeepsWires t h → KeepsWires t (entry_of m act ∷ h)
wires_kept t h Advance m small keeps = record { wires = keeps.wires }
wires_kept t h (Attempt s k) m small keeps = record { wires = keeps.wires }
wires_kept t h (Receipt s n) m small keeps = record { wires = keeps.wires }
wires_kept t h Halt m small keeps = record { wires = keeps.wires }
wires_kept t h _ m small keeps = absurd small

-- nor does a request change the wires
pub wires_behind : (t : Wires) (h : History) (m : ℕ) (caller : Bytes) (number : ℕ) (given : Command) → KeepsWires t h → KeepsWires t (entry_of m (Request caller number given) ∷ h)
wires_behind t h m caller number given keeps = record { wires = keeps.wires }

-- ---- what is published

module _ (h : History) (m : ℕ) (act : Act) (what : Issue) (it : Item) (due : List Due) (issued : issued_by h (made h) m act ≡ Some what) (after : what.after ≡ Some it) where
  abbrev p : Pub
  p = pub_of h (made h) what it

  new : pubs_of_issue h (made h) (issued_by h (made h) m act) ≡ p ∷ []
  new = ap (pubs_of_issue h (made h)) issued ∙ ap (pubs_of_item h (made h) what) after

  module _ (alike : subscribers (entry_of m act ∷ h) ≡ subscribers h) (told : IsDueTo due h (standing h) what.kind what.item p.story what.release what.targets) where
    pub publishes : kept_by m act (standing h) ≡ standing h → Publishes due h (entry_of m act ∷ h)
    publishes kept = record {
      p = p;
      releases = λ s. sym (told s);
      subscribers = alike;
      pubs = ap (λ (ps : List Pub). ps ++ pubs h) new;
      standing = ap (λ (ps : List Pub). ps ++ kept_by m act (standing h)) new ∙ ap (λ (ps : List Pub). p ∷ ps) kept;
    }

    pub retracts : (numbers : List ℕ) → numbers ≡ numbers_of what.item (pubs h) → kept_by m act (standing h) ≡ taken_back m what.item (standing h) → TakesBack due numbers m h (entry_of m act ∷ h)
    retracts numbers are kept = record {
      p = p;
      releases = λ s. sym (told s);
      of_item = are;
      subscribers = alike;
      pubs = ap (λ (ps : List Pub). ps ++ pubs h) new;
      standing = ap (λ (ps : List Pub). ps ++ kept_by m act (standing h)) new ∙ ap (λ (ps : List Pub). p ∷ ps) kept;
    }

-- ---- requests

module _ (h : History) (m : ℕ) (caller : Bytes) (number : ℕ) where
  abbrev pub behind : Command → History
  behind given = entry_of m (Request caller number given) ∷ h

  pub adds : (name : Bytes) (format : Format) (products : List Bytes) (lag : ℕ) → IsLegal (behind (command.AddSubscriber name format products lag)) → AddsSubscriber name h (behind (command.AddSubscriber name format products lag))
  adds name format products lag legal = record {
    is_new = allows h caller number (command.AddSubscriber name format products lag) m legal.2.1;
    subscribers = refl;
    pubs = refl;
    standing = refl;
  }

  -- a command that publishes and withdraws nothing, and adds no subscriber
  pub stays : (given : Command) → is_silent given ≡ true → ((name : Bytes) (format : Format) (products : List Bytes) (lag : ℕ) → given ≡ command.AddSubscriber name format products lag → ⊥) → Stays h (behind given)
  stays (command.Flash story targets) is other = absurd (false≢true is)
  stays (command.Publish i session schedule embargo targets) is other = absurd (false≢true is)
  stays (command.Correct i session story) is other = absurd (false≢true is)
  stays (command.Kill i session note) is other = absurd (false≢true is)
  stays (command.Recall i session note) is other = absurd (false≢true is)
  stays (command.Deschedule i) is other = absurd (false≢true is)
  stays (command.AddSubscriber name format products lag) is other = absurd (other name format products lag refl)
  stays _ is other = record { subscribers = refl; pubs = refl; standing = refl }

  -- a scheduled item is not past
  early_state : (first : Option Pub) (from : State) → state_at m first from ≡ Scheduled → is_later from ≡ false
  early_state first from is = by (is_later from) refl
    where
      by : (b : Bool) → is_later from ≡ b → b ≡ false
      by true later = absurd (true≢false (sym (later_at m first from later) ∙ ap is_later is))
      by false later = refl

  module _ (i : ℕ) (legal : IsLegal (behind (command.Deschedule i))) where
    early_by : (o : Option Item) → item h i ≡ o → is_past o ≡ false
    early_by None is = refl
    early_by (Some it) is = early_state (standing_first i (standing h)) it.state (descheduled h caller number i m it legal.2.1 is)

    first_of : (p : Pub) → IsOfPast ((made h).items) p → p.item ≡ i → is_first p.kind ≡ true
    first_of p past alike = by (is_first p.kind) refl
      where
        by : (b : Bool) → is_first p.kind ≡ b → b ≡ true
        by true is = refl
        by false is = absurd (true≢false (sym (subst (λ k. is_past (item h k) ≡ true) alike (past is)) ∙ early_by (item h i) refl))

    pub withdraws : (numbers : List ℕ) → numbers ≡ numbers_of i (pubs h) → Withdraws numbers h (behind (command.Deschedule i))
    withdraws numbers are = record {
      item = i;
      of_item = are;
      firsts = each_map (IsOfPast ((made h).items)) (λ (p : Pub). p.item ≡ i → is_first p.kind ≡ true) (standing h) first_of (past_of h legal.0);
      subscribers = refl;
      pubs = refl;
      standing = refl;
    }

  -- a flash
  pub flashes : (story : Story) (targets : List Bytes) (due : List Due) → IsDueTo due h (standing h) kind.First (item_count h + 1) story m targets → Publishes due h (behind (command.Flash story targets))
  flashes story targets due told = publishes h m (Request caller number (command.Flash story targets)) _ _ due refl refl refl told refl

  -- ---- a command that publishes an item that is there

  kept_first : (given : Command) (what : Issue) (st : List Pub) → issues given ≡ true → issued_by_command (made h) m caller given ≡ Some what → takes_back what.kind ≡ false → kept_by_command m given st ≡ st
  kept_first (command.Publish i session schedule embargo targets) what st is issued fresh = refl
  kept_first (command.Correct i session story) what st is issued fresh = refl
  kept_first (command.Kill i session note) what st is issued fresh = absurd (true≢false (ap (λ (x : Issue). takes_back x.kind) (some_is _ what issued) ∙ fresh))
  kept_first (command.Recall i session note) what st is issued fresh = absurd (true≢false (ap (λ (x : Issue). takes_back x.kind) (some_is _ what issued) ∙ fresh))
  kept_first _ what st is issued fresh = absurd (false≢true is)

  kept_back : (given : Command) (what : Issue) (st : List Pub) → issues given ≡ true → issued_by_command (made h) m caller given ≡ Some what → takes_back what.kind ≡ true → kept_by_command m given st ≡ taken_back m what.item st
  kept_back (command.Publish i session schedule embargo targets) what st is issued back = absurd (false≢true (ap (λ (x : Issue). takes_back x.kind) (some_is _ what issued) ∙ back))
  kept_back (command.Correct i session story) what st is issued back = absurd (false≢true (ap (λ (x : Issue). takes_back x.kind) (some_is _ what issued) ∙ back))
  kept_back (command.Kill i session note) what st is issued back = ap (λ (x : Issue). taken_back m x.item st) (some_is _ what issued)
  kept_back (command.Recall i session note) what st is issued back = ap (λ (x : Issue). taken_back m x.item st) (some_is _ what issued)
  kept_back _ what st is issued back = absurd (false≢true is)

  same_subscribers : (given : Command) → issues given ≡ true → subscribers (behind given) ≡ subscribers h
  same_subscribers (command.Publish i session schedule embargo targets) is = refl
  same_subscribers (command.Correct i session story) is = refl
  same_subscribers (command.Kill i session note) is = refl
  same_subscribers (command.Recall i session note) is = refl
  same_subscribers _ is = absurd (false≢true is)

  -- what it publishes, and the item as it is behind it
  pub issued_from : (o : Option Issue) (told : declared_issue.Issue) → Some told ≡ issued_of o → (what : Issue) × (it : Item) × (o ≡ Some what) × (what.after ≡ Some it) × (told ≡ issue_of what it)
  issued_from None told is = absurd (none_some told (sym is))
  issued_from (Some what) told is = by what.after refl is
    where
      by : (after : Option Item) → what.after ≡ after → Some told ≡ option_map (issue_of what) after → (found : Issue) × (it : Item) × (Some what ≡ Some found) × (found.after ≡ Some it) × (told ≡ issue_of found it)
      by None after is = absurd (none_some told (sym is))
      by (Some it) after is = (what, it, refl, after, some_is told (issue_of what it) is)

  module _ (given : Command) (told : declared_issue.Issue) (due : List Due) (is : issues given ≡ true) (from : Some told ≡ issued_of (issued_by_command (made h) m caller given)) (due_to : IsDueTo due h (standing h) told.kind told.item told.story told.release told.targets) where
    abbrev found : (what : Issue) × (it : Item) × (issued_by_command (made h) m caller given ≡ Some what) × (what.after ≡ Some it) × (told ≡ issue_of what it)
    found = issued_from (issued_by_command (made h) m caller given) told from

    due_to_it : IsDueTo due h (standing h) found.0.kind found.0.item (issue_of found.0 found.1).story found.0.release found.0.targets
    due_to_it = subst (λ (x : declared_issue.Issue). IsDueTo due h (standing h) x.kind x.item x.story x.release x.targets) found.4 due_to

    pub issue_publishes : takes_back told.kind ≡ false → Publishes due h (behind given)
    issue_publishes fresh =
        publishes h m (Request caller number given) found.0 found.1 due found.2 found.3 (same_subscribers given is) due_to_it
        (kept_first given found.0 (standing h) is found.2 (ap (λ (x : declared_issue.Issue). takes_back x.kind) (sym found.4) ∙ fresh))

    pub issue_retracts : (numbers : List ℕ) → numbers ≡ numbers_of told.item (pubs h) → takes_back told.kind ≡ true → TakesBack due numbers m h (behind given)
    issue_retracts numbers are back =
        retracts h m (Request caller number given) found.0 found.1 due found.2 found.3 (same_subscribers given is) due_to_it numbers
        (are ∙ ap (λ (x : declared_issue.Issue). numbers_of x.item (pubs h)) found.4)
        (kept_back given found.0 (standing h) is found.2 (ap (λ (x : declared_issue.Issue). takes_back x.kind) (sym found.4) ∙ back))

-- ---- ingests

module _ (h : History) (m : ℕ) (name : Bytes) (come : Incoming) where
  abbrev after : History
  after = entry_of m (Ingest name come) ∷ h

  -- an item that is published at once
  pub routes : (place : Place) (due : List Due) → effect h name come m ≡ items.NewAt place true → IsDueTo due h (standing h) kind.First (item_count h + 1) come.story (max m come.embargo) [] → Publishes due h after
  routes place due does told =
      publishes h m (Ingest name come) _ (routed_item name come place true) due (ap (issued_by_effect (made h) m name come) does) refl refl told refl

  none_issued : (e : Effect) → IsUnpublished e → issued_by_effect (made h) m name come (effect_of e) ≡ None
  none_issued New is = refl
  none_issued (NewAt place true) is = absurd is
  none_issued (NewAt place false) is = refl
  none_issued (Replaces i) is = refl
  none_issued (Cancels i) is = refl
  none_issued (Settled i) is = refl

  -- one that publishes nothing
  pub unpublished_stays : (e : Effect) → effect_of e ≡ effect h name come m → IsUnpublished e → Stays h after
  unpublished_stays e does is =
      let none : issued_by h (made h) m (Ingest name come) ≡ None = ap (issued_by_effect (made h) m name come) (sym does) ∙ none_issued e is in
      record {
        subscribers = refl;
        pubs = ap (λ (o : Option Issue). pubs_of_issue h (made h) o ++ pubs h) none;
        standing = ap (λ (o : Option Issue). pubs_of_issue h (made h) o ++ standing h) none;
      }

  replied_item : (o : Option Issue) (i : ℕ) → (with_issue o h i).item ≡ i
  replied_item None i = refl
  replied_item (Some what) i = refl

  -- the wire is that of the item of the reply
  pub wire_told : (i : ℕ) (wire : Wire) → i ≡ (reply_to h m (Ingest name come)).item → wire ≡ wire_of come → (j : ℕ) → last_wire after j ≡ cond (i == j) (Some wire) (last_wire h j)
  wire_told i wire is sent j =
      let of_item : i ≡ item_of_effect h (effect h name come m) = is ∙ replied_item (issued_by h (made h) m (Ingest name come)) (item_of_effect h (effect h name come m)) in
      λ k. cond (sym of_item k == j) (Some (sym sent k)) (last_wire h j)
