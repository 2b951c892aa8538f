-- An item of which something is told.
use Rattle.std.proofs.Common.{◌≡◌, ℕ, ◌+◌, ◌<◌, ◌≤◌, Option, Some, None, length, refl, sym, ap, ◌∙◌, arith}
use Rattle.std.specs.Option.{option_map}
use Rattle.news_types.specs.declared.entry.Reply.{Reply}
use Rattle.news_types.specs.History.{History}
use Rattle.news_types.specs.Items.{Item, named_item, state_at, state_after, version_after}
use Rattle.news_types.specs.Publications.{item, standing}
use Rattle.news_types.proofs.Members.{some_is, none_some, mapped}
use Rattle.news_types.proofs.Bounds.{OfItem, VersionTo, version_within}
use Rattle.item_table.specs.declared.table.ItemFacts.{ItemFacts}
use Rattle.item_table.specs.Asked.{facts_of, story_of}
use Rattle.news_types.specs.declared.rules.Place.{Place}
use Rattle.news_types.specs.declared.query.Holder.{Holder}
use Rattle.news_types.specs.declared.query.ItemRow.{ItemRow}
use Rattle.item_table.specs.declared.change.Step.TheVariants as step
use Rattle.news_types.specs.declared.command.Command.{Command}
use Rattle.news_types.specs.declared.words.State.{State}
use Rattle.news_types.specs.declared.story.Story.{Story}
use Rattle.news_types.specs.Due.{Pub, standing_first}
use Rattle.item_commands.specs.Given.{story_given}
use Rattle.story_tables.specs.Asked.{set_by, row_in}

-- nothing is told of one that is not there
pub item_untold : (h : History) (i : ℕ) (told : Option ItemFacts) → told ≡ option_map facts_of (item h i) → ((f : ItemFacts) → told ≡ Some f → ⊥) → item h i ≡ None
item_untold h i told is none = by (item h i) is
  where
    by : (o : Option Item) → told ≡ option_map facts_of o → o ≡ None
    by None e = refl
    by (Some it) e = absurd (none (facts_of it) e)

pub item_told : (h : History) (i : ℕ) (told : Option ItemFacts) (f : ItemFacts) → told ≡ option_map facts_of (item h i) → told ≡ Some f → (it : Item) × (item h i ≡ Some it) × (facts_of it ≡ f)
item_told h i told f is some = mapped facts_of (item h i) f (sym is ∙ some)

pub version_told : (h : History) (i : ℕ) (told : Option ItemFacts) (f : ItemFacts) → told ≡ option_map facts_of (item h i) → told ≡ Some f → length h < 4294967295 → f.version < 4294967295
version_told h i told f is some few =
    let found = item_told h i told f is some in
    let within = version_at (item h i) found.0 found.1 (version_within h i) in
    let same : found.0.version ≡ f.version = ap (λ (g : ItemFacts). g.version) found.2 in
    omega (arith, within, same, few)
  where
    version_at : (o : Option Item) (it : Item) → o ≡ Some it → OfItem (VersionTo (length h)) o → it.version ≤ length h
    version_at None it e of = absurd (none_some it e)
    version_at (Some x) it e of = let same : x ≡ it = some_is x it e in rw (← same) of.1

-- what the item is set to
pub setting_is : (command : Command) (m : ℕ) (first : Option Pub) (it : Item) (f : ItemFacts) (i v : ℕ) (s from : State) (story : Option Story) → facts_of it ≡ f → i ≡ named_item command → from ≡ state_at m first f.state → s ≡ state_after command from
    → v ≡ version_after command f.version → story ≡ story_given command
    → step.Set i (record { state = s; version = v; story = story; created = None }) ≡ step.Set (named_item command) (set_by command m first it)
setting_is command m first it f i v s from story same item_is from_is state_is version_is story_is =
    let state : it.state ≡ f.state = ap (λ (g : ItemFacts). g.state) same in
    let version : it.version ≡ f.version = ap (λ (g : ItemFacts). g.version) same in
    let one : s ≡ state_after command (state_at m first it.state) = state_is ∙ ap (state_after command) (from_is ∙ ap (state_at m first) (sym state)) in
    let two : v ≡ version_after command it.version = version_is ∙ ap (version_after command) (sym version) in
    λ j. step.Set (item_is j) (record { state = one j; version = two j; story = story_is j; created = None })

-- the reply to what publishes nothing
abbrev reply : ℕ → ℕ → Reply
reply n i = record { entry = n + 1; item = i; publication = 0; release = 0 }

pub reply_is : (n l i k : ℕ) → n ≡ l → i ≡ k → reply n i ≡ reply l k
reply_is n l i k one two = λ j. reply (one j) (two j)

-- what is told of an item that is there
abbrev row_with : ℕ → State → ℕ → Story → Option Place → Option Holder → ItemRow
row_with i state version story place holder = record { item = i; state = state; version = version; story = story; place = place; holder = holder }

pub row_told : (h : History) (i m : ℕ) (place : Option Place) (holder : Option Holder) (it : Item) (f : ItemFacts) (from : State) (told story : Story) → item h i ≡ Some it → facts_of it ≡ f → from ≡ state_at m (standing_first i (standing h)) f.state
    → Some told ≡ option_map story_of (item h i) → story ≡ told → Some (row_with i from f.version story place holder) ≡ option_map (row_in h i m place holder) (item h i)
row_told h i m place holder it f from told story there same from_is told_is story_is =
    let state : from ≡ state_at m (standing_first i (standing h)) it.state = from_is ∙ ap (λ (g : ItemFacts). state_at m (standing_first i (standing h)) g.state) (sym same) in
    let version : f.version ≡ it.version = ap (λ (g : ItemFacts). g.version) (sym same) in
    let told_it : told ≡ it.story = some_is told it.story (told_is ∙ ap (option_map story_of) there) in
    let its : story ≡ it.story = story_is ∙ told_it in
    (λ j. Some (row_with i (state j) (version j) (its j) place holder)) ∙ sym (ap (option_map (row_in h i m place holder)) there)

pub row_untold : (h : History) (i m : ℕ) (place : Option Place) (holder : Option Holder) → item h i ≡ None → None ≡ option_map (row_in h i m place holder) (item h i)
row_untold h i m place holder none = sym (ap (option_map (row_in h i m place holder)) none)

pub story_untold : (h : History) (i : ℕ) → None ≡ option_map story_of (item h i) → item h i ≡ None
story_untold h i is = by (item h i) is
  where
    by : (o : Option Item) → None ≡ option_map story_of o → o ≡ None
    by None e = refl
    by (Some it) e = absurd (none_some (story_of it) e)
