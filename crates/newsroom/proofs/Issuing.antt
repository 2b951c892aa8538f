-- What a command publishes of an item that is there.
use Rattle.std.proofs.Common.{◌≡◌, ℕ, Bool, true, false, List, ◌++◌, Option, Some, None, is_some, refl, sym, ap, ◌∙◌}
use Rattle.std.specs.Prelude.{unwrap_or}
use Rattle.std.specs.Option.{option_map}
use Rattle.std.proofs.lemmas.Bool.{false≢true}
use Rattle.news_types.specs.declared.command.Command.{Command}
use Rattle.news_types.specs.declared.command.Command.TheVariants as command
use Rattle.news_types.specs.declared.denial.Denial.TheVariants.{UnknownThing}
use Rattle.news_types.specs.declared.words.Kind.{Kind}
use Rattle.news_types.specs.declared.words.Kind.TheVariants as kind
use Rattle.news_types.specs.declared.words.Thing.{Thing}
use Rattle.news_types.specs.declared.words.Thing.TheVariants as thing
use Rattle.news_types.specs.declared.query.Due.{Due}
use Rattle.news_types.specs.Names.{Bytes, is_in}
use Rattle.news_types.specs.History.{History}
use Rattle.news_types.specs.Due.{Pub, release_to, latest}
use Rattle.news_types.specs.Items.{Item, made_by}
use Rattle.news_types.specs.Publications.{item, made, issued_by_command}
use Rattle.news_types.specs.Denial.{absent, first_missing, denial}
use Rattle.news_types.proofs.Members.{none_some}
use Rattle.products.specs.Asked.{is_reached, AreEarlier}
use Rattle.rule_tables.specs.Releases.{AreLatest}
use Rattle.story_tables.specs.declared.issue.Issue.{Issue}
use Rattle.story_tables.specs.Issued.{issues, issued_of}
use Rattle.story_tables.specs.Issued as issued
use Rattle.newsroom.proofs.Allowed.{allowed}

-- ---- whom it reaches, and from when

reached_by : (k : Kind) (ps : List Pub) (i release : ℕ) (s : Bytes) → issued.is_reached ps k i release s ≡ is_reached ps k i release s
reached_by kind.Kill ps i release s = refl
reached_by kind.Recall ps i release s = refl
reached_by _ ps i release s = refl

pub earlier_by : (given names : List Bytes) (ps : List Pub) (k : Kind) (i release : ℕ) → given ≡ names → ((s : Bytes) → is_in s names ≡ issued.is_reached ps k i release s) → AreEarlier given ps k i release
earlier_by given names ps k i release same each s = ap (is_in s) same ∙ each s ∙ reached_by k ps i release s

pub latest_by : (k : Kind) (due : List Due) (ps : List Pub) (i : ℕ) → ((s : Bytes) → unwrap_or (release_to s due) 0 ≡ latest ps i s) → AreLatest k due ps i
latest_by kind.Correct due ps i each = each
latest_by _ due ps i each = tt

-- ---- that it is there

pub makes_none : (c : Command) → issues c ≡ true → made_by c ≡ None
makes_none (command.Publish i session schedule embargo targets) is = refl
makes_none (command.Correct i session story) is = refl
makes_none (command.Kill i session note) is = refl
makes_none (command.Recall i session note) is = refl
makes_none _ is = absurd (false≢true is)

there : (b : Bool) → first_missing (absent b thing.Item) ≡ None → b ≡ true
there true none = refl
there false none = absurd (none_some (UnknownThing thing.Item) (sym none))

there_with : (b : Bool) (things : List Thing) → first_missing (absent b thing.Item ++ things) ≡ None → b ≡ true
there_with true things none = refl
there_with false things none = absurd (none_some (UnknownThing thing.Item) (sym none))

unpublished : (o : Option Item) (f : Item → Item) (g : Item → Issue) → is_some o ≡ true → option_map g (option_map f o) ≡ None → ⊥
unpublished None f g is none = false≢true is
unpublished (Some it) f g is none = none_some (g (f it)) (sym none)

-- a command that is not denied publishes an item that is there
module _ (h : History) (caller : Bytes) (number m : ℕ) where
  pub issue_there : (c : Command) → issues c ≡ true → denial h caller number c m ≡ None → issued_of (issued_by_command (made h) m caller c) ≡ None → ⊥
  issue_there (command.Publish i session schedule embargo targets) is undenied none =
      unpublished (item h i) _ _ (there_with (is_some (item h i)) _ (allowed h caller number (command.Publish i session schedule embargo targets) m undenied).named) none
  issue_there (command.Correct i session story) is undenied none = unpublished (item h i) _ _ (there (is_some (item h i)) (allowed h caller number (command.Correct i session story) m undenied).named) none
  issue_there (command.Kill i session note) is undenied none = unpublished (item h i) _ _ (there (is_some (item h i)) (allowed h caller number (command.Kill i session note) m undenied).named) none
  issue_there (command.Recall i session note) is undenied none = unpublished (item h i) _ _ (there (is_some (item h i)) (allowed h caller number (command.Recall i session note) m undenied).named) none
  issue_there _ is undenied none = false≢true is
