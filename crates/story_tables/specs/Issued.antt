-- What a command publishes of an item that is there.
use Rattle.std.specs.Prelude.{◌≡◌, ℕ, Bool, true, false, List, ◌∷◌, Option, Some, None, option_map, Vec}
use Rattle.std.specs.Global.{Global}
use Rattle.news_types.specs.declared.command.Command.{Command}
use Rattle.news_types.specs.declared.command.Command.TheVariants as command
use Rattle.news_types.specs.declared.words.Kind.{Kind}
use Rattle.news_types.specs.declared.words.Kind.TheVariants.{First, Correct, Kill, Recall}
use Rattle.news_types.specs.declared.story.Story.{Story}
use Rattle.news_types.specs.declared.query.Due.{Due}
use Rattle.news_types.specs.Names.{Bytes}
use Rattle.news_types.specs.Due.{Pub, takes_back, taken_back, had, had_by}
use Rattle.news_types.specs.Items.{Item}
use Rattle.news_types.specs.Publications as publications
use Rattle.news_types.specs.Publications.{noted}
use Rattle.publications.specs.Numbers.{numbers_of}
use Rattle.publications.specs.Keeps.{Tells}
use Rattle.publications.specs.Later.{Corrects, TakesBack}
use Rattle.story_tables.specs.declared.issue.Issue.{Issue}
use Rattle.story_tables.specs.Feeds.{AreSpansOf}
use Rattle.story_tables.specs.declared.feeds.FeedStep.{FeedStep}
use Rattle.story_tables.specs.declared.feeds.FeedStep.TheVariants.{Publish, TakeBack}

-- what is published of the item, as it is behind the command
abbrev pub issue_of : publications.Issue → Item → Issue
issue_of what it = record { item = what.item; version = it.version; kind = what.kind; release = what.release; targets = what.targets; story = noted what.note it.story }

abbrev pub issued_of : Option publications.Issue → Option Issue
issued_of None = None
issued_of (Some what) = option_map (issue_of what) what.after

-- the command publishes an item, or what follows, and makes none
abbrev pub issues : Command → Bool
issues (command.Publish i session schedule embargo targets) = true
issues (command.Correct i session story) = true
issues (command.Kill i session note) = true
issues (command.Recall i session note) = true
issues _ = false

-- what is kept of a publication
abbrev pub issue_shown : Pub → Issue
issue_shown p = record { item = p.item; version = p.version; kind = p.kind; release = p.release; targets = p.targets; story = p.story }

-- what stands behind a publication of that kind
abbrev pub left_by_kind : Kind → Pub → List Pub → List Pub
left_by_kind First p st = st
left_by_kind Correct p st = st
left_by_kind Kill p st = taken_back p.release p.item st
left_by_kind Recall p st = taken_back p.release p.item st

-- whom a publication of that kind reaches whatever is permitted, where these stand
abbrev pub is_reached : List Pub → Kind → ℕ → ℕ → Bytes → Bool
is_reached st Kill i release s = had_by release st i s
is_reached st Recall i release s = had_by release st i s
is_reached st kind i release s = had st i s

-- a publication of that kind is due to these
abbrev pub IsTold : Kind → Pub → List Due → List Pub → Type 0
IsTold First p due st = Tells due due (p ∷ st) p.item
IsTold Correct p due st = Corrects p due st
IsTold Kill p due st = TakesBack p due st
IsTold Recall p due st = TakesBack p due st

-- the story that a publication of that kind gives its item, if it gives one
abbrev pub given_by_kind : Kind → Story → Option Story
given_by_kind Correct story = Some story
given_by_kind _ story = None

-- a publication of the item, of that kind and number, is due to these, where these are published and those stand
abbrev pub IsStepOf : FeedStep → Kind → ℕ → List Pub → List Pub → ℕ → ℕ → Vec Due Global → Type 0
IsStepOf (Publish n r d) kind i ps st number release due = (takes_back kind ≡ false) × (n ≡ number) × (r ≡ release) × (d ≡ due)
IsStepOf (TakeBack ns spans n d) kind i ps st number release due = (takes_back kind ≡ true) × (ns.items ≡ numbers_of i ps) × AreSpansOf spans.items st i × (n ≡ number) × (d ≡ due)
IsStepOf _ kind i ps st number release due = ⊥
