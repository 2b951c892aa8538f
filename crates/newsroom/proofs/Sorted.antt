-- What the sort of a command says of it.
use Rattle.std.proofs.Common.{◌≡◌, ℕ, Bool, true, false, List, Option, refl, ap, ◌∙◌}
use Rattle.news_types.specs.declared.command.Command.{Command}
use Rattle.news_types.specs.declared.command.Command.TheVariants as command
use Rattle.news_types.specs.Names.{Bytes}
use Rattle.news_types.specs.declared.story.Story.{Story}
use Rattle.content_filters.specs.Reasons.{is_filter_command}
use Rattle.products.specs.Asked.{is_asked}
use Rattle.rule_tables.specs.Asked.{is_desk_command}
use Rattle.rule_tables.specs.Sources.{is_source_command}
use Rattle.item_commands.specs.declared.sort.Sort.{Sort}
use Rattle.item_commands.specs.declared.sort.Sort.TheVariants as sort
use Rattle.item_commands.specs.Sorts.{sort_of}
use Rattle.story_tables.specs.Parts.{is_silent}

is_desks : Sort → Bool
is_desks sort.Desks = true
is_desks _ = false

is_filters : Sort → Bool
is_filters sort.Filters = true
is_filters _ = false

is_products : Sort → Bool
is_products sort.Products = true
is_products _ = false

is_sources : Sort → Bool
is_sources sort.Sources = true
is_sources _ = false

desks_of : (c : Command) → is_desk_command c ≡ is_desks (sort_of c)
unfolding is_desks
desks_of (command.AddUser user privileges) = refl
desks_of _ = refl

filters_of : (c : Command) → is_filter_command c ≡ is_filters (sort_of c)
unfolding is_filters
filters_of (command.AddUser user privileges) = refl
filters_of _ = refl

products_of : (c : Command) → is_asked c ≡ is_products (sort_of c)
unfolding is_products
products_of (command.AddUser user privileges) = refl
products_of _ = refl

sources_of : (c : Command) → is_source_command c ≡ is_sources (sort_of c)
unfolding is_sources
sources_of (command.AddUser user privileges) = refl
sources_of _ = refl

-- a command that is none of those that publish or withdraw
pub silent : (c : Command) → ((story : Story) (targets : List Bytes) → c ≡ command.Flash story targets → ⊥) → ((i : ℕ) → c ≡ command.Deschedule i → ⊥)
    → ((i : ℕ) (session : Bytes) (schedule embargo : Option ℕ) (targets : List Bytes) → c ≡ command.Publish i session schedule embargo targets → ⊥)
    → ((i : ℕ) (session : Bytes) (story : Story) → c ≡ command.Correct i session story → ⊥)
    → ((i : ℕ) (session note : Bytes) → c ≡ command.Kill i session note → ⊥)
    → ((i : ℕ) (session note : Bytes) → c ≡ command.Recall i session note → ⊥)
    → is_silent c ≡ true
silent (command.Flash story targets) flash held publish correct kill recall = absurd (flash story targets refl)
silent (command.Publish i session schedule embargo targets) flash held publish correct kill recall = absurd (publish i session schedule embargo targets refl)
silent (command.Correct i session story) flash held publish correct kill recall = absurd (correct i session story refl)
silent (command.Kill i session note) flash held publish correct kill recall = absurd (kill i session note refl)
silent (command.Recall i session note) flash held publish correct kill recall = absurd (recall i session note refl)
silent (command.Deschedule i) flash held publish correct kill recall = absurd (held i refl)
silent _ flash held publish correct kill recall = refl

pub of_desks : (c : Command) → sort_of c ≡ sort.Desks → is_desk_command c ≡ true
unfolding is_desks
of_desks c is = desks_of c ∙ ap is_desks is

pub of_filters : (c : Command) → sort_of c ≡ sort.Filters → is_filter_command c ≡ true
unfolding is_filters
of_filters c is = filters_of c ∙ ap is_filters is

pub of_products : (c : Command) → sort_of c ≡ sort.Products → is_asked c ≡ true
unfolding is_products
of_products c is = products_of c ∙ ap is_products is

pub of_sources : (c : Command) → sort_of c ≡ sort.Sources → is_source_command c ≡ true
unfolding is_sources
of_sources c is = sources_of c ∙ ap is_sources is
