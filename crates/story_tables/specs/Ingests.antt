-- What an ingest does to items, publications and feeds.
use Rattle.std.specs.Prelude.{ℕ, ◌∷◌, Bool, true, false, ◌&&◌, is_some, Option, Some, None, if◌then◌else◌}
use Rattle.news_types.specs.declared.words.PubStatus.{PubStatus}
use Rattle.news_types.specs.declared.words.PubStatus.TheVariants.{Canceled}
use Rattle.news_types.specs.declared.story.Incoming.{Incoming}
use Rattle.news_types.specs.declared.entry.Act.TheVariants.{Ingest}
use Rattle.news_types.specs.Names.{Bytes}
use Rattle.news_types.specs.History.{History}
use Rattle.news_types.specs.Items as items
use Rattle.news_types.specs.Items.{Item}
use Rattle.news_types.specs.Publications.{made}
use Rattle.news_types.specs.Outcome.{entry_of}
use Rattle.item_table.specs.declared.change.ItemChange.{ItemChange}
use Rattle.item_table.specs.Steps.{IsFor as IsForItems}
use Rattle.story_tables.specs.declared.ingest.Effect.{Effect}
use Rattle.story_tables.specs.declared.ingest.Effect.TheVariants.{New, NewAt, Replaces, Cancels, Settled}

-- as the definitions have it
abbrev pub effect_of : Effect → items.Effect
effect_of New = items.New
effect_of (NewAt place published) = items.NewAt place published
effect_of (Replaces i) = items.Replaces i
effect_of (Cancels i) = items.Cancels i
effect_of (Settled i) = items.Settled i

-- what comes in for an item that nobody works on, or somebody does, and is newer or not
abbrev pub on_known : PubStatus → ℕ → Bool → Bool → Effect
on_known Canceled i free newer = if free then Cancels i else Settled i
on_known status i free newer = if free && newer then Replaces i else Settled i

-- somebody holds the item, if it is there
abbrev pub is_held : Option Item → Bool
is_held None = false
is_held (Some it) = is_some it.holder

-- the change is that of the ingest
abbrev pub IsForIngest : ItemChange → History → ℕ → Bytes → Incoming → Type 0
IsForIngest change h m provider come = IsForItems change ((made h).items) ((made (entry_of m (Ingest provider come) ∷ h)).items)

-- it publishes nothing
abbrev pub IsUnpublished : Effect → Type 0
IsUnpublished (NewAt place true) = ⊥
IsUnpublished _ = Unit {0}
