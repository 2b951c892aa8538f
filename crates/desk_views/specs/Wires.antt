-- What a provider last sent for an item.
use Rattle.std.specs.Prelude.{ℕ, ◌==◌, [], ◌∷◌, if◌then◌else◌, Option, Some, None}
use Rattle.news_types.specs.declared.entry.Act.{Act}
use Rattle.news_types.specs.declared.entry.Act.TheVariants.{Ingest}
use Rattle.news_types.specs.declared.story.Incoming.{Incoming}
use Rattle.news_types.specs.History.{History}
use Rattle.news_types.specs.Publications.{effect}
use Rattle.news_types.specs.Outcome.{item_of_effect}
use Rattle.desk_views.specs.declared.wire.Wire.{Wire}

abbrev pub wire_of : Incoming → Wire
wire_of come = record { embargo = come.embargo; status = come.status }

-- behind an act at the moment: an ingest tells of the item that it makes, replaces or cancels
abbrev pub wire_after : History → ℕ → Act → ℕ → Option Wire → Option Wire
wire_after h m (Ingest provider come) i before =
    if item_of_effect h (effect h provider come m) == i then Some (wire_of come) else before
wire_after h m _ i before = before

-- the embargo and the status of the last ingest that changed item i, if a provider sent it
abbrev pub last_wire : History → ℕ → Option Wire
last_wire [] i = None
last_wire (e ∷ h) i = wire_after h e.moment e.act i (last_wire h i)
