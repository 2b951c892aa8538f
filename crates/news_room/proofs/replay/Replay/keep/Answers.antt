use Rattle.std.proofs.Common.{◌≡◌, ℕ, refl}
use Rattle.news_types.specs.declared.entry.Act.{Act}
use Rattle.news_types.specs.declared.entry.Act.TheVariants.{Advance, Attempt, Receipt, Halt, Ingest, Request}
use Rattle.news_types.specs.declared.command.Command.{Command}
use Rattle.news_types.specs.declared.story.Incoming.{Incoming}
use Rattle.news_types.specs.declared.name.Name.{Name}
use Rattle.newsroom.specs.Acts.{IsSmall}
use Rattle.news_room.proofs.replay.Replay.keep.Goals as goal

-- an act that is no ingest and no request
small : (act : Act) → ((name : Name) (come : Incoming) → act ≡ Ingest name come → ⊥) → ((caller : Name) (number : ℕ) (command : Command) → act ≡ Request caller number command → ⊥) → IsSmall act
small Advance one two = tt
small (Attempt s k) one two = tt
small (Receipt s n) one two = tt
small Halt one two = tt
small (Ingest name come) one two = absurd (one name come refl)
small (Request caller number command) one two = absurd (two caller number command refl)

pub keep_small-requires : goal.keep_small-requires
keep_small-requires c = record { stands = c.requires.stands; small = small c.args.entry.now.act c.in_default.not-Ingest c.in_default.not-Request; early = c.requires.early }
