-- What the events of one member of an input do to a world, whatever the members are.
use Rattle.std.proofs.Common.{◌≡◌, ◌⊎◌, inl, inr, ℕ, ◌<◌, [], ◌++◌, length, Option, Some, None, refl, arith}
use Rattle.news_types.specs.declared.entry.Entry.{Entry}
use Rattle.news_types.specs.History.{History}
use Rattle.news_types.specs.Frames.{Writer}
use Rattle.news_types.specs.Calls.{Fate, IsKept, list_after}
use Rattle.news_types.specs.Server.{Server, put}
use Rattle.line_run.specs.Life.{Meaning}
use Rattle.world_laws.specs.World.{World, run}
use Rattle.news_room.specs.Steps.{entries}
use Rattle.program_events.specs.Events.{Input}
use Rattle.program_events.specs.Turns.{OnlyServer}

-- the outcome of each member is what its events do
pub record Means {X : Type 0} (M : Meaning Entry X) (input : Input X) : Type 0 where
  -- the entry that follows a list behind a member, if one does
  pub next : History → X → ℕ → Option Entry
  pub server : (write : Writer) (w : World) (x : X) (at : ℕ) (fate : Fate) → (run write (input.events x at fate) w).server ≡ put w.server (next w.server.list x at) fate
  pub adds : (h : History) (x : X) (at : ℕ) → (M h x at).adds ≡ entries (next h x at)
  pub took : (h : History) (x : X) (at : ℕ) → (M h x at).took ≡ input.readings x at
  pub text : (write : Writer) (w : World) (x : X) (at : ℕ) → (M w.server.list x at).text ≡ input.text (run write (input.events x at IsKept) w) x
  pub only : (write : Writer) (w : World) (x : X) (at : ℕ) (fate : Fate) → OnlyServer w (run write (input.events x at fate) w)

pub put_list : (h : History) (o : Option Entry) → list_after h o IsKept ≡ entries o ++ h
put_list h None = refl
put_list h (Some e) = refl

-- where nothing follows, the server is as it was
pub put_moves : (c : Server) (o : Option Entry) → (put c o IsKept ≡ c) ⊎ ((length c.list < length (put c o IsKept).list) × ((put c o IsKept).doubt ≡ []))
put_moves c None = inl refl
put_moves c (Some e) = inr (omega arith, refl)
