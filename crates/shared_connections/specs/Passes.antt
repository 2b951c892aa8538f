-- A turn of the lock by a pass that may not be at hand.
use Rattle.std.specs.Prelude.{◌≡◌, ℕ, List, [], Option, Some, None, Result}
use Rattle.news_types.specs.declared.entry.Entry.{Entry}
use Rattle.news_types.specs.Books.{Book}
use Rattle.news_io.specs.Keeper.{KeeperMeaning}
use Rattle.room_lock.specs.declared.view.Call.{Call}
use Rattle.room_lock.specs.declared.pass.Pass.{Pass}
use Rattle.room_lock.specs.declared.shared.Shared.{Shared}
use Rattle.room_lock.specs.Locks.{front, calls, lock_of, id_of, start_of}
use Rattle.room_lock.specs.Passes.{IsTurn, found_by, left_by}
use Rattle.news_room.specs.Stands.{Stands}
use Rattle.news_room.specs.declared.room.Room.{Room}
use Rattle.desk_routes.specs.declared.ask.RoomAsk.{RoomAsk}
use Rattle.desk_routes.specs.declared.ask.Refusal.{Refusal}
use Rattle.server_counts.specs.Tally.{Tally}
use Rattle.feed_http.specs.declared.answers.HttpAnswer.{HttpAnswer}
use Rattle.shared_connections.specs.Turns.{IsAnsweredIn}

-- what it has seen and done
abbrev pub front_in : Option Pass → List Entry
front_in None = []
front_in (Some pass) = front pass

abbrev pub calls_in : Option Pass → List Call
calls_in None = []
calls_in (Some pass) = calls pass

-- it is at hand, and of this lock
abbrev pub HasPass : {T : Type 0} → Shared T → Option Pass → Type 0
HasPass shared None = ⊥
HasPass shared (Some pass) = lock_of pass ≡ id_of shared

-- one call more of the same lock, in which what is asked is answered, where this was counted before it
pub record TakesTurn {K : Type 0} (keeper : KeeperMeaning K) (shared shared' : Shared (Room K)) (pass pass' : Option Pass) (now : ℕ) (read : Result RoomAsk Refusal) (answer : HttpAnswer) : Type 0 where
  pub same : shared' ≡ shared
  pub call : Call
  pub turn : IsTurn (front_in pass) (calls_in pass) (front_in pass') (calls_in pass') call
  pub counts : Tally
  pub did : (b : Book) → Stands keeper (start_of shared) b → IsAnsweredIn (found_by call b (front_in pass')) (left_by call b (front_in pass')) read now counts answer
