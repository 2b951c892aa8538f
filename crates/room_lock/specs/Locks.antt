-- What a clause reads of a pass and of a lock.
use Rattle.std.specs.Prelude.{ℕ, List}
use Rattle.atomic_table.specs.Seated.{TableId}
use Rattle.news_types.specs.declared.entry.Entry.{Entry}
use Rattle.room_lock.specs.declared.view.Call.{Call}
use Rattle.room_lock.specs.declared.pass.Pass.{Pass}
use Rattle.room_lock.specs.declared.shared.Shared.{Shared}
use Rattle.room_lock.specs.Views.{view_of}

-- the entries since the lock was made that the owner of the pass has seen
abbrev pub front : Pass → List Entry
front pass = (view_of pass.badge.views).front

-- the turns that it took
abbrev pub calls : Pass → List Call
calls pass = (view_of pass.badge.views).calls

-- the lock that it is a pass of
abbrev pub lock_of : Pass → TableId
lock_of pass = pass.badge.table_id

-- which lock this is
abbrev pub id_of : {T : Type 0} → Shared T → TableId
id_of shared = shared.table.shared.table_id

-- the value with which the lock was made
abbrev pub start_of : {T : Type 0} → Shared T → T
start_of shared = shared.table.shared.key.value

-- how many entries it stood for
abbrev pub base_of : {T : Type 0} → Shared T → ℕ
base_of shared = shared.base
