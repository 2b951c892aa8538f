-- The list that a newsroom in memory stands for.
use Rattle.news_io.specs.declared.memory_keeper.MemoryKeeper.{MemoryKeeper}
use Rattle.news_io.specs.Devices.{memory_keeper}
use Rattle.news_room.specs.Stands.{SomeBook}
use Rattle.news_room.specs.declared.room.Room.{Room}

-- it stands for some list
abbrev pub StandsForSome : Room MemoryKeeper → Type 0
StandsForSome room = SomeBook memory_keeper room
