-- What each door means: the one in memory tells all that it does, and the one over TCP nothing.
use Rattle.std.specs.Prelude.{[], map}
use Rattle.news_io.specs.Devices.{memory_source, memory_sink}
use Rattle.news_io.specs.declared.memory_sink.MemorySink.{MemorySink}
use Rattle.news_io.specs.declared.memory_source.MemorySource.{MemorySource}
use Rattle.news_io.specs.Sink.{SinkMeaning}
use Rattle.news_io.specs.Source.{SourceMeaning}
use Rattle.server_doors.specs.declared.memory_door.MemoryDoor.{MemoryDoor}
use Rattle.server_doors.specs.declared.tcp_door.TcpDoor.{TcpDoor}
use Rattle.server_doors.specs.declared.tcp_sink.TcpSink.{TcpSink}
use Rattle.server_doors.specs.declared.tcp_source.TcpSource.{TcpSource}
use Rattle.server_doors.specs.Doors.{Closed, DoorMeaning, closed}

-- a connection in memory, as it was given back
abbrev pub closed_of : MemorySource × MemorySink → Closed
closed_of c = closed memory_source memory_sink c.0 c.1

-- a door in memory
abbrev pub memory_door : DoorMeaning MemoryDoor
memory_door = record {
  faults = λ d. d.faults;
  tells = λ d. Unit {0};
  given = λ d. d.given.items;
  returned = λ d. map closed_of d.returned.items;
}

-- a door over TCP: it tells nothing
abbrev pub tcp_door : {R : Type 0} → DoorMeaning (TcpDoor R)
tcp_door = record {
  faults = λ d. d.faults;
  tells = λ d. ⊥;
  given = λ d. [];
  returned = λ d. [];
}

-- the requests of a connection over TCP: they tell nothing, and no call fails
abbrev pub tcp_source : SourceMeaning TcpSource
tcp_source = record {
  faults = λ s. 0;
  tells = λ s. ⊥;
  ahead = λ s. [];
}

-- the responses of a connection over TCP: they tell nothing
abbrev pub tcp_sink : SinkMeaning TcpSink
tcp_sink = record {
  faults = λ s. s.faults;
  tells = λ s. ⊥;
  taken = λ s. [];
  passed = λ s. [];
  in_order = λ s tells. absurd tells;
}
