use Rattle.plain_server.specs.Rooms.{StandsForSome}
use Rattle.plain_server.proofs.streams.serve_streams.Given as goal

abbrev pub invariant-loop : goal.invariant-loop
invariant-loop g l = StandsForSome l.room
