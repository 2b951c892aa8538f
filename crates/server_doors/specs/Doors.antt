-- What a door means.
use Rattle.std.specs.Prelude.{◌≡◌, ℕ, ◌<◌, List, [], ◌∷◌, ◌++◌, length}
use Rattle.news_io.specs.Sink.{SinkMeaning}
use Rattle.news_io.specs.Source.{SourceMeaning}
use Rattle.server_doors.specs.declared.connection.Opened.{Opened}

-- a connection as it was given back: the bytes that its output took, those of them that have passed on, and how often either end had failed by then
pub record Closed : Type 0 where
  pub output : List ℕ
  pub passed : List ℕ
  pub input_faults : ℕ
  pub output_faults : ℕ

pub record DoorMeaning (G : Type 0) : Type 1 where
  -- how often it has failed; a counter of 64 bits stays at its last value
  pub faults : G → ℕ
  -- holds of a door that tells its connections
  pub tells : G → Type 0
  -- the connections that it gave, in order
  pub given : G → List Opened
  -- those that were given back, in order
  pub returned : G → List Closed

-- one that was given is still to be given back, and there is room for it
abbrev pub HasRoom : {G : Type 0} → DoorMeaning G → G → Type 0
HasRoom door g = door.tells g → length (door.returned g) < length (door.given g)

module _ {In Out : Type 0} (source : SourceMeaning In) (sink : SinkMeaning Out) where
  -- a connection, as it is given
  abbrev pub opened : In → Out → Opened
  opened input output = record { input = source.ahead input; input_faults = source.faults input; output_faults = sink.faults output }

  -- and as it is given back
  abbrev pub closed : In → Out → Closed
  closed input output = record { output = sink.taken output; passed = sink.passed output; input_faults = source.faults input; output_faults = sink.faults output }

  module _ {G : Type 0} (door : DoorMeaning G) (old new : G) where
    -- The door gave one connection more, which tells its bytes, and to which nothing is written yet.
    pub record Gives (input : In) (output : Out) : Type 0 where
      pub source_tells : source.tells input
      pub sink_tells : sink.tells output
      pub unwritten : sink.taken output ≡ []
      pub given : door.given new ≡ door.given old ++ opened input output ∷ []
      pub returned : door.returned new ≡ door.returned old

    -- One more was given back.
    pub record TakesBack (input : In) (output : Out) : Type 0 where
      pub given : door.given new ≡ door.given old
      pub returned : door.returned new ≡ door.returned old ++ closed input output ∷ []

-- the door gave none
pub record GivesNothing {G : Type 0} (door : DoorMeaning G) (old new : G) : Type 0 where
  pub given : door.given new ≡ door.given old
  pub returned : door.returned new ≡ door.returned old
