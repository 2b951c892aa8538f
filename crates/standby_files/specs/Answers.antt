-- What a standby answers to record lines, one after the other.
use Rattle.std.specs.Prelude.{◌≡◌, ◌⊎◌, ◌<◌, ℕ, ◌+◌, min, Bool, true, List, [], ◌∷◌, ◌++◌, length, Option, Result, Ok, Err}
use Rattle.news_types.specs.Names.{Bytes}
use Rattle.news_types.specs.Doubt.{payloads}
use Rattle.news_types.specs.Server.{Server}
use Rattle.news_io.specs.Keeper.{KeeperMeaning, KeeperGains, Leaves}
use Rattle.news_io.specs.Sink.{AreFirst, SinkMeaning}
use Rattle.news_journal.specs.Log.{records as log_bytes}
use Rattle.run_status.specs.Output.{Wrote, AllPassed}
use Rattle.entry_codec.specs.Spelling.{entry_bytes}
use Rattle.record_lines.specs.Spelling.{Numbered, record_bytes, IsRecord, kept_bytes}
use Rattle.standby_laws.specs.Standby.{Reaction, Next, reaction}
use Rattle.room_standby.specs.Holds.{Holds, IsOfEntry}
use Rattle.room_standby.specs.declared.standby.Standby.{Standby}
use Rattle.room_standby.specs.declared.standby.Shipped.{Shipped}
use Rattle.room_standby.specs.declared.standby.Shipped.TheVariants.{NoEntry, Fault, Full, Memory}
use Rattle.frame_run.specs.Answers.{ByLog}
use Rattle.frame_run.specs.declared.ending.Ending.{Ending}
use Rattle.frame_run.specs.declared.ending.Ending.TheVariants as end
use Rattle.standby_files.specs.Input.{HasNoEntry}

-- ---- by the standby's reaction

-- a payload is kept where its record is the next one
abbrev pub kept_by : Reaction → List Bytes → Bytes → List Bytes
kept_by Next held payload = held ++ payload ∷ []
kept_by _ held payload = held

-- the payloads that a standby has behind a record line, where it has the next one kept
unfoldable pub behind : List Bytes → Numbered → List Bytes
behind held r = kept_by (reaction (length held) r.number) held r.payload

-- behind these, in order
abbrev pub behind_all : List Bytes → List Numbered → List Bytes
behind_all held [] = held
behind_all held (r ∷ records) = behind_all (behind held r) records

-- the reply to a record line: how many records the standby then has
abbrev pub reply_to : List Bytes → Numbered → Bytes
reply_to held r = kept_bytes (length (behind held r))

-- those to these, in order
abbrev pub replies : List Bytes → List Numbered → Bytes
replies held [] = []
replies held (r ∷ records) = reply_to held r ++ replies (behind held r) records

-- ---- what is kept

-- whether the keeper tells its list, and the payloads of the standby's records, oldest first
pub record Copied : Type 0 where
  pub told : Bool
  pub held : List Bytes

abbrev pub holding : List Bytes → Copied → Copied
holding held b = record { told = b.told; held = held }

-- a crash left h and the first few of what stands behind it up to g; one in doubt may stand behind h, of what was in doubt at first, or behind g, of what is at last
pub record Between (h g : List Bytes) (D D' : Bytes → Type 0) (found : Option (List Bytes)) : Type 0 where
  pub part : List Bytes
  pub beyond : (more : List Bytes) × (part ≡ h ++ more)
  pub within : (more : List Bytes) × (g ≡ part ++ more)
  pub left : Leaves part (λ x. ((part ≡ h) × D x) ⊎ ((part ≡ g) × D' x)) found

module _ {K : Type 0} (keeper : KeeperMeaning K) where
  -- the standby has a list of entries, and these are their payloads
  pub record Stands (r : Standby K) (b : Copied) : Type 0 where
    pub server : Server
    pub holds : Holds keeper r (record { told = b.told; standby = server })
    pub are : payloads entry_bytes server.list ≡ b.held

  -- it had b's payloads and has these, which go on from them, and each moment leaves something between
  pub record Kept (old new : Standby K) (b : Copied) (held : List Bytes) : Type 0 where
    pub stands : Stands new (holding held b)
    pub more : (more : List Bytes) × (held ≡ b.held ++ more)
    pub used : keeper.used new.keeper + length (log_bytes b.held) ≡ keeper.used old.keeper + length (log_bytes held)
    pub label : keeper.label new.keeper ≡ keeper.label old.keeper
    pub time : b.told ≡ true → KeeperGains keeper old.keeper new.keeper (Between b.held held (keeper.doubts old.keeper) (keeper.doubts new.keeper))

-- ---- record lines in turn

-- all these record lines were answered, in order, and each reply has passed on; where one was kept, nothing is in doubt
pub record AnsweredAll {K O : Type 0} (keeper : KeeperMeaning K) (sink : SinkMeaning O) (old new : Standby K) (o o' : O) (b : Copied) (records : List Numbered) : Type 0 where
  pub kept : Kept keeper old new b (behind_all b.held records)
  pub calm : b.told ≡ true → (x : Bytes) → keeper.doubts new.keeper x → (behind_all b.held records ≡ b.held) × keeper.doubts old.keeper x
  pub wrote : Wrote sink o o' (replies b.held records)
  pub passed : sink.tells o → AllPassed sink o → AllPassed sink o'

-- what is had behind the record line at which it ended: a reply that is cut short is that of a record that was kept if it is the next
abbrev pub held_at : Ending → List Bytes → List Bytes → List Bytes
held_at end.Write before after = after
held_at why before after = before

-- the log left out a record: it is the next one, and of an entry
pub record IsUnkept (held : List Bytes) (r : Numbered) : Type 0 where
  pub next : behind held r ≡ held ++ r.payload ∷ []
  pub entry : IsOfEntry r.payload

-- the rest begins with this record line, which has no whole reply: only the output cuts one short, and the log leaves out a record that is the next
pub record Begun (held : List Bytes) (rest : Bytes) (r : Numbered) (why : Ending) (now : List Bytes) (said : Bytes) (used : ℕ) (D D' : Bytes → Type 0) : Type 0 where
  pub form : IsRecord r
  pub first : (more : Bytes) × (rest ≡ record_bytes r ++ more)
  pub list : now ≡ held_at why held (behind held r)
  pub bytes : (more : Bytes) × (reply_to held r ≡ said ++ more)
  pub unkept : ByLog why → IsUnkept held r
  pub full : why ≡ end.Full → 1073741824 < used + length r.payload + 5
  -- a fault may have left the record that was tried, and nothing else
  pub doubt : (x : Bytes) → D' x → D x ⊎ ((why ≡ end.Store) × (x ≡ r.payload))

-- no record line was begun
pub record NoneBegun (held : List Bytes) (why : Ending) (now : List Bytes) (said : Bytes) (D D' : Bytes → Type 0) : Type 0 where
  pub list : now ≡ held
  pub bytes : said ≡ []
  pub other : ByLog why → ⊥
  pub calm : (x : Bytes) → D' x → D x

abbrev pub NextIs : List Bytes → Bytes → Ending → List Bytes → Bytes → ℕ → (Bytes → Type 0) → (Bytes → Type 0) → Type 0
NextIs held rest why now said used D D' = NoneBegun held why now said D D' ⊎ ((r : Numbered) × Begun held rest r why now said used D D')

-- these record lines were answered, in order, and their replies have passed on; of the next, with which the rest begins, there may be something
pub record AnsweredSome {K O : Type 0} (keeper : KeeperMeaning K) (sink : SinkMeaning O) (old new : Standby K) (o o' : O) (b : Copied) (records : List Numbered) (rest : Bytes) (why : Ending) : Type 0 where
  pub now : List Bytes
  pub said : Bytes
  -- what was in doubt before is so only where nothing was kept since
  pub next : NextIs (behind_all b.held records) rest why now said (keeper.used new.keeper)
      (λ x. (now ≡ b.held) × keeper.doubts old.keeper x) (λ x. (b.told ≡ true) × keeper.doubts new.keeper x)
  pub half : 0 < length said → why ≡ end.Write
  pub kept : Kept keeper old new b now
  pub wrote : Wrote sink o o' (replies b.held records ++ said)
  pub passed : sink.tells o → AllPassed sink o → AreFirst (sink.taken o ++ replies b.held records) (sink.passed o')

-- ---- one record line, which ends at a place

-- it may end the run so
abbrev pub EndsAtRecord : Ending → Type 0
EndsAtRecord end.Read = ⊥
EndsAtRecord end.TooLong = ⊥
EndsAtRecord (end.BadFrame at) = ⊥
EndsAtRecord why = Unit {0}

-- it was answered, or what ended it is said
abbrev pub Answered : {K O : Type 0} → KeeperMeaning K → SinkMeaning O → Standby K → Standby K → O → O → Copied → Numbered → ℕ → Result (Unit {0}) Ending → Type 0
Answered keeper sink old new o o' b r place (Ok u) = AnsweredAll keeper sink old new o o' b (r ∷ [])
Answered keeper sink old new o o' b r place (Err (end.BadFrame at)) = HasNoEntry (length b.held) r place at × AnsweredAll keeper sink old new o o' b []
Answered keeper sink old new o o' b r place (Err why) = EndsAtRecord why × AnsweredSome keeper sink old new o o' b [] (record_bytes r) why

-- what ends the run at a record line of which the standby makes this, and whose payload begins at a place
abbrev pub outcome : ℕ → Shipped → Result (Unit {0}) Ending
outcome head (NoEntry at) = Err (end.BadFrame (min (head + at) 18446744073709551615))
outcome head Fault = Err end.Store
outcome head (Full size count) = Err end.Full
outcome head Memory = Err end.Memory
outcome head answer = Ok tt
