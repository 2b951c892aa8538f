-- What a keeper does with the record of an entry.
use Rattle.std.specs.Prelude.{◌≡◌, ℕ, List, [], ◌∷◌, ◌++◌, length, Result, Ok, Err, ◌+◌}
use Rattle.news_types.specs.declared.entry.Entry.{Entry}
use Rattle.news_types.specs.Names.{Bytes}
use Rattle.news_io.specs.Moments.{Elapses}
use Rattle.news_io.specs.Keeper.{IsFramed, payload_of, IsFullExactly, AppendCounts, BeforeOrAfter, DoubtsAfter, KeeperMeaning}
use Rattle.news_io.specs.declared.keeper.AppendFault.{AppendFault}
use Rattle.news_io.specs.declared.keeper.AppendFault.TheVariants.{Fault, Full}
use Rattle.entry_codec.specs.Spelling.{entry_bytes}
use Rattle.entry_codec.specs.Formed.{IsEntry}
use Rattle.news_room.specs.Log.{size_of}
use Rattle.news_room.specs.Stands.{limit_of}
use Rattle.news_room.specs.declared.answers.Handled.{Handled}

-- what a record of an entry is to a keeper
pub record IsRecord (bytes : Bytes) (e : Entry) : Type 0 where
  pub entry : IsEntry e
  pub frame : IsFramed bytes
  pub payload : payload_of bytes ≡ entry_bytes e
  pub size : length bytes ≡ size_of e

module _ {K : Type 0} (keeper : KeeperMeaning K) where
  -- what a keeper tells of an append of these bytes within a limit, behind which its list is this
  pub record Appended (k k' : K) (limit : ℕ) (bytes : Bytes) (r : Result (Unit {0}) AppendFault) (after : List Bytes) : Type 0 where
    pub full : IsFullExactly (keeper.used k) limit bytes r
    pub count : AppendCounts (keeper.faults k) (keeper.faults k') r
    pub label : keeper.label k' ≡ keeper.label k
    pub told : keeper.tells k → keeper.tells k'
    pub list_is : keeper.tells k → keeper.list k' ≡ after
    pub doubt : keeper.tells k → DoubtsAfter (keeper.doubts k) (keeper.doubts k') (payload_of bytes) r
    pub crash : keeper.tells k → Elapses (keeper.moment k) (keeper.moment k') (keeper.left_since k) (keeper.left_since k') (BeforeOrAfter (keeper.list k) (keeper.doubts k) (keeper.list k') (keeper.doubts k'))

  pub record Kept (k k' : K) (limit : ℕ) (e : Entry) (bytes : Bytes) : Type 0 where
    pub record_is : IsRecord bytes e
    pub grown : keeper.used k' ≡ keeper.used k + length bytes
    pub did : Appended k k' limit bytes (Ok tt) (keeper.list k ++ payload_of bytes ∷ [])

  pub record NotKept (k k' : K) (limit : ℕ) (e : Entry) (bytes : Bytes) (why : AppendFault) : Type 0 where
    pub record_is : IsRecord bytes e
    pub same : keeper.used k' ≡ keeper.used k
    pub did : Appended k k' limit bytes (Err why) (keeper.list k)

  -- an entry's record was kept, or why it was not
  abbrev pub AppendStep : K → K → Entry → Result (Unit {0}) Handled → Type 0
  AppendStep k k' e (Ok u) = (bytes : Bytes) × Kept k k' (limit_of e.act) e bytes
  AppendStep k k' e (Err Handled.Fault) = (bytes : Bytes) × NotKept k k' (limit_of e.act) e bytes Fault
  AppendStep k k' e (Err (Handled.Full size count)) = (bytes : Bytes) × NotKept k k' (limit_of e.act) e bytes (Full size count)
  AppendStep k k' e (Err Handled.Memory) = k' ≡ k
  AppendStep k k' e (Err _) = ⊥

  -- the same of an entry whose record takes no memory
  abbrev pub SmallStep : K → K → ℕ → Entry → Result (Unit {0}) AppendFault → Type 0
  SmallStep k k' limit e (Ok u) = (bytes : Bytes) × Kept k k' limit e bytes
  SmallStep k k' limit e (Err why) = (bytes : Bytes) × NotKept k k' limit e bytes why
