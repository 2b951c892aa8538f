-- What has gone on from opened files, said of their bytes and of events.
use Rattle.std.proofs.Common.{◌≡◌, ◌⊎◌, inl, inr, ℕ, Bool, true, false, List, [], refl, sym, ◌∙◌, subst}
use Rattle.std.proofs.lemmas.Bool.{cases_eq}
use Rattle.news_types.specs.declared.entry.Entry.{Entry}
use Rattle.news_types.specs.Books.{Book}
use Rattle.news_types.specs.Names.{Bytes}
use Rattle.news_types.specs.History.{History}
use Rattle.news_types.specs.Frames.{Writer}
use Rattle.news_io.specs.Left.{IsLeft, Between}
use Rattle.news_io.specs.Outside.{Meanings, Outside, FilesTell, Files}
use Rattle.news_pair.specs.Keeper.{pair_of}
use Rattle.news_pair.specs.Stands.{log_disk, side_disk}
use Rattle.news_room.specs.Stands.{Stands, in_doubt}
use Rattle.news_room.proofs.Lists.{same_list}
use Rattle.newsdesk_cli.specs.FilesLeft as room
use Rattle.newsdesk_cli.specs.Opened.{HasGoneOn}
use Rattle.program_events.specs.Leads.{IsOneOf, LeadsOn}
use Rattle.program_run.specs.Left.{Writers, AnyWriter, ThisWriter, NoneInDoubt, MayStand, FilesLeft, Goes, GoesOnBy, GoesOn, GoesOnAs}
use Rattle.program_run.specs.Opens.{OpenTo, AreBytes}
use Rattle.program_run.proofs.Alike.{opens_as, alike}
use Rattle.store_files.specs.Files as files
use Rattle.world_laws.specs.World.{World, Event, opening, run}
use Rattle.world_laws.proofs.Growth.{nothing_is_lost}

-- ---- what a crash left, in other words

left_as : {T C : Type 0} (P Q : C → List T → Type 0) (list : List T) (D E : T → Type 0) (found : C) → ((h : List T) → P found h → Q found h) → ((e : T) → D e → E e) → IsLeft P list D found → IsLeft Q list E found
left_as P Q list D E found opens doubts (inl same) = inl (opens list same)
left_as P Q list D E found opens doubts (inr more) = inr (more.0, doubts more.0 more.1, opens _ more.2)

between_as : {T C : Type 0} (P Q : C → List T → Type 0) (h g : List T) (A B A' B' : T → Type 0) (found : C) → ((l : List T) → P found l → Q found l) → ((e : T) → A e → A' e) → ((e : T) → B e → B' e)
    → Between P h g A B found → Between Q h g A' B' found
between_as P Q h g A B A' B' found opens first last b = record {
  part = b.part;
  behind = b.behind;
  within = b.within;
  left = left_as P Q b.part (λ e. ((b.part ≡ h) × A e) ⊎ ((b.part ≡ g) × B e)) (λ e. ((b.part ≡ h) × A' e) ⊎ ((b.part ≡ g) × B' e)) found opens
      (λ e one. elim one [ inl at_first ↦ inl (at_first.0, first e at_first.1) | inr at_last ↦ inr (at_last.0, last e at_last.1) ]) b.left;
}

no_bytes : Writer
no_bytes format publication = []

module _ {D S O C L : Type 0} (m : Meanings D S O C L) (before after : Outside D S O C L) (status : ℕ) (went : HasGoneOn m.disk before.log after.log before.side after.side status) where
  -- the book at which a command began
  abbrev pub begun : Bool → Book
  begun told = record { store = went.opened.store; told = told; list = went.opened.history }

  -- what is in doubt behind it, where the files are told
  abbrev pub Doubted : Bool → Entry → Type 0
  Doubted told e = (told ≡ true) × in_doubt (pair_of m.disk) went.after e

  -- What a command has to give: the list at which the room behind it stands, and the events of each world that has the list at which it began.
  -- At `told = true` the files tell; at `false` nothing is known of that, and nothing is in doubt.
  pub record Went (writers : Writers) (Happened : Writer → World → List Event → Type 0) (told : Bool) : Type 0 where
    pub now : History
    pub stands : Stands (pair_of m.disk) went.after (record { store = went.opened.store; told = told; list = now })
    pub happened : (write : Writer) → writers went.opened.store write → (w : World) → w.server.list ≡ went.opened.history → (events : List Event) × Happened write w events × LeadsOn write w now (Doubted told) events

  module _ (writers : Writers) (Happened : Writer → World → List Event → Type 0) where
    -- the files are left with the list of the room
    module _ (now : History) (stands : Stands (pair_of m.disk) went.after (record { store = went.opened.store; told = true; list = now })) (tell : FilesTell m before) where
      abbrev left : room.FilesLeft m.disk before.log before.side went.opened.store went.room went.after went.opened.history status
      left = went.files tell.log tell.side

      one_list : left.list ≡ now
      one_list = same_list left.list now left.stands.kept.formed stands.kept.formed (sym (left.stands.told refl).list_is ∙ (stands.told refl).list_is)

      module _ (doubt : List Entry) (within : (e : Entry) → in_doubt (pair_of m.disk) went.after e → IsOneOf doubt e) where
        may_stand : (e : Entry) → in_doubt (pair_of m.disk) went.after e → MayStand status doubt e
        may_stand e d = elim (cases_eq status 6) [
          | inl six ↦ record { failed = six; one = within e d }
          | inr other ↦ absurd (left.sure other e d)
        ]

        opens : (found : Files) → AreBytes found → (list : History) → files.OpenTo went.opened.store found list → OpenTo went.opened.store found list
        opens found bytes list o = opens_as went.opened.store went.opened.long found.0 found.1 list bytes.1 o

        abbrev LeftAt : D → D → Files → Type 0
        LeftAt log side found = m.disk.left_since log (m.disk.moment before.log) found.0 × m.disk.may_leave side found.1

        files_left : FilesLeft m before after status went.opened.store went.opened.history now doubt
        files_left = record {
          tells = record {
            log = subst m.disk.tells (sym went.same) (left.stands.told refl).tells_it.log_is.told;
            side = subst m.disk.tells (sym went.same_side) (left.stands.told refl).tells_it.told;
          };
          opens = λ found may bytes.
              let may' : files.MayBe m.disk (log_disk went.after.keeper) (side_disk went.after.keeper) found =
              subst (λ (log : D). files.MayBe m.disk log (side_disk went.after.keeper) found) went.same (subst (λ (side : D). files.MayBe m.disk after.log side found) went.same_side may) in
              subst (λ (list : History). IsLeft (OpenTo went.opened.store) list (MayStand status doubt) found) one_list
              (left_as (files.OpenTo went.opened.store) (OpenTo went.opened.store) left.list (in_doubt (pair_of m.disk) went.after) (MayStand status doubt) found (opens found bytes) may_stand (left.now found may'));
          since = λ found may bytes.
              let may' : files.LeftSince m.disk (log_disk went.after.keeper) (side_disk went.after.keeper) (m.disk.moment before.log) found =
              subst (λ (log : D). LeftAt log (side_disk went.after.keeper) found) went.same (subst (λ (side : D). LeftAt after.log side found) went.same_side may) in
              elim (left.since_begun found may') [
                | inl between ↦ inl
                    (subst (λ (list : History). Between (OpenTo went.opened.store) went.opened.history list NoneInDoubt (MayStand status doubt) found) one_list
                    (between_as (files.OpenTo went.opened.store) (OpenTo went.opened.store) went.opened.history left.list room.NoneInDoubt (in_doubt (pair_of m.disk) went.after) NoneInDoubt (MayStand status doubt) found
                    (opens found bytes) (λ e none. none) may_stand between))
                | inr was ↦ inr (was.0, was.1, alike went.opened.store went.opened.long was.0 found was.2)
              ];
        }

    pub goes_on_by : (write : Writer) → writers went.opened.store write → ((told : Bool) → (told ≡ true → m.disk.tells before.log × m.disk.tells before.side) → Went writers Happened told) → GoesOnBy m before after status writers Happened
    goes_on_by one by give = record {
      store = went.opened.store;
      long = went.opened.long;
      list = went.opened.history;
      stored = (went.opened.holds false (λ is. absurd (cc is))).stands.kept;
      opens = λ tell bytes. opens_as went.opened.store went.opened.long (m.disk.seen before.log) (m.disk.seen before.side) went.opened.history bytes.1 (went.opened.bytes tell.log tell.side);
      goes = λ told tells. goes told tells (give told (λ is. let tell = tells is in (tell.log, tell.side)));
    }
      where
        goes : (told : Bool) → (told ≡ true → FilesTell m before) → Went writers Happened told → Goes m before after status writers Happened told went.opened.store went.opened.history
        goes told tells w =
            let start : World = record opening { server = record { list = went.opened.history; doubt = [] } } in
            let first = w.happened one by start refl in
            let grown = (nothing_is_lost one start first.0).list in
            record {
              now = w.now;
              more = (grown.0, sym first.2.lead.list ∙ grown.1);
              stored = w.stands.kept;
              happened = λ write with world is.
                  let h = w.happened write with world is in (
                    h.0,
                    h.1,
                    h.2.lead,
                    λ yes. files_left w.now (subst (λ (b : Bool). Stands (pair_of m.disk) went.after (record { store = went.opened.store; told = b; list = w.now })) yes w.stands) (tells yes) (run write h.0 world).server.doubt
                        (λ e d. h.2.doubt e (yes, d)),
                  );
            }

  module _ (Happened : Writer → World → List Event → Type 0) where
    -- however publications are written
    pub goes_on : ((told : Bool) → (told ≡ true → m.disk.tells before.log × m.disk.tells before.side) → Went AnyWriter Happened told) → GoesOn m before after status Happened
    goes_on give = goes_on_by AnyWriter Happened no_bytes tt give

    -- where they are written so
    pub goes_on_as : (writer : Bytes → Writer) → ((told : Bool) → (told ≡ true → m.disk.tells before.log × m.disk.tells before.side) → Went (ThisWriter writer) Happened told) → GoesOnAs m before after status writer Happened
    goes_on_as writer give = goes_on_by (ThisWriter writer) Happened (writer went.opened.store) refl give
