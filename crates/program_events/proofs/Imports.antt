-- The import of a table has happened in each world that has the list of its files.
use Rattle.std.proofs.Common.{◌≡◌, inl, inr, ℕ, ◌+◌, Bool, true, false, cond, List, [], ◌∷◌, ◌++◌, Option, Some, None, refl, sym, ap, ◌∙◌, subst, append_assoc, append-nil}
use Rattle.news_types.specs.Books.{Book, followed_by, onto}
use Rattle.news_types.specs.declared.entry.Entry.{Entry}
use Rattle.news_types.specs.declared.command.Command.TheVariants.{Stop}
use Rattle.news_types.specs.Names.{Bytes}
use Rattle.news_types.specs.History.{History, moment_at, last_number}
use Rattle.news_types.specs.Frames.{Writer}
use Rattle.news_types.specs.Products.{is_subscriber}
use Rattle.news_types.specs.Calls as call
use Rattle.news_types.specs.Calls.{Fate, IsKept, IsFull, IsFailed, follow}
use Rattle.news_io.specs.Clock.{ClockMeaning}
use Rattle.news_io.specs.Disk.{DiskMeaning}
use Rattle.news_io.specs.Keeper.{KeeperMeaning}
use Rattle.news_io.specs.Sink.{SinkMeaning}
use Rattle.news_io.specs.Source.{SourceMeaning}
use Rattle.entry_codec.specs.Spelling.{entry_bytes}
use Rattle.news_pair.specs.Keeper.{pair_of}
use Rattle.news_pair.specs.declared.pair.Pair.{Pair}
use Rattle.news_room.specs.Stands.{Stands, in_doubt}
use Rattle.news_room.specs.Steps.{entries, DoubtStep}
use Rattle.news_room.specs.declared.room.Room.{Room}
use Rattle.news_room.proofs.Lists.{same_entry, same_list}
use Rattle.store_files.proofs.Holding.{calls_shut}
use Rattle.subscriber_import.specs.declared.import.Imported.{Imported}
use Rattle.subscriber_import.specs.Fields.{Wanted, wanted_of, command_of}
use Rattle.subscriber_import.specs.Import.{asked, added_by, behind, imported, added}
use Rattle.subscriber_import.specs.Steps.{Imports, is_import_fault}
use Rattle.subscriber_import.specs.Table.{Row, rows_of, behind_head}
use Rattle.subscriber_import.proofs.Imports.{behind_one, added_is_imported}
use Rattle.whole_runs.specs.Importing.{IsImport}
use Rattle.world_laws.specs.World.{World, Event, Requests, run}
use Rattle.newsdesk_cli.specs.Opened.{HasGoneOn}
use Rattle.program_events.specs.Leads.{IsOneOf, Lead, LeadsOn}
use Rattle.program_events.specs.Imports.{wanted_events, row_events, AreOfTable, ImportRunHappened}
use Rattle.program_events.specs.Packages.{NothingHappened}
use Rattle.program_events.proofs.Leading.{lead_none}
use Rattle.program_events.proofs.Packages.{ends, nothing_happened, none_before}
use Rattle.program_events.proofs.Reports.{Fares, all_fares, still_none}
use Rattle.program_events.proofs.Stepping.{step_lead, failed_doubt}

-- ---- which record adds an entry

-- the record that adds the entry behind these
record Adds (h : History) (caller : Bytes) (at : ℕ) (rows : List Row) (more : List Entry) (e : Entry) : Type 0 where
  before : List Row
  row : Row
  rest : List Row
  are : rows ≡ before ++ row ∷ rest
  kept : added h caller at before ≡ more
  adds : added_by (imported h caller at before) caller at (wanted_of row) ≡ Some e

module _ (caller : Bytes) (at : ℕ) where
  no_more : (more : List Entry) (e : Entry) (rest : List Entry) → [] ≡ more ++ e ∷ rest → ⊥
  no_more [] e rest is = cc
  no_more (x ∷ more) e rest is = cc

  -- one record more before it
  put_before : (h : History) (row : Row) (rows : List Row) (more : List Entry) (e : Entry) → Adds (behind h caller at row) caller at rows more e → Adds h caller at (row ∷ rows) (entries (added_by h caller at (wanted_of row)) ++ more) e
  put_before h row rows more e a = record {
    before = row ∷ a.before;
    row = a.row;
    rest = a.rest;
    are = ap (λ (l : List Row). row ∷ l) a.are;
    kept = ap (λ (l : List Entry). entries (added_by h caller at (wanted_of row)) ++ l) a.kept;
    adds = a.adds;
  }

  adding : (h : History) (rows : List Row) (more : List Entry) (e : Entry) (rest : List Entry) → added h caller at rows ≡ more ++ e ∷ rest → Adds h caller at rows more e
  adding h [] more e rest is = absurd (no_more more e rest is)
  adding h (row ∷ rows) more e rest is = by (λ some later. adding (behind h caller at row) rows some e rest later) (added_by h caller at (wanted_of row)) refl more is
    where
      by : ((more : List Entry) → added (behind h caller at row) caller at rows ≡ more ++ e ∷ rest → Adds (behind h caller at row) caller at rows more e)
          → (o : Option Entry) → added_by h caller at (wanted_of row) ≡ o → (more : List Entry) → entries o ++ added (behind h caller at row) caller at rows ≡ more ++ e ∷ rest → Adds h caller at (row ∷ rows) more e
      by later None none more all =
          subst (λ (o : Option Entry). Adds h caller at (row ∷ rows) (entries o ++ more) e) none (put_before h row rows more e (later more all))
      by later (Some x) some [] all =
          let same : x ≡ e = cc in
          record { before = []; row = row; rest = rows; are = refl; kept = refl; adds = some ∙ ap Some same }
      by later (Some x) some (m ∷ more) all =
          let same : x ≡ m = cc in
          let tail : added (behind h caller at row) caller at rows ≡ more ++ e ∷ rest = cc in
          subst (λ (l : List Entry). Adds h caller at (row ∷ rows) l e) (ap (λ (o : Option Entry). entries o ++ more) some ∙ ap (λ (y : Entry). y ∷ more) same)
          (put_before h row rows more e (later more tail))

-- what stands behind the same entries
same_next : (more : List Entry) (x y : Entry) (rest later : List Entry) → more ++ x ∷ rest ≡ more ++ y ∷ later → x ≡ y
same_next [] x y rest later is = cc
same_next (m ∷ more) x y rest later is = let tail : more ++ x ∷ rest ≡ more ++ y ∷ later = cc in same_next more x y rest later tail

-- ---- the events of records

module _ (write : Writer) (w : World) (caller : Bytes) (at : ℕ) where
  abbrev zero : Event
  zero = Requests caller 0 Stop at IsKept

  abbrev zero_next : History → Option Entry
  zero_next h = follow h (call.Requested caller 0 Stop) (moment_at h at)

  zero_fares : (g : History) → Fares g (zero_next g) IsKept []
  zero_fares g = record { kept = None; list = refl; is = refl }

  zero_lead : (events : List Event) (g : History) → Lead write w events g → Lead write w (events ++ zero ∷ []) g
  zero_lead events g lead = step_lead write w events g lead zero zero_next IsKept (λ v. refl) [] (zero_fares g)

  module _ (events : List Event) (g : History) (lead : Lead write w events g) where
    abbrev request_event : Wanted → Fate → Event
    request_event x fate = Requests caller (last_number g caller + 1) (command_of x) at fate

    abbrev next : Wanted → History → Option Entry
    next x h = follow h (call.Requested caller (last_number g caller + 1) (command_of x)) (moment_at h at)

    both_are : (x : Wanted) (fate : Fate) → (events ++ zero ∷ []) ++ request_event x fate ∷ [] ≡ events ++ zero ∷ request_event x fate ∷ []
    both_are x fate = append_assoc events (zero ∷ []) (request_event x fate ∷ [])

    -- nothing was asked
    none_lead : (more : List Entry) (fate : Fate) → Fares g None fate more → Lead write w (events ++ []) (followed_by more g)
    none_lead more fate fares = subst (λ (l : List Event). Lead write w l (followed_by more g)) (sym (append-nil events)) (subst (Lead write w events) (fares.list ∙ sym fares.is) lead)

    pub wanted_lead : (o : Option Wanted) (fate : Fate) (more : List Entry) → Fares g (added_by g caller at o) fate more → Lead write w (events ++ wanted_events g caller at o fate) (followed_by more g)
    wanted_lead None fate more fares = none_lead more fate fares
    wanted_lead (Some x) fate more fares = by (is_subscriber g x.subscriber) fares
      where
        by : (there : Bool) → Fares g (cond there None (asked g caller at x).more) fate more → Lead write w (events ++ cond there [] (zero ∷ request_event x fate ∷ [])) (followed_by more g)
        by true f = none_lead more fate f
        by false f =
            subst (λ (l : List Event). Lead write w l (followed_by more g)) (both_are x fate)
            (step_lead write w (events ++ zero ∷ []) g (zero_lead events g lead) (request_event x fate) (next x) fate (λ v. refl) more f)

    -- the entry that failed is in doubt
    pub wanted_doubt : (o : Option Wanted) (e : Entry) → added_by g caller at o ≡ Some e → IsOneOf (run write (events ++ wanted_events g caller at o IsFailed) w).server.doubt e
    wanted_doubt None e is = absurd (cc is)
    wanted_doubt (Some x) e is = by (is_subscriber g x.subscriber) is
      where
        by : (there : Bool) → cond there None (asked g caller at x).more ≡ Some e → IsOneOf (run write (events ++ cond there [] (zero ∷ request_event x IsFailed ∷ [])) w).server.doubt e
        by true none = absurd (cc none)
        by false some =
            let fares : Fares g (asked g caller at x).more IsFailed [] = record { kept = None; list = ap (λ (o : Option Entry). call.list_after g o IsFailed) some; is = refl } in
            subst (λ (l : List Event). IsOneOf (run write l w).server.doubt e) (both_are x IsFailed)
            (failed_doubt write w (events ++ zero ∷ []) g (zero_lead events g lead) (request_event x IsFailed) (next x) IsFailed (λ v. refl) [] fares e some refl)

  pub rows_lead : (events : List Event) (g : History) → Lead write w events g → (rows : List Row) → Lead write w (events ++ row_events g caller at rows) (imported g caller at rows)
  rows_lead events g lead [] = subst (λ (l : List Event). Lead write w l g) (sym (append-nil events)) lead
  rows_lead events g lead (row ∷ rows) =
      let o : Option Entry = added_by g caller at (wanted_of row) in
      let these : List Event = wanted_events g caller at (wanted_of row) IsKept in
      let one = subst (Lead write w (events ++ these)) (behind_one o g) (wanted_lead events g lead (wanted_of row) IsKept (entries o) (all_fares g o (entries o) refl)) in
      subst (λ (l : List Event). Lead write w l (imported (behind g caller at row) caller at rows)) (append_assoc events these (row_events (behind g caller at row) caller at rows))
      (rows_lead (events ++ these) (behind g caller at row) one rows)

-- ---- the run

module _ {D : Type 0} (disk : DiskMeaning D) (log log' side side' : D) (status : ℕ) (went : HasGoneOn disk log log' side side' status)
    (tells : disk.tells log) (tells' : disk.tells side) (write : Writer) (w : World) (same : w.server.list ≡ went.opened.history) (caller : Bytes) (at : ℕ) (more : List Entry) where
  abbrev k : KeeperMeaning (Pair D)
  k = pair_of disk

  abbrev here : Book
  here = record { store = went.opened.store; told = true; list = went.opened.history }

  abbrev Is : Option (List Row) → Imported → List Event → Type 0
  Is rows answer events = AreOfTable w.server.list caller at rows answer events × LeadsOn write w (went.files tells tells').list (in_doubt k went.after) events

  abbrev h : History
  h = w.server.list

  start : Lead write w [] h
  start = lead_none write w

  module _ (rows : List Row) (behind_it : Stands k went.after (onto more here)) where
    -- the list that these records lead to
    list_is : (before : List Row) → added h caller at before ≡ more → imported h caller at before ≡ (onto more here).list
    list_is before kept = sym (added_is_imported h caller at before) ∙ ap (λ (l : List Entry). followed_by l h) kept ∙ ap (followed_by more) same

    calm_leads : (before : List Row) → added h caller at before ≡ more → ((e : Entry) → in_doubt k went.after e → ⊥) → LeadsOn write w (went.files tells tells').list (in_doubt k went.after) (row_events h caller at before)
    calm_leads before kept calm =
        ends disk log log' side side' status went tells tells' write w same (row_events h caller at before) (onto more here) refl behind_it
        (subst (Lead write w (row_events h caller at before)) (list_is before kept) (rows_lead write w caller at [] h start before)) (λ e d. absurd (calm e d))

    stopped_leads : (before : List Row) (row : Row) (e : Entry) (fate : Fate) → added h caller at before ≡ more → added_by (imported h caller at before) caller at (wanted_of row) ≡ Some e → call.list_after (imported h caller at before) (Some e) fate ≡ imported h caller at before
        → ((x : Entry) → in_doubt k went.after x → (x ≡ e) × (fate ≡ IsFailed))
        → LeadsOn write w (went.files tells tells').list (in_doubt k went.after) (row_events h caller at before ++ wanted_events (imported h caller at before) caller at (wanted_of row) fate)
    stopped_leads before row e fate kept adds unkept doubt =
        let g : History = imported h caller at before in
        let lead = rows_lead write w caller at [] h start before in
        let fares : Fares g (added_by g caller at (wanted_of row)) fate [] = record { kept = None; list = ap (λ (o : Option Entry). call.list_after g o fate) adds ∙ unkept; is = refl } in
        ends disk log log' side side' status went tells tells' write w same (row_events h caller at before ++ wanted_events g caller at (wanted_of row) fate) (onto more here) refl behind_it
        (subst (Lead write w (row_events h caller at before ++ wanted_events g caller at (wanted_of row) fate)) (list_is before kept) (wanted_lead write w caller at (row_events h caller at before) g lead (wanted_of row) fate [] fares))
        (λ x d.
        let found = doubt x d in
        subst (λ (f : Fate). IsOneOf (run write (row_events h caller at before ++ wanted_events g caller at (wanted_of row) f) w).server.doubt x) (sym found.1)
        (wanted_doubt write w caller at (row_events h caller at before) g lead (wanted_of row) x (adds ∙ ap Some (sym found.0))))

  calm_by : (should : List Entry) → DoubtStep (k.doubts went.room.keeper) (k.doubts went.after.keeper) should more false → (e : Entry) → in_doubt k went.after e → ⊥
  calm_by should step e d = none_before disk log log' side side' status went tells tells' write w same (entry_bytes e) (still_none (k.doubts went.room.keeper) more (entry_bytes e) (step (entry_bytes e) d.1))

  -- the imports of a list are those of the world's
  at_world : (rows : Option (List Row)) (answer : Imported) → Imports k went.room went.after here caller at rows more answer → Imports k went.room went.after (record { store = went.opened.store; told = true; list = h }) caller at rows more answer
  at_world rows answer a = subst (λ (l : History). Imports k went.room went.after (record { store = went.opened.store; told = true; list = l }) caller at rows more answer) (sym same) a

  pub imports_are : (rows : Option (List Row)) (answer : Imported) → Imports k went.room went.after here caller at rows more answer → (events : List Event) × Is rows answer events
  imports_are None answer a =
      ([], ((a.did.why, refl), calm_leads [] a.stands [] (sym a.did.none.is) (calm_by [] (a.told refl).doubt)))
  imports_are (Some rows) (Imported.Done told) a =
      let b = at_world (Some rows) (Imported.Done told) a in
      (row_events h caller at rows, ((b.did.0, refl), calm_leads rows a.stands rows (sym b.did.1.whole.is) (calm_by (added here.list caller at rows) (a.told refl).doubt)))
  imports_are (Some rows) Imported.BadHead a = absurd a.did
  imports_are (Some rows) Imported.Memory a =
      let b = at_world (Some rows) Imported.Memory a in
      let s = b.did.0 in
      (row_events h caller at s.before, (record { before = s.before; rest = s.rest; are = s.are; events_are = refl }, calm_leads rows a.stands s.before (sym s.kept) (calm_by (added here.list caller at rows) (a.told refl).doubt)))
  imports_are (Some rows) (Imported.Full size count) a =
      let b = at_world (Some rows) (Imported.Full size count) a in
      let r = b.did.1 in
      let s = adding caller at h rows more r.next r.rest r.is in (
        row_events h caller at s.before ++ wanted_events (imported h caller at s.before) caller at (wanted_of s.row) IsFull,
        (
          record { before = s.before; row = s.row; rest = s.rest; are = s.are; next = r.next; adds = s.adds; events_are = refl },
          stopped_leads rows a.stands s.before s.row r.next IsFull s.kept s.adds refl (λ x d. absurd (calm_by (added here.list caller at rows) (a.told refl).doubt x d)),
        ),
      )
  imports_are (Some rows) Imported.Fault a =
      let b = at_world (Some rows) Imported.Fault a in
      let r = b.did.1 in
      let s = adding caller at h rows more r.next r.rest r.is in (
        row_events h caller at s.before ++ wanted_events (imported h caller at s.before) caller at (wanted_of s.row) IsFailed,
        (
          record { before = s.before; row = s.row; rest = s.rest; are = s.are; next = r.next; adds = s.adds; events_are = refl },
          stopped_leads rows a.stands s.before s.row r.next IsFailed s.kept s.adds refl
              (λ x d. elim ((b.told refl).doubt (entry_bytes x) d.1) [
                | inl was ↦ absurd (none_before disk log log' side side' status went tells tells' write w same (entry_bytes x) (still_none (k.doubts went.room.keeper) more (entry_bytes x) was))
                | inr tried ↦ (same_entry x tried.0 d.0 tried.3 tried.4 ∙ same_next more tried.0 r.next tried.1 r.rest (sym tried.2 ∙ r.is), refl)
              ]),
        ),
      )

-- ---- by the input

module _ {D C S O : Type 0} (disk : DiskMeaning D) (clock : ClockMeaning C) (source : SourceMeaning S) (sink : SinkMeaning O) (caller : Bytes)
    (log log' side side' : D) (c c' : C) (i i' : S) (o o' : O) (status : ℕ) (went : HasGoneOn disk log log' side side' status)
    (tells : disk.tells log) (tells' : disk.tells side) (write : Writer) (w : World) (same : w.server.list ≡ went.opened.history) where
  pub import_happened : (did : IsImport (pair_of disk) clock source sink caller went.room went.after c c' i i' o o' status)
      → (events : List Event) × ImportRunHappened (pair_of disk) clock source sink caller went.room went.after c c' i i' o o' status write w (went.files tells tells').list (in_doubt (pair_of disk) went.after) events did
  import_happened (inl did) =
      let b : Book = record { store = went.opened.store; told = true; list = went.opened.history } in
      let first = (went.opened.holds true (λ is. (tells, tells'))).stands in
      let found = imports_are disk log log' side side' status went tells tells' write w same caller did.now did.more (behind_head (rows_of did.table)) did.imported (did.imports b first) in
      (found.0, record { at = did.now; read = did.read; answer = did.imported; are = found.1.0; told = did.told; leads = found.1.1 })
  import_happened (inr not) = nothing_happened disk log log' side side' status went tells tells' write w same not.same

module _ {K C S O : Type 0} (keeper : KeeperMeaning K) (clock : ClockMeaning C) (source : SourceMeaning S) (sink : SinkMeaning O) (caller : Bytes)
    (old new : Room K) (c c' : C) (i i' : S) (o o' : O) (status : ℕ) (write : Writer) (w : World) (g : History) (D : Entry → Type 0) (events : List Event) where
  pub import_leads : (did : IsImport keeper clock source sink caller old new c c' i i' o o' status) → ImportRunHappened keeper clock source sink caller old new c c' i i' o o' status write w g D events did → LeadsOn write w g D events
  import_leads (inl did) x = x.leads
  import_leads (inr unread) x = x.leads
