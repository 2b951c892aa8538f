-- The import of a table has been told in each world that has the list of the files.
use Rattle.std.proofs.Common.{◌≡◌, ◌⊎◌, inl, inr, ℕ, ◌+◌, ◌<◌, ◌≤◌, Bool, true, false, cond, List, [], ◌∷◌, ◌++◌, length, map, Option, Some, None, refl, sym, ap, ◌∙◌, subst, arith}
use Rattle.std.specs.Prelude.{Ok}
use Rattle.std.proofs.lemmas.List.{take_all}
use Rattle.news_types.specs.Books.{Book, followed_by, onto}
use Rattle.news_types.specs.declared.entry.Entry.{Entry}
use Rattle.news_types.specs.declared.command.Command.TheVariants.{Stop}
use Rattle.news_types.specs.Names.{Bytes}
use Rattle.news_types.specs.History.{History, moment_at, last_number}
use Rattle.news_types.specs.Frames.{Writer}
use Rattle.news_types.specs.Products.{is_subscriber}
use Rattle.news_types.specs.Outcome.{Answered, Done, Repeat, Denied}
use Rattle.news_types.specs.Calls as call
use Rattle.news_types.specs.Calls.{Fate, IsKept, IsFull, IsFailed, Replied, follow, given}
use Rattle.news_io.specs.Outside.{Meanings, Outside}
use Rattle.entry_codec.specs.Spelling.{entry_bytes}
use Rattle.news_pair.specs.Keeper.{pair_of}
use Rattle.news_room.specs.Beside.{Beside}
use Rattle.news_room.specs.Log as log
use Rattle.news_room.specs.Log.{sizes}
use Rattle.news_room.specs.Stands as room
use Rattle.news_room.specs.Stands.{Stands, numbers}
use Rattle.news_room.specs.Steps.{entries, DoubtStep, Given}
use Rattle.news_room.proofs.Lists.{same_entry}
use Rattle.store_files.proofs.Holding.{calls_shut}
use Rattle.subscriber_import.specs.declared.import.Imported.{Imported}
use Rattle.subscriber_import.specs.declared.line.Line.{Line}
use Rattle.subscriber_import.specs.declared.line.Line.TheVariants as line
use Rattle.subscriber_import.specs.Fields as fields
use Rattle.subscriber_import.specs.Fields.{wanted_of, command_of}
use Rattle.subscriber_import.specs.Import as old
use Rattle.subscriber_import.specs.Import.{asked, added_by, imported, added, line_by}
use Rattle.subscriber_import.specs.Steps.{Imports}
use Rattle.subscriber_import.specs.Table.{Row, rows_of, behind_head}
use Rattle.subscriber_import.proofs.Imports.{behind_one, added_is_imported}
use Rattle.whole_runs.specs.Importing as whole
use Rattle.wire_run.specs.Reading.{ENOUGH, IsReadThrough}
use Rattle.world_laws.specs.World.{World, Event, Requests, run}
use Rattle.newsdesk_cli.specs.Opened.{HasGoneOn}
use Rattle.newsdesk_cli.specs.Imports.{IsImportOf}
use Rattle.program_events.specs.Leads.{IsOneOf, Lead, LeadsOn}
use Rattle.program_events.specs.Imports as events
use Rattle.program_events.specs.Imports.{wanted_events}
use Rattle.program_events.proofs.Leading.{lead_none}
use Rattle.program_events.proofs.Imports.{wanted_lead, wanted_doubt, rows_lead}
use Rattle.program_events.proofs.Reports as reports
use Rattle.program_events.proofs.Reports.{all_fares, still_none}
use Rattle.program_run.specs.Formats.{Wanted}
use Rattle.program_run.specs.Imported as table
use Rattle.program_run.specs.Imported.{LONGEST_TABLE, told_as, told_newest, row_events, behind, line_of, table_events, AreFirst, AreStopped, IsWithin, IsImport}
use Rattle.program_run.specs.Inputs.{wanted_in, rows_wanted, newsroom_formats}
use Rattle.program_run.specs.Left.{AnyWriter}
use Rattle.program_run.specs.Members.{LIMIT, Adds, Fares}
use Rattle.program_run.specs.Opens.{size_of}
use Rattle.program_run.proofs.Counting.{sizes_on, within_on, calm_files, rose_files, uses_first}
use Rattle.program_run.proofs.Going.{Doubted, Went, goes_on}
use Rattle.program_run.proofs.Refusing.{not_opened}
use Rattle.program_run.proofs.Untouched.{first_stands, still_stands, still_files, nothing_leads}
use Rattle.program_run.proofs.Whole.{all_read, read_whole, not_read}

-- ---- records as what they ask for

abbrev wanted : List Row → List (Option Wanted)
wanted rows = map (λ row. wanted_in (wanted_of row)) rows

wanted_append : (xs ys : List Row) → wanted (xs ++ ys) ≡ wanted xs ++ wanted ys
wanted_append [] ys = refl
wanted_append (x ∷ xs) ys = ap (λ (l : List (Option Wanted)). wanted_in (wanted_of x) ∷ l) (wanted_append xs ys)

told_given : (o : Option Entry) (a : Answered) → told_as (given o IsKept (Replied a)) ≡ old.told_as a
told_given None (Done reply) = refl
told_given None (Repeat reply) = refl
told_given None (Denied denial) = refl
told_given (Some e) (Done reply) = refl
told_given (Some e) (Repeat reply) = refl
told_given (Some e) (Denied denial) = refl

module _ (write : Writer) (caller : Bytes) (at : ℕ) where
  -- what a record asks for in a world is what it asks for at its list
  one_events : (w : World) (o : Option fields.Wanted) (fate : Fate) → row_events write caller at w (wanted_in o) fate ≡ wanted_events w.server.list caller at o fate
  one_events w None fate = refl
  one_events w (Some x) fate = refl

  one_list : (w : World) (row : Row) → (behind write caller at w (wanted_in (wanted_of row))).server.list ≡ old.behind w.server.list caller at row
  one_list w row =
      let h : History = w.server.list in
      let o : Option Entry = added_by h caller at (wanted_of row) in
      let lead = wanted_lead write w caller at [] h (lead_none write w) (wanted_of row) IsKept (entries o) (all_fares h o (entries o) refl) in
      ap (λ (es : List Event). (run write es w).server.list) (one_events w (wanted_of row) IsKept) ∙ lead.list ∙ behind_one o h

  table_same : (w : World) (rows : List Row) → table_events write caller at w (wanted rows) ≡ events.row_events w.server.list caller at rows
  table_same w [] = refl
  table_same w (row ∷ rows) =
      let next : World = behind write caller at w (wanted_in (wanted_of row)) in
      ap (λ (es : List Event). es ++ table_events write caller at next (wanted rows)) (one_events w (wanted_of row) IsKept)
      ∙ ap (λ (es : List Event). wanted_events w.server.list caller at (wanted_of row) IsKept ++ es) (table_same next rows ∙ ap (λ (g : History). events.row_events g caller at rows) (one_list w row))

  table_list : (w : World) (rows : List Row) → (run write (table_events write caller at w (wanted rows)) w).server.list ≡ imported w.server.list caller at rows
  table_list w rows =
      let lead = rows_lead write w caller at [] w.server.list (lead_none write w) rows in
      ap (λ (es : List Event). (run write es w).server.list) (table_same w rows) ∙ lead.list

  -- what became of each is what the world answered
  line_same : (w : World) (o : Option fields.Wanted) → line_of write caller at w (wanted_in o) ≡ line_by w.server.list caller at o
  line_same w None = refl
  line_same w (Some x) = by (is_subscriber w.server.list x.subscriber)
    where
      by : (b : Bool) → cond b line.There (told_newest (run write (cond b [] (Requests caller 0 Stop at IsKept ∷ Requests caller (last_number w.server.list caller + 1) (command_of x) at IsKept ∷ [])) w).out) ≡ cond b line.There (old.told_as ((asked w.server.list caller at x).answer))
      by true = refl
      by false = told_given (follow w.server.list (call.Requested caller (last_number w.server.list caller + 1) (command_of x)) (moment_at w.server.list at)) ((asked w.server.list caller at x).answer)

  lines_same : (w : World) (rows : List Row) → table.lines write caller at w (wanted rows) ≡ old.lines w.server.list caller at rows
  lines_same w [] = refl
  lines_same w (row ∷ rows) =
      let next : World = behind write caller at w (wanted_in (wanted_of row)) in
      ap (λ (l : Line). l ∷ table.lines write caller at next (wanted rows)) (line_same w (wanted_of row))
      ∙ ap (λ (ls : List Line). line_by w.server.list caller at (wanted_of row) ∷ ls) (lines_same next rows ∙ ap (λ (g : History). old.lines g caller at rows) (one_list w row))

-- ---- which record adds an entry

-- the record that adds the entry behind these
record RowAdds (h : History) (caller : Bytes) (at : ℕ) (rows : List Row) (more : List Entry) (e : Entry) : Type 0 where
  before : List Row
  row : Row
  rest : List Row
  are : rows ≡ before ++ row ∷ rest
  kept : added h caller at before ≡ more
  adds : added_by (imported h caller at before) caller at (wanted_of row) ≡ Some e

module _ (caller : Bytes) (at : ℕ) where
  no_more : (more : List Entry) (e : Entry) (rest : List Entry) → [] ≡ more ++ e ∷ rest → ⊥
  no_more [] e rest is = cc
  no_more (x ∷ more) e rest is = cc

  -- one record more before it
  put_before : (h : History) (row : Row) (rows : List Row) (more : List Entry) (e : Entry) → RowAdds (old.behind h caller at row) caller at rows more e → RowAdds h caller at (row ∷ rows) (entries (added_by h caller at (wanted_of row)) ++ more) e
  put_before h row rows more e a = record {
    before = row ∷ a.before;
    row = a.row;
    rest = a.rest;
    are = ap (λ (l : List Row). row ∷ l) a.are;
    kept = ap (λ (l : List Entry). entries (added_by h caller at (wanted_of row)) ++ l) a.kept;
    adds = a.adds;
  }

  adding : (h : History) (rows : List Row) (more : List Entry) (e : Entry) (rest : List Entry) → added h caller at rows ≡ more ++ e ∷ rest → RowAdds h caller at rows more e
  adding h [] more e rest is = absurd (no_more more e rest is)
  adding h (row ∷ rows) more e rest is = by (λ some later. adding (old.behind h caller at row) rows some e rest later) (added_by h caller at (wanted_of row)) refl more is
    where
      by : ((more : List Entry) → added (old.behind h caller at row) caller at rows ≡ more ++ e ∷ rest → RowAdds (old.behind h caller at row) caller at rows more e)
          → (o : Option Entry) → added_by h caller at (wanted_of row) ≡ o → (more : List Entry) → entries o ++ added (old.behind h caller at row) caller at rows ≡ more ++ e ∷ rest → RowAdds h caller at (row ∷ rows) more e
      by later None none more all =
          subst (λ (o : Option Entry). RowAdds h caller at (row ∷ rows) (entries o ++ more) e) none (put_before h row rows more e (later more all))
      by later (Some x) some [] all =
          let same : x ≡ e = cc in
          record { before = []; row = row; rest = rows; are = refl; kept = refl; adds = some ∙ ap Some same }
      by later (Some x) some (m ∷ more) all =
          let same : x ≡ m = cc in
          let tail : added (old.behind h caller at row) caller at rows ≡ more ++ e ∷ rest = cc in
          subst (λ (l : List Entry). RowAdds h caller at (row ∷ rows) l e) (ap (λ (o : Option Entry). entries o ++ more) some ∙ ap (λ (y : Entry). y ∷ more) same)
          (put_before h row rows more e (later more tail))

-- what stands behind the same entries
same_next : (more : List Entry) (x y : Entry) (rest later : List Entry) → more ++ x ∷ rest ≡ more ++ y ∷ later → x ≡ y
same_next [] x y rest later is = cc
same_next (m ∷ more) x y rest later is = let tail : more ++ x ∷ rest ≡ more ++ y ∷ later = cc in same_next more x y rest later tail

-- ---- a table, by the room that has gone through it

module _ {D S O C L : Type 0} (m : Meanings D S O C L) (before after : Outside D S O C L) (status : ℕ) (went : HasGoneOn m.disk before.log after.log before.side after.side status) (caller : Bytes)
    (told : Bool) (tells : told ≡ true → m.disk.tells before.log × m.disk.tells before.side) (write : Writer) (w : World) (same : w.server.list ≡ went.opened.history) (at : ℕ) (more : List Entry) where
  abbrev n : Beside
  n = numbers (pair_of m.disk) went.room went.after

  abbrev here : Book
  here = record { store = went.opened.store; told = told; list = went.opened.history }

  abbrev h : History
  h = w.server.list

  -- the list that is left
  abbrev now : History
  now = followed_by more went.opened.history

  abbrev Doubt : Entry → Type 0
  Doubt e = Doubted m before after status went told e

  -- what the table is told as, and its events
  abbrev Is : Option (List Row) → List Event → Type 0
  Is rows events = table.Imports newsroom_formats m before after status caller write w at events (rows_wanted rows) × LeadsOn write w now Doubt events

  abbrev Told : Imported → Type 0
  Told answer = whole.IsImportTold m.sink answer before.output after.output status

  uses : n.used ≡ 65 + sizes h
  uses = uses_first m before after status went told tells ∙ ap (λ (g : History). 65 + sizes g) (sym same)

  none_before : (payload : Bytes) → (pair_of m.disk).doubts went.room.keeper payload → ⊥
  none_before payload doubt = calls_shut went.room.keeper.log.ajar went.opened.quiet doubt.is_ajar

  calm_by : (should : List Entry) → (told ≡ true → DoubtStep ((pair_of m.disk).doubts went.room.keeper) ((pair_of m.disk).doubts went.after.keeper) should more false) → (e : Entry) → Doubt e → ⊥
  calm_by should step e d = none_before (entry_bytes e) (still_none ((pair_of m.disk).doubts went.room.keeper) more (entry_bytes e) (step d.0 (entry_bytes e) d.1.1))

  -- the list that these records lead to
  list_at : (rows : List Row) → added h caller at rows ≡ more → imported h caller at rows ≡ followed_by more h
  list_at rows kept = sym (added_is_imported h caller at rows) ∙ ap (λ (l : List Entry). followed_by l h) kept

  list_is : (rows : List Row) → added h caller at rows ≡ more → imported h caller at rows ≡ now
  list_is rows kept = list_at rows kept ∙ ap (followed_by more) same

  calm_leads : (rows : List Row) → added h caller at rows ≡ more → ((e : Entry) → Doubt e → ⊥) → LeadsOn write w now Doubt (events.row_events h caller at rows)
  calm_leads rows kept calm = record {
    lead = subst (Lead write w (events.row_events h caller at rows)) (list_is rows kept) (rows_lead write w caller at [] h (lead_none write w) rows);
    doubt = λ e d. absurd (calm e d);
  }

  -- what was kept is within the limit
  within_at : (rows : List Row) → added h caller at rows ≡ more → (should : List Entry) → Given n room.LIMIT should more → IsWithin write caller at w (events.row_events h caller at rows)
  within_at rows kept should given =
      let list : (run write (events.row_events h caller at rows) w).server.list ≡ followed_by more h = ap (λ (es : List Event). (run write es w).server.list) (sym (table_same write caller at w rows)) ∙ table_list write caller at w rows ∙ list_at rows kept in
      subst (λ (g : History). (g ≡ h) ⊎ (size_of g ≤ LIMIT)) (sym list) (within_on n LIMIT more h uses given.whole.grown given.within)

  -- ---- one that stopped

  module _ (front : List Row) (row : Row) (rest : List Row) (e : Entry) (fate : Fate) (kept : added h caller at front ≡ more) (adds : added_by (imported h caller at front) caller at (wanted_of row) ≡ Some e) where
    abbrev g : History
    g = imported h caller at front

    abbrev u : World
    u = run write (table_events write caller at w (wanted front)) w

    abbrev these : List Event
    these = events.row_events h caller at front ++ wanted_events g caller at (wanted_of row) fate

    at_list : u.server.list ≡ g
    at_list = table_list write caller at w front

    these_are : these ≡ table_events write caller at w (wanted front) ++ row_events write caller at u (wanted_in (wanted_of row)) fate
    these_are =
        sym (ap (λ (es : List Event). es ++ row_events write caller at u (wanted_in (wanted_of row)) fate) (table_same write caller at w front)
        ∙ ap (λ (es : List Event). events.row_events h caller at front ++ es) (one_events write caller at u (wanted_of row) fate ∙ ap (λ (k : History). wanted_events k caller at (wanted_of row) fate) at_list))

    adds_there : Adds write u (row_events write caller at u (wanted_in (wanted_of row))) e
    adds_there = one_list write caller at u row ∙ ap (λ (o : Option Entry). call.more o u.server.list) (ap (λ (k : History). added_by k caller at (wanted_of row)) at_list ∙ adds)

    size_there : n.used + sizes more ≡ size_of u.server.list
    size_there = sizes_on more h n.used uses ∙ ap size_of (sym (list_at front kept) ∙ sym at_list)

    stopped_at : (rows : List Row) → rows ≡ front ++ row ∷ rest → Fares (λ e. LIMIT) write u (row_events write caller at u (wanted_in (wanted_of row))) fate → AreStopped write caller at w (wanted rows) fate these
    stopped_at rows are fares = record {
      front = wanted front;
      row = wanted_in (wanted_of row);
      rest = wanted rest;
      are = ap wanted are ∙ wanted_append front (row ∷ rest);
      events_are = these_are;
      fares = fares;
    }

    stopped_leads : call.list_after g (Some e) fate ≡ g → ((x : Entry) → Doubt x → (x ≡ e) × (fate ≡ IsFailed)) → LeadsOn write w now Doubt these
    stopped_leads unkept doubt =
        let lead = rows_lead write w caller at [] h (lead_none write w) front in
        let fares : reports.Fares g (added_by g caller at (wanted_of row)) fate [] = record { kept = None; list = ap (λ (o : Option Entry). call.list_after g o fate) adds ∙ unkept; is = refl } in
        record {
          lead = subst (Lead write w these) (list_is front kept) (wanted_lead write w caller at (events.row_events h caller at front) g lead (wanted_of row) fate [] fares);
          doubt = λ x d.
              let found = doubt x d in
              subst (λ (f : Fate). IsOneOf (run write (events.row_events h caller at front ++ wanted_events g caller at (wanted_of row) f) w).server.doubt x) (sym found.1)
              (wanted_doubt write w caller at (events.row_events h caller at front) g lead (wanted_of row) x (adds ∙ ap Some (sym found.0)));
        }

  -- ---- by what was answered

  -- the imports of a list are those of the world's
  at_world : (rows : List Row) (answer : Imported) → Imports (pair_of m.disk) went.room went.after here caller at (Some rows) more answer
      → Imports (pair_of m.disk) went.room went.after (record { store = went.opened.store; told = told; list = h }) caller at (Some rows) more answer
  at_world rows answer a = subst (λ (l : History). Imports (pair_of m.disk) went.room went.after (record { store = went.opened.store; told = told; list = l }) caller at (Some rows) more answer) (sym same) a

  no_head : (answer : Imported) → (answer ≡ Imported.BadHead) ⊎ (answer ≡ Imported.Memory) → Told answer → Told Imported.BadHead ⊎ Told Imported.Memory
  no_head answer (inl bad) t = inl (subst Told bad t)
  no_head answer (inr starved) t = inr (subst Told starved t)

  pub imports_are : (rows : Option (List Row)) (answer : Imported) → Imports (pair_of m.disk) went.room went.after here caller at rows more answer → Told answer → (events : List Event) × Is rows events
  imports_are None answer a t =
      ([], ((refl, calm_files m before after status went a.did.none.calm, no_head answer a.did.why t), calm_leads [] (sym a.did.none.is) (calm_by [] (λ is. (a.told is).doubt))))
  imports_are (Some rows) (Imported.Done lines) a t =
      let b = at_world rows (Imported.Done lines) a in
      let kept : added h caller at rows ≡ more = sym b.did.1.whole.is in (
        events.row_events h caller at rows,
        (
          inl (record {
            events_are = sym (table_same write caller at w rows);
            within = within_at rows kept (added h caller at rows) b.did.1;
            calm = calm_files m before after status went b.did.1.whole.calm;
            told = subst (λ (ls : List Line). Told (Imported.Done ls)) (b.did.0 ∙ sym (lines_same write caller at w rows)) t;
          }),
          calm_leads rows kept (calm_by (added here.list caller at rows) (λ is. (a.told is).doubt)),
        ),
      )
  imports_are (Some rows) Imported.BadHead a t = absurd a.did
  imports_are (Some rows) Imported.Memory a t =
      let b = at_world rows Imported.Memory a in
      let s = b.did.0 in
      let kept : added h caller at s.before ≡ more = sym s.kept in (
        events.row_events h caller at s.before,
        (
          inr (inr (inr (record {
            first = record { front = wanted s.before; rest = wanted s.rest; are = ap wanted s.are ∙ wanted_append s.before s.rest; events_are = sym (table_same write caller at w s.before) };
            within = within_at s.before kept (added h caller at s.before) b.did.1;
            calm = calm_files m before after status went b.did.1.whole.calm;
            told = t;
          }))),
          calm_leads s.before kept (calm_by (added here.list caller at rows) (λ is. (a.told is).doubt)),
        ),
      )
  imports_are (Some rows) (Imported.Full size count) a t =
      let b = at_world rows (Imported.Full size count) a in
      let r = b.did.1 in
      let s = adding caller at h rows more r.next r.rest r.is in
      let past : LIMIT < n.later_used + log.size_of r.next = r.past in
      let grown : n.later_used ≡ n.used + sizes more = r.grown in
      let there : n.used + sizes more ≡ size_of (run write (table_events write caller at w (wanted s.before)) w).server.list = size_there s.before s.row s.rest r.next IsFull s.kept s.adds in (
        these s.before s.row s.rest r.next IsFull s.kept s.adds,
        (
          inr (inr (inl (record {
            stopped = stopped_at s.before s.row s.rest r.next IsFull s.kept s.adds rows s.are (r.next, adds_there s.before s.row s.rest r.next IsFull s.kept s.adds, omega (arith, past, grown, there));
            calm = calm_files m before after status went r.calm;
            told = t;
          }))),
          stopped_leads s.before s.row s.rest r.next IsFull s.kept s.adds refl (λ x d. absurd (calm_by (added here.list caller at rows) (λ is. (a.told is).doubt) x d)),
        ),
      )
  imports_are (Some rows) Imported.Fault a t =
      let b = at_world rows Imported.Fault a in
      let r = b.did.1 in
      let s = adding caller at h rows more r.next r.rest r.is in
      let fits : n.later_used + log.size_of r.next ≤ LIMIT = r.fits in
      let grown : n.later_used ≡ n.used + sizes more = r.grown in
      let there : n.used + sizes more ≡ size_of (run write (table_events write caller at w (wanted s.before)) w).server.list = size_there s.before s.row s.rest r.next IsFailed s.kept s.adds in (
        these s.before s.row s.rest r.next IsFailed s.kept s.adds,
        (
          inr (inl (record {
            stopped = stopped_at s.before s.row s.rest r.next IsFailed s.kept s.adds rows s.are (r.next, adds_there s.before s.row s.rest r.next IsFailed s.kept s.adds, omega (arith, fits, grown, there));
            rose = rose_files m before after status went r.rose;
            told = t;
          })),
          stopped_leads s.before s.row s.rest r.next IsFailed s.kept s.adds refl
              (λ x d. elim ((b.told d.0).doubt (entry_bytes x) d.1.1) [
                | inl was ↦ absurd (none_before (entry_bytes x) (still_none ((pair_of m.disk).doubts went.room.keeper) more (entry_bytes x) was))
                | inr tried ↦ (same_entry x tried.0 d.1.0 tried.3 tried.4 ∙ same_next more tried.0 r.next tried.1 r.rest (sym tried.2 ∙ r.is), refl)
              ]),
        ),
      )

-- ---- by the input

module _ {D S O C L : Type 0} (m : Meanings D S O C L) (before after : Outside D S O C L) (status : ℕ) (went : HasGoneOn m.disk before.log after.log before.side after.side status) (caller : Bytes)
    (told : Bool) (at : ℕ) (more : List Entry) where
  abbrev begun_at : Book
  begun_at = record { store = went.opened.store; told = told; list = went.opened.history }

  -- the room that has gone through it stands for the list that is left
  imports_stand : (rows : Option (List Row)) (answer : Imported) → Imports (pair_of m.disk) went.room went.after begun_at caller at rows more answer → Stands (pair_of m.disk) went.after (onto more begun_at)
  imports_stand None answer a = a.stands
  imports_stand (Some rows) answer a = a.stands

module _ {D S O C L : Type 0} (m : Meanings D S O C L) (before after : Outside D S O C L) (status : ℕ) (caller : Bytes) where
  abbrev Happened : Writer → World → List Event → Type 0
  Happened write w events = IsImport newsroom_formats m before after status caller write w events

  module _ (went : HasGoneOn m.disk before.log after.log before.side after.side status) (told : Bool) (tells : told ≡ true → m.disk.tells before.log × m.disk.tells before.side) where
    abbrev Run : Type 0
    Run = whole.IsImport (pair_of m.disk) m.clock m.source m.sink caller went.room went.after before.clock after.clock before.input after.input before.output after.output status

    -- the whole table was read
    table_is : (bytes : List ℕ) → (part : IsReadThrough m.source LONGEST_TABLE before.input after.input bytes (Ok tt)) → bytes ≡ all_read m before after status LONGEST_TABLE bytes part
    table_is bytes part =
        let few : length (all_read m before after status LONGEST_TABLE bytes part) ≤ LONGEST_TABLE = part.2 in
        part.3 ∙ take_all ENOUGH (all_read m before after status LONGEST_TABLE bytes part) (omega (arith, few))

    pub import_went : Run → Went m before after status went AnyWriter Happened told
    import_went (inl did) =
        let first = first_stands m before after status went told tells in
        let here : Book = record { store = went.opened.store; told = told; list = went.opened.history } in
        let rows : Option (List Row) = behind_head (rows_of did.table) in
        let all : List ℕ = all_read m before after status LONGEST_TABLE did.table did.part in
        record {
          now = followed_by did.more went.opened.history;
          stands = imports_stand m before after status went caller told did.now did.more rows did.imported (did.imports here first);
          happened = λ write any w same.
              let x = imports_are m before after status went caller told tells write w same did.now did.more rows did.imported (did.imports here first) did.told in (
                x.0,
                inl (record {
                  table = all;
                  read = read_whole m before after status LONGEST_TABLE did.table did.part;
                  at = did.now;
                  reads = record { told = λ it. (did.read it).0; gave = λ it. (did.read it).1 };
                  imports = subst (λ (bytes : List ℕ). table.Imports newsroom_formats m before after status caller write w did.now x.0 (rows_wanted (behind_head (rows_of bytes)))) (table_is did.table did.part) x.1.0;
                }),
                x.1.1,
              );
        }
    import_went (inr not) = record {
      now = went.opened.history;
      stands = still_stands m before after status went told tells not.same;
      happened = λ write any w same. (
        [],
        inr (not_read m before after status LONGEST_TABLE [] refl (still_files m before after status went told tells not.same) not.same_clock not.why not.part not.stopped),
        nothing_leads m before after status went told tells not.same write w same,
      );
    }

  -- the import of a table, where the files serve
  pub import_is : after.links ≡ before.links
      → IsImportOf m.disk m.clock m.source m.sink before.log after.log before.side after.side before.input after.input before.output after.output before.clock after.clock status caller
      → table.Imported newsroom_formats m before after status caller
  import_is links (inl not) = inl (not_opened m before after status not.why not.input_same not.clock_same links)
  import_is links (inr did) = inr (goes_on m before after status did.went Happened (λ told tells. import_went did.went told tells did.imported), did.complete)
