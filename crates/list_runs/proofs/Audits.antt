-- The lines of the entries, one after another.
use Rattle.std.proofs.Common.{◌≡◌, ℕ, ◌<◌, ◌≤◌, ◌+◌, Bool, true, false, cond, List, [], ◌∷◌, ◌++◌, length, take, map, get_or, Option, Some, None, inl, inr, refl, sym, ap, subst, ◌∙◌, append_assoc, arith}
use Rattle.std.specs.Prelude.{nat_le, Result, Ok, Err}
use Rattle.std.proofs.lemmas.Bool.Decides.{nat_tests}
use Rattle.news_types.specs.declared.entry.Entry.{Entry}
use Rattle.news_types.specs.declared.entry.Reply.{Reply}
use Rattle.news_types.specs.Names.{Bytes}
use Rattle.news_types.specs.History.{History}
use Rattle.news_types.specs.Publications.{Issue, issued_by, made}
use Rattle.news_types.specs.Outcome.{item_of, reply_to, with_issue}
use Rattle.news_io.specs.Sink.{SinkMeaning}
use Rattle.news_io.specs.declared.record.Record.{Record}
use Rattle.newsroom.specs.Stands.{StandsFor}
use Rattle.newsroom.specs.declared.newsroom.Newsroom.{Newsroom}
use Rattle.news_room.specs.Opening.{bytes_of, HasKept, HasRead}
use Rattle.news_room.proofs.Openings.{read_on, read_all}
use Rattle.run_status.specs.declared.status.Status.{Status}
use Rattle.room_reports.specs.Written.{AreLines, IsCut, IsPart}
use Rattle.told_entries.specs.Entries.{entry_line, line_behind, audit}
use Rattle.list_runs.specs.Lists.{AreOf}
use Rattle.list_runs.specs.Output.{IsTaken, Gives, GivesOnce}
use Rattle.list_runs.specs.Audits.{next_line, IsNext, HasToldOne, TellsOne}
use Rattle.list_runs.proofs.Fronts.{same_history, went_before}
use Rattle.list_runs.proofs.Outputs.{taken_none, taken_then, cut_then, part_of, empty_right}

-- ---- they are lines

lines_then : (one : Bytes) (b : Bool) (before : Bytes) → AreLines one → AreLines (one ++ cond b (before ++ 10 ∷ []) [])
lines_then one true before lines = inr (one ++ before, sym (append_assoc one before (10 ∷ [])))
lines_then one false before lines = subst AreLines (sym (empty_right one)) lines

pub are_lines : (after : ℕ) (h : History) → AreLines (audit after h)
are_lines after [] = inl refl
are_lines after (e ∷ h) = lines_then (audit after h) (nat_le after (length h)) (entry_line (length h + 1) e (reply_to h e.moment e.act)) (are_lines after h)

-- ---- those of the entries that followed come behind

pub audit_later : (after : ℕ) (later : List Entry) (h : History) → (rest : Bytes) × (audit after (later ++ h) ≡ audit after h ++ rest)
audit_later after [] h = ([], sym (empty_right (audit after h)))
audit_later after (e ∷ later) h =
    let rest = audit_later after later h in (
      rest.0 ++ next_line after (later ++ h) e,
      ap (λ (l : Bytes). l ++ next_line after (later ++ h) e) rest.1 ∙ append_assoc (audit after h) rest.0 (next_line after (later ++ h) e),
    )

-- ---- one more record

-- the reply to what comes next has its place
entry_of_reply : (o : Option Issue) (h : History) (i : ℕ) → (with_issue o h i).entry ≡ length h + 1
entry_of_reply None h i = refl
entry_of_reply (Some issue) h i = refl

reply_place : (h : History) (e : Entry) (reply : Reply) → reply ≡ reply_to h e.moment e.act → reply.entry ≡ length h + 1
reply_place h e reply is = ap (λ (r : Reply). r.entry) is ∙ entry_of_reply (issued_by h (made h) e.moment e.act) h (item_of h e.moment e.act)

module _ {O : Type 0} (sink : SinkMeaning O) (after : ℕ) (n : Newsroom) (h : History) (r : Record) (old new : O) (e : Entry) (reply : Reply)
    (next : IsNext h r e) (kept : HasKept n h e reply) where
  -- it is one of the first so many
  pub passed_over : reply.entry ≤ after → new ≡ old → TellsOne sink after n h r old new (Ok tt)
  passed_over le same =
      let place = reply_place h e reply kept.reply_is in
      let past : nat_le after (length h) ≡ false = grind (arith, nat_tests, le, place) in
      let none : next_line after h e ≡ [] = ap (λ (b : Bool). cond b (line_behind h e) []) past in
      record {
        entry = e;
        next = next;
        stands = kept.stands;
        taken = subst (λ (l : Bytes). IsTaken sink l old new) (sym none) (subst (λ (o : O). IsTaken sink [] old o) (sym same) (taken_none sink old));
      }

  line_is : after < reply.entry → next_line after h e ≡ entry_line reply.entry e reply ++ 10 ∷ []
  line_is lt =
      let place = reply_place h e reply kept.reply_is in
      let later : nat_le after (length h) ≡ true = grind (arith, nat_tests, lt, place) in
      ap (λ (b : Bool). cond b (line_behind h e) []) later
      ∙ ap (λ (k : ℕ). entry_line k e (reply_to h e.moment e.act) ++ 10 ∷ []) (sym place)
      ∙ ap (λ (x : Reply). entry_line reply.entry e x ++ 10 ∷ []) (sym kept.reply_is)

  -- its line was given to the output
  pub given : (result : Result (Unit {0}) Status) → after < reply.entry → GivesOnce sink (entry_line reply.entry e reply ++ 10 ∷ []) old new result → TellsOne sink after n h r old new result
  given (Ok u) lt taken = record { entry = e; next = next; stands = kept.stands; taken = subst (λ (l : Bytes). IsTaken sink l old new) (sym (line_is lt)) taken }
  given (Err Status.Output) lt cut = record { entry = e; next = next; stands = kept.stands; cut = subst (λ (l : Bytes). IsCut sink l old new) (sym (line_is lt)) cut }
  given (Err Status.Memory) lt same = same
  given (Err _) lt none = absurd none

-- ---- the records so far

module _ {O : Type 0} (sink : SinkMeaning O) (after : ℕ) (records : List Record) (i : ℕ) (r : Record) (lt : i < length records) (is : r ≡ get_or records i r)
    (n n' : Newsroom) (g : History) (old mid new : O) (read : HasRead n (map bytes_of (take i records)) g) (taken : IsTaken sink (audit after g) old mid) where
  more : (e : Entry) → IsNext g r e → StandsFor n' (e ∷ g) → HasRead n' (map bytes_of (take (i + 1) records)) (e ∷ g)
  more e next stands = read_on records i r lt is n n' g (reply_to g e.moment e.act) read (record { entry = e; is = next.is; kept = next.kept; stands = stands; reply_is = refl })

  -- the record's line was taken too
  pub told_more : HasToldOne sink after n' g r mid new → (l : History) × HasRead n' (map bytes_of (take (i + 1) records)) l × IsTaken sink (audit after l) old new
  told_more told =
      let read' = more told.entry told.next told.stands in
      (told.entry ∷ g, read', taken_then sink old mid new (audit after g) (next_line after g told.entry) taken told.taken)

  -- or the lines end there
  pub told_until : (h : History) (why : Status) → AreOf records h → TellsOne sink after n' g r mid new (Err why) → Gives sink (audit after h) old new (Err why)
  told_until h Status.Output are cut =
      let read' = more cut.entry cut.next cut.stands in
      let went = went_before records (i + 1) (cut.entry ∷ g) h are read'.opens in
      let rest = audit_later after went.0 (cut.entry ∷ g) in
      subst (λ (l : Bytes). IsCut sink l old new) (sym (ap (audit after) went.1 ∙ rest.1))
      (cut_then sink old mid new (audit after g) (next_line after g cut.entry) rest.0 taken cut.cut)
  told_until h Status.Memory are same =
      let went = went_before records i g h are read.opens in
      let rest = audit_later after went.0 g in
      subst (λ (o : O). IsPart sink (audit after h) old o) (sym same)
      (subst (λ (l : Bytes). IsPart sink l old mid) (sym (ap (audit after) went.1 ∙ rest.1)) (part_of sink old mid (audit after g) rest.0 taken (are_lines after g)))
  told_until h _ are none = absurd none

-- all of them
pub told_all : {O : Type 0} (sink : SinkMeaning O) (after : ℕ) (records : List Record) (i : ℕ) (n : Newsroom) (g h : History) (old new : O) → length records ≤ i → HasRead n (map bytes_of (take i records)) g
    → IsTaken sink (audit after g) old new → AreOf records h → IsTaken sink (audit after h) old new
told_all sink after records i n g h old new past read taken are =
    let whole = read_all records i n g past read in
    subst (λ (l : History). IsTaken sink (audit after l) old new) (same_history (map bytes_of records) g h whole.opens are) taken

-- nothing of it, for want of memory at once
pub told_nothing : {O : Type 0} (sink : SinkMeaning O) (bytes : Bytes) (o : O) → Gives sink bytes o o (Err Status.Memory)
told_nothing sink bytes o = part_of sink o o [] bytes (taken_none sink o) (inl refl)
