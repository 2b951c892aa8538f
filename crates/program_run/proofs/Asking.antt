-- Lines that were asked at a place of a list, by the run over them.
use Rattle.std.proofs.Common.{◌≡◌, ◌⊎◌, inl, inr, ℕ, ◌+◌, ◌<◌, List, [], ◌∷◌, ◌++◌, length, nat_lt, if◌then◌else◌, take, Some, None, refl, sym, ap, ◌∙◌, subst, arith, append_assoc, append-nil, length-append}
use Rattle.std.specs.Prelude.{Result, Ok, Err}
use Rattle.news_types.specs.declared.entry.Entry.{Entry}
use Rattle.news_types.specs.declared.query.Query.{Query}
use Rattle.news_types.specs.declared.query.Query.TheVariants as query
use Rattle.news_types.specs.Names.{Bytes}
use Rattle.news_types.specs.History.{History}
use Rattle.news_io.specs.Outside.{Meanings, Outside}
use Rattle.news_io.specs.Sink.{AreFirst}
use Rattle.news_pair.specs.Keeper.{pair_of}
use Rattle.input_lines.specs.Lines.{Line}
use Rattle.desk_lines.specs.declared.asked.Asked.{Asked}
use Rattle.desk_lines.specs.declared.asked.Asked.TheVariants as asked
use Rattle.desk_lines.specs.declared.property.LineProperty.{LineProperty}
use Rattle.desk_lines.specs.Lines.{line}
use Rattle.desk_questions.specs.Told.{desk_told}
use Rattle.line_run.specs.Life.{Life}
use Rattle.line_run.specs.Run.{IsEnd}
use Rattle.line_run.specs.Status.{IsRun}
use Rattle.line_run.specs.Turns as line
use Rattle.line_run.specs.Turns.{after, NextIs, AnsweredAll, AnsweredSome}
use Rattle.line_run.specs.declared.ending.Ending.{Ending}
use Rattle.line_run.specs.declared.ending.Ending.TheVariants as end
use Rattle.run_status.specs.Output.{Wrote, AllPassed, Told}
use Rattle.run_status.specs.Status.{number_of, line_of}
use Rattle.run_status.specs.declared.status.Status.{Status}
use Rattle.store_files.specs.declared.trouble.Trouble.TheVariants as trouble
use Rattle.list_runs.specs.Life.{past_life}
use Rattle.list_runs.specs.Lists as past
use Rattle.list_runs.specs.Past.{asked_bytes, read_bytes, line_bytes, of_past}
use Rattle.newsdesk_cli.specs.Lists as old
use Rattle.program_run.specs.Asked.{first_entries, answers, NotAnswered, IsHalf, LinesAnswered, HasFewer, HasAsked, Asked as IsAsked}
use Rattle.program_run.specs.Inputs.{newsroom_formats, line_input, asks_for, as_asked, read_as, question_text}
use Rattle.program_run.specs.Members.{MembersOf, LONGEST_INPUT}
use Rattle.program_run.proofs.Answering.{read_to, causes_of, status_same}
use Rattle.program_run.proofs.Lines.{desk_told_same}
use Rattle.program_run.proofs.Looked.{opened_as}
use Rattle.program_run.proofs.Refusing.{not_opened}
use Rattle.program_run.proofs.Telling.{is_stopped}

-- ---- one line

-- what a line is answered
abbrev pub answer : History → Line → Bytes
answer h l = question_text h (asks_for l)

query_text : (h : History) (q : Query) → asked_bytes h (asked.Query q) ≡ question_text h (as_asked (asked.Query q))
query_text h (query.Feed s after) = refl
query_text h (query.Frame s k) = refl
query_text h (query.Item i) = refl
query_text h (query.May user privilege) = refl
query_text h query.Queue = refl
query_text h query.Check = refl
query_text h (query.Publication n) = refl
query_text h (query.LastOf i below) = refl

asked_text : (h : History) (what : Asked) → asked_bytes h what ≡ question_text h (as_asked what)
asked_text h (asked.Request caller number command) = refl
asked_text h (asked.Query q) = query_text h q
asked_text h (asked.Receipt subscriber n) = refl
asked_text h (asked.Archive page query) = refl
asked_text h (asked.Desk question) = desk_told_same (desk_told h question)

read_text : (h : History) (said : Result Asked LineProperty) → read_bytes h said ≡ question_text h (read_as said)
read_text h (Ok what) = asked_text h what
read_text h (Err p) = refl

line_text : (h : History) (l : Line) → line_bytes h l ≡ answer h l
line_text h None = refl
line_text h (Some bytes) = read_text h (line bytes)

-- the list as it was
first_same : (n : ℕ) (h : History) → first_entries n h ≡ past.first_entries n h
first_same n [] = refl
first_same n (e ∷ h) = ap (λ (l : History). if nat_lt (length h) n then e ∷ h else l) (first_same n h)

-- ---- lines, one behind the other

module _ (h : History) where
  list_same : (ts : List (line.Turn Line)) → after of_past h ts ≡ h
  list_same [] = refl
  list_same (t ∷ ts) = list_same ts

  answers_append : (xs ys : List Line) → answers (answer h) (xs ++ ys) ≡ answers (answer h) xs ++ answers (answer h) ys
  answers_append [] ys = refl
  answers_append (x ∷ xs) ys = ap (λ (l : Bytes). answer h x ++ 10 ∷ l) (answers_append xs ys) ∙ sym (append_assoc (answer h x) (10 ∷ answers (answer h) xs) (answers (answer h) ys))

  texts_are : (ts : List (line.Turn Line)) → line.texts of_past h ts ≡ answers (answer h) (line.asked ts)
  texts_are [] = refl
  texts_are (t ∷ ts) =
      ap (λ (l : Bytes). l ++ ((of_past (after of_past h ts) t.line t.at).text ++ 10 ∷ [])) (texts_are ts)
      ∙ ap (λ (g : History). answers (answer h) (line.asked ts) ++ ((of_past g t.line t.at).text ++ 10 ∷ [])) (list_same ts)
      ∙ ap (λ (l : Bytes). answers (answer h) (line.asked ts) ++ (l ++ 10 ∷ [])) (line_text h t.line)
      ∙ sym (answers_append (line.asked ts) (t.line ∷ []))

  nothing_next : (adds : List Entry) (later : List Entry) (e : Entry) (part : List Entry) → adds ≡ [] → adds ≡ later ++ e ∷ part → ⊥
  nothing_next adds later e part none is = let long : length (later ++ e ∷ part) ≡ 0 = ap length (sym is ∙ none) in omega (arith, long, length-append later (e ∷ part))

  module _ (why : Ending) (part : List Entry) (said took : List ℕ) (D D' : Entry → Type 0) (cut : 0 < length said → why ≡ end.Write) (g : History) (same : g ≡ h) where
    half_of : (later : List Line) → NextIs of_past g later why part said took D D' → IsHalf (answer h) why later said
    half_of [] next = next.bytes
    half_of (x ∷ later) next =
        let text : (of_past g x next.0).text ≡ answer h x = ap (λ (k : History). (of_past k x next.0).text) same ∙ line_text h x in
        ((next.1.bytes.0, ap (λ (l : Bytes). l ++ 10 ∷ []) (sym text) ∙ next.1.bytes.1), cut)

    never_by_files : line.ByLog why → (later : List Line) → NextIs of_past g later why part said took D D' → ⊥
    never_by_files by [] next = next.other by
    never_by_files by (x ∷ later) next = let e = next.1.unkept by in nothing_next (of_past g x next.0).adds e.1.0 e.0 part refl e.1.1

-- ---- a run

module _ {D S O C L F A : Type 0} (m : Meanings D S O C L) (before after_it : Outside D S O C L) (number : ℕ) (life : Life Entry F A) (old new : A) (h : History)
    (run : IsRun of_past life (λ d. 0) m.source m.sink line_input.decided line_input.all LONGEST_INPUT before.input after_it.input old new before.output after_it.output h number) where
  abbrev read : List ℕ
  read = run.ran.read

  abbrev more : List ℕ
  more = run.ran.more

  -- the first of these lines were answered
  pub record Shown (members : List Line) (r : Result (Unit {0}) Ending) : Type 0 where
    pub first : List Line
    pub later : List Line
    pub lines_are : members ≡ first ++ later
    pub half : Bytes
    pub next : NotAnswered (answer h) r later half
    pub wrote : Wrote m.sink before.output run.mid (answers (answer h) first ++ half)
    pub passed : m.sink.tells before.output → AllPassed m.sink before.output → AreFirst (m.sink.taken before.output ++ answers (answer h) first) (m.sink.passed run.mid)

  all_shown : (members : List Line) (r : Result (Unit {0}) Ending) → NotAnswered (answer h) r [] [] → AnsweredAll of_past life m.sink old new before.output run.mid h members → Shown members r
  all_shown members r next a =
      let text = texts_are h a.turns in
      record {
        first = line.asked a.turns;
        later = [];
        lines_are = a.asked_is ∙ sym (append-nil (line.asked a.turns));
        half = [];
        next = next;
        wrote = subst (Wrote m.sink before.output run.mid) (text ∙ sym (append-nil (answers (answer h) (line.asked a.turns)))) a.wrote;
        passed = λ tells all.
            ([], a.passed tells all ∙ a.wrote.bytes tells ∙ ap (λ (l : Bytes). m.sink.taken before.output ++ l) text ∙ sym (append-nil (m.sink.taken before.output ++ answers (answer h) (line.asked a.turns))));
      }

  some_shown : (members : List Line) (why : Ending) → ((later : List Line) (half : Bytes) → IsHalf (answer h) why later half → (line.ByLog why → ⊥) → NotAnswered (answer h) (Err why) later half)
      → AnsweredSome of_past life m.sink old new before.output run.mid h members why → Shown members (Err why)
  some_shown members why ends a =
      let text = texts_are h a.turns in
      let same = list_same h a.turns in
      record {
        first = line.asked a.turns;
        later = a.later;
        lines_are = a.asked_is;
        half = a.said;
        next = ends a.later a.said (half_of h why a.part a.said a.took _ _ a.half (after of_past h a.turns) same a.later a.next) (λ by. never_by_files h why a.part a.said a.took _ _ a.half (after of_past h a.turns) same by a.later a.next);
        wrote = subst (λ (l : Bytes). Wrote m.sink before.output run.mid (l ++ a.said)) text a.wrote;
        passed = λ tells all. subst (λ (l : Bytes). AreFirst (m.sink.taken before.output ++ l) (m.sink.passed run.mid)) text (a.passed tells all);
      }

  shown : (r : Result (Unit {0}) Ending) → IsEnd of_past life m.sink line_input.decided line_input.all LONGEST_INPUT old new before.output run.mid h read more r → Shown (MembersOf line_input read more r) r
  shown (Ok u) did = all_shown (line_input.all read) (Ok u) (refl, refl) did.2
  shown (Err end.Read) did = all_shown (line_input.decided read) (Err end.Read) (refl, refl) did.1
  shown (Err end.TooLong) did = all_shown (line_input.decided (take LONGEST_INPUT read)) (Err end.TooLong) (refl, refl) did.1
  shown (Err end.Write) did = some_shown (line_input.all (read ++ more)) end.Write (λ later half is none. is) did
  shown (Err end.Memory) did = some_shown (line_input.all (read ++ more)) end.Memory (λ later half is none. is) did
  shown (Err end.Store) did = some_shown (line_input.all (read ++ more)) end.Store (λ later half is none. none tt) did
  shown (Err end.Full) did = some_shown (line_input.all (read ++ more)) end.Full (λ later half is none. none tt) did

  pub lines_answered : LinesAnswered line_input (answer h) m before after_it number
  lines_answered =
      let s = shown run.result run.ran.did in
      record {
        ended = run.result;
        number_is = run.status_is ∙ ap number_of (status_same run.result);
        read = read;
        more = more;
        was_read = record { told = run.ran.was_read.told; input = run.ran.was_read.input; rest = run.ran.was_read.rest };
        read_to = read_to of_past life m.sink line_input.decided line_input.all old new before.output run.mid h read more run.result run.ran.few run.ran.did;
        first = s.first;
        later = s.later;
        lines_are = s.lines_are;
        half = s.half;
        next = s.next;
        mid = run.mid;
        wrote = s.wrote;
        passed = s.passed;
        causes = causes_of _ _ _ _ _ _ run.result run.ends;
        line = subst (λ (s : Status). Told m.sink run.mid after_it.output (line_of s)) (status_same run.result) run.line;
        all_passed = run.passed;
        done = run.done;
      }

-- ---- by what the words ask

module _ {D S O C L : Type 0} (m : Meanings D S O C L) (before after : Outside D S O C L) (number entries : ℕ) (clock : after.clock ≡ before.clock) (links : after.links ≡ before.links) where
  abbrev Ran : {F A : Type 0} → Life Entry F A → A → A → History → Type 0
  Ran life was now h = IsRun of_past life (λ d. 0) m.source m.sink line_input.decided line_input.all LONGEST_INPUT before.input after.input was now before.output after.output h number

  at_first : {F A : Type 0} (life : Life Entry F A) (was now : A) (n : ℕ) (h : History) → Ran life was now (past.first_entries n h) → Ran life was now (first_entries n h)
  at_first life was now n h ran = subst (Ran life was now) (sym (first_same n h)) ran

  asks_at : (list : History) → old.AsksAt (pair_of m.disk) m.source m.sink entries before.input after.input before.output after.output number list
      → HasFewer newsroom_formats m before after number entries list ⊎ HasAsked newsroom_formats m before after number entries list
  asks_at list (inl fewer) = inl (record { fewer = fewer.fewer; input = fewer.input_same; stopped = is_stopped m.sink [] before.output after.output number trouble.WrongStore fewer.stopped })
  asks_at list (inr asked) = inr (record {
    enough = asked.enough;
    answered = elim asked.answered [
      | inl did ↦ inl (lines_answered m before after number (past_life (pair_of m.disk)) did.old did.new (first_entries entries list) (at_first (past_life (pair_of m.disk)) did.old did.new entries list did.run))
      | inr none ↦ inr (record { input = none.input_same; stopped = none.stopped })
    ];
    all = λ given few input output store. asked.complete given few input output;
  })

  pub is_asked : old.IsAsk m.disk m.source m.sink entries before.log after.log before.side after.side before.input after.input before.output after.output number → IsAsked newsroom_formats m before after number entries
  is_asked (inl not) = inl (not_opened m before after number not.why not.input_same clock links)
  is_asked (inr did) = inr (
    clock,
    links,
    record {
      store = did.opened.store;
      list = did.opened.history;
      opened = opened_as m before did.room did.opened after.log after.side did.same did.same_side;
      told = asks_at did.opened.history did.told;
    },
  )
