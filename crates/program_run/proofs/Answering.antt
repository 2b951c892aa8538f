-- Members that were answered by a machine have been answered in a world.
use Rattle.std.proofs.Common.{◌≡◌, ◌⊎◌, inl, inr, ℕ, ◌+◌, ◌<◌, ◌≤◌, List, [], ◌∷◌, ◌++◌, length, take, Option, Some, refl, sym, ap, ◌∙◌, subst, arith, append-nil, length-append}
use Rattle.std.specs.Prelude.{Result, Ok, Err}
use Rattle.news_types.specs.declared.entry.Entry.{Entry}
use Rattle.news_types.specs.History.{History}
use Rattle.news_types.specs.Frames.{Writer}
use Rattle.news_types.specs.Calls.{Fate, IsKept, doubt_after}
use Rattle.news_types.specs.Server.{Server}
use Rattle.news_io.specs.Outside.{Meanings, Outside, store_faults}
use Rattle.news_io.specs.Sink.{AreFirst, SinkMeaning}
use Rattle.line_run.specs.Life.{Meaning, Life, Took}
use Rattle.line_run.specs.Run.{IsEnd, Ends}
use Rattle.line_run.specs.Status as lower
use Rattle.line_run.specs.Status.{IsRun}
use Rattle.line_run.specs.Turns as line
use Rattle.line_run.specs.Turns.{after, ByLog, NextIs, AnsweredAll, AnsweredSome}
use Rattle.line_run.specs.declared.ending.Ending.{Ending}
use Rattle.line_run.specs.declared.ending.Ending.TheVariants as end
use Rattle.run_status.specs.Output.{Wrote, AllPassed, Told}
use Rattle.run_status.specs.Status.{number_of, line_of}
use Rattle.run_status.specs.declared.status.Status.{Status}
use Rattle.world_laws.specs.World.{World, Event, run}
use Rattle.program_events.specs.Leads.{IsOneOf, Lead}
use Rattle.program_run.specs.Opens.{size_of}
use Rattle.program_run.specs.Members.{Input, Turn, asked, turn_events, turn_readings, texts, limit_of, Adds, ByStore, EndsAt, NotAnswered, Reads, Answered, MembersOf, Causes, status_of, InputAnswered, LONGEST_INPUT, ReadTo}
use Rattle.program_run.proofs.Means.{Means, next_kept, is_past}
use Rattle.program_run.proofs.Turns.{run_on, turns_of, asked_of, behind, list_of, turns_list, turns_move, turns_text, turns_took, turns_fit}
use Rattle.program_run.proofs.Begun.{begun_fared, lost_next}
use Rattle.program_run.proofs.Leading.{one_leads, turns_lead}

-- events that lead to the list, behind which whatever has D is in doubt
pub record Comes (write : Writer) (w : World) (g : History) (D : Entry → Type 0) (Did : List Event → Type 0) : Type 0 where
  pub events : List Event
  pub did : Did events
  pub lead : Lead write w events g
  pub doubt : (e : Entry) → D e → IsOneOf (run write events w).server.doubt e

none_before : (first : List Entry) (h : History) → length (first ++ h) ≤ length h → first ≡ []
none_before [] h le = refl
none_before (x ∷ first) h le = absurd (omega (arith, le, length-append first h))

by_log : (why : Ending) → ByStore why → ByLog why
by_log end.Store by = tt
by_log end.Full by = tt
by_log end.Read by = absurd by
by_log end.Write by = absurd by
by_log end.Memory by = absurd by
by_log end.TooLong by = absurd by

module _ {D S O C L X F A : Type 0} (M : Meaning Entry X) (input : Input X) (means : Means M input) (m : Meanings D S O C L) (before after_it : Outside D S O C L) (write : Writer) (life : Life Entry F A)
    (old new : A) (reads : (rs : List ℕ) → Took life old new rs → Reads m.clock before.clock after_it.clock rs) (mid : O) (w : World) (h : History) (is : w.server.list ≡ h)
    (was : (e : Entry) → life.doubts old e → IsOneOf w.server.doubt e) where
  -- what was in doubt before the members is so behind them, where no entry was kept
  module _ (ts : List (line.Turn X)) (part : List Entry) (none : part ++ after M h ts ≡ h) where
    abbrev v : World
    v = behind M input means write w ts

    list_is : v.server.list ≡ after M h ts
    list_is = turns_list M input means write w ts ∙ ap (λ (g : History). after M g ts) is

    sizes_are : length part + length v.server.list ≡ length w.server.list
    sizes_are = ap (λ (g : History). length part + length g) list_is ∙ sym (length-append part (after M h ts)) ∙ ap length none ∙ ap length (sym is)

    by_move : (v.server ≡ w.server) ⊎ ((length w.server.list < length v.server.list) × (v.server.doubt ≡ [])) → (e : Entry) → life.doubts old e → (part ≡ []) × IsOneOf v.server.doubt e
    by_move (inl same) e d =
        let size : length v.server.list ≡ length w.server.list = ap (λ (c : Server). length c.list) same in
        (none_before part w.server.list (omega (arith, length-append part w.server.list, sizes_are, size)), subst (λ (c : Server). IsOneOf c.doubt e) (sym same) (was e d))
    by_move (inr more) e d = absurd (omega (arith, more.0, sizes_are))

    still_doubted : (e : Entry) → life.doubts old e → (part ≡ []) × IsOneOf v.server.doubt e
    still_doubted = by_move (turns_move M input means write w ts)

  text_is : (ts : List (line.Turn X)) → line.texts M h ts ≡ texts input write w (turns_of ts)
  text_is ts = ap (λ (g : History). line.texts M g ts) (sym is) ∙ turns_text M input means write w ts

  fit_is : (ts : List (line.Turn X)) → line.AllFit M h ts → line.AllFit M w.server.list ts
  fit_is ts fit = subst (λ (g : History). line.AllFit M g ts) (sym is) fit

  at_list : (ts : List (line.Turn X)) → (behind M input means write w ts).server.list ≡ after M h ts
  at_list ts = turns_list M input means write w ts ∙ ap (λ (g : History). after M g ts) is

  -- ---- all of them

  -- what was taken has passed on
  all_pass : (ts : List (line.Turn X)) → Wrote m.sink before.output mid (line.texts M h ts) → (m.sink.tells before.output → AllPassed m.sink before.output → AllPassed m.sink mid)
      → m.sink.tells before.output → AllPassed m.sink before.output → AreFirst (m.sink.taken before.output ++ texts input write w (turns_of ts)) (m.sink.passed mid)
  all_pass ts wrote passed tells all =
      ([], passed tells all ∙ wrote.bytes tells ∙ ap (λ (l : List ℕ). m.sink.taken before.output ++ l) (text_is ts) ∙ sym (append-nil (m.sink.taken before.output ++ texts input write w (turns_of ts))))

  all_answered : (said : List X) (ended : Result (Unit {0}) Ending) → ((v : World) → NotAnswered input write v ended [] [] [] []) → (a : AnsweredAll M life m.sink old new before.output mid h said)
      → Comes write w (after M h a.turns) (life.doubts new) (Answered input m before after_it write w mid said ended)
  all_answered said ended none a =
      let ts = turns_of a.turns in
      record {
        events = turn_events input ts;
        did = record {
          turns = ts;
          later = [];
          members_are = a.asked_is ∙ asked_of a.turns ∙ sym (append-nil (asked ts));
          fit = turns_fit M input means write w a.turns (fit_is a.turns a.fit);
          begun = [];
          took = [];
          half = [];
          next = none (run write (turn_events input ts) w);
          events_are = sym (append-nil (turn_events input ts));
          wrote = subst (Wrote m.sink before.output mid) (text_is a.turns ∙ sym (append-nil (texts input write w ts))) a.wrote;
          passed = all_pass a.turns a.wrote a.passed;
          reads = subst (Reads m.clock before.clock after_it.clock) (turns_took M input means h a.turns ∙ sym (append-nil (turn_readings input ts))) (reads _ a.clock);
        };
        lead = turns_lead M input means write w h is a.turns;
        doubt = λ e d. let c = a.calm e d in (still_doubted a.turns [] c.0 e c.1).1;
      }

  -- ---- the first of them

  -- the output stands behind the answers of the first
  module _ (said : List X) (why : Ending) (at_member : (v : World) (later : List X) (took half : List ℕ) (events : List Event) → EndsAt input write v why later took half events → NotAnswered input write v (Err why) later took half events)
      (turns : List (line.Turn X)) (fit : line.AllFit M h turns) (part : List Entry) (half took : List ℕ) (cut : 0 < length half → why ≡ end.Write)
      (wrote : Wrote m.sink before.output mid (line.texts M h turns ++ half)) (passed : m.sink.tells before.output → AllPassed m.sink before.output → AreFirst (m.sink.taken before.output ++ line.texts M h turns) (m.sink.passed mid))
      (read : Reads m.clock before.clock after_it.clock (turn_readings input (turns_of turns) ++ took)) where
    abbrev ts : List (Turn X)
    ts = turns_of turns

    abbrev u : World
    u = behind M input means write w turns

    abbrev g : History
    g = after M h turns

    -- the member that was begun, and its events
    answered : (later : List X) (events : List Event) → said ≡ line.asked turns ++ later → EndsAt input write u why later took half events → Answered input m before after_it write w mid said (Err why) (turn_events input ts ++ events)
    answered later events said_is next = record {
      turns = ts;
      later = later;
      members_are = said_is ∙ ap (λ (l : List X). l ++ later) (asked_of turns);
      fit = turns_fit M input means write w turns (fit_is turns fit);
      begun = events;
      took = took;
      half = half;
      next = at_member u later took half events next;
      events_are = refl;
      wrote = subst (λ (l : List ℕ). Wrote m.sink before.output mid (l ++ half)) (text_is turns) wrote;
      passed = λ tells all. subst (λ (l : List ℕ). AreFirst (m.sink.taken before.output ++ l) (m.sink.passed mid)) (text_is turns) (passed tells all);
      reads = read;
    }

    next_answered : (later : List X) → said ≡ line.asked turns ++ later → NextIs M g later why part half took (λ e. (part ++ g ≡ h) × life.doubts old e) (life.doubts new)
        → Comes write w (part ++ g) (life.doubts new) (Answered input m before after_it write w mid said (Err why))
    next_answered [] said_is next =
        let list : part ++ g ≡ g = ap (λ (l : List Entry). l ++ g) next.entries in
        let events_are : turn_events input ts ++ [] ≡ turn_events input ts = append-nil (turn_events input ts) in
        record {
          events = turn_events input ts ++ [];
          did = answered [] [] said_is (next.clock, next.bytes, refl, λ by. next.other (by_log why by));
          lead = subst (λ (l : List Event). Lead write w l (part ++ g)) (sym events_are) (subst (Lead write w (turn_events input ts)) (sym list) (turns_lead M input means write w h is turns));
          doubt = λ e d.
              let c = next.calm e d in
              subst (λ (l : List Event). IsOneOf (run write l w).server.doubt e) (sym events_are) (still_doubted turns part c.0 e c.1).1;
        }
    next_answered (x ∷ later) said_is next =
        let at : ℕ = next.0 in
        let from : Option Entry = means.next g x at in
        let D : Entry → Type 0 = λ e. (part ++ g ≡ h) × life.doubts old e in
        let f = begun_fared (M g x at) why part half took D (life.doubts new) next.1 from (means.adds g x at) in
        let more : List Event = input.events x at f.fate in
        let here : u.server.list ≡ g = at_list turns in
        let follows : (e : Entry) → from ≡ Some e → Adds write u (λ fate. input.events x at fate) e = λ e some.
        list_of M input means write u x at IsKept ∙ next_kept u.server.list (means.next u.server.list x at) e (ap (λ (k : History). means.next k x at) here ∙ some) in
        let doubt_is : (run write (turn_events input ts ++ more) w).server.doubt ≡ doubt_after u.server.doubt from f.fate =
        ap (λ (v : World). v.server.doubt) (run_on write (turn_events input ts) more w)
        ∙ ap (λ (c : Server). c.doubt) (means.server write u x at f.fate)
        ∙ ap (λ (k : History). doubt_after u.server.doubt (means.next k x at) f.fate) here in
        record {
          events = turn_events input ts ++ more;
          did = answered (x ∷ later) more said_is (record {
            at = at;
            fate = f.fate;
            may = f.may;
            events_are = refl;
            took_is = elim next.1.clock [ inl none ↦ inl none | inr one ↦ inr (one ∙ means.took g x at) ];
            lost = λ by.
                let n = lost_next (M g x at) why part half took D (life.doubts new) next.1 from (means.adds g x at) (by_log why by) in
                (n.0, follows n.0 n.1, λ full. subst (λ (k : History). limit_of n.0.act < size_of (n.0 ∷ k)) (sym here) (is_past from g n.0 n.1 (sym (means.passes g x at) ∙ next.1.full full)));
            half_of = λ some.
                let kept : f.fate ≡ IsKept = f.sure (next.1.order some ∙ means.adds g x at) in
                let text : (M g x at).text ≡ input.text (run write more u) x =
                ap (λ (k : History). (M k x at).text) (sym here) ∙ means.text write u x at ∙ ap (λ (fate : Fate). input.text (run write (input.events x at fate) u) x) (sym kept) in
                (cut some, kept, (next.1.bytes.0, ap (λ (l : List ℕ). l ++ 10 ∷ []) (sym text) ∙ next.1.bytes.1));
          });
          lead = subst (λ (es : List Entry). Lead write w (turn_events input ts ++ more) (es ++ g)) (sym f.part_is)
              (one_leads M input means write w (turn_events input ts) g x at f.fate f.kept (turns_lead M input means write w h is turns) f.list);
          doubt = λ e d. subst (λ (es : List Entry). IsOneOf es e) (sym doubt_is) (f.doubt u.server.doubt (λ y was_so. still_doubted turns part was_so.0 y was_so.1) e d);
        }

  some_answered : (said : List X) (why : Ending) → ((v : World) (later : List X) (took half : List ℕ) (events : List Event) → EndsAt input write v why later took half events → NotAnswered input write v (Err why) later took half events)
      → (a : AnsweredSome M life m.sink old new before.output mid h said why) → Comes write w (a.part ++ after M h a.turns) (life.doubts new) (Answered input m before after_it write w mid said (Err why))
  some_answered said why at_member a =
      next_answered said why at_member a.turns a.fit a.part a.said a.took a.half a.wrote a.passed
      (subst (λ (l : List ℕ). Reads m.clock before.clock after_it.clock (l ++ a.took)) (turns_took M input means h a.turns) (reads _ a.clock)) a.later a.asked_is a.next

-- ---- by what ended the run

module _ {X F A O : Type 0} (M : Meaning Entry X) (life : Life Entry F A) (sink : SinkMeaning O) (decided all : List ℕ → List X) (old new : A) (o mid : O) (h : History) (read more : List ℕ) where
  abbrev pub Ended : Result (Unit {0}) Ending → Type 0
  Ended r = IsEnd M life sink decided all LONGEST_INPUT old new o mid h read more r

  -- the list that it leaves
  abbrev pub list_behind : (r : Result (Unit {0}) Ending) → Ended r → History
  list_behind (Ok u) did = after M h did.2.turns
  list_behind (Err end.Read) did = after M h did.1.turns
  list_behind (Err end.TooLong) did = after M h did.1.turns
  list_behind (Err end.Write) did = did.part ++ after M h did.turns
  list_behind (Err end.Store) did = did.part ++ after M h did.turns
  list_behind (Err end.Full) did = did.part ++ after M h did.turns
  list_behind (Err end.Memory) did = did.part ++ after M h did.turns

  pub list_stands : (r : Result (Unit {0}) Ending) → (did : Ended r) → life.stands new (list_behind r did)
  list_stands (Ok u) did = did.2.kept.list
  list_stands (Err end.Read) did = did.1.kept.list
  list_stands (Err end.TooLong) did = did.1.kept.list
  list_stands (Err end.Write) did = did.kept.list
  list_stands (Err end.Store) did = did.kept.list
  list_stands (Err end.Full) did = did.kept.list
  list_stands (Err end.Memory) did = did.kept.list

  pub read_to : (r : Result (Unit {0}) Ending) → length read ≤ LONGEST_INPUT + 1 → Ended r → ReadTo LONGEST_INPUT read more r
  read_to (Ok u) few did = (did.0, did.1)
  read_to (Err end.Read) few did = did.0
  read_to (Err end.TooLong) few did = let long : LONGEST_INPUT < length read = did.0 in omega (arith, few, long)
  read_to (Err end.Write) few did = few
  read_to (Err end.Store) few did = few
  read_to (Err end.Full) few did = few
  read_to (Err end.Memory) few did = few

module _ {D S O C L X F A : Type 0} (M : Meaning Entry X) (input : Input X) (means : Means M input) (m : Meanings D S O C L) (before after_it : Outside D S O C L) (write : Writer) (life : Life Entry F A)
    (old new : A) (reads : (rs : List ℕ) → Took life old new rs → Reads m.clock before.clock after_it.clock rs) (mid : O) (w : World) (h : History) (is : w.server.list ≡ h)
    (was : (e : Entry) → life.doubts old e → IsOneOf w.server.doubt e) (read more : List ℕ) where
  abbrev Did : Result (Unit {0}) Ending → Type 0
  Did r = Ended M life m.sink input.decided input.all old new before.output mid h read more r

  abbrev Comes_to : (r : Result (Unit {0}) Ending) → Did r → Type 0
  Comes_to r did = Comes write w (list_behind M life m.sink input.decided input.all old new before.output mid h read more r did) (life.doubts new)
      (Answered input m before after_it write w mid (MembersOf input read more r) r)

  pub end_answered : (r : Result (Unit {0}) Ending) → (did : Did r) → Comes_to r did
  end_answered (Ok u) did = all_answered M input means m before after_it write life old new reads mid w h is was (input.all read) (Ok u) (λ v. (refl, refl, refl, refl)) did.2
  end_answered (Err end.Read) did = all_answered M input means m before after_it write life old new reads mid w h is was (input.decided read) (Err end.Read) (λ v. (refl, refl, refl, refl)) did.1
  end_answered (Err end.TooLong) did =
      all_answered M input means m before after_it write life old new reads mid w h is was (input.decided (take LONGEST_INPUT read)) (Err end.TooLong) (λ v. (refl, refl, refl, refl)) did.1
  end_answered (Err end.Write) did = some_answered M input means m before after_it write life old new reads mid w h is was (input.all (read ++ more)) end.Write (λ v later took half events ends. ends) did
  end_answered (Err end.Store) did = some_answered M input means m before after_it write life old new reads mid w h is was (input.all (read ++ more)) end.Store (λ v later took half events ends. ends) did
  end_answered (Err end.Full) did = some_answered M input means m before after_it write life old new reads mid w h is was (input.all (read ++ more)) end.Full (λ v later took half events ends. ends) did
  end_answered (Err end.Memory) did = some_answered M input means m before after_it write life old new reads mid w h is was (input.all (read ++ more)) end.Memory (λ v later took half events ends. ends) did

-- ---- a run

-- a failure is told only where the count rose
pub causes_of : (i i' k k' o o' : ℕ) (r : Result (Unit {0}) Ending) → Ends i i' k k' o o' r → Causes i i' k k' o o' r
causes_of i i' k k' o o' (Ok u) ends = (ends.0, ends.1.0, ends.1.1)
causes_of i i' k k' o o' (Err end.Read) ends = ends
causes_of i i' k k' o o' (Err end.Write) ends = (ends.0, ends.1.0, ends.1.1)
causes_of i i' k k' o o' (Err end.Store) ends = (ends.0, ends.1.0, ends.1.1)
causes_of i i' k k' o o' (Err end.Full) ends = (ends.0, ends.1.0, ends.1.1)
causes_of i i' k k' o o' (Err end.Memory) ends = (ends.0, ends.1.0, ends.1.1)
causes_of i i' k k' o o' (Err end.TooLong) ends = ends

pub status_same : (r : Result (Unit {0}) Ending) → lower.status_of r ≡ status_of r
status_same (Ok u) = refl
status_same (Err end.Read) = refl
status_same (Err end.Write) = refl
status_same (Err end.Store) = refl
status_same (Err end.Full) = refl
status_same (Err end.Memory) = refl
status_same (Err end.TooLong) = refl

-- a run of a machine whose failures are those of the store
module _ {D S O C L X F A : Type 0} (M : Meaning Entry X) (input : Input X) (means : Means M input) (m : Meanings D S O C L) (before after_it : Outside D S O C L) (life : Life Entry F A) (fails : A → ℕ)
    (first last : A) (h : History) (status : ℕ) (run_is : IsRun M life fails m.source m.sink input.decided input.all LONGEST_INPUT before.input after_it.input first last before.output after_it.output h status)
    (reads : (rs : List ℕ) → Took life first last rs → Reads m.clock before.clock after_it.clock rs) (none : (e : Entry) → life.doubts first e → ⊥)
    (fails_before : fails first ≡ store_faults m before) (fails_after : fails last ≡ store_faults m after_it) where
  abbrev pub list_of_run : History
  list_of_run = list_behind M life m.sink input.decided input.all first last before.output run_is.mid h run_is.ran.read run_is.ran.more run_is.result run_is.ran.did

  pub run_stands : life.stands last list_of_run
  run_stands = list_stands M life m.sink input.decided input.all first last before.output run_is.mid h run_is.ran.read run_is.ran.more run_is.result run_is.ran.did

  causes : Causes (m.source.faults before.input) (m.source.faults after_it.input) (store_faults m before) (store_faults m after_it) (m.sink.faults before.output) (m.sink.faults run_is.mid) run_is.result
  causes = subst (λ (k : ℕ). Causes (m.source.faults before.input) (m.source.faults after_it.input) k (store_faults m after_it) (m.sink.faults before.output) (m.sink.faults run_is.mid) run_is.result) fails_before
      (subst (λ (k : ℕ). Causes (m.source.faults before.input) (m.source.faults after_it.input) (fails first) k (m.sink.faults before.output) (m.sink.faults run_is.mid) run_is.result) fails_after
      (causes_of _ _ _ _ _ _ run_is.result run_is.ends))

  -- it has answered its input in each world that has its list
  pub run_answers : (write : Writer) (w : World) → w.server.list ≡ h → Comes write w list_of_run (life.doubts last) (InputAnswered input m before after_it write w status)
  run_answers write w is =
      let c = end_answered M input means m before after_it write life first last reads run_is.mid w h is (λ e d. absurd (none e d)) run_is.ran.read run_is.ran.more run_is.result run_is.ran.did in
      record {
        events = c.events;
        did = record {
          ended = run_is.result;
          status_is = run_is.status_is ∙ ap number_of (status_same run_is.result);
          read = run_is.ran.read;
          more = run_is.ran.more;
          was_read = record { told = run_is.ran.was_read.told; input = run_is.ran.was_read.input; rest = run_is.ran.was_read.rest };
          read_to = read_to M life m.sink input.decided input.all first last before.output run_is.mid h run_is.ran.read run_is.ran.more run_is.result run_is.ran.few run_is.ran.did;
          mid = run_is.mid;
          answered = c.did;
          causes = causes;
          line = subst (λ (s : Status). Told m.sink run_is.mid after_it.output (line_of s)) (status_same run_is.result) run_is.line;
          passed = run_is.passed;
          done = run_is.done;
        };
        lead = c.lead;
        doubt = c.doubt;
      }
