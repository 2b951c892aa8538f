-- Members that were answered have happened in a world.
use Rattle.std.proofs.Common.{◌≡◌, ◌⊎◌, inl, inr, ℕ, ◌+◌, ◌<◌, List, [], ◌∷◌, ◌++◌, length, take, Option, refl, sym, ap, ◌∙◌, subst, arith, append-nil, length-append}
use Rattle.std.specs.Prelude.{Result, Ok, Err}
use Rattle.news_types.specs.declared.entry.Entry.{Entry}
use Rattle.news_types.specs.History.{History}
use Rattle.news_types.specs.Frames.{Writer}
use Rattle.news_types.specs.Calls.{doubt_after}
use Rattle.news_types.specs.Server.{Server}
use Rattle.news_io.specs.Clock.{ClockMeaning}
use Rattle.news_io.specs.Sink.{SinkMeaning}
use Rattle.news_io.specs.Source.{SourceMeaning}
use Rattle.line_run.specs.Life.{Meaning, Life, Took}
use Rattle.line_run.specs.Run.{IsEnd}
use Rattle.line_run.specs.Status.{IsRun}
use Rattle.line_run.specs.Turns.{Turn, after, texts, asked, NextIs, AnsweredAll, AnsweredSome}
use Rattle.run_status.specs.Output.{Wrote}
use Rattle.line_run.specs.declared.ending.Ending.{Ending}
use Rattle.line_run.specs.declared.ending.Ending.TheVariants as end
use Rattle.world_laws.specs.World.{World, Event, run}
use Rattle.room_runs.specs.Lines.{LONGEST_INPUT}
use Rattle.program_events.specs.Events.{Input, turn_events, turn_readings, world_texts}
use Rattle.program_events.specs.Leads.{IsOneOf, Lead}
use Rattle.program_events.specs.Runs.{Reads, AllHappened, SomeHappened, Happened, RunHappened}
use Rattle.program_events.proofs.Members.{Means}
use Rattle.program_events.proofs.Turns.{run_on, behind, turns_list, turns_move, turns_text, turns_took}
use Rattle.program_events.proofs.Begun.{begun_fared}
use Rattle.program_events.proofs.Leading.{none_before, one_leads, turns_lead}

-- events that lead to the list, behind which whatever has D is in doubt
pub record Comes (write : Writer) (w : World) (g : History) (D : Entry → Type 0) (Did : List Event → Type 0) : Type 0 where
  pub events : List Event
  pub did : Did events
  pub lead : Lead write w events g
  pub doubt : (e : Entry) → D e → IsOneOf (run write events w).server.doubt e

module _ {X K C A O : Type 0} (M : Meaning Entry X) (input : Input X) (means : Means M input) (clock : ClockMeaning K) (write : Writer) (L : Life Entry C A) (sink : SinkMeaning O) (k k' : K) (old new : A) (reads : (rs : List ℕ) → Took L old new rs → Reads clock k k' rs) (o o' : O) (w : World) (h : History) (is : w.server.list ≡ h) (was : (e : Entry) → L.doubts old e → IsOneOf w.server.doubt e) where
  -- what was in doubt before the members is so behind them, where no entry was kept
  module _ (ts : List (Turn X)) (part : List Entry) (none : part ++ after M h ts ≡ h) where
    abbrev v : World
    v = behind M input means write w ts

    list_is : v.server.list ≡ after M h ts
    list_is = turns_list M input means write w ts ∙ ap (λ (g : History). after M g ts) is

    sizes_are : length part + length v.server.list ≡ length w.server.list
    sizes_are = ap (λ (g : History). length part + length g) list_is ∙ sym (length-append part (after M h ts)) ∙ ap length none ∙ ap length (sym is)

    by_move : (v.server ≡ w.server) ⊎ ((length w.server.list < length v.server.list) × (v.server.doubt ≡ [])) → (e : Entry) → L.doubts old e → (part ≡ []) × IsOneOf v.server.doubt e
    by_move (inl same) e d =
        let size : length v.server.list ≡ length w.server.list = ap (λ (c : Server). length c.list) same in
        (none_before part w.server.list (omega (arith, length-append part w.server.list, sizes_are, size)), subst (λ (c : Server). IsOneOf c.doubt e) (sym same) (was e d))
    by_move (inr more) e d = absurd (omega (arith, more.0, sizes_are))

    still_doubted : (e : Entry) → L.doubts old e → (part ≡ []) × IsOneOf v.server.doubt e
    still_doubted = by_move (turns_move M input means write w ts)

  text_is : (ts : List (Turn X)) → texts M h ts ≡ world_texts input write w ts
  text_is ts = ap (λ (g : History). texts M g ts) (sym is) ∙ turns_text M input means write w ts

  all_happened : (said : List X) → (a : AnsweredAll M L sink old new o o' h said) → Comes write w (after M h a.turns) (L.doubts new) (AllHappened input clock sink write w k k' o o' said)
  all_happened said a = record {
    events = turn_events input a.turns;
    did = record { turns = a.turns; said_is = a.asked_is; events_are = refl; wrote = subst (Wrote sink o o') (text_is a.turns) a.wrote; reads = subst (Reads clock k k') (turns_took M input means h a.turns) (reads _ a.clock) };
    lead = turns_lead M input means write w h is a.turns;
    doubt = λ e d. let c = a.calm e d in (still_doubted a.turns [] c.0 e c.1).1;
  }

  -- the next member, which was begun or not
  next_happened : (said : List X) (why : Ending) (turns : List (Turn X)) (later : List X) (part : List Entry) (half took : List ℕ) → said ≡ asked turns ++ later → (0 < length half → why ≡ end.Write) → Wrote sink o o' (texts M h turns ++ half) → Reads clock k k' (turn_readings input turns ++ took)
      → NextIs M (after M h turns) later why part half took (λ e. (part ++ after M h turns ≡ h) × L.doubts old e) (L.doubts new)
      → Comes write w (part ++ after M h turns) (L.doubts new) (SomeHappened input clock sink write w k k' o o' said why)
  next_happened said why turns [] part half took said_is cut wrote read next =
      let lead = turns_lead M input means write w h is turns in
      let list : part ++ after M h turns ≡ after M h turns = ap (λ (l : List Entry). l ++ after M h turns) next.entries in
      let events_are : turn_events input turns ++ [] ≡ turn_events input turns = append-nil (turn_events input turns) in
      record {
        events = turn_events input turns ++ [];
        did = record {
          turns = turns;
          later = [];
          said_is = said_is;
          begun = [];
          took = took;
          next = (next.clock, refl);
          events_are = refl;
          half = half;
          cut = cut;
          reads = read;
          wrote = subst (λ (l : List ℕ). Wrote sink o o' (l ++ half)) (text_is turns) wrote;
        };
        lead = subst (λ (l : List Event). Lead write w l (part ++ after M h turns)) (sym events_are) (subst (Lead write w (turn_events input turns)) (sym list) lead);
        doubt = λ e d.
            let c = next.calm e d in
            subst (λ (l : List Event). IsOneOf (run write l w).server.doubt e) (sym events_are) (still_doubted turns part c.0 e c.1).1;
      }
  next_happened said why turns (x ∷ later) part half took said_is cut wrote read next =
      let g : History = after M h turns in
      let v : World = behind M input means write w turns in
      let at : ℕ = next.0 in
      let from : Option Entry = means.next g x at in
      let D : Entry → Type 0 = λ e. (part ++ g ≡ h) × L.doubts old e in
      let f = begun_fared (M g x at) why part half took D (L.doubts new) next.1 from (means.adds g x at) in
      let more : List Event = input.events x at f.fate in
      let took_is : (took ≡ []) ⊎ (took ≡ input.readings x at) = elim next.1.clock [ inl none ↦ inl none | inr one ↦ inr (one ∙ means.took g x at) ] in
      let at_list : v.server.list ≡ g = turns_list M input means write w turns ∙ ap (λ (k : History). after M k turns) is in
      let doubt_is : (run write (turn_events input turns ++ more) w).server.doubt ≡ doubt_after v.server.doubt from f.fate =
      ap (λ (u : World). u.server.doubt) (run_on write (turn_events input turns) more w)
      ∙ ap (λ (c : Server). c.doubt) (means.server write v x at f.fate)
      ∙ ap (λ (k : History). doubt_after v.server.doubt (means.next k x at) f.fate) at_list in
      record {
        events = turn_events input turns ++ more;
        did = record {
          turns = turns;
          later = x ∷ later;
          said_is = said_is;
          begun = more;
          took = took;
          next = (at, f.fate, f.may, took_is, refl);
          events_are = refl;
          half = half;
          cut = cut;
          reads = read;
          wrote = subst (λ (t : List ℕ). Wrote sink o o' (t ++ half)) (text_is turns) wrote;
        };
        lead = subst (λ (es : List Entry). Lead write w (turn_events input turns ++ more) (es ++ g)) (sym f.part_is)
            (one_leads M input means write w (turn_events input turns) g x at f.fate f.kept (turns_lead M input means write w h is turns) f.list);
        doubt = λ e d. subst (λ (es : List Entry). IsOneOf es e) (sym doubt_is) (f.doubt v.server.doubt (λ y was_so. still_doubted turns part was_so.0 y was_so.1) e d);
      }

  some_happened : (said : List X) (why : Ending) → (a : AnsweredSome M L sink old new o o' h said why) → Comes write w (a.part ++ after M h a.turns) (L.doubts new) (SomeHappened input clock sink write w k k' o o' said why)
  some_happened said why a = next_happened said why a.turns a.later a.part a.said a.took a.asked_is a.half a.wrote (subst (λ (l : List ℕ). Reads clock k k' (l ++ a.took)) (turns_took M input means h a.turns) (reads _ a.clock)) a.next

  -- by what ended the run
  module _ (read more : List ℕ) where
    abbrev pub list_behind : (r : Result (Unit {0}) Ending) → IsEnd M L sink input.decided input.all LONGEST_INPUT old new o o' h read more r → History
    list_behind (Ok u) did = after M h did.2.turns
    list_behind (Err end.Read) did = after M h did.1.turns
    list_behind (Err end.TooLong) did = after M h did.1.turns
    list_behind (Err end.Write) did = did.part ++ after M h did.turns
    list_behind (Err end.Store) did = did.part ++ after M h did.turns
    list_behind (Err end.Full) did = did.part ++ after M h did.turns
    list_behind (Err end.Memory) did = did.part ++ after M h did.turns

    pub list_stands : (r : Result (Unit {0}) Ending) → (did : IsEnd M L sink input.decided input.all LONGEST_INPUT old new o o' h read more r) → L.stands new (list_behind r did)
    list_stands (Ok u) did = did.2.kept.list
    list_stands (Err end.Read) did = did.1.kept.list
    list_stands (Err end.TooLong) did = did.1.kept.list
    list_stands (Err end.Write) did = did.kept.list
    list_stands (Err end.Store) did = did.kept.list
    list_stands (Err end.Full) did = did.kept.list
    list_stands (Err end.Memory) did = did.kept.list

    pub end_happened : (r : Result (Unit {0}) Ending) → (did : IsEnd M L sink input.decided input.all LONGEST_INPUT old new o o' h read more r)
        → Comes write w (list_behind r did) (L.doubts new) (Happened input clock sink write w k k' o o' read more r)
    end_happened (Ok u) did = all_happened (input.all read) did.2
    end_happened (Err end.Read) did = all_happened (input.decided read) did.1
    end_happened (Err end.TooLong) did = all_happened (input.decided (take LONGEST_INPUT read)) did.1
    end_happened (Err end.Write) did = some_happened (input.all (read ++ more)) end.Write did
    end_happened (Err end.Store) did = some_happened (input.all (read ++ more)) end.Store did
    end_happened (Err end.Full) did = some_happened (input.all (read ++ more)) end.Full did
    end_happened (Err end.Memory) did = some_happened (input.all (read ++ more)) end.Memory did

-- a run over members has happened in each world that has its list
module _ {X K C S A O : Type 0} (M : Meaning Entry X) (input : Input X) (means : Means M input) (clock : ClockMeaning K) (source : SourceMeaning S) (sink : SinkMeaning O) (write : Writer) (L : Life Entry C A) (fails : A → ℕ)
    (k k' : K) (i i' : S) (old new : A) (o o' : O) (status : ℕ) (h : History) (run_is : IsRun M L fails source sink input.decided input.all LONGEST_INPUT i i' old new o o' h status)
    (reads : (rs : List ℕ) → Took L old new rs → Reads clock k k' rs) (none : (e : Entry) → L.doubts old e → ⊥) (w : World) (is : w.server.list ≡ h) where
  abbrev was : (e : Entry) → L.doubts old e → IsOneOf w.server.doubt e
  was e d = absurd (none e d)

  abbrev pub list_of_run : History
  list_of_run = list_behind M input means clock write L sink k k' old new reads o run_is.mid w h is was run_is.ran.read run_is.ran.more run_is.result run_is.ran.did

  pub run_stands : L.stands new list_of_run
  run_stands = list_stands M input means clock write L sink k k' old new reads o run_is.mid w h is was run_is.ran.read run_is.ran.more run_is.result run_is.ran.did

  comes : Comes write w list_of_run (L.doubts new) (Happened input clock sink write w k k' o run_is.mid run_is.ran.read run_is.ran.more run_is.result)
  comes = end_happened M input means clock write L sink k k' old new reads o run_is.mid w h is was run_is.ran.read run_is.ran.more run_is.result run_is.ran.did

  pub run_happens : (g : History) (D : Entry → Type 0) → list_of_run ≡ g → ((e : Entry) → D e → L.doubts new e) → (events : List Event) × RunHappened input clock source sink write w i i' o o' k k' status g D events
  run_happens g D same doubts = (
    comes.events,
    record {
      result = run_is.result;
      status_is = run_is.status_is;
      read = run_is.ran.read;
      more = run_is.ran.more;
      was_read = run_is.ran.was_read;
      answered = run_is.mid;
      happened = comes.did;
      line = run_is.line;
      leads = record { lead = subst (Lead write w comes.events) same comes.lead; doubt = λ e d. comes.doubt e (doubts e d) };
    },
  )
