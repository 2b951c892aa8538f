-- One member is answered.
use Rattle.std.proofs.Common.{◌≡◌, ◌⊎◌, inl, ℕ, true, false, List, [], ◌∷◌, ◌++◌, None, Result, Ok, Err, refl, sym, ◌∙◌, ap, subst, arith}
use Rattle.std.proofs.lemmas.List.{append-nil}
use Rattle.std.specs.Prelude.{Vec}
use Rattle.std.specs.declared.alloc.Global.{Global}
use Rattle.news_io.proofs.Pieces.{first_all}
use Rattle.news_io.specs.Sink.{SinkMeaning}
use Rattle.line_run.specs.Life.{Outcome, Meaning, Life, Took, Kept}
use Rattle.line_run.specs.Step.{KeeperStopped, IsNext, IsAnswered, IsStopped, IsStep, StepCounts}
use Rattle.line_run.specs.Turns.{ending_of, AnsweredSome, Did, Causes}
use Rattle.line_run.specs.declared.answering.Stopped.{Stopped}
use Rattle.line_run.specs.declared.answering.Stopped.TheVariants as stop
use Rattle.line_run.specs.declared.ending.Ending.{Ending}
use Rattle.line_run.specs.declared.ending.Ending.TheVariants as end
use Rattle.line_run.proofs.Steps.{kept_same, took_none, stopped_some, answered_all, answered_some}
use Rattle.run_status.proofs.Tellings.{wrote_none}
use Rattle.desk_answers.specs.Answers.{fault_bytes}
use Rattle.news_types.specs.declared.story.Incoming.{Incoming}
use Rattle.ninjs_text.specs.declared.fault.NinjsFault.{NinjsFault}
use Rattle.ninjs_text.specs.declared.fault.NinjsFault.TheVariants as fault
use Rattle.ninjs_text.specs.Reading.{IsRead}
use Rattle.wire_run.specs.Members.{only_told, IsText, fault_word, fault_property, of_item}
use Rattle.wire_run.specs.Passing.{IsPassed, IsPassedOn}

-- ---- a member that means what another means

module _ {T C A X Y : Type 0} (M : Meaning T X) (N : Meaning T Y) (L : Life T C A) (old new : A) (h : List T) (x : X) (y : Y) (same : (at : ℕ) → N h y at ≡ M h x at) where
  answered_as : (text : List ℕ) → IsAnswered M L old new h x text → IsAnswered N L old new h y text
  answered_as text a =
      let e : M h x a.at ≡ N h y a.at = sym (same a.at) in
      record {
        at = a.at;
        text_is = a.text_is ∙ ap (λ (o : Outcome T). o.text) e;
        fits = subst (λ (o : Outcome T). o.passes ≡ false) e a.fits;
        kept = subst (λ (o : Outcome T). Kept L old new h (o.adds ++ h)) e a.kept;
        calm = subst (λ (o : Outcome T). (d : T) → L.doubts new d → (o.adds ≡ []) × L.doubts old d) e a.calm;
        clock = subst (λ (o : Outcome T). Took L old new o.took) e a.clock;
      }

  stopped_as : (why : Stopped) → IsStopped M L old new h x why → IsStopped N L old new h y why
  stopped_as why s =
      let e : M h x s.at ≡ N h y s.at = sym (same s.at) in
      let part : List T = s.part in
      record {
        at = s.at;
        part = s.part;
        first = subst (λ (o : Outcome T). (later : List T) × (o.adds ≡ later ++ part)) e s.first;
        unkept = subst (λ (o : Outcome T). KeeperStopped why → (d : T) × IsNext o.adds part d) e s.unkept;
        full = subst (λ (o : Outcome T). why ≡ stop.Full → o.passes ≡ true) e s.full;
        kept = s.kept;
        doubt = subst (λ (o : Outcome T). (d : T) → L.doubts new d → ((part ≡ []) × L.doubts old d) ⊎ ((why ≡ stop.Fault) × IsNext o.adds part d)) e s.doubt;
        took = s.took;
        some = subst (λ (o : Outcome T). (s.took ≡ []) ⊎ (s.took ≡ o.took)) e s.some;
        clock = s.clock;
      }

  pub step_as : (r : Result (Vec ℕ Global) Stopped) → IsStep M L old new h x r → IsStep N L old new h y r
  step_as (Ok text) a = answered_as text.items a
  step_as (Err why) s = stopped_as why s

-- ---- a member that is only told of

module _ {T C A X : Type 0} (M : Meaning T X) (L : Life T C A) (it : A) (h : List T) (x : X) (bytes : List ℕ) (told : (at : ℕ) → M h x at ≡ only_told bytes) (stands : L.stands it h) where
  told_step : (r : Result (Vec ℕ Global) Stopped) → IsText bytes r → IsStep (λ g (z : X) at. only_told bytes) L it it h x r
  told_step (Ok text) is = record {
    at = 0;
    text_is = is;
    fits = refl;
    kept = kept_same L it h stands;
    calm = λ e d. (refl, d);
    clock = took_none L it;
  }
  told_step (Err why) is = record {
    at = 0;
    part = [];
    first = ([], refl);
    unkept = λ kept. absurd (subst KeeperStopped is kept);
    full = λ full. absurd (differ (sym is ∙ full));
    kept = kept_same L it h stands;
    doubt = λ e d. inl (refl, d);
    took = [];
    some = inl refl;
    clock = took_none L it;
  }
    where
      differ : stop.Memory ≡ stop.Full → ⊥
      differ e = cc

  pub only_told_step : (r : Result (Vec ℕ Global) Stopped) → IsText bytes r → IsStep M L it it h x r
  only_told_step r is = step_as (λ g (z : X) at. only_told bytes) M L it it h x x told r (told_step r is)

-- ---- without memory nothing is done

module _ {T C A X : Type 0} (M : Meaning T X) (L : Life T C A) (it : A) (h : List T) (x : X) (stands : L.stands it h) where
  memory_step : IsStopped M L it it h x stop.Memory
  memory_step = record {
    at = 0;
    part = [];
    first = ((M h x 0).adds, sym (append-nil (M h x 0).adds));
    unkept = λ kept. absurd kept;
    full = λ full. cc;
    kept = kept_same L it h stands;
    doubt = λ e d. inl (refl, d);
    took = [];
    some = inl refl;
    clock = took_none L it;
  }

-- ---- a fault of an item

module _ {T C A : Type 0} (M : Meaning T Incoming) (L : Life T C A) (it : A) (h : List T) (said : Result Incoming NinjsFault) (stands : L.stands it h) where
  told_fault : (found : NinjsFault) (r : Result (Vec ℕ Global) Stopped) → said ≡ Err found → IsText (fault_bytes None (fault_word found) (fault_property found)) r → IsStep (of_item M) L it it h said r
  told_fault found r is text =
      only_told_step (of_item M) L it h said (fault_bytes None (fault_word found) (fault_property found)) (λ at. ap (λ (x : Result Incoming NinjsFault). of_item M h x at) is) stands r text

  pub fault_step : (found : NinjsFault) (r : Result (Vec ℕ Global) Stopped) → IsRead said (Err found) → IsText (fault_bytes None (fault_word found) (fault_property found)) r → (found ≡ fault.Memory → r ≡ Err stop.Memory) → IsStep (of_item M) L it it h said r
  fault_step fault.NotJson r is text memory = told_fault fault.NotJson r is text
  fault_step fault.NotObject r is text memory = told_fault fault.NotObject r is text
  fault_step fault.NoUri r is text memory = told_fault fault.NoUri r is text
  fault_step (fault.WrongType property) r is text memory = told_fault (fault.WrongType property) r is text
  fault_step (fault.TooLong property) r is text memory = told_fault (fault.TooLong property) r is text
  fault_step fault.Memory r is text memory = subst (λ (q : Result (Vec ℕ Global) Stopped). IsStep (of_item M) L it it h said q) (sym (memory refl)) (memory_step (of_item M) L it h said stands)

-- ---- an answer is passed on

module _ {T C A O X : Type 0} (M : Meaning T X) (L : Life T C A) (sink : SinkMeaning O) (old new : A) (h : List T) (x : X) where
  text_did : (o o' : O) (text : List ℕ) (r : Result (Unit {0}) Ending) → IsAnswered M L old new h x text → IsPassed sink o o' text r → Did M L sink old new o o' h (x ∷ []) r
  text_did o o' text (Ok u) a p = answered_all M L sink old new o o' h x text a p.0 p.1
  text_did o o' text (Err end.Memory) a p =
      subst (λ (k : O). AnsweredSome M L sink old new o k h (x ∷ []) end.Memory) (sym p)
      (answered_some M L sink old new o o h x text 0 end.Memory (λ none. none) (λ is. cc) (λ lt. absurd (omega (arith, lt))) a (wrote_none sink o) (λ t. first_all (sink.passed o)))
  text_did o o' text (Err end.Write) a p = answered_some M L sink old new o o' h x text p.0.count end.Write (λ none. none) (λ is. cc) (λ lt. refl) a p.0.wrote p.0.kept
  text_did o o' text (Err end.Read) a p = absurd p
  text_did o o' text (Err end.Store) a p = absurd p
  text_did o o' text (Err end.Full) a p = absurd p
  text_did o o' text (Err end.TooLong) a p = absurd p

  pub passed_did : (o o' : O) (answered : Result (Vec ℕ Global) Stopped) (r : Result (Unit {0}) Ending) → IsStep M L old new h x answered → IsPassedOn sink o o' answered r → Did M L sink old new o o' h (x ∷ []) r
  passed_did o o' (Ok text) r a p = text_did o o' text.items r a p
  passed_did o o' (Err why) r s p =
      subst (λ (q : Result (Unit {0}) Ending). Did M L sink old new o o' h (x ∷ []) q) (sym p.0)
      (subst (λ (k : O). AnsweredSome M L sink old new o k h (x ∷ []) (ending_of why)) (sym p.1) (stopped_some M L sink old new o h x why s))

module _ {O : Type 0} (sink : SinkMeaning O) where
  text_causes : (m m' : ℕ) (o o' : O) (text : List ℕ) (r : Result (Unit {0}) Ending) → m' ≡ m → IsPassed sink o o' text r → Causes m m' (sink.faults o) (sink.faults o') r
  text_causes m m' o o' text (Ok u) same p = (same, p.2)
  text_causes m m' o o' text (Err end.Memory) same p = (same, ap sink.faults p)
  text_causes m m' o o' text (Err end.Write) same p = (same, p.1)
  text_causes m m' o o' text (Err end.Read) same p = absurd p
  text_causes m m' o o' text (Err end.Store) same p = absurd p
  text_causes m m' o o' text (Err end.Full) same p = absurd p
  text_causes m m' o o' text (Err end.TooLong) same p = absurd p

  stop_causes : (m m' : ℕ) (o o' : O) (why : Stopped) → StepCounts m m' (Err why) → o' ≡ o → Causes m m' (sink.faults o) (sink.faults o') (Err (ending_of why))
  stop_causes m m' o o' stop.Memory count same = (count, ap sink.faults same)
  stop_causes m m' o o' stop.Fault count same = (count, ap sink.faults same)
  stop_causes m m' o o' stop.Full count same = (count, ap sink.faults same)

  pub passed_causes : (m m' : ℕ) (o o' : O) (answered : Result (Vec ℕ Global) Stopped) (r : Result (Unit {0}) Ending) → StepCounts m m' answered → IsPassedOn sink o o' answered r → Causes m m' (sink.faults o) (sink.faults o') r
  passed_causes m m' o o' (Ok text) r count p = text_causes m m' o o' text.items r count p
  passed_causes m m' o o' (Err why) r count p = subst (λ (q : Result (Unit {0}) Ending). Causes m m' (sink.faults o) (sink.faults o') q) (sym p.0) (stop_causes m m' o o' why count p.1)
