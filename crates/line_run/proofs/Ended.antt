-- What follows from the end of a run.
use Rattle.std.proofs.Common.{◌<◌, ◌≡◌, ◌⊎◌, inl, inr, ⊎_elim, ◌≤◌, ℕ, List, [], ◌++◌, length, Result, Ok, Err, refl, sym, ◌∙◌, ap, subst, arith, append_assoc}
use Rattle.std.proofs.lemmas.List.{length-append}
use Rattle.news_io.specs.Faults.{Rose}
use Rattle.line_run.specs.Life.{Meaning, Life, Kept}
use Rattle.run_status.specs.Output.{AllPassed, Told}
use Rattle.line_run.specs.Turns.{AnsweredAll, AnsweredSome, after}
use Rattle.line_run.specs.Run.{IsEnd, NotByOutput, Ran, Ends}
use Rattle.line_run.specs.Status.{status_by, IsRun, CrashLeaves, IsComplete}
use Rattle.run_status.specs.Status.{number_of, line_of}
use Rattle.line_run.specs.declared.ending.Ending.{Ending}
use Rattle.line_run.specs.declared.ending.Ending.TheVariants as end
use Rattle.line_run.proofs.Runs.{after_more}
use Rattle.line_run.proofs.Inputs.{end_passed, ran_nothing}
use Rattle.line_run.proofs.Steps.{kept_same}
use Rattle.news_io.specs.Source.{SourceMeaning}
use Rattle.news_io.specs.Sink.{SinkMeaning}

pub rose_later : (a b c : ℕ) → Rose a b → b ≤ c → Rose a c
rose_later a b c (inl lt) le = inl (omega (arith, lt, le))
rose_later a b c (inr top) le = inr (omega (arith, top, le))

module _ {T C A : Type 0} (L : Life T C A) where
  pub leaves : (old new : A) (h g : List T) → L.stands old h → (more : List T) × (g ≡ more ++ h) → Kept L old new h g → CrashLeaves L old new h
  leaves old new h g stands more k = record {
    list = g;
    stands = k.list;
    more = more;
    later = k.time.later;
    each = λ found left. ⊎_elim
        (λ before. record {
          part = h;
          behind = ([], refl);
          within = more;
          left = ⊎_elim (λ is. inl is) (λ one. inr (one.0, inl (refl, one.1), one.2)) (L.leaves_now old h found stands before);
        })
        (λ between. between)
        (k.time.nothing_else (L.moment old) found (omega arith) left);
    now = λ found left. L.leaves_now new g found k.list left;
  }

  module _ {O X : Type 0} (M : Meaning T X) (sink : SinkMeaning O) where
    pub leaves_all : (old new : A) (o o' : O) (h : List T) (xs : List X) → L.stands old h → AnsweredAll M L sink old new o o' h xs → CrashLeaves L old new h
    leaves_all old new o o' h xs stands a = leaves old new h (after M h a.turns) stands (after_more M h a.turns) a.kept

    pub leaves_some : (old new : A) (o o' : O) (h : List T) (xs : List X) (why : Ending) → L.stands old h → AnsweredSome M L sink old new o o' h xs why → CrashLeaves L old new h
    leaves_some old new o o' h xs why stands a =
        let m : (more : List T) × (after M h a.turns ≡ more ++ h) = after_more M h a.turns in
        leaves old new h (a.part ++ after M h a.turns) stands (a.part ++ m.0, ap (λ (l : List T). a.part ++ l) m.1 ∙ sym (append_assoc a.part m.0 h)) a.kept

    pub leaves_end : (decided all : List ℕ → List X) (most : ℕ) (old new : A) (o o' : O) (h : List T) (read more : List ℕ) (r : Result (Unit {0}) Ending) → L.stands old h → IsEnd M L sink decided all most old new o o' h read more r → CrashLeaves L old new h
    leaves_end decided all most old new o o' h read more (Ok u) stands d = leaves_all old new o o' h _ stands d.2
    leaves_end decided all most old new o o' h read more (Err end.Read) stands d = leaves_all old new o o' h _ stands d.1
    leaves_end decided all most old new o o' h read more (Err end.TooLong) stands d = leaves_all old new o o' h _ stands d.1
    leaves_end decided all most old new o o' h read more (Err end.Write) stands d = leaves_some old new o o' h _ end.Write stands d
    leaves_end decided all most old new o o' h read more (Err end.Store) stands d = leaves_some old new o o' h _ end.Store stands d
    leaves_end decided all most old new o o' h read more (Err end.Full) stands d = leaves_some old new o o' h _ end.Full stands d
    leaves_end decided all most old new o o' h read more (Err end.Memory) stands d = leaves_some old new o o' h _ end.Memory stands d

module _ {T C S A O X : Type 0} (M : Meaning T X) (L : Life T C A) (source : SourceMeaning S) (sink : SinkMeaning O) (decided all : List ℕ → List X) (most : ℕ) where
  pub completes : (i i' : S) (old new : A) (o o' : O) (h : List T) (f f' m m' c c' : ℕ) (why : Ending) → Ran M L source sink decided all most i i' old new o o' h (Err why) → Ends f f' m m' c c' (Err why)
      → source.tells i → length (source.ahead i) ≤ most → (Rose f f' → ⊥) → (Rose c c' → ⊥) → (Rose m m' → ⊥) → IsComplete (number_of (status_by why))
  completes i i' old new o o' h f f' m m' c c' end.Read ran ends g short nf nc nm = absurd (nf ends.0)
  completes i i' old new o o' h f f' m m' c c' end.Write ran ends g short nf nc nm = absurd (nc ends.1.1)
  completes i i' old new o o' h f f' m m' c c' end.Store ran ends g short nf nc nm = absurd (nm ends.1.0)
  completes i i' old new o o' h f f' m m' c c' end.Full ran ends g short nf nc nm = inr (inl refl)
  completes i i' old new o o' h f f' m m' c c' end.Memory ran ends g short nf nc nm = inr (inr refl)
  completes i i' old new o o' h f f' m m' c c' end.TooLong ran ends g short nf nc nm =
      absurd (omega (arith, ran.did.0, short, ap length (ran.was_read.input g), length-append ran.read ran.more))

  pub leaves_ran : (i i' : S) (old new : A) (o o' : O) (h : List T) (r : Result (Unit {0}) Ending) → L.stands old h → Ran M L source sink decided all most i i' old new o o' h r → CrashLeaves L old new h
  leaves_ran i i' old new o o' h r stands ran = leaves_end L M sink decided all most old new o o' h ran.read ran.more r stands ran.did

  pub ran_passed : (i i' : S) (old new : A) (o o' : O) (h : List T) (r : Result (Unit {0}) Ending) → Ran M L source sink decided all most i i' old new o o' h r → NotByOutput r → sink.tells o → AllPassed sink o → AllPassed sink o'
  ran_passed i i' old new o o' h r ran n = end_passed M L sink decided all most old new o o' h ran.read ran.more r n ran.did

module _ {O : Type 0} (sink : SinkMeaning O) where
  rose_from : (a b c : ℕ) → b ≡ a → Rose b c → Rose a c
  rose_from a b c same r = subst (λ (n : ℕ). Rose n c) same r

  line_passed : (o o' : O) (line : List ℕ) → 0 < length line → Told sink o o' line → sink.tells o → AllPassed sink o' ⊎ Rose (sink.faults o) (sink.faults o')
  line_passed o o' line some told t = ⊎_elim (λ through. inl (through.1 t some)) (λ rose. inr rose) told.whole

  -- behind the status line all has passed on, or the output has failed
  pub told_passed : (f f' m m' : ℕ) (o mid o' : O) (why : Ending) → (sink.tells o → sink.tells mid) → Ends f f' m m' (sink.faults o) (sink.faults mid) (Err why) → Told sink mid o' (line_of (status_by why))
      → sink.tells o → AllPassed sink o' ⊎ Rose (sink.faults o) (sink.faults o')
  told_passed f f' m m' o mid o' end.Write goes ends told t = inr (rose_later (sink.faults o) (sink.faults mid) (sink.faults o') ends.1.1 told.later)
  told_passed f f' m m' o mid o' end.Read goes ends told t = ⊎_elim (λ is. inl is) (λ rose. inr (rose_from _ _ _ ends.2 rose)) (line_passed mid o' _ (omega arith) told (goes t))
  told_passed f f' m m' o mid o' end.TooLong goes ends told t = ⊎_elim (λ is. inl is) (λ rose. inr (rose_from _ _ _ ends.2 rose)) (line_passed mid o' _ (omega arith) told (goes t))
  told_passed f f' m m' o mid o' end.Store goes ends told t = ⊎_elim (λ is. inl is) (λ rose. inr (rose_from _ _ _ ends.1.1 rose)) (line_passed mid o' _ (omega arith) told (goes t))
  told_passed f f' m m' o mid o' end.Full goes ends told t = ⊎_elim (λ is. inl is) (λ rose. inr (rose_from _ _ _ ends.1.1 rose)) (line_passed mid o' _ (omega arith) told (goes t))
  told_passed f f' m m' o mid o' end.Memory goes ends told t = ⊎_elim (λ is. inl is) (λ rose. inr (rose_from _ _ _ ends.1.1 rose)) (line_passed mid o' _ (omega arith) told (goes t))

-- ---- for want of memory nothing was read

module _ {T C S A O X : Type 0} (M : Meaning T X) (L : Life T C A) (fails : A → ℕ) (source : SourceMeaning S) (sink : SinkMeaning O) (decided all : List ℕ → List X) (most : ℕ) where
  pub unread_run : (i : S) (it : A) (o o' : O) (h : List T) → L.stands it h → Told sink o o' (line_of (status_by end.Memory)) → IsRun M L fails source sink decided all most i i it it o o' h (number_of (status_by end.Memory))
  unread_run i it o o' h stands told = record {
    result = Err end.Memory;
    status_is = refl;
    mid = o;
    ran = ran_nothing M L source sink decided all most i it o h stands;
    ends = (refl, (refl, refl));
    line = told;
    passed = told_passed sink (source.faults i) (source.faults i) (fails it) (fails it) o o o' end.Memory (λ t. t) (refl, (refl, refl)) told;
    done = λ is. absurd (omega (arith, is));
  }

pub unread_leaves : {T C A : Type 0} (L : Life T C A) (it : A) (h : List T) → L.stands it h → CrashLeaves L it it h
unread_leaves L it h stands = leaves L it it h h stands ([], refl) (kept_same L it h stands)
