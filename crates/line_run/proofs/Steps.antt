-- One line's answer, as a run of one line.
use Rattle.std.proofs.Common.{◌≡◌, inl, inr, ⊎_elim, ◌<◌, ℕ, List, [], ◌∷◌, ◌++◌, take, drop, refl, sym, ◌∙◌, ap, subst, arith}
use Rattle.std.proofs.lemmas.List.{append-nil, length-take, take-append-drop}
use Rattle.news_io.specs.Left.{Between}
use Rattle.news_io.specs.Sink.{AreFirst, SinkMeaning}
use Rattle.news_io.proofs.Pieces.{first_all}
use Rattle.news_io.proofs.Runs.{elapses_same}
use Rattle.line_run.specs.declared.answering.Stopped.{Stopped}
use Rattle.line_run.specs.declared.answering.Stopped.TheVariants as stop
use Rattle.line_run.specs.declared.ending.Ending.{Ending}
use Rattle.line_run.specs.declared.ending.Ending.TheVariants as end
use Rattle.line_run.specs.Life.{Meaning, Life, Took, Kept}
use Rattle.run_status.specs.Output.{Wrote, AllPassed}
use Rattle.line_run.specs.Step.{KeeperStopped, IsAnswered, IsStopped}
use Rattle.line_run.specs.Turns.{ending_of, ByLog, AnsweredAll, AnsweredSome}

module _ {T C A : Type 0} (L : Life T C A) where
  pub kept_same : (it : A) (h : List T) → L.stands it h → Kept L it it h h
  kept_same it h stands = record { list = stands; time = elapses_same (L.moment it) (L.left_since it) (Between L.opens h h (L.doubts it) (L.doubts it)) }

module _ {O : Type 0} (sink : SinkMeaning O) where
  pub wrote_none : (o : O) → Wrote sink o o []
  wrote_none o = record { told = λ t. t; bytes = λ t. sym (append-nil (sink.taken o)) }

  pub wrote_is : (o o' : O) (xs ys : List ℕ) → xs ≡ ys → Wrote sink o o' xs → Wrote sink o o' ys
  wrote_is o o' xs ys e w = subst (λ (l : List ℕ). Wrote sink o o' l) e w

module _ {T C A : Type 0} (L : Life T C A) where
  pub took_none : (it : A) → Took L it it []
  took_none it = record { told = λ t. t; gave = λ t k. refl }

  pub took_is : (old new : A) (xs ys : List ℕ) → xs ≡ ys → Took L old new xs → Took L old new ys
  took_is old new xs ys e w = subst (λ (l : List ℕ). Took L old new l) e w

module _ {O : Type 0} (sink : SinkMeaning O) where
  -- what was written before still has passed on
  pub first_passed : (o o' : O) → (sink.tells o → AreFirst (sink.passed o) (sink.passed o')) → sink.tells o → AllPassed sink o → AreFirst (sink.taken o ++ []) (sink.passed o')
  first_passed o o' kept t all = subst (λ (l : List ℕ). AreFirst l (sink.passed o')) (all ∙ sym (append-nil (sink.taken o))) (kept t)

module _ {T C A O X : Type 0} (M : Meaning T X) (L : Life T C A) (sink : SinkMeaning O) (old new : A) (o : O) (h : List T) (line : X) where
  stopped_from : (w : Stopped) (why : Ending) → IsStopped M L old new h line w → (ByLog why → KeeperStopped w) → (why ≡ end.Full → w ≡ stop.Full) → (w ≡ stop.Fault → why ≡ end.Store)
      → AnsweredSome M L sink old new o o h (line ∷ []) why
  stopped_from w why s by_log full fault = record {
    turns = [];
    later = line ∷ [];
    asked_is = refl;
    fit = tt;
    part = s.part;
    said = [];
    took = s.took;
    next = (
      s.at,
      record {
        entries = s.first;
        unkept = λ log. s.unkept (by_log log);
        full = λ is. s.full (full is);
        doubt = λ e d. ⊎_elim (λ was. inl (ap (λ (l : List T). l ++ h) was.0, was.1)) (λ now. inr (fault now.0, now.1)) (s.doubt e d);
        bytes = ((M h line s.at).text ++ 10 ∷ [], refl);
        order = λ lt. absurd (omega (arith, lt));
        clock = s.some;
      },
    );
    half = λ lt. absurd (omega (arith, lt));
    kept = s.kept;
    wrote = wrote_none sink o;
    passed = first_passed sink o o (λ t. first_all (sink.passed o));
    clock = s.clock;
  }

  -- a stop, by what ends the run
  pub stopped_some : (w : Stopped) → IsStopped M L old new h line w → AnsweredSome M L sink old new o o h (line ∷ []) (ending_of w)
  stopped_some stop.Memory s = stopped_from stop.Memory end.Memory s (λ none. none) (λ is. cc) (λ is. cc)
  stopped_some stop.Fault s = stopped_from stop.Fault end.Store s (λ t. t) (λ is. cc) (λ is. refl)
  stopped_some stop.Full s = stopped_from stop.Full end.Full s (λ t. t) (λ is. refl) (λ is. cc)

module _ {T C A O X : Type 0} (M : Meaning T X) (L : Life T C A) (sink : SinkMeaning O) (old new : A) (o o' : O) (h : List T) (line : X) where
  pub answered_all : (text : List ℕ) → IsAnswered M L old new h line text → Wrote sink o o' (text ++ 10 ∷ []) → (sink.tells o → AllPassed sink o') → AnsweredAll M L sink old new o o' h (line ∷ [])
  answered_all text a wrote passed = record {
    turns = record { line = line; at = a.at } ∷ [];
    asked_is = refl;
    fit = (tt, a.fits);
    kept = a.kept;
    calm = λ e d. (ap (λ (l : List T). l ++ h) (a.calm e d).0, (a.calm e d).1);
    clock = a.clock;
    passed = λ t all. passed t;
    wrote = wrote_is sink o o' (text ++ 10 ∷ []) ((M h line a.at).text ++ 10 ∷ []) (ap (λ (l : List ℕ). l ++ 10 ∷ []) a.text_is) wrote;
  }

  pub answered_some : (text : List ℕ) (n : ℕ) (why : Ending) → (ByLog why → ⊥) → (why ≡ end.Full → ⊥) → (0 < n → why ≡ end.Write) → IsAnswered M L old new h line text → Wrote sink o o' (take n (text ++ 10 ∷ []))
      → (sink.tells o → AreFirst (sink.passed o) (sink.passed o')) → AnsweredSome M L sink old new o o' h (line ∷ []) why
  answered_some text n why not_log not_full half a wrote kept = record {
    turns = [];
    later = line ∷ [];
    asked_is = refl;
    fit = tt;
    part = (M h line a.at).adds;
    said = take n (text ++ 10 ∷ []);
    took = (M h line a.at).took;
    next = (
      a.at,
      record {
        entries = ([], refl);
        unkept = λ log. absurd (not_log log);
        full = λ is. absurd (not_full is);
        doubt = λ e d. inl (ap (λ (l : List T). l ++ h) (a.calm e d).0, (a.calm e d).1);
        bytes = (drop n (text ++ 10 ∷ []), ap (λ (l : List ℕ). l ++ 10 ∷ []) (sym a.text_is) ∙ sym (take-append-drop n (text ++ 10 ∷ [])));
        order = λ lt. refl;
        clock = inr refl;
      },
    );
    half = λ lt. half (omega (arith, lt, length-take n (text ++ 10 ∷ [])));
    kept = a.kept;
    wrote = wrote;
    passed = first_passed sink o o' kept;
    clock = a.clock;
  }
