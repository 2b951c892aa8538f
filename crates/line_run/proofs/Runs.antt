-- One run of lines behind another.
use Rattle.std.proofs.Common.{◌≡◌, ◌⊎◌, inl, inr, ⊎_elim, ℕ, false, List, [], ◌∷◌, ◌++◌, length, refl, sym, ◌∙◌, ap, subst, arith, append_assoc}
use Rattle.std.proofs.lemmas.List.{append-nil}
use Rattle.news_io.proofs.Readings.{gave_then}
use Rattle.news_io.proofs.Runs.{elapses_weaker, elapses_then}
use Rattle.news_io.specs.Left.{IsLeft, Between}
use Rattle.line_run.specs.Life.{Meaning, Life, Took, Kept}
use Rattle.run_status.specs.Output.{Wrote}
use Rattle.line_run.specs.Turns.{Turn, after, texts, readings, asked, AllFit, AnsweredAll, ByLog, NextIs, AnsweredSome}
use Rattle.line_run.specs.declared.ending.Ending.{Ending}
use Rattle.line_run.proofs.Steps.{kept_same, first_passed, took_none, took_is}
use Rattle.run_status.proofs.Tellings.{wrote_none, wrote_is}
use Rattle.news_io.specs.Sink.{AreFirst, SinkMeaning}

module _ {T X : Type 0} (M : Meaning T X) where
  pub after_then : (h : List T) (more ts : List (Turn X)) → after M h (more ++ ts) ≡ after M (after M h ts) more
  after_then h [] ts = refl
  after_then h (t ∷ more) ts = ap (λ (g : List T). (M g t.line t.at).adds ++ g) (after_then h more ts)

  pub texts_then : (h : List T) (more ts : List (Turn X)) → texts M h (more ++ ts) ≡ texts M h ts ++ texts M (after M h ts) more
  texts_then h [] ts = sym (append-nil (texts M h ts))
  texts_then h (t ∷ more) ts =
      ap (λ (l : List ℕ). l ++ ((M (after M h (more ++ ts)) t.line t.at).text ++ 10 ∷ [])) (texts_then h more ts)
      ∙ ap (λ (g : List T). texts M h ts ++ texts M (after M h ts) more ++ ((M g t.line t.at).text ++ 10 ∷ [])) (after_then h more ts)
      ∙ append_assoc (texts M h ts) (texts M (after M h ts) more) ((M (after M (after M h ts) more) t.line t.at).text ++ 10 ∷ [])

  pub readings_then : (h : List T) (more ts : List (Turn X)) → readings M h (more ++ ts) ≡ readings M h ts ++ readings M (after M h ts) more
  readings_then h [] ts = sym (append-nil (readings M h ts))
  readings_then h (t ∷ more) ts =
      ap (λ (l : List ℕ). l ++ (M (after M h (more ++ ts)) t.line t.at).took) (readings_then h more ts)
      ∙ ap (λ (g : List T). readings M h ts ++ readings M (after M h ts) more ++ (M g t.line t.at).took) (after_then h more ts)
      ∙ append_assoc (readings M h ts) (readings M (after M h ts) more) (M (after M (after M h ts) more) t.line t.at).took

  pub fit_then : (h : List T) (more ts : List (Turn X)) → AllFit M h ts → AllFit M (after M h ts) more → AllFit M h (more ++ ts)
  fit_then h [] ts before now = before
  fit_then h (t ∷ more) ts before now = (fit_then h more ts before now.0, subst (λ (g : List T). (M g t.line t.at).passes ≡ false) (sym (after_then h more ts)) now.1)

  pub after_more : (h : List T) (ts : List (Turn X)) → (more : List T) × (after M h ts ≡ more ++ h)
  after_more h [] = ([], refl)
  after_more h (t ∷ ts) = let m : (more : List T) × (after M h ts ≡ more ++ h) = after_more h ts in
      ((M (after M h ts) t.line t.at).adds ++ m.0, ap (λ (g : List T). (M (after M h ts) t.line t.at).adds ++ g) m.1 ∙ sym (append_assoc (M (after M h ts) t.line t.at).adds m.0 h))

pub asked_then : {X : Type 0} (more ts : List (Turn X)) → asked (more ++ ts) ≡ asked ts ++ asked more
asked_then [] ts = sym (append-nil (asked ts))
asked_then {X = X} (t ∷ more) ts = ap (λ (l : List X). l ++ t.line ∷ []) (asked_then more ts) ∙ append_assoc (asked ts) (asked more) (t.line ∷ [])

-- what was in doubt at the joint stood behind the first list too
abbrev pub Quiet : {T : Type 0} → List T → List T → (T → Type 0) → (T → Type 0) → Type 0
Quiet {T = T} h g D E = (e : T) → E e → (g ≡ h) × D e

module _ {T C : Type 0} (opens : C → List T → Type 0) where
  left_weaker : (h : List T) (D E : T → Type 0) (found : C) → ((e : T) → D e → E e) → IsLeft opens h D found → IsLeft opens h E found
  left_weaker h D E found f left = ⊎_elim (λ is. inl is) (λ more. inr (more.0, f more.0 more.1, more.2)) left

  pub between_longer : (h g k : List T) (D E F : T → Type 0) (found : C) → (more : List T) × (k ≡ more ++ g) → Quiet h g D E → Between opens h g D E found → Between opens h k D F found
  between_longer h g k D E F found more calm b = record {
    part = b.part;
    behind = b.behind;
    left = left_weaker b.part (λ e. ((b.part ≡ h) × D e) ⊎ ((b.part ≡ g) × E e)) (λ e. ((b.part ≡ h) × D e) ⊎ ((b.part ≡ k) × F e)) found
        (λ e. ⊎_elim (λ was. inl was) (λ mid. inl (mid.0 ∙ (calm e mid.1).0, (calm e mid.1).1))) b.left;
    within = (more.0 ++ b.within.0, more.1 ∙ ap (λ (l : List T). more.0 ++ l) b.within.1 ∙ sym (append_assoc more.0 b.within.0 b.part));
  }

  pub between_later : (h g k : List T) (D E F : T → Type 0) (found : C) → (more : List T) × (g ≡ more ++ h) → Quiet h g D E → Between opens g k E F found → Between opens h k D F found
  between_later h g k D E F found more calm b = record {
    part = b.part;
    within = b.within;
    left = left_weaker b.part (λ e. ((b.part ≡ g) × E e) ⊎ ((b.part ≡ k) × F e)) (λ e. ((b.part ≡ h) × D e) ⊎ ((b.part ≡ k) × F e)) found
        (λ e. ⊎_elim (λ mid. inl (mid.0 ∙ (calm e mid.1).0, (calm e mid.1).1)) (λ now. inr now)) b.left;
    behind = (b.behind.0 ++ more.0, b.behind.1 ∙ ap (λ (l : List T). b.behind.0 ++ l) more.1 ∙ sym (append_assoc b.behind.0 more.0 h));
  }

module _ {T C A : Type 0} (L : Life T C A) where
  pub kept_then : (old mid new : A) (h g k : List T) → Quiet h g (L.doubts old) (L.doubts mid)
      → (more : List T) × (g ≡ more ++ h) → (more : List T) × (k ≡ more ++ g) → Kept L old mid h g → Kept L mid new g k → Kept L old new h k
  kept_then old mid new h g k calm first then before now =
      let D : T → Type 0 = L.doubts old in
      let E : T → Type 0 = L.doubts mid in
      let F : T → Type 0 = L.doubts new in
      record {
        list = now.list;
        time = elapses_then _ _ _ _ _ _ (Between L.opens h k D F)
            (elapses_weaker _ _ _ _ (Between L.opens h g D E) (Between L.opens h k D F) before.time (λ found b. between_longer L.opens h g k D E F found then calm b))
            (elapses_weaker _ _ _ _ (Between L.opens g k E F) (Between L.opens h k D F) now.time (λ found b. between_later L.opens h g k D E F found first calm b));
      }

module _ {O : Type 0} (sink : SinkMeaning O) where
  pub wrote_then : (o o' o'' : O) (xs ys : List ℕ) → Wrote sink o o' xs → Wrote sink o' o'' ys → Wrote sink o o'' (xs ++ ys)
  wrote_then o o' o'' xs ys first then = record {
    told = λ t. then.told (first.told t);
    bytes = λ t. then.bytes (first.told t) ∙ ap (λ (l : List ℕ). l ++ ys) (first.bytes t) ∙ append_assoc (sink.taken o) xs ys;
  }

module _ {T C A : Type 0} (L : Life T C A) where
  pub took_then : (old mid new : A) (xs ys : List ℕ) → Took L old mid xs → Took L mid new ys → Took L old new (xs ++ ys)
  took_then old mid new xs ys first then = record {
    told = λ t. then.told (first.told t);
    gave = λ t. gave_then (L.ahead old) xs (L.ahead mid) ys (L.ahead new) (first.gave t) (then.gave (first.told t));
  }

module _ {T C A O X : Type 0} (M : Meaning T X) (L : Life T C A) (sink : SinkMeaning O) where
  pub none_yet : (it : A) (o : O) (h : List T) → L.stands it h → AnsweredAll M L sink it it o o h []
  none_yet it o h stands = record { turns = []; asked_is = refl; fit = tt; kept = kept_same L it h stands; calm = λ e d. (refl, d); wrote = wrote_none sink o; passed = λ t all. all; clock = took_none L it }

  pub all_then : (old mid new : A) (o o' o'' : O) (h : List T) (xs ys : List X) → AnsweredAll M L sink old mid o o' h xs
      → ((g : List T) → L.stands mid g → AnsweredAll M L sink mid new o' o'' g ys) → AnsweredAll M L sink old new o o'' h (xs ++ ys)
  all_then old mid new o o' o'' h xs ys a f =
      let b : AnsweredAll M L sink mid new o' o'' (after M h a.turns) ys = f (after M h a.turns) a.kept.list in
      record {
        turns = b.turns ++ a.turns;
        asked_is = ap (λ (l : List X). l ++ ys) a.asked_is ∙ ap (λ (l : List X). asked a.turns ++ l) b.asked_is ∙ sym (asked_then b.turns a.turns);
        fit = fit_then M h b.turns a.turns a.fit b.fit;
        kept = subst (λ (g : List T). Kept L old new h g) (sym (after_then M h b.turns a.turns))
            (kept_then L old mid new h (after M h a.turns) (after M (after M h a.turns) b.turns) a.calm
            (after_more M h a.turns) (after_more M (after M h a.turns) b.turns) a.kept b.kept);
        calm = λ e d. (after_then M h b.turns a.turns ∙ (b.calm e d).0 ∙ (a.calm e (b.calm e d).1).0, (a.calm e (b.calm e d).1).1);
        passed = λ t all. b.passed (a.wrote.told t) (a.passed t all);
        wrote = wrote_is sink o o'' _ _ (sym (texts_then M h b.turns a.turns)) (wrote_then sink o o' o'' _ _ a.wrote b.wrote);
        clock = took_is L old new _ _ (sym (readings_then M h b.turns a.turns)) (took_then L old mid new _ _ a.clock b.clock);
      }

  next_weaker : (g : List T) (later : List X) (why : Ending) (part : List T) (said took : List ℕ) (D E F : T → Type 0) → ((e : T) → D e → E e) → NextIs M g later why part said took D F → NextIs M g later why part said took E F
  next_weaker g [] why part said took D E F f n = record { entries = n.entries; bytes = n.bytes; clock = n.clock; other = n.other; calm = λ e d. f e (n.calm e d) }
  next_weaker g (line ∷ later) why part said took D E F f n = (
    n.0,
    record {
      entries = n.1.entries;
      unkept = n.1.unkept;
      full = n.1.full;
      bytes = n.1.bytes;
      order = n.1.order;
      clock = n.1.clock;
      doubt = λ e d. ⊎_elim (λ was. inl (f e was)) (λ now. inr now) (n.1.doubt e d);
    },
  )

  pub some_then : (old mid new : A) (o o' o'' : O) (h : List T) (xs ys : List X) (why : Ending) → AnsweredAll M L sink old mid o o' h xs
      → ((g : List T) → L.stands mid g → AnsweredSome M L sink mid new o' o'' g ys why) → AnsweredSome M L sink old new o o'' h (xs ++ ys) why
  some_then old mid new o o' o'' h xs ys why a f =
      let b : AnsweredSome M L sink mid new o' o'' (after M h a.turns) ys why = f (after M h a.turns) a.kept.list in
      let g : List T = after M h (b.turns ++ a.turns) in
      let same : g ≡ after M (after M h a.turns) b.turns = after_then M h b.turns a.turns in
      let more : (more : List T) × (after M (after M h a.turns) b.turns ≡ more ++ after M h a.turns) = after_more M (after M h a.turns) b.turns in
      record {
        turns = b.turns ++ a.turns;
        later = b.later;
        asked_is = ap (λ (l : List X). l ++ ys) a.asked_is ∙ ap (λ (l : List X). asked a.turns ++ l) b.asked_is
            ∙ sym (append_assoc (asked a.turns) (asked b.turns) b.later) ∙ ap (λ (l : List X). l ++ b.later) (sym (asked_then b.turns a.turns));
        fit = fit_then M h b.turns a.turns a.fit b.fit;
        part = b.part;
        said = b.said;
        took = b.took;
        next = subst (λ (k : List T). NextIs M k b.later why b.part b.said b.took (λ e. (b.part ++ k ≡ h) × L.doubts old e) (L.doubts new)) (sym same)
            (next_weaker (after M (after M h a.turns) b.turns) b.later why b.part b.said b.took (λ e. (b.part ++ after M (after M h a.turns) b.turns ≡ after M h a.turns) × L.doubts mid e)
            (λ e. (b.part ++ after M (after M h a.turns) b.turns ≡ h) × L.doubts old e) (L.doubts new) (λ e d. (d.0 ∙ (a.calm e d.1).0, (a.calm e d.1).1)) b.next);
        half = b.half;
        passed = λ t all. subst (λ (l : List ℕ). AreFirst l (sink.passed o''))
            (ap (λ (l : List ℕ). l ++ texts M (after M h a.turns) b.turns) (a.wrote.bytes t) ∙ append_assoc (sink.taken o) (texts M h a.turns) (texts M (after M h a.turns) b.turns)
            ∙ ap (λ (l : List ℕ). sink.taken o ++ l) (sym (texts_then M h b.turns a.turns)))
            (b.passed (a.wrote.told t) (a.passed t all));
        kept = subst (λ (k : List T). Kept L old new h (b.part ++ k)) (sym same)
            (kept_then L old mid new h (after M h a.turns) (b.part ++ after M (after M h a.turns) b.turns) a.calm
            (after_more M h a.turns) (b.part ++ more.0, ap (λ (l : List T). b.part ++ l) more.1 ∙ sym (append_assoc b.part more.0 (after M h a.turns))) a.kept b.kept);
        wrote = wrote_is sink o o'' _ _ (sym (append_assoc (texts M h a.turns) (texts M (after M h a.turns) b.turns) b.said) ∙ ap (λ (l : List ℕ). l ++ b.said) (sym (texts_then M h b.turns a.turns)))
            (wrote_then sink o o' o'' _ _ a.wrote b.wrote);
        clock = took_is L old new _ _ (sym (append_assoc (readings M h a.turns) (readings M (after M h a.turns) b.turns) b.took) ∙ ap (λ (l : List ℕ). l ++ b.took) (sym (readings_then M h b.turns a.turns)))
            (took_then L old mid new _ _ a.clock b.clock);
      }

  -- nothing was looked at
  pub none_some : (it : A) (o o' : O) (h : List T) (why : Ending) → (ByLog why → ⊥) → L.stands it h → Wrote sink o o' [] → (sink.tells o → AreFirst (sink.passed o) (sink.passed o'))
      → AnsweredSome M L sink it it o o' h [] why
  none_some it o o' h why not_log stands wrote kept = record {
    turns = [];
    later = [];
    asked_is = refl;
    fit = tt;
    part = [];
    said = [];
    took = [];
    next = record { entries = refl; bytes = refl; clock = refl; other = not_log; calm = λ e d. (refl, d) };
    half = λ lt. absurd (omega (arith, lt));
    kept = kept_same L it h stands;
    wrote = wrote;
    passed = first_passed sink o o' kept;
    clock = took_none L it;
  }

  -- where something else ended the run
  pub all_some : (old new : A) (o o' : O) (h : List T) (xs : List X) (why : Ending) → (ByLog why → ⊥) → AnsweredAll M L sink old new o o' h xs → AnsweredSome M L sink old new o o' h xs why
  all_some old new o o' h xs why not_log a = record {
    turns = a.turns;
    later = [];
    asked_is = a.asked_is ∙ sym (append-nil (asked a.turns));
    fit = a.fit;
    part = [];
    said = [];
    took = [];
    next = record { entries = refl; bytes = refl; clock = refl; other = not_log; calm = a.calm };
    half = λ lt. absurd (omega (arith, lt));
    kept = a.kept;
    wrote = wrote_is sink o o' _ _ (sym (append-nil (texts M h a.turns))) a.wrote;
    passed = λ t all. ([], a.passed t all ∙ a.wrote.bytes t ∙ sym (append-nil (sink.taken o ++ texts M h a.turns)));
    clock = took_is L old new _ _ (sym (append-nil (readings M h a.turns))) a.clock;
  }

  nothing_begun : (g : List T) (later : List X) (why : Ending) (part : List T) (said took : List ℕ) (D E : T → Type 0) (ys : List X) → NextIs M g later why part said took D E → NextIs M g (later ++ ys) why part said took D E
  nothing_begun g [] why part said took D E [] n = n
  nothing_begun g [] why part said took D E (y ∷ ys) n = (
    0,
    record {
      entries = ((M g y 0).adds, sym (append-nil (M g y 0).adds) ∙ ap (λ (l : List T). (M g y 0).adds ++ l) (sym n.entries));
      unkept = λ log. absurd (n.other log);
      full = λ is. absurd (n.other (subst (λ (w : Ending). ByLog w) (sym is) tt));
      doubt = λ e d. inl (n.calm e d);
      bytes = ((M g y 0).text ++ 10 ∷ [], ap (λ (l : List ℕ). l ++ ((M g y 0).text ++ 10 ∷ [])) (sym n.bytes));
      order = λ lt. absurd (omega (arith, lt, ap length n.bytes));
      clock = inl n.clock;
    },
  )
  nothing_begun g (line ∷ later) why part said took D E ys n = n

  -- the first of these lines are the first of more
  pub some_of : (old new : A) (o o' : O) (h : List T) (xs ys : List X) (why : Ending) → AnsweredSome M L sink old new o o' h xs why → AnsweredSome M L sink old new o o' h (xs ++ ys) why
  some_of old new o o' h xs ys why a = record {
    turns = a.turns;
    fit = a.fit;
    part = a.part;
    said = a.said;
    took = a.took;
    half = a.half;
    kept = a.kept;
    wrote = a.wrote;
    clock = a.clock;
    later = a.later ++ ys;
    asked_is = ap (λ (l : List X). l ++ ys) a.asked_is ∙ append_assoc (asked a.turns) a.later ys;
    next = nothing_begun (after M h a.turns) a.later why a.part a.said a.took (λ e. (a.part ++ after M h a.turns ≡ h) × L.doubts old e) (L.doubts new) ys a.next;
    passed = a.passed;
  }
