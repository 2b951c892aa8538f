-- What one append is for a call, what the keeping of a prepared entry is for a request, and one call behind another.
use Rattle.std.proofs.Common.{◌≡◌, ℕ, ◌+◌, ◌<◌, ◌≤◌, List, [], ◌∷◌, ◌++◌, length, Option, None, refl, sym, ap, ◌∙◌, subst, arith, append_assoc}
use Rattle.news_types.specs.declared.entry.Entry.{Entry}
use Rattle.news_types.specs.declared.entry.Act.{Act}
use Rattle.news_types.specs.Books.{Book}
use Rattle.news_types.specs.Outcome.{Outcome, Done, kept, reply_to, entry_of}
use Rattle.news_types.specs.Outcome as outcome
use Rattle.news_io.specs.Faults.{Rose}
use Rattle.entry_codec.specs.Spelling.{entry_bytes}
use Rattle.news_room.specs.Log.{size_of, sizes}
use Rattle.news_room.specs.Beside.{Beside, beside}
use Rattle.news_room.specs.Stands.{limit_for}
use Rattle.news_room.specs.Steps.{Whole, Given, Within, Refused, Failed, Answers, KeepStep, entries}
use Rattle.news_room.specs.declared.answers.Handled.{Handled}

pub none_kept : (n : Beside) → n.later_faults ≡ n.faults → n.later_used ≡ n.used → Whole n [] []
none_kept n calm same = record { is = refl; calm = calm; grown = omega (arith, same) }

pub one_kept : (n : Beside) (e : Entry) (count : ℕ) → count ≡ size_of e → n.later_faults ≡ n.faults → n.later_used ≡ n.used + count → Whole n (e ∷ []) (e ∷ [])
one_kept n e count size calm grown = record { is = refl; calm = calm; grown = omega (arith, size, grown) }

pub one_failed : (n : Beside) (limit : ℕ) (e : Entry) (count : ℕ) → count ≡ size_of e → Rose n.faults n.later_faults → n.later_used ≡ n.used → n.used + count ≤ limit → Failed n limit (e ∷ []) []
one_failed n limit e count size rose same fits = record { next = e; rest = []; is = refl; rose = rose; grown = omega (arith, same); fits = omega (arith, size, same, fits) }

pub one_refused : (n : Beside) (limit : ℕ) (e : Entry) (count told_size told_length : ℕ) → count ≡ size_of e → n.later_faults ≡ n.faults → n.later_used ≡ n.used → limit < n.used + count → told_size ≡ n.used → told_length ≡ length (entry_bytes e)
    → Refused n limit (e ∷ []) [] told_size told_length
one_refused n limit e count told_size told_length size calm same past size_is length_is = record {
  next = e;
  rest = [];
  is = refl;
  calm = calm;
  grown = omega (arith, same);
  size_is = omega (arith, size_is, same);
  length_is = length_is;
  past = omega (arith, size, same, past);
}

-- a request that is not denied is kept, and so answered as the list answers it
pub kept_answers : (n : Beside) (b : Book) (m : ℕ) (act : Act) (more : List Entry) (o : Outcome outcome.Answered) (answered : Handled) → o ≡ kept b.list m act → KeepStep n b (entry_of m act) more answered → Answers n more o answered
kept_answers n b m act more o (Handled.Done reply) is step =
    (ap (λ (x : Outcome outcome.Answered). x.answer) is ∙ ap (λ r. Done r) (sym step.0), subst (λ (x : Outcome outcome.Answered). Given n (limit_for (entries x.more)) (entries x.more) more) (sym is) step.1)
kept_answers n b m act more o Handled.Fault is step = subst (λ (x : Outcome outcome.Answered). Failed n (limit_for (entries x.more)) (entries x.more) more) (sym is) step
kept_answers n b m act more o (Handled.Full size count) is step = subst (λ (x : Outcome outcome.Answered). Refused n (limit_for (entries x.more)) (entries x.more) more size count) (sym is) step
kept_answers n b m act more o Handled.Memory is step = step
kept_answers n b m act more o (Handled.Repeat reply) is step = absurd step
kept_answers n b m act more o (Handled.Denied denial) is step = absurd step

-- nothing follows, and nothing was kept
pub nothing_given : (n : Beside) (limit : ℕ) (should : List Entry) → should ≡ [] → n.later_faults ≡ n.faults → n.later_used ≡ n.used → Given n limit should []
nothing_given n limit should none calm same = record { whole = record { is = sym none; calm = calm; grown = omega (arith, same) }; within = tt }

pub none_given : (n : Beside) (o : Outcome outcome.Answered) → o.more ≡ None → n.later_faults ≡ n.faults → n.later_used ≡ n.used → Given n (limit_for (entries o.more)) (entries o.more) []
none_given n o none calm same = nothing_given n (limit_for (entries o.more)) (entries o.more) (ap (λ (x : Option Entry). entries x) none) calm same

-- ---- one call behind another

pub sizes_more : (xs ys : List Entry) → sizes (xs ++ ys) ≡ sizes xs + sizes ys
sizes_more [] ys = omega arith
sizes_more (x ∷ xs) ys = let rest = sizes_more xs ys in omega (arith, rest)

-- all of the first, and of the second some
pub joined : (s s' m m' : List Entry) (next : Entry) (rest : List Entry) → m ≡ s → s' ≡ m' ++ next ∷ rest → s ++ s' ≡ (m ++ m') ++ next ∷ rest
joined s s' m m' next rest is then = ap (λ (l : List Entry). l ++ s') (sym is) ∙ ap (λ (l : List Entry). m ++ l) then ∙ sym (append_assoc m m' (next ∷ rest))

-- some of the first, and nothing of the second
pub longer : (s t m : List Entry) (next : Entry) (rest : List Entry) → s ≡ m ++ next ∷ rest → s ++ t ≡ m ++ next ∷ (rest ++ t)
longer s t m next rest is = ap (λ (l : List Entry). l ++ t) is ∙ append_assoc m (next ∷ rest) t

module _ (f u g v k w : ℕ) (limit : ℕ) where
  within_both : (m m' : List Entry) → Within (beside f u g v) limit m → w ≡ v + sizes m' → Within (beside g v k w) limit m' → Within (beside f u k w) limit (m ++ m')
  within_both [] [] one grown two = tt
  within_both [] (e ∷ es) one grown two = two
  within_both (e ∷ es) [] one grown two = omega (arith, one, grown)
  within_both (e ∷ es) (x ∷ xs) one grown two = two

  pub given_given : (s s' m m' : List Entry) → Given (beside f u g v) limit s m → Given (beside g v k w) limit s' m' → Given (beside f u k w) limit (s ++ s') (m ++ m')
  given_given s s' m m' one two = record {
    whole = record {
      is = ap (λ (l : List Entry). l ++ m') one.whole.is ∙ ap (λ (l : List Entry). s ++ l) two.whole.is;
      calm = two.whole.calm ∙ one.whole.calm;
      grown = omega (arith, one.whole.grown, two.whole.grown, sizes_more m m');
    };
    within = within_both m m' one.within two.whole.grown two.within;
  }

  pub given_failed : (s s' m m' : List Entry) → Given (beside f u g v) limit s m → Failed (beside g v k w) limit s' m' → Failed (beside f u k w) limit (s ++ s') (m ++ m')
  given_failed s s' m m' one two = record {
    next = two.next;
    rest = two.rest;
    is = joined s s' m m' two.next two.rest one.whole.is two.is;
    rose = subst (λ (x : ℕ). Rose x k) one.whole.calm two.rose;
    grown = omega (arith, one.whole.grown, two.grown, sizes_more m m');
    fits = two.fits;
  }

  pub given_refused : (s s' m m' : List Entry) (size count : ℕ) → Given (beside f u g v) limit s m → Refused (beside g v k w) limit s' m' size count → Refused (beside f u k w) limit (s ++ s') (m ++ m') size count
  given_refused s s' m m' size count one two = record {
    next = two.next;
    rest = two.rest;
    is = joined s s' m m' two.next two.rest one.whole.is two.is;
    calm = two.calm ∙ one.whole.calm;
    grown = omega (arith, one.whole.grown, two.grown, sizes_more m m');
    size_is = two.size_is;
    length_is = two.length_is;
    past = two.past;
  }

pub failed_longer : (n : Beside) (limit : ℕ) (s t m : List Entry) → Failed n limit s m → Failed n limit (s ++ t) m
failed_longer n limit s t m x = record { next = x.next; rest = x.rest ++ t; is = longer s t m x.next x.rest x.is; rose = x.rose; grown = x.grown; fits = x.fits }

pub refused_longer : (n : Beside) (limit : ℕ) (s t m : List Entry) (size count : ℕ) → Refused n limit s m size count → Refused n limit (s ++ t) m size count
refused_longer n limit s t m size count x = record { next = x.next; rest = x.rest ++ t; is = longer s t m x.next x.rest x.is; calm = x.calm; grown = x.grown; size_is = x.size_is; length_is = x.length_is; past = x.past }
