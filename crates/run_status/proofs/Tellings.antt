-- A line that was written, by what its writing was answered.
use Rattle.std.proofs.Common.{◌<◌, take, ◌≡◌, inl, inr, ◌≤◌, ℕ, List, [], ◌++◌, length, Result, Ok, Err, refl, sym, ap, subst, arith}
use Rattle.std.proofs.lemmas.List.{append-nil, take_all}
use Rattle.std.specs.Prelude.{OnOk, OnErr}
use Rattle.news_io.specs.declared.faults.Failed.{Failed}
use Rattle.news_io.specs.Faults.{Counts, Rose}
use Rattle.news_io.specs.Sink.{SinkMeaning}
use Rattle.run_status.specs.Output.{Wrote, AllPassed, Told}

module _ {O : Type 0} (sink : SinkMeaning O) where
  pub wrote_none : (o : O) → Wrote sink o o []
  wrote_none o = record { told = λ t. t; bytes = λ t. sym (append-nil (sink.taken o)) }

  pub wrote_is : (o o' : O) (xs ys : List ℕ) → xs ≡ ys → Wrote sink o o' xs → Wrote sink o o' ys
  wrote_is o o' xs ys e w = subst (λ (l : List ℕ). Wrote sink o o' l) e w

  pub told_none : (o : O) → Told sink o o []
  told_none o = record { count = 0; wrote = wrote_none o; whole = inl (omega arith, λ t some. absurd (omega (arith, some))); later = omega arith; silent = λ e. refl }

  told_through : (o o' : O) (line : List ℕ) → Wrote sink o o' line → (sink.tells o → AllPassed sink o') → sink.faults o' ≡ sink.faults o → 0 < length line → Told sink o o' line
  told_through o o' line w passed calm some = record {
    count = length line;
    wrote = wrote_is o o' line (take (length line) line) (sym (take_all (length line) line (omega arith))) w;
    whole = inl (omega arith, λ t lt. passed t);
    later = omega (arith, calm);
    silent = λ e. absurd (omega (arith, some, ap length e));
  }

  told_cut : (o o' : O) (line : List ℕ) (n : ℕ) → Wrote sink o o' (take n line) → sink.faults o ≤ sink.faults o' → Rose (sink.faults o) (sink.faults o') → 0 < length line → Told sink o o' line
  told_cut o o' line n w later rose some = record {
    count = n;
    wrote = w;
    whole = inr rose;
    later = later;
    silent = λ e. absurd (omega (arith, some, ap length e));
  }

  -- a line, by what its writing was answered
  pub told_of : (o o' : O) (line : List ℕ) (r : Result (Unit {0}) Failed) → 0 < length line → (sink.tells o → OnOk r (sink.taken o' ≡ sink.taken o ++ line)) → (sink.tells o → OnOk r (AllPassed sink o'))
      → OnErr r ((n : ℕ) × (n ≤ length line) × (sink.tells o → sink.taken o' ≡ sink.taken o ++ take n line)) → (sink.tells o → sink.tells o') → Counts (sink.faults o) (sink.faults o') r → Told sink o o' line
  told_of o o' line (Ok u) some ok passed err told count = told_through o o' line (record { told = told; bytes = ok }) passed count.calm some
  told_of o o' line (Err why) some ok passed err told count = told_cut o o' line err.0 (record { told = told; bytes = err.2 }) count.later count.failed some
