-- What was written of a report, part by part.
use Rattle.std.proofs.Common.{◌≡◌, inl, inr, ℕ, [], ◌∷◌, ◌++◌, refl, sym, ap, subst, ◌∙◌, append-nil, append_assoc}
use Rattle.std.specs.Prelude.{Err}
use Rattle.news_types.specs.Names.{Bytes}
use Rattle.news_io.specs.Faults.{Rose}
use Rattle.news_io.specs.Sink.{SinkMeaning, AreFirst}
use Rattle.run_status.specs.Output.{Wrote}
use Rattle.run_status.proofs.Tellings.{wrote_none}
use Rattle.run_status.specs.declared.status.Status.{Status}
use Rattle.room_reports.specs.Written.{AreLines, IsWhole, IsPart}
use Rattle.room_reports.specs.Parts.{Writes}

-- ---- whole lines

pub lines_then : (xs ys : Bytes) → AreLines xs → AreLines ys → AreLines (xs ++ ys)
lines_then xs ys a (inl none) = elim a as (λ x. AreLines (xs ++ ys)) [
  | inl empty ↦ inl (ap (λ (l : Bytes). l ++ ys) empty ∙ none)
  | inr some ↦ inr (some.0, ap (λ (l : Bytes). xs ++ l) none ∙ append-nil xs ∙ some.1)
]
lines_then xs ys a (inr some) = inr (xs ++ some.0, ap (λ (l : Bytes). xs ++ l) some.1 ∙ sym (append_assoc xs some.0 (10 ∷ [])))

-- ---- parts behind parts

module _ {O : Type 0} (sink : SinkMeaning O) where
  wrote_then : (o mid o' : O) (xs ys : Bytes) → Wrote sink o mid xs → Wrote sink mid o' ys → Wrote sink o o' (xs ++ ys)
  wrote_then o mid o' xs ys one other = record {
    told = λ t. other.told (one.told t);
    bytes = λ t. other.bytes (one.told t) ∙ ap (λ (l : Bytes). l ++ ys) (one.bytes t) ∙ append_assoc (sink.taken o) xs ys;
  }

  -- the first lines of a report were written, and the rest was not yet
  pub record SoFar (report rest : Bytes) (o o' : O) : Type 0 where
    pub front : Bytes
    pub is : report ≡ front ++ rest
    pub lines : AreLines front
    pub wrote : Wrote sink o o' front

  pub none_so_far : (report : Bytes) (o : O) → SoFar report report o o
  none_so_far report o = record { front = []; is = refl; lines = inl refl; wrote = wrote_none sink o }

  module _ (report rest text later : Bytes) (o mid o' : O) (so_far : SoFar report rest o mid) (front : rest ≡ text ++ later) where
    split : report ≡ (so_far.front ++ text) ++ later
    split = so_far.is ∙ ap (λ (l : Bytes). so_far.front ++ l) front ∙ sym (append_assoc so_far.front text later)

    -- a part more was written
    pub more_so_far : AreLines text → IsWhole sink text mid o' → SoFar report later o o'
    more_so_far lines whole = record {
      front = so_far.front ++ text;
      is = split;
      lines = lines_then so_far.front text so_far.lines lines;
      wrote = wrote_then o mid o' so_far.front text so_far.wrote whole.wrote;
    }

    first_there : (bytes : Bytes) → AreFirst bytes text → AreFirst (so_far.front ++ bytes) report
    first_there bytes first = (
      first.0 ++ later,
      split ∙ ap (λ (l : Bytes). (so_far.front ++ l) ++ later) first.1 ∙ ap (λ (l : Bytes). l ++ later) (sym (append_assoc so_far.front bytes first.0))
          ∙ append_assoc (so_far.front ++ bytes) first.0 later,
    )

    -- a part was not written whole
    pub cut_there : (why : Status) → sink.faults mid ≡ sink.faults o → Writes sink text mid o' (Err why) → Writes sink report o o' (Err why)
    cut_there Status.Output calm cut = record {
      front = so_far.front ++ cut.front;
      first = first_there cut.front cut.first;
      wrote = wrote_then o mid o' so_far.front cut.front so_far.wrote cut.wrote;
      rose = subst (λ (n : ℕ). Rose n (sink.faults o')) calm cut.rose;
    }
    cut_there Status.Memory calm part = record {
      front = so_far.front ++ part.front;
      first = first_there part.front part.first;
      lines = lines_then so_far.front part.front so_far.lines part.lines;
      wrote = wrote_then o mid o' so_far.front part.front so_far.wrote part.wrote;
      calm = part.calm ∙ calm;
    }
    cut_there _ calm none = absurd none

    -- the last part was written
    pub all_there : later ≡ [] → sink.faults mid ≡ sink.faults o → IsWhole sink text mid o' → IsWhole sink report o o'
    all_there none calm whole = record {
      wrote = subst (λ (l : Bytes). Wrote sink o o' l) (sym (split ∙ ap (λ (l : Bytes). (so_far.front ++ text) ++ l) none ∙ append-nil (so_far.front ++ text))) (wrote_then o mid o' so_far.front text so_far.wrote whole.wrote);
      passed = λ t. whole.passed (so_far.wrote.told t);
      calm = whole.calm ∙ calm;
    }

  -- there was no memory for the next part
  pub part_there : (report rest : Bytes) (o mid : O) → SoFar report rest o mid → sink.faults mid ≡ sink.faults o → IsPart sink report o mid
  part_there report rest o mid so_far calm = record { front = so_far.front; first = (rest, so_far.is); lines = so_far.lines; wrote = so_far.wrote; calm = calm }
