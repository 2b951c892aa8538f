-- What the output took, bit by bit.
use Rattle.std.proofs.Common.{◌≡◌, ℕ, [], ◌∷◌, ◌++◌, take, drop, inl, inr, refl, sym, ap, subst, ◌∙◌, append_assoc}
use Rattle.std.specs.Prelude.{Result, Ok, Err}
use Rattle.std.proofs.lemmas.List.{take-append-drop}
use Rattle.news_types.specs.Names.{Bytes}
use Rattle.news_io.specs.Faults.{Rose}
use Rattle.news_io.specs.Sink.{SinkMeaning}
use Rattle.run_status.specs.Output.{Wrote, Told}
use Rattle.run_status.specs.Status.{number_of, line_of}
use Rattle.run_status.specs.declared.status.Status.{Status}
use Rattle.room_reports.specs.Written.{AreLines, IsCut, IsPart, IsWrittenOut}
use Rattle.list_runs.specs.Output.{IsTaken, Gives, GivesOnce}

pub empty_right : (bytes : Bytes) → bytes ++ [] ≡ bytes
empty_right [] = refl
empty_right (b ∷ bytes) = ap (λ (l : Bytes). b ∷ l) (empty_right bytes)

module _ {O : Type 0} (sink : SinkMeaning O) where
  -- ---- one after another

  pub wrote_none : (o : O) → Wrote sink o o []
  wrote_none o = record { told = λ t. t; bytes = λ t. sym (empty_right (sink.taken o)) }

  pub wrote_then : (old mid new : O) (one other : Bytes) → Wrote sink old mid one → Wrote sink mid new other → Wrote sink old new (one ++ other)
  wrote_then old mid new one other a b = record {
    told = λ t. b.told (a.told t);
    bytes = λ t. b.bytes (a.told t) ∙ ap (λ (l : Bytes). l ++ other) (a.bytes t) ∙ append_assoc (sink.taken old) one other;
  }

  pub taken_none : (o : O) → IsTaken sink [] o o
  taken_none o = record { wrote = wrote_none o; calm = refl }

  pub taken_then : (old mid new : O) (one other : Bytes) → IsTaken sink one old mid → IsTaken sink other mid new → IsTaken sink (one ++ other) old new
  taken_then old mid new one other a b = record { wrote = wrote_then old mid new one other a.wrote b.wrote; calm = b.calm ∙ a.calm }

  -- bytes that begin with all of one, and the first of another
  pub cut_then : (old mid new : O) (one other rest : Bytes) → IsTaken sink one old mid → IsCut sink other mid new → IsCut sink ((one ++ other) ++ rest) old new
  cut_then old mid new one other rest a b = record {
    front = one ++ b.front;
    first = (
      b.first.0 ++ rest,
      ap (λ (l : Bytes). (one ++ l) ++ rest) b.first.1
          ∙ ap (λ (l : Bytes). l ++ rest) (sym (append_assoc one b.front b.first.0))
          ∙ append_assoc (one ++ b.front) b.first.0 rest,
    );
    wrote = wrote_then old mid new one b.front a.wrote b.wrote;
    rose = subst (λ (n : ℕ). Rose n (sink.faults new)) a.calm b.rose;
  }

  pub part_of : (old new : O) (one rest : Bytes) → IsTaken sink one old new → AreLines one → IsPart sink (one ++ rest) old new
  part_of old new one rest a lines = record { front = one; first = (rest, refl); lines = lines; wrote = a.wrote; calm = a.calm }

  -- ---- how it ends

  pub held_back : (old mid new : O) (bytes : Bytes) → IsTaken sink bytes old mid → (sink.tells mid → sink.tells new) → (sink.tells mid → sink.taken new ≡ sink.taken mid)
      → Rose (sink.faults mid) (sink.faults new) → IsWrittenOut sink bytes old new 5
  held_back old mid new bytes a told same rose = inr (inl (
    refl,
    record {
      front = bytes;
      first = ([], sym (empty_right bytes));
      wrote = record { told = λ t. told (a.wrote.told t); bytes = λ t. same (a.wrote.told t) ∙ a.wrote.bytes t };
      rose = subst (λ (n : ℕ). Rose n (sink.faults new)) a.calm rose;
    },
  ))

  pub stopped : (old mid new : O) (bytes : Bytes) (why : Status) → Gives sink bytes old mid (Err why) → Told sink mid new (line_of why) → IsWrittenOut sink bytes old new (number_of why)
  stopped old mid new bytes Status.Output cut told = inr (inl (refl, subst (λ (o : O). IsCut sink bytes old o) (sym (told.silent refl)) cut))
  stopped old mid new bytes Status.Memory part told = inr (inr (refl, record { mid = mid; part = part; line = told }))
  stopped old mid new bytes _ given told = absurd given

  -- ---- what a call of the output says

  pub first_taken : (old new : O) (bytes : Bytes) (n : ℕ) → (sink.tells old → sink.tells new) → (sink.tells old → sink.taken new ≡ sink.taken old ++ take n bytes) → Rose (sink.faults old) (sink.faults new) → IsCut sink bytes old new
  first_taken old new bytes n told is rose = record {
    front = take n bytes;
    first = (drop n bytes, sym (take-append-drop n bytes));
    wrote = record { told = told; bytes = is };
    rose = rose;
  }

  -- bytes that are written at once are given
  pub once_given : (bytes : Bytes) (old new : O) (r : Result (Unit {0}) Status) → GivesOnce sink bytes old new r → Gives sink bytes old new r
  once_given bytes old new (Ok u) taken = taken
  once_given bytes old new (Err Status.Output) cut = cut
  once_given bytes old new (Err Status.Memory) same = subst (λ (o : O). IsPart sink bytes old o) (sym same) (part_of old old [] bytes (taken_none old) (inl refl))
  once_given bytes old new (Err _) none = absurd none
