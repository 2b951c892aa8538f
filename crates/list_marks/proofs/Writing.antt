-- What the output took of lines that were written at once.
use Rattle.std.proofs.Common.{◌≡◌, ℕ, [], ◌++◌, take, drop, inl, inr, refl, sym, append-nil}
use Rattle.std.proofs.lemmas.List.{take-append-drop}
use Rattle.news_types.specs.Names.{Bytes}
use Rattle.news_io.specs.Faults.{Rose}
use Rattle.news_io.specs.Sink.{SinkMeaning}
use Rattle.run_status.specs.Output.{Told}
use Rattle.run_status.specs.Status.{line_of}
use Rattle.run_status.specs.declared.status.Status.{Status}
use Rattle.room_reports.specs.Written.{IsWrittenOut}

module _ {O : Type 0} (sink : SinkMeaning O) where
  -- all of them, which have passed on
  pub whole : (old new : O) (lines : Bytes) → (sink.tells old → sink.tells new) → (sink.tells old → sink.taken new ≡ sink.taken old ++ lines) → (sink.tells old → sink.passed new ≡ sink.taken new)
      → sink.faults new ≡ sink.faults old → IsWrittenOut sink lines old new 0
  whole old new lines told is passed calm = inl (refl, record { wrote = record { told = told; bytes = is }; passed = passed; calm = calm })

  -- the first of them, and the output failed
  pub cut : (old new : O) (lines : Bytes) (n : ℕ) → (sink.tells old → sink.tells new) → (sink.tells old → sink.taken new ≡ sink.taken old ++ take n lines) → Rose (sink.faults old) (sink.faults new)
      → IsWrittenOut sink lines old new 5
  cut old new lines n told is rose = inr (inl (
    refl,
    record {
      front = take n lines;
      first = (drop n lines, sym (take-append-drop n lines));
      wrote = record { told = told; bytes = is };
      rose = rose;
    },
  ))

  -- none of them, for want of memory
  pub starved : (old new : O) (lines : Bytes) → Told sink old new (line_of Status.Memory) → IsWrittenOut sink lines old new 9
  starved old new lines told = inr (inr (
    refl,
    record {
      mid = old;
      part = record {
        front = [];
        first = (lines, refl);
        lines = inl refl;
        wrote = record { told = λ t. t; bytes = λ t. sym (append-nil (sink.taken old)) };
        calm = refl;
      };
      line = told;
    },
  ))
