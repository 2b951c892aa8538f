-- A line is read as the count that it says, or as none.
use Rattle.std.proofs.Common.{◌≡◌, ℕ, None, Result, Ok, Err, refl, ap, ◌∙◌}
use Rattle.std.specs.Result.{result_ok}
use Rattle.news_types.specs.Names.{Bytes}
use Rattle.byte_formats.specs.Lawful.{IsBytes}
use Rattle.byte_formats.specs.Gives.{Fails, IsFault, all_of}
use Rattle.byte_formats.specs.declared.stop.Stopped.{Stopped}
use Rattle.byte_formats.specs.declared.stop.Stopped.TheVariants as stopped
use Rattle.byte_formats.proofs.Whole.{all_takes, all_again}
use Rattle.record_lines.specs.Spelling.{kept_bytes, IsCount}
use Rattle.record_lines.specs.Formats.{kept}
use Rattle.record_lines.specs.Laws.{RepliesAreReadAgain}
use Rattle.record_lines.proofs.Written.{kept_lawful}

pub line_found : (line : Bytes) (c : ℕ) → IsBytes line → all_of kept line ≡ Ok c → IsCount c × (line ≡ kept_bytes c)
line_found line c ib e = all_takes kept IsCount kept_lawful line c ib e

pub line_again : (line : Bytes) (c : ℕ) → IsCount c → line ≡ kept_bytes c → all_of kept line ≡ Ok c
line_again line c form is = ap (all_of kept) is ∙ all_again kept IsCount kept_lawful c form

-- what takes no memory stops at a fault, with so many bytes left
pub fails_at : {A : Type 0} (e : Stopped) (read : Result A ℕ) → IsFault e → Fails e read → (left : ℕ) × (read ≡ Err left)
fails_at stopped.Memory read calm fails = absurd calm
fails_at (stopped.Left left) read calm fails = (left, fails)

none_of : (line : Bytes) (read : Result ℕ ℕ) → ((c : ℕ) → read ≡ Ok c → ⊥) → result_ok read ≡ None
none_of line (Ok c) other = absurd (other c refl)
none_of line (Err left) other = refl

pub read_again : RepliesAreReadAgain
read_again = record {
  again = λ c form. ap (λ (read : Result ℕ ℕ). result_ok read) (line_again (kept_bytes c) c form refl);
  others = λ line ib other. none_of line (all_of kept line) (λ c e. let found = line_found line c ib e in other c found.0 found.1);
}
