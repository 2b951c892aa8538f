-- A line is read as the receipt that it is, or as none.
use Rattle.std.proofs.Common.{◌≡◌, ℕ, None, Result, Ok, Err, refl, ap, ◌∙◌}
use Rattle.std.specs.Result.{result_ok}
use Rattle.news_types.specs.Names.{Bytes}
use Rattle.byte_formats.specs.Lawful.{IsBytes}
use Rattle.byte_formats.specs.Gives.{Fails, IsFault, all_of}
use Rattle.byte_formats.specs.declared.stop.Stopped.{Stopped}
use Rattle.byte_formats.specs.declared.stop.Stopped.TheVariants as stopped
use Rattle.byte_formats.proofs.Whole.{all_takes, all_again}
use Rattle.feed_receiver.specs.Spelling.{receipt_bytes, IsReceipt}
use Rattle.feed_receiver.specs.Formats.{receipt}
use Rattle.feed_receiver.specs.Laws.{ReceiptsAreReadAgain}
use Rattle.feed_receiver.proofs.Written.{receipt_lawful, IsWhole}

pub line_found : (line : Bytes) (r : Bytes × ℕ) → IsBytes line → all_of receipt line ≡ Ok r → IsReceipt r.0 r.1 × (line ≡ receipt_bytes r.0 r.1)
line_found line r ib e = all_takes receipt IsWhole receipt_lawful line r ib e

pub line_again : (line : Bytes) (name : Bytes) (n : ℕ) → IsReceipt name n → line ≡ receipt_bytes name n → all_of receipt line ≡ Ok (name, n)
line_again line name n form is = ap (all_of receipt) is ∙ all_again receipt IsWhole receipt_lawful (name, n) form

-- what takes no memory stops at a fault, with so many bytes left
pub fails_at : {A : Type 0} (e : Stopped) (read : Result A ℕ) → IsFault e → Fails e read → (left : ℕ) × (read ≡ Err left)
fails_at stopped.Memory read calm fails = absurd calm
fails_at (stopped.Left left) read calm fails = (left, fails)

none_of : (line : Bytes) (read : Result (Bytes × ℕ) ℕ) → ((r : Bytes × ℕ) → read ≡ Ok r → ⊥) → result_ok read ≡ None
none_of line (Ok r) other = absurd (other r refl)
none_of line (Err left) other = refl

pub read_again : ReceiptsAreReadAgain
read_again = record {
  again = λ name n form. ap (λ (read : Result (Bytes × ℕ) ℕ). result_ok read) (line_again (receipt_bytes name n) name n form refl);
  others = λ line ib other. none_of line (all_of receipt line) (λ r e. let found = line_found line r ib e in other r.0 r.1 found.0 found.1);
}
