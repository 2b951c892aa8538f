-- What a receipt's body asks is a receipt, and so within the limits.
use Rattle.std.specs.Prelude.{◌≡◌, ℕ, List, Result, Ok, Err}
use Rattle.std.proofs.Common.{subst}
use Rattle.serde_json.specs.Data.{Data}
use Rattle.news_types.specs.Names.{Bytes}
use Rattle.desk_lines.specs.declared.property.LineProperty.{LineProperty}
use Rattle.desk_lines.specs.declared.property.LineProperty.TheVariants as the
use Rattle.desk_lines.specs.declared.asked.Asked.{Asked}
use Rattle.desk_lines.specs.declared.asked.Asked.TheVariants as line
use Rattle.desk_lines.specs.Reading.{then_read, needs}
use Rattle.desk_lines.specs.Forms.{whole}
use Rattle.desk_lines.specs.Lines.{object_in, receipt_of, receipt_body}
use Rattle.desk_routes.specs.Asking.{FitsAsk, of_line}

from_number : (s : Bytes) (read : Result ℕ LineProperty) (asked : Asked) → then_read read (λ n. Ok (line.Receipt s n)) ≡ Ok asked → FitsAsk (of_line asked)
from_number s (Ok n) asked e = let same : line.Receipt s n ≡ asked = cc in subst (λ (a : Asked). FitsAsk (of_line a)) same tt
from_number s (Err p) asked e = absurd cc

from_object : (s : Bytes) (object : Result Data LineProperty) (asked : Asked) → then_read object (receipt_of s) ≡ Ok asked → FitsAsk (of_line asked)
unfolding receipt_of
from_object s (Ok d) asked e = from_number s (needs the.N (whole 4294967295) d) asked e
from_object s (Err p) asked e = absurd cc

pub receipt_fits : (s : Bytes) (bytes : List ℕ) (asked : Asked) → receipt_body s bytes ≡ Ok asked → FitsAsk (of_line asked)
receipt_fits s bytes asked e = from_object s (object_in bytes) asked e
