-- Formats without one of their values.
use Rattle.std.specs.Prelude.{ℕ, suc, List, length, Bool, Result, Ok, Err, ◌==◌, if◌then◌else◌}
use Rattle.std.specs.Int.{Width}
use Rattle.byte_formats.specs.Spelling as spelled
use Rattle.byte_formats.specs.Spelling.{is_empty}
use Rattle.byte_formats.specs.Format.{Format, ◌>>=◌, upto}
use Rattle.byte_formats.specs.Fields.{text}

-- Without the values of which the test is true: the last byte of such a value is a fault.
abbrev pub except : {A : Type 0} → Format A → (A → Bool) → Format A
except F is_it = record {
  spell = F.spell;
  read = λ bytes. F.read bytes >>= λ x. if is_it x.0 then Err (suc (length x.1)) else Ok (x.0, x.1);
}

abbrev pub is_zero : ℕ → Bool
is_zero n = n == 0

-- a number of this width from 1 up to most
unfoldable pub from_one_at : Width → ℕ → List ℕ → Result (ℕ × List ℕ) ℕ
from_one_at w most = (except (upto w most) is_zero).read

abbrev pub from_one : Width → ℕ → Format ℕ
from_one w most = record { spell = (upto w most).spell; read = from_one_at w most }

-- a text of at least one byte, and at most so many
unfoldable pub some_text_at : ℕ → List ℕ → Result (List ℕ × List ℕ) ℕ
some_text_at limit = (except (text limit) is_empty).read

abbrev pub some_text : ℕ → Format (List ℕ)
some_text limit = record { spell = spelled.text; read = some_text_at limit }
