-- The formats of record lines and of their replies.
use Rattle.std.specs.Prelude.{ℕ, List, length, Option, Result, ⊤, codes}
use Rattle.std.specs.Result.{result_ok}
use Rattle.news_types.specs.Names.{Bytes}
use Rattle.byte_formats.specs.Format.{Format, chain, pair, made, free}
use Rattle.byte_formats.specs.Until.{numeral, literal}
use Rattle.byte_formats.specs.Gives.{all_of}
use Rattle.record_lines.specs.declared.record.Heading.{Heading}
use Rattle.record_lines.specs.Spelling.{Numbered, record_bytes, kept_bytes}

-- ---- record lines

-- the fields of the first line
abbrev pub heading_fields : Format (⊤ × (ℕ × ℕ))
heading_fields = pair (literal (codes "RECORD ")) (pair (numeral 32 1 281474976710655) (numeral 10 1 4194304))

abbrev pub heading_from : ⊤ × (ℕ × ℕ) → Heading
heading_from x = record { number = x.1.0; length = x.1.1 }

abbrev pub fields_of : Heading → ⊤ × (ℕ × ℕ)
fields_of h = (tt, (h.number, h.length))

unfoldable pub heading_at : List ℕ → Result (Heading × List ℕ) ℕ
heading_at = (made heading_fields heading_from (λ h. heading_fields.spell (fields_of h))).read

abbrev pub heading : Format Heading
heading = record { spell = λ h. heading_fields.spell (fields_of h); read = heading_at }

abbrev pub heading_of : Numbered → Heading
heading_of r = record { number = r.number; length = length r.payload }

abbrev pub record_from : Heading → Bytes → Numbered
record_from h payload = record { number = h.number; payload = payload }

-- the payload, once the first line is read
abbrev pub payload_by : Heading → Format Numbered
payload_by h = made (free h.length) (record_from h) (λ r. r.payload)

unfoldable pub read_record_at : List ℕ → Result (Numbered × List ℕ) ℕ
read_record_at = (chain heading payload_by heading_of).read

abbrev pub record_line : Format Numbered
record_line = record { spell = record_bytes; read = read_record_at }

-- ---- replies

abbrev pub kept_fields : Format (⊤ × ℕ)
kept_fields = pair (literal (codes "KEPT ")) (numeral 10 0 18446744073709551615)

unfoldable pub kept_at : List ℕ → Result (ℕ × List ℕ) ℕ
kept_at = (made kept_fields (λ x. x.1) kept_bytes).read

abbrev pub kept : Format ℕ
kept = record { spell = kept_bytes; read = kept_at }

-- the count that a line says, all of it
abbrev pub kept_of : Bytes → Option ℕ
kept_of line = result_ok (all_of kept line)
