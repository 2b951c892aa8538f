-- The formats of frames and receipts.
use Rattle.std.specs.Prelude.{ℕ, List, length, Option, Result, ⊤, codes}
use Rattle.std.specs.Result.{result_ok}
use Rattle.news_types.specs.Names.{Bytes}
use Rattle.news_types.specs.Frames.{Frame}
use Rattle.byte_formats.specs.Format.{Format, chain, pair, made, free}
use Rattle.byte_formats.specs.Until.{word, numeral, literal}
use Rattle.byte_formats.specs.Gives.{all_of}
use Rattle.feed_receiver.specs.declared.frame.Heading.{Heading}
use Rattle.feed_receiver.specs.Spelling.{frame_bytes, receipt_bytes}

-- ---- frames

-- the fields of a frame's first line
abbrev pub heading_fields : Format (⊤ × (Bytes × (ℕ × ℕ)))
heading_fields = pair (literal (codes "FRAME ")) (pair word (pair (numeral 32 1 4294967295) (numeral 10 0 4194240)))

abbrev pub heading_from : ⊤ × (Bytes × (ℕ × ℕ)) → Heading
heading_from x = record { to = x.1.0; k = x.1.1.0; length = x.1.1.1 }

abbrev pub fields_of : Heading → ⊤ × (Bytes × (ℕ × ℕ))
fields_of h = (tt, (h.to, (h.k, h.length)))

unfoldable pub heading_at : List ℕ → Result (Heading × List ℕ) ℕ
heading_at = (made heading_fields heading_from (λ h. heading_fields.spell (fields_of h))).read

abbrev pub heading : Format Heading
heading = record { spell = λ h. heading_fields.spell (fields_of h); read = heading_at }

abbrev pub heading_of : Frame → Heading
heading_of f = record { to = f.to; k = f.k; length = length f.payload }

abbrev pub frame_from : Heading → Bytes → Frame
frame_from h payload = record { to = h.to; k = h.k; payload = payload }

-- the frame's payload, once its first line is read
abbrev pub payload_by : Heading → Format Frame
payload_by h = made (free h.length) (frame_from h) (λ f. f.payload)

unfoldable pub read_frame_at : List ℕ → Result (Frame × List ℕ) ℕ
read_frame_at = (chain heading payload_by heading_of).read

abbrev pub frame : Format Frame
frame = record { spell = frame_bytes; read = read_frame_at }

-- ---- receipts

abbrev pub receipt_fields : Format (⊤ × (Bytes × ℕ))
receipt_fields = pair (literal (codes "RECEIPT ")) (pair word (numeral 10 0 4294967295))

unfoldable pub receipt_at : List ℕ → Result ((Bytes × ℕ) × List ℕ) ℕ
receipt_at = (made receipt_fields (λ x. x.1) (λ r. receipt_bytes r.0 r.1)).read

abbrev pub receipt : Format (Bytes × ℕ)
receipt = record { spell = λ r. receipt_bytes r.0 r.1; read = receipt_at }

-- the receipt that a line is, all of it
abbrev pub receipt_of : Bytes → Option (Bytes × ℕ)
receipt_of line = result_ok (all_of receipt line)
