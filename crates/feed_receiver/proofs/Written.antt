-- Frames and receipts keep the laws of formats.
use Rattle.std.proofs.Common.{◌≡◌, ℕ, ◌≤◌, ◌+◌, List, [], ◌∷◌, ◌++◌, length, refl, sym, ap, arith, append_assoc, length-append}
use Rattle.std.specs.Prelude.{⊤, codes, decimal}
use Rattle.std.proofs.lemmas.Fmt.{length-decimal-le}
use Rattle.news_types.specs.Names.{Bytes}
use Rattle.news_types.specs.Frames.{Frame}
use Rattle.byte_formats.specs.Format.{pair, chain, free}
use Rattle.byte_formats.specs.Until.{word, numeral, literal}
use Rattle.byte_formats.specs.Lawful.{IsBytes, Lawful}
use Rattle.byte_formats.specs.Spelling.{IsName}
use Rattle.byte_formats.proofs.Laws.{via, chain_lawful}
use Rattle.byte_formats.proofs.Fields.{pair_lawful}
use Rattle.byte_formats.proofs.Numbers.{free_lawful}
use Rattle.byte_formats.proofs.Options.{read_again}
use Rattle.byte_formats.proofs.Names.{name_parts}
use Rattle.byte_formats.proofs.Words.{word_lawful, literal_lawful}
use Rattle.byte_formats.proofs.Numerals.{numeral_lawful}
use Rattle.feed_receiver.specs.declared.frame.Heading.{Heading}
use Rattle.feed_receiver.specs.Spelling.{frame_bytes, IsFrame, IsReceipt}
use Rattle.feed_receiver.specs.Formats.{heading_fields, heading_from, fields_of, heading_at, heading, heading_of, frame_from, payload_by, read_frame_at, frame, receipt_fields, receipt_at, receipt}

-- ---- the first line of a frame

frame_word : IsBytes (codes "FRAME ")
frame_word = (omega arith, (omega arith, (omega arith, (omega arith, (omega arith, (omega arith, tt))))))

abbrev Anything : ⊤ → Type 0
Anything _ = Unit {0}

abbrev IsNumber : ℕ → Type 0
IsNumber k = (1 ≤ k) × (k ≤ 4294967295)

abbrev IsSize : ℕ → Type 0
IsSize n = (0 ≤ n) × (n ≤ 4194240)

abbrev AreFields : ⊤ × (Bytes × (ℕ × ℕ)) → Type 0
AreFields x = Anything x.0 × (IsName x.1.0 × (IsNumber x.1.1.0 × IsSize x.1.1.1))

fields_lawful : Lawful heading_fields AreFields
fields_lawful =
    pair_lawful (literal (codes "FRAME ")) Anything (pair word (pair (numeral 32 1 4294967295) (numeral 10 0 4194240))) (λ x. IsName x.0 × (IsNumber x.1.0 × IsSize x.1.1))
    (literal_lawful (codes "FRAME ") frame_word)
    (pair_lawful word IsName (pair (numeral 32 1 4294967295) (numeral 10 0 4194240)) (λ x. IsNumber x.0 × IsSize x.1)
    word_lawful
    (pair_lawful (numeral 32 1 4294967295) IsNumber (numeral 10 0 4194240) IsSize
    (numeral_lawful 32 1 4294967295 (omega arith) (omega arith) (omega arith) (omega arith))
    (numeral_lawful 10 0 4194240 (omega arith) (omega arith) (omega arith) (omega arith))))

abbrev IsHeading : Heading → Type 0
IsHeading h = IsName h.to × (IsNumber h.k × IsSize h.length)

heading_lawful : Lawful heading IsHeading
unfolding heading_at
heading_lawful = via heading_fields AreFields heading IsHeading heading_from fields_lawful (λ bytes. refl) (λ a p. (p.1, refl)) (λ h p. (fields_of h, (tt, p), refl))

-- ---- the payload behind it

abbrev IsBehind : Heading → Frame → Type 0
IsBehind h f = (heading_of f ≡ h) × IsBytes f.payload

abbrev sized : Heading → ℕ → Heading
sized h n = record { to = h.to; k = h.k; length = n }

payload_lawful : (h : Heading) → Lawful (payload_by h) (IsBehind h)
payload_lawful h =
    via (free h.length) (λ x. (length x ≡ h.length) × IsBytes x) (payload_by h) (IsBehind h) (frame_from h) (free_lawful h.length) (λ bytes. refl)
    (λ x p. ((ap (sized h) p.0, p.1), refl))
    (λ f q. (f.payload, (ap (λ (z : Heading). z.length) q.0, q.1), ap (λ (z : Heading). frame_from z f.payload) (sym q.0)))

-- ---- frames

frame_is : (w t k n p : List ℕ) → w ++ (t ++ 32 ∷ (k ++ 32 ∷ (n ++ 10 ∷ p))) ≡ (w ++ ((t ++ 32 ∷ []) ++ ((k ++ 32 ∷ []) ++ (n ++ 10 ∷ [])))) ++ p
frame_is w t k n p = simp append_assoc

abbrev ByParts : Frame → Type 0
ByParts f = IsHeading (heading_of f) × IsBehind (heading_of f) f

pub frame_lawful : Lawful frame IsFrame
unfolding read_frame_at
frame_lawful =
    via (chain heading payload_by heading_of) ByParts frame IsFrame (λ f. f)
    (chain_lawful heading IsHeading payload_by IsBehind heading_of heading_lawful (λ h p. payload_lawful h) (λ h f p q. q.0))
    (λ bytes. read_again ((chain heading payload_by heading_of).read bytes))
    (λ f p. (record { to = p.0.0; first = p.0.1.0.0; last = p.0.1.0.1; fits = p.0.1.1.1; bytes = p.1.1 }, frame_is (codes "FRAME ") f.to (decimal f.k) (decimal (length f.payload)) f.payload))
    (λ f r. (f, ((r.to, ((r.first, r.last), (omega arith, r.fits))), (refl, r.bytes)), refl))

six_more : (w t k n p : List ℕ) → length (w ++ (t ++ 32 ∷ (k ++ 32 ∷ (n ++ 10 ∷ p)))) ≡ length w + length t + length k + length n + length p + 3
six_more w t k n p = simp length-append (omega arith)

-- a frame is within the limit of records
pub frame_length : (f : Frame) → IsFrame f → length (frame_bytes f) ≤ 4194298
frame_length f r =
    let all = six_more (codes "FRAME ") f.to (decimal f.k) (decimal (length f.payload)) f.payload in
    let number = length-decimal-le 10 f.k (omega arith) (omega (arith, r.last)) (omega (arith, r.last)) in
    let size = length-decimal-le 7 (length f.payload) (omega arith) (omega (arith, r.fits)) (omega (arith, r.fits)) in
    omega (arith, all, number, size, (name_parts f.to r.to).1, r.fits)

-- ---- receipts

receipt_word : IsBytes (codes "RECEIPT ")
receipt_word = (omega arith, (omega arith, (omega arith, (omega arith, (omega arith, (omega arith, (omega arith, (omega arith, tt))))))))

abbrev IsCount : ℕ → Type 0
IsCount n = (0 ≤ n) × (n ≤ 4294967295)

abbrev AreReceiptFields : ⊤ × (Bytes × ℕ) → Type 0
AreReceiptFields x = Anything x.0 × (IsName x.1.0 × IsCount x.1.1)

receipt_fields_lawful : Lawful receipt_fields AreReceiptFields
receipt_fields_lawful =
    pair_lawful (literal (codes "RECEIPT ")) Anything (pair word (numeral 10 0 4294967295)) (λ x. IsName x.0 × IsCount x.1)
    (literal_lawful (codes "RECEIPT ") receipt_word)
    (pair_lawful word IsName (numeral 10 0 4294967295) IsCount word_lawful (numeral_lawful 10 0 4294967295 (omega arith) (omega arith) (omega arith) (omega arith)))

receipt_is : (w t n : List ℕ) → w ++ (t ++ 32 ∷ (n ++ 10 ∷ [])) ≡ w ++ ((t ++ 32 ∷ []) ++ (n ++ 10 ∷ []))
receipt_is w t n = simp append_assoc

abbrev pub IsWhole : Bytes × ℕ → Type 0
IsWhole r = IsReceipt r.0 r.1

pub receipt_lawful : Lawful receipt IsWhole
unfolding receipt_at
receipt_lawful =
    via receipt_fields AreReceiptFields receipt IsWhole (λ x. x.1) receipt_fields_lawful (λ bytes. refl)
    (λ a p. ((p.1.0, p.1.1.1), receipt_is (codes "RECEIPT ") a.1.0 (decimal a.1.1)))
    (λ r p. ((tt, r), (tt, (p.0, (omega arith, p.1))), refl))
