-- Frames of one spelling have one name and one number, however long their payloads are.
use Rattle.std.proofs.Common.{◌≡◌, ◌≤◌, ℕ, List, [], ◌∷◌, ◌++◌, length, sym, ap, ◌∙◌, arith, append_assoc}
use Rattle.std.specs.Prelude.{⊤, codes, decimal}
use Rattle.news_types.specs.Names.{Bytes}
use Rattle.news_types.specs.Frames.{Frame, frame_bytes}
use Rattle.byte_formats.specs.Format.{Format, pair}
use Rattle.byte_formats.specs.Until.{word, numeral, literal}
use Rattle.byte_formats.specs.Lawful.{IsBytes, Lawful}
use Rattle.byte_formats.specs.Spelling.{IsName}
use Rattle.byte_formats.proofs.Laws.{ok_is}
use Rattle.byte_formats.proofs.Fields.{pair_lawful}
use Rattle.byte_formats.proofs.Words.{word_lawful, literal_lawful}
use Rattle.byte_formats.proofs.Numerals.{numeral_lawful}
use Rattle.feed_receiver.specs.Spelling.{receipt_bytes}

frame_word : IsBytes (codes "FRAME ")
frame_word = (omega arith, (omega arith, (omega arith, (omega arith, (omega arith, (omega arith, tt))))))

abbrev Anything : ⊤ → Type 0
Anything _ = Unit {0}

abbrev IsNumber : ℕ → Type 0
IsNumber k = (1 ≤ k) × (k ≤ 4294967295)

-- the word, the name and the number
abbrev front : Format (⊤ × (Bytes × ℕ))
front = pair (literal (codes "FRAME ")) (pair word (numeral 32 1 4294967295))

front_lawful : Lawful front (λ x. Anything x.0 × (IsName x.1.0 × IsNumber x.1.1))
front_lawful =
    pair_lawful (literal (codes "FRAME ")) Anything (pair word (numeral 32 1 4294967295)) (λ x. IsName x.0 × IsNumber x.1)
    (literal_lawful (codes "FRAME ") frame_word)
    (pair_lawful word IsName (numeral 32 1 4294967295) IsNumber word_lawful (numeral_lawful 32 1 4294967295 (omega arith) (omega arith) (omega arith) (omega arith)))

front_is : (w t k rest : List ℕ) → w ++ (t ++ 32 ∷ (k ++ 32 ∷ rest)) ≡ (w ++ ((t ++ 32 ∷ []) ++ (k ++ 32 ∷ []))) ++ rest
front_is w t k rest = simp append_assoc

abbrev fields_of : Frame → ⊤ × (Bytes × ℕ)
fields_of f = (tt, (f.to, f.k))

abbrev behind : Frame → Bytes
behind f = decimal (length f.payload) ++ (10 ∷ [] ++ f.payload)

spelled : (f : Frame) → frame_bytes f ≡ front.spell (fields_of f) ++ behind f
spelled f = front_is (codes "FRAME ") f.to (decimal f.k) (behind f)

pub record HasHeading (f : Frame) : Type 0 where
  pub name : IsName f.to
  pub first : 1 ≤ f.k
  pub last : f.k ≤ 4294967295

pub one_heading : (f g : Frame) → HasHeading f → HasHeading g → frame_bytes f ≡ frame_bytes g → (f.to ≡ g.to) × (f.k ≡ g.k)
one_heading f g p q same =
    let one = front_lawful.again (fields_of f) (behind f) (tt, (p.name, (p.first, p.last))) in
    let two = front_lawful.again (fields_of g) (behind g) (tt, (q.name, (q.first, q.last))) in
    let is = ok_is (fields_of f, behind f) (fields_of g, behind g) (sym one ∙ ap front.read (sym (spelled f) ∙ same ∙ spelled g) ∙ two) in
    (ap (λ (x : (⊤ × (Bytes × ℕ)) × Bytes). x.0.1.0) is, ap (λ (x : (⊤ × (Bytes × ℕ)) × Bytes). x.0.1.1) is)

-- a receipt has bytes
pub receipt_some : (s : Bytes) (n : ℕ) → [] ≡ receipt_bytes s n → ⊥
receipt_some s n is = none _ _ is
  where
    none : (b : ℕ) (bytes : Bytes) → [] ≡ b ∷ bytes → ⊥
    none b bytes is = cc
