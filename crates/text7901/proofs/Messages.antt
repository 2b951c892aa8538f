-- How long a written message is.
use Rattle.std.proofs.Common.{◌≡◌, ℕ, zero, suc, ◌+◌, ◌*◌, ◌-◌, ◌<◌, ◌≤◌, ◌^◌, Bool, true, false, cond, ◌==◌, List, [], ◌∷◌, ◌++◌, length, map, codes, decimal, replicate, arith}
use Rattle.std.proofs.lemmas.Fmt.{length-decimal-le}
use Rattle.std.proofs.lemmas.List.{length-append}
use Rattle.std.proofs.lemmas.List.Sums.{length-filter, count_by-le-length}
use Rattle.std.specs.List.{flat_map, filter}
use Rattle.std.specs.Str.{chars, chars_after, continuation_len, lead_bits}
use Rattle.news_types.specs.declared.words.Kind.{Kind}
use Rattle.news_types.specs.declared.words.Kind.TheVariants.{First, Correct, Kill, Recall}
use Rattle.news_types.specs.declared.story.Story.{Story}
use Rattle.news_types.specs.declared.query.Publication.{Publication}
use Rattle.news_types.specs.Fits.{FitsStory}
use Rattle.text7901.specs.Fields.{letter}
use Rattle.text7901.specs.Written.{wire_byte, line_byte, body_bytes, line_text, body_text, padded, urgency_text, or_none, category_text, word_count, kind_word, header, head_part, text_part, released, end_part, written}

-- ---- characters

chars_after_most : (n c : ℕ) (bytes : List ℕ) → length (chars_after n c bytes) ≤ length bytes + 1
chars_after_most zero c [] = omega arith
chars_after_most zero c (b ∷ bytes) = omega (arith, chars_after_most (continuation_len b) (lead_bits b) bytes)
chars_after_most (suc n) c [] = omega arith
chars_after_most (suc n) c (b ∷ bytes) = omega (arith, chars_after_most n (c * 64 + (b - 128)) bytes)

chars_most : (bytes : List ℕ) → length (chars bytes) ≤ length bytes
unfolding chars
chars_most [] = omega arith
chars_most (b ∷ bytes) = omega (arith, chars_after_most (continuation_len b) (lead_bits b) bytes)

line_most : (text : List ℕ) → length (line_text text) ≤ length text
unfolding line_text
line_most text = omega (arith, chars_most text, mapped_length (chars text))
  where
    mapped_length : (cs : List ℕ) → length (map line_byte cs) ≡ length cs
    mapped_length [] = omega arith
    mapped_length (c ∷ cs) = omega (arith, mapped_length cs)

cond_most : (b : Bool) (xs ys : List ℕ) (n : ℕ) → length xs ≤ n → length ys ≤ n → length (cond b xs ys) ≤ n
cond_most true xs ys n x y = x
cond_most false xs ys n x y = y

character_most : (c : ℕ) → length (body_bytes c) ≤ 2
character_most c = cond_most (c == 13) [] _ 2 (omega arith) (cond_most (c == 10) _ (wire_byte c ∷ []) 2 (omega arith) (omega arith))

characters_most : (cs : List ℕ) → length (flat_map body_bytes cs) ≤ 2 * length cs
characters_most [] = omega arith
characters_most (c ∷ cs) = omega (arith, length-append (body_bytes c) (flat_map body_bytes cs), character_most c, characters_most cs)

body_most : (text : List ℕ) → length (body_text text) ≤ 2 * length text
unfolding body_text
body_most text = omega (arith, chars_most text, characters_most (chars text))

-- ---- the header line

padded_most : (n : ℕ) → n < 2 ^ 32 → length (padded n) ≤ 14
padded_most n below =
    let zeros : List ℕ = replicate (4 - length (decimal n)) 48 in
    omega (arith, length-append zeros (decimal n), zeros_length (4 - length (decimal n)), length-decimal-le 10 n (omega arith) (omega arith) (omega arith))
  where
    zeros_length : (k : ℕ) → length {A = ℕ} (replicate k 48) ≡ k
    zeros_length zero = omega arith
    zeros_length (suc k) = omega (arith, zeros_length k)

urgency_most : (n : ℕ) → n ≤ 9 → length (urgency_text n) ≤ 1
urgency_most n few = by_number (n == 0)
  where
    by_number : (none : Bool) → length (decimal (cond none 5 n)) ≤ 1
    by_number true = length-decimal-le 1 5 (omega arith) (omega arith) (omega arith)
    by_number false = length-decimal-le 1 n (omega arith) (omega arith) (omega arith)

or_none_most : (letters : List ℕ) → length (or_none letters) ≤ length letters + 1
or_none_most [] = omega arith
or_none_most (b ∷ letters) = omega arith

category_most : (category : List ℕ) → length (category_text category) ≤ length category + 1
category_most category = omega (arith, or_none_most (filter letter category), length-filter letter category, count_by-le-length letter category)

words_most : (body : List ℕ) → length (decimal (word_count body)) ≤ 5
words_most body = length-decimal-le 5 (word_count body) (omega arith) (omega arith) (omega arith)

kind_most : (kind : Kind) → length (kind_word kind) ≤ 10
kind_most First = omega arith
kind_most Correct = omega arith
kind_most Kill = omega arith
kind_most Recall = omega arith

joined_most : (a b c d e : List ℕ) → length (codes "NWS" ++ a ++ codes " " ++ b ++ codes " " ++ c ++ codes " " ++ d ++ codes " " ++ e) ≤ 7 + length a + length b + length c + length d + length e
joined_most a b c d e = simp (length-append {A = ℕ}) (omega arith)

header_most : (p : Publication) → FitsStory p.story → p.number < 2 ^ 32 → length (header p) ≤ 50
unfolding header
header_most p fits below =
    omega (
      arith,
      joined_most (padded p.number) (urgency_text p.story.urgency) (category_text p.story.category) (decimal (word_count p.story.body)) (kind_word p.kind),
      padded_most p.number below,
      urgency_most p.story.urgency fits.urgency,
      category_most p.story.category,
      fits.category,
      words_most p.story.body,
      kind_most p.kind,
    )

-- ---- the whole

head_most : (p : Publication) → FitsStory p.story → p.number < 2 ^ 32 → length (head_part p) ≤ 600
unfolding head_part
head_most p fits below = simp (length-append {A = ℕ}) (omega (arith, header_most p fits below, line_most p.story.slugline, fits.slugline))

text_most : (s : Story) → FitsStory s → length (text_part s) ≤ 1_100_000
unfolding text_part
text_most s fits = simp (length-append {A = ℕ}) (omega (arith, line_most s.headline, fits.headline, body_most s.body, fits.body))

end_most : (release : ℕ) → length (end_part release) ≤ 22
unfolding end_part released
end_most release = omega arith

-- a message of a story within the limits leaves room for a frame
pub written_most : (p : Publication) → FitsStory p.story → p.number < 2 ^ 32 → length (written p) ≤ 4_194_240
written_most p fits below = simp (length-append {A = ℕ}) (omega (arith, head_most p fits below, text_most p.story fits, end_most p.release))
