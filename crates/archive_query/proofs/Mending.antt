-- Texts that are folded in place, a piece at a time.
use Rattle.std.proofs.Common.{◌≡◌, ◌∙◌, ◌++◌, ◌<◌, ◌≤◌, ◌+◌, ◌-◌, ℕ, [], ◌∷◌, map, length, take, drop, slice_index, true, encode_utf8, encode_utf8_all, IsUtf8, refl, sym, ap, ap₂, subst, arith, append_assoc, length-append, length-take, length-drop, append-nil}
use Rattle.std.proofs.lemmas.List.{length-map, map-append, take_at, drop_at, take-append-drop, drop_all, take_all}
use lib.Seq.{take-append-add, drop-append-add}
use Rattle.std.specs.Char.{to_ascii_lowercase, len_utf8}
use Rattle.std.proofs.lemmas.Str.{length-encode}
use Rattle.ucd_case.specs.CaseFolding.{full_fold}
use Rattle.news_types.specs.Names.{Bytes}
use Rattle.news_types.specs.Conditions.{folded}
use Rattle.archive_query.specs.Near.{IsMended, is_capital, stays}
use Rattle.archive_query.proofs.Letters.{capital_folds, capital_width, sharp_folds, stays_folds}
use Rattle.archive_query.proofs.Folding.{front_folded, first_folded}

-- a text whose front is mended
mended_piece : (text front rest bytes now : Bytes) → text ≡ front ++ rest → bytes ≡ now ++ map to_ascii_lowercase rest → length now ≡ length front → folded text ≡ now ++ folded rest
    → IsMended text bytes rest
mended_piece text front rest bytes now text_is bytes_is same folded_is =
    let whole = ap length text_is ∙ length-append front rest in
    let place : length text - length rest ≡ length front = omega (arith, whole) in
    record {
      within = omega (arith, whole);
      same_length = omega (arith, whole, same, ap length bytes_is, length-append now (map to_ascii_lowercase rest), length-map rest to_ascii_lowercase);
      folded_before = ap (λ (n : ℕ). take n bytes ++ folded rest) place ∙ ap (λ (l : Bytes). take (length front) l ++ folded rest) bytes_is
          ∙ ap (λ (l : Bytes). l ++ folded rest) (take_at now (map to_ascii_lowercase rest) (length front) same) ∙ sym folded_is;
      lower_behind = ap (λ (n : ℕ). drop n bytes) place ∙ ap (drop (length front)) bytes_is ∙ drop_at now (map to_ascii_lowercase rest) (length front) same;
    }

-- nothing of it yet
pub mended_none : (text bytes : Bytes) → bytes ≡ map to_ascii_lowercase text → IsMended text bytes text
mended_none text bytes is = mended_piece text [] text bytes [] refl is refl refl

-- the ASCII at the front
pub mended_ascii : (text bytes : Bytes) (n : ℕ) → n ≤ length text → ((k : ℕ) → k < n → slice_index text k < 128) → bytes ≡ map to_ascii_lowercase text → IsMended text bytes (drop n text)
mended_ascii text bytes n fits small is =
    mended_piece text (take n text) (drop n text) bytes (map to_ascii_lowercase (take n text)) (sym (take-append-drop n text))
    (is ∙ ap (map to_ascii_lowercase) (sym (take-append-drop n text)) ∙ map-append to_ascii_lowercase (take n text) (drop n text))
    (length-map (take n text) to_ascii_lowercase) (front_folded text n fits small)

-- and then more
pub mended_on : (text bytes rest more last : Bytes) (at : ℕ) → at ≡ length text - length rest → IsMended text bytes rest → IsMended rest more last → IsMended text (take at bytes ++ more) last
mended_on text bytes rest more last at at_is was next =
    let cut : length (take at bytes) ≡ at = omega (arith, at_is, length-take at bytes, was.within, was.same_length) in
    let place : length text - length last ≡ length (take at bytes) + (length rest - length last) = omega (arith, cut, at_is, was.within, next.within) in
    record {
      within = omega (arith, was.within, next.within);
      same_length = omega (arith, length-append (take at bytes) more, cut, at_is, next.same_length, was.within);
      folded_before = ap (λ (n : ℕ). take n (take at bytes ++ more) ++ folded last) place
          ∙ ap (λ (l : Bytes). l ++ folded last) (take-append-add (take at bytes) more (length rest - length last))
          ∙ append_assoc (take at bytes) (take (length rest - length last) more) (folded last) ∙ ap (λ (l : Bytes). take at bytes ++ l) next.folded_before
          ∙ ap (λ (n : ℕ). take n bytes ++ folded rest) at_is ∙ was.folded_before;
      lower_behind = ap (λ (n : ℕ). drop n (take at bytes ++ more)) place ∙ drop-append-add (take at bytes) more (length rest - length last) ∙ next.lower_behind;
    }

-- it has the bytes of its first character
pub first_long : (text rest bytes : Bytes) (c : ℕ) → text ≡ encode_utf8 c ++ rest → bytes ≡ map to_ascii_lowercase text → len_utf8 c ≤ length bytes
first_long text rest bytes c text_is bytes_is =
    omega (arith, ap length bytes_is, length-map text to_ascii_lowercase, ap length text_is, length-append (encode_utf8 c) rest, length-encode c)

-- a character
pub mended_first : (text rest bytes now : Bytes) (c : ℕ) → IsUtf8 text → text ≡ encode_utf8 c ++ rest → bytes ≡ map to_ascii_lowercase text → length now ≡ length bytes
    → now ≡ encode_utf8_all (full_fold c) ++ drop (len_utf8 c) bytes → IsMended text now rest
mended_first text rest bytes now c utf8 text_is bytes_is same now_is =
    let split : bytes ≡ map to_ascii_lowercase (encode_utf8 c) ++ map to_ascii_lowercase rest = bytes_is ∙ ap (map to_ascii_lowercase) text_is ∙ map-append to_ascii_lowercase (encode_utf8 c) rest in
    let whole = length-append (encode_utf8_all (full_fold c)) (drop (len_utf8 c) bytes) in
    let long = first_long text rest bytes c text_is bytes_is in
    let as_long : length (encode_utf8_all (full_fold c)) ≡ length (encode_utf8 c) =
    omega (arith, same, ap length now_is, whole, length-drop (len_utf8 c) bytes, length-encode c, long) in
    mended_piece text (encode_utf8 c) rest now (encode_utf8_all (full_fold c)) text_is
    (now_is ∙ ap (λ (l : Bytes). encode_utf8_all (full_fold c) ++ l) (ap (drop (len_utf8 c)) split
    ∙ drop_at (map to_ascii_lowercase (encode_utf8 c)) (map to_ascii_lowercase rest) (len_utf8 c) (length-map (encode_utf8 c) to_ascii_lowercase ∙ length-encode c)))
    as_long (first_folded text rest c utf8 text_is)

-- the bytes of a character, in lower case by ASCII's rules
pub first_lower : (text rest bytes : Bytes) (c : ℕ) → text ≡ encode_utf8 c ++ rest → bytes ≡ map to_ascii_lowercase text → take (len_utf8 c) bytes ≡ map to_ascii_lowercase (encode_utf8 c)
first_lower text rest bytes c text_is bytes_is =
    ap (take (len_utf8 c)) (bytes_is ∙ ap (map to_ascii_lowercase) text_is ∙ map-append to_ascii_lowercase (encode_utf8 c) rest)
    ∙ take_at (map to_ascii_lowercase (encode_utf8 c)) (map to_ascii_lowercase rest) (len_utf8 c) (length-map (encode_utf8 c) to_ascii_lowercase ∙ length-encode c)

-- ---- a part of the bytes

-- the part from a place on
pub part_is : (bytes : Bytes) (at : ℕ) → take (length bytes - at) (drop at bytes) ≡ drop at bytes
part_is bytes at = take_all (length bytes - at) (drop at bytes) (omega (arith, length-drop at bytes))

-- it is put back
pub put_back : (text bytes rest more last : Bytes) (at : ℕ) → at ≡ length text - length rest → IsMended text bytes rest → IsMended rest more last
    → IsMended text (take at bytes ++ (more ++ drop (length bytes - at) (drop at bytes))) last
put_back text bytes rest more last at at_is was next =
    let none = drop_all (length bytes - at) (drop at bytes) (omega (arith, length-drop at bytes)) in
    subst (λ (l : Bytes). IsMended text (take at bytes ++ l) last) (sym (ap (λ (l : Bytes). more ++ l) none ∙ append-nil more)) (mended_on text bytes rest more last at at_is was next)

-- ---- the characters

pub capital_over : (bytes now : Bytes) (c : ℕ) → is_capital c ≡ true → now ≡ 195 ∷ (c - 32) ∷ drop 2 bytes → now ≡ encode_utf8_all (full_fold c) ++ drop (len_utf8 c) bytes
capital_over bytes now c is now_is =
    now_is ∙ ap₂ (λ (l : Bytes) (n : ℕ). l ++ drop n bytes) (sym (capital_folds c is)) (sym (capital_width c is))

pub sharp_over : (bytes now : Bytes) (c : ℕ) → c ≡ 223 → now ≡ 115 ∷ 115 ∷ drop 2 bytes → now ≡ encode_utf8_all (full_fold c) ++ drop (len_utf8 c) bytes
sharp_over bytes now c is now_is =
    subst (λ (d : ℕ). now ≡ encode_utf8_all (full_fold d) ++ drop (len_utf8 d) bytes) (sym is) (now_is ∙ ap (λ (l : Bytes). l ++ drop 2 bytes) (sym sharp_folds))

pub stays_over : (bytes : Bytes) (c : ℕ) → stays c ≡ true → take (len_utf8 c) bytes ≡ map to_ascii_lowercase (encode_utf8 c) → bytes ≡ encode_utf8_all (full_fold c) ++ drop (len_utf8 c) bytes
stays_over bytes c is lower = sym (take-append-drop (len_utf8 c) bytes) ∙ ap (λ (l : Bytes). l ++ drop (len_utf8 c) bytes) (lower ∙ sym (stays_folds c is))

-- ---- behind other bytes

-- the mended bytes behind others, cut where the rest begins
pub cut_behind : (was text items slice into rest final : Bytes) (start len cut : ℕ) → slice ≡ items → items ≡ was ++ map to_ascii_lowercase text → start ≡ length was → len ≡ length items → cut ≡ len - length rest
    → IsMended text into rest
    → final ≡ take cut (take len ((take start slice ++ (into ++ drop (length slice - start) (drop start slice))) ++ drop (length (take start slice ++ (into ++ drop (length slice - start) (drop start slice)))) items))
    → final ++ folded rest ≡ was ++ folded text
cut_behind was text items slice into rest final start len cut slice_is items_is start_is len_is cut_is mended final_is =
    let front : take start slice ≡ was = ap (take start) (slice_is ∙ items_is) ∙ take_at was (map to_ascii_lowercase text) start (sym start_is) in
    let none = drop_all (length slice - start) (drop start slice) (omega (arith, length-drop start slice)) in
    let part : take start slice ++ (into ++ drop (length slice - start) (drop start slice)) ≡ was ++ into =
    ap₂ (λ (l r : Bytes). l ++ (into ++ r)) front none ∙ ap (λ (l : Bytes). was ++ l) (append-nil into) in
    let length_was : length (was ++ into) ≡ length items =
    omega (arith, length-append was into, ap length items_is, length-append was (map to_ascii_lowercase text), length-map text to_ascii_lowercase, mended.same_length) in
    let all = ap (λ (l : Bytes). l ++ drop (length l) items) part ∙ ap (λ (l : Bytes). (was ++ into) ++ l) (drop_all (length (was ++ into)) items (omega (arith, length_was))) ∙ append-nil (was ++ into) in
    let place : cut ≡ length was + (length text - length rest) =
    omega (arith, cut_is, len_is, ap length items_is, length-append was (map to_ascii_lowercase text), length-map text to_ascii_lowercase, mended.within) in
    let is : final ≡ was ++ take (length text - length rest) into =
    final_is ∙ ap (λ (l : Bytes). take cut (take len l)) all ∙ ap (take cut) (take_all len (was ++ into) (omega (arith, length_was, len_is)))
    ∙ ap (λ (n : ℕ). take n (was ++ into)) place ∙ take-append-add was into (length text - length rest) in
    ap (λ (l : Bytes). l ++ folded rest) is ∙ append_assoc was (take (length text - length rest) into) (folded rest) ∙ ap (λ (l : Bytes). was ++ l) mended.folded_before
