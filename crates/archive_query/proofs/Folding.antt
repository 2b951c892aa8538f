-- Texts without their case.
use Rattle.std.proofs.Common.{◌≡◌, ◌∙◌, ◌++◌, ◌<◌, ◌≤◌, ◌+◌, ℕ, zero, suc, List, [], ◌∷◌, map, length, take, drop, get_or, slice_index, All, IsAscii, IsUtf8, chars, encode_utf8, encode_utf8_all, refl, sym, ap, ap₂, subst, suc-le-suc, zero-le, arith, append-nil, append_assoc, length-take}
use Rattle.std.specs.Str.{IsCharBoundary}
use Rattle.std.proofs.Math.Numerals.{add-one}
use Rattle.std.proofs.lemmas.Bool.Decides.{nat_tests}
use Rattle.std.proofs.lemmas.List.{take-append-drop, take_more, get_or-take, nil_from_length}
use Rattle.std.proofs.lemmas.Str.{chars-nil, chars-IsAscii, chars-append, chars_past_char, encode_ascii, encodes-append, IsUtf8-from_ascii, IsCharBoundary-start, IsCharBoundary-after_ascii}
use Rattle.std.proofs.lemmas.Str.Ascii.{All-from_ascii, IsAscii-from_reads}
use Rattle.std.specs.Char.{to_ascii_lowercase}
use Rattle.ucd_case.specs.CaseFolding.{full_fold, full_folding}
use Rattle.caseless.specs.Caseless.{default_case_fold}
use Rattle.caseless.proofs.CaselessLemmas.{default_case_fold-nil, default_case_fold-cons, default_case_fold-append, default_case_fold-ascii, full_fold-none, full_fold-some}
use Rattle.news_types.specs.Names.{Bytes}
use Rattle.news_types.specs.Conditions.{folded}

lower_small : (c : ℕ) → c < 128 → to_ascii_lowercase c < 128
lower_small c h = grind (arith, nat_tests)

-- the bytes of letters in lower case are these themselves
lower_spelled : (text : List ℕ) → All (λ c. c < 128) text → encode_utf8_all (map to_ascii_lowercase text) ≡ map to_ascii_lowercase text
lower_spelled [] all = refl
lower_spelled (c ∷ text) all =
    ap₂ ◌++◌ (encode_ascii (to_ascii_lowercase c) (lower_small c (all zero 0 (suc-le-suc zero-le)))) (lower_spelled text (λ k d lt. all (suc k) d (suc-le-suc lt)))

pub lower_folded : (text : Bytes) → IsAscii text → map to_ascii_lowercase text ≡ folded text
unfolding folded
lower_folded text ascii =
    let small = All-from_ascii text ascii in
    sym (ap encode_utf8_all (ap default_case_fold (chars-IsAscii text ascii) ∙ default_case_fold-ascii text small) ∙ lower_spelled text small)

-- ---- text by text

pub folded_nil : folded [] ≡ []
unfolding folded
folded_nil = ap encode_utf8_all (ap default_case_fold chars-nil ∙ default_case_fold-nil)

pub folded_append : (xs ys : Bytes) → IsUtf8 xs → folded (xs ++ ys) ≡ folded xs ++ folded ys
unfolding folded
folded_append xs ys u =
    ap encode_utf8_all (ap default_case_fold (chars-append xs ys u) ∙ default_case_fold-append (chars xs) (chars ys))
    ∙ encodes-append (default_case_fold (chars xs)) (default_case_fold (chars ys))

-- ASCII at the front
front_ascii : (bs : Bytes) (n : ℕ) → n ≤ length bs → ((k : ℕ) → k < n → slice_index bs k < 128) → IsAscii (take n bs)
front_ascii bs n fits small = IsAscii-from_reads (take n bs) n (omega (arith, length-take n bs)) (λ k below. subst (λ (b : ℕ). b < 128) (sym (get_or-take n bs k 0 below)) (small k below))

pub front_boundary : (bs : Bytes) (n : ℕ) → IsUtf8 bs → n ≤ length bs → ((k : ℕ) → k < n → slice_index bs k < 128) → IsCharBoundary bs n
front_boundary bs zero text fits small = IsCharBoundary-start bs text
front_boundary bs (suc n) text fits small = subst (IsCharBoundary bs) (add-one n) (IsCharBoundary-after_ascii bs n text (omega arith) (small n (omega arith)))

pub front_folded : (bs : Bytes) (n : ℕ) → n ≤ length bs → ((k : ℕ) → k < n → slice_index bs k < 128) → folded bs ≡ map to_ascii_lowercase (take n bs) ++ folded (drop n bs)
front_folded bs n fits small =
    let ascii = front_ascii bs n fits small in
    ap folded (sym (take-append-drop n bs)) ∙ folded_append (take n bs) (drop n bs) (IsUtf8-from_ascii (take n bs) ascii)
    ∙ ap (λ (l : Bytes). l ++ folded (drop n bs)) (sym (lower_folded (take n bs) ascii))

-- what stands there after the ASCII and after what is behind it
pub behind_front : (bs front rest was middle now more : Bytes) (n : ℕ) → n ≤ length bs → ((k : ℕ) → k < n → slice_index bs k < 128) → front ≡ take n bs → rest ≡ drop n bs
    → middle ≡ was ++ map to_ascii_lowercase front → now ++ more ≡ middle ++ folded rest → now ++ more ≡ was ++ folded bs
behind_front bs front rest was middle now more n fits small front_is rest_is middle_is now_is =
    now_is ∙ ap₂ (λ (l r : Bytes). l ++ folded r) (middle_is ∙ ap (λ (l : Bytes). was ++ map to_ascii_lowercase l) front_is) rest_is
    ∙ append_assoc was (map to_ascii_lowercase (take n bs)) (folded (drop n bs))
    ∙ ap (λ (l : Bytes). was ++ l) (sym (front_folded bs n fits small))

-- where nothing is left
pub all_folded : (out rest bs : Bytes) → out ++ folded rest ≡ folded bs → length rest ≡ 0 → out ≡ folded bs
all_folded out rest bs is none =
    sym (append-nil out) ∙ ap (λ (l : Bytes). out ++ l) (sym folded_nil) ∙ ap (λ (l : Bytes). out ++ folded l) (sym (nil_from_length rest none)) ∙ is

-- ---- a character

pub first_folded : (bs rest : Bytes) (c : ℕ) → IsUtf8 bs → bs ≡ encode_utf8 c ++ rest → folded bs ≡ encode_utf8_all (full_fold c) ++ folded rest
unfolding folded
first_folded bs rest c text is =
    ap encode_utf8_all (ap default_case_fold (chars_past_char bs rest c text is) ∙ default_case_fold-cons c (chars rest))
    ∙ encodes-append (full_fold c) (default_case_fold (chars rest))

-- what stands there after the first character
pub behind_first : (bs rest was now : Bytes) (c : ℕ) → IsUtf8 bs → bs ≡ encode_utf8 c ++ rest → now ≡ was ++ encode_utf8_all (full_fold c) → now ++ folded rest ≡ was ++ folded bs
behind_first bs rest was now c text is now_is =
    ap (λ (l : Bytes). l ++ folded rest) now_is ∙ append_assoc was (encode_utf8_all (full_fold c)) (folded rest) ∙ ap (λ (l : Bytes). was ++ l) (sym (first_folded bs rest c text is))

-- one that folds to itself
pub itself_folded : (c : ℕ) (table was now : Bytes) → table ≡ full_folding c → length table < 1 → now ≡ was ++ encode_utf8 c → now ≡ was ++ encode_utf8_all (full_fold c)
itself_folded c table was now same none now_is =
    now_is ∙ ap (λ (l : Bytes). was ++ l) (sym (ap encode_utf8_all (full_fold-none c table same none) ∙ append-nil (encode_utf8 c)))

-- and one that folds to others
pub others_folded : (c : ℕ) (table was now : Bytes) → table ≡ full_folding c → 1 ≤ length table → now ≡ was ++ encode_utf8_all table → now ≡ was ++ encode_utf8_all (full_fold c)
others_folded c table was now same some now_is = now_is ∙ ap (λ (l : Bytes). was ++ encode_utf8_all l) (sym (full_fold-some c table same some))

spelled_more : (cs : List ℕ) (i d : ℕ) → i < length cs → encode_utf8_all (take (i + 1) cs) ≡ encode_utf8_all (take i cs) ++ encode_utf8 (get_or cs i d)
spelled_more cs i d h =
    ap encode_utf8_all (take_more cs i d h) ∙ encodes-append (take i cs) (get_or cs i d ∷ []) ∙ ap (λ (l : Bytes). encode_utf8_all (take i cs) ++ l) (append-nil (encode_utf8 (get_or cs i d)))

-- one more
pub spelled_on : (cs : List ℕ) (i c : ℕ) (was now next : Bytes) → i < length cs → c ≡ get_or cs i c → now ≡ was ++ encode_utf8_all (take i cs) → next ≡ now ++ encode_utf8 c
    → next ≡ was ++ encode_utf8_all (take (i + 1) cs)
spelled_on cs i c was now next inside c_is now_is next_is =
    next_is ∙ ap₂ (λ (l : Bytes) (d : ℕ). l ++ encode_utf8 d) now_is c_is ∙ append_assoc was (encode_utf8_all (take i cs)) (encode_utf8 (get_or cs i c))
    ∙ ap (λ (l : Bytes). was ++ l) (sym (spelled_more cs i c inside))
