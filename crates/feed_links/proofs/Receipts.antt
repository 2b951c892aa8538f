-- A receipt has one line feed, its last byte.
use Rattle.std.proofs.Common.{◌≡◌, ℕ, ◌+◌, ◌^◌, ◌<◌, ◌==◌, List, [], ◌∷◌, ◌++◌, length, take, Bool, true, not, cond, refl, sym, ◌∙◌, ap, subst, arith, append_assoc, length-append}
use Rattle.std.specs.Prelude.{codes, decimal}
use Rattle.std.specs.List.{position_or_len, list_all}
use Rattle.std.specs.Cmp.{first_so, second_so}
use Rattle.std.proofs.lemmas.Bool.{true≢false, ne_eqb}
use Rattle.std.proofs.lemmas.List.{take_all}
use Rattle.std.proofs.lemmas.Fmt.{decimal_by_steps}
use Rattle.news_types.specs.Names.{Bytes, is_name_byte}
use Rattle.byte_formats.proofs.Names.{name_parts}
use Rattle.feed_receiver.specs.Spelling.{receipt_bytes, IsReceipt}
use Rattle.feed_links.specs.Receivers.{first_line}

abbrev NoFeed : List ℕ → Type 0
NoFeed [] = Unit {0}
NoFeed (b ∷ bytes) = (b ≡ 10 → ⊥) × NoFeed bytes

none_in_both : (one other : List ℕ) → NoFeed one → NoFeed other → NoFeed (one ++ other)
none_in_both [] other g h = h
none_in_both (b ∷ one) other g h = (g.0, none_in_both one other g.1 h)

none_in_name : (name : List ℕ) → list_all is_name_byte name ≡ true → NoFeed name
none_in_name [] all = tt
none_in_name (b ∷ name) all =
    let here = first_so (is_name_byte b) (list_all is_name_byte name) all in
    (λ is. true≢false (sym (subst (λ (x : ℕ). is_name_byte x ≡ true) is here)), none_in_name name (second_so (is_name_byte b) (list_all is_name_byte name) all))

none_in_number : (n : ℕ) → n < 2 ^ 64 → NoFeed (decimal n)
none_in_number n lt =
    decimal_by_steps (λ m digits. NoFeed digits) (λ m small. ((λ is. omega (arith, is)), tt)) (λ m digits large so. none_in_both digits _ so ((λ is. omega (arith, is)), tt)) n lt

none_in_word : NoFeed (codes "RECEIPT ")
none_in_word = ((λ is. omega (arith, is)), ((λ is. omega (arith, is)), ((λ is. omega (arith, is)), ((λ is. omega (arith, is)), ((λ is. omega (arith, is)), ((λ is. omega (arith, is)), ((λ is. omega (arith, is)), ((λ is. omega (arith, is)), tt))))))))

abbrev first : List ℕ → ℕ
first bytes = position_or_len (λ (b : ℕ). b == 10) bytes

first_behind : (bytes : List ℕ) → NoFeed bytes → first (bytes ++ 10 ∷ []) ≡ length bytes
first_behind [] none = refl
first_behind (b ∷ bytes) none =
    let here = ap (λ (t : Bool). cond (not t) (1 + first (bytes ++ 10 ∷ [])) 0) (ne_eqb b 10 none.0) in
    omega (arith, here, first_behind bytes none.1)

whole : (bytes : List ℕ) → NoFeed bytes → first_line (bytes ++ 10 ∷ []) ≡ bytes ++ 10 ∷ []
whole bytes none =
    ap (λ (n : ℕ). take (n + 1) (bytes ++ 10 ∷ [])) (first_behind bytes none)
    ∙ take_all (length bytes + 1) (bytes ++ 10 ∷ []) (omega (arith, length-append bytes (10 ∷ [])))

shape : (word name number : List ℕ) → word ++ (name ++ (32 ∷ [] ++ (number ++ 10 ∷ []))) ≡ (word ++ (name ++ (32 ∷ [] ++ number))) ++ 10 ∷ []
shape word name number = simp append_assoc

pub receipt_is_line : (name : Bytes) (n : ℕ) → IsReceipt name n → first_line (receipt_bytes name n) ≡ receipt_bytes name n
receipt_is_line name n form =
    subst (λ (l : List ℕ). first_line l ≡ l) (sym (shape (codes "RECEIPT ") name (decimal n)))
    (whole (codes "RECEIPT " ++ (name ++ (32 ∷ [] ++ decimal n)))
    (none_in_both (codes "RECEIPT ") _ none_in_word
    (none_in_both name _ (none_in_name name (name_parts name form.0).2) ((λ is. omega (arith, is)), none_in_number n (omega (arith, form.1))))))
