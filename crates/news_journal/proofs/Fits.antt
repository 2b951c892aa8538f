-- The bytes of a header are of the form.
use Rattle.std.proofs.Common.{◌≡◌, inl, inr, append_assoc, length-append, ℕ, zero, suc, ◌+◌, ◌-◌, ◌≤◌, ◌<◌, List, [], ◌∷◌, ◌++◌, length, None, Bool, true, false, ◌&&◌, ◌||◌, eqb, ltb, refl, sym, ◌∙◌, ap, subst, arith}
use Rattle.std.specs.Prelude.{replicate, IsTrue, nat_lt, nat_le, codes}
use Rattle.std.specs.List.{list_all}
use Rattle.std.specs.Cmp.{first_so, second_so}
use Rattle.std.proofs.lemmas.Bool.{leb-true}
use Rattle.std.proofs.lemmas.Bool.Decides.{nat_tests}
use Rattle.news_types.specs.Names.{is_name, is_name_byte}
use Rattle.news_journal.specs.Log.{room_head, receiver_head, IsEdition}
use Rattle.news_journal.specs.Damage.{may_stand, misfit, header_damage}
use Rattle.news_journal.proofs.Headings.{step_is, choose, none_left, no_zero_name}

-- the base and the store of a room
store_stands : (place before b : ℕ) → 10 ≤ place → place < 32 → may_stand 1 place before b ≡ true
store_stands place before b from to =
    let a : ltb place 8 ≡ false = grind (arith, nat_tests) in
    let c : ltb place 10 ≡ false = grind (arith, nat_tests) in
    let e : ltb place 32 ≡ true = grind (arith, nat_tests) in
    rw (a, c, e) refl

room_end : (before : ℕ) → misfit 1 32 before 32 (replicate 32 0) ≡ None
unfolding misfit
room_end before = refl

store_fits : (n place before : ℕ) (store : List ℕ) → length store ≡ n → 10 ≤ place → place + n ≡ 32 → misfit 1 place before (n + 32) (store ++ replicate 32 0) ≡ None
store_fits zero place before [] long from to = subst (λ (p : ℕ). misfit 1 p before 32 (replicate 32 0) ≡ None) (omega arith) (room_end before)
store_fits zero place before (b ∷ store) long from to = absurd (omega arith)
store_fits (suc n) place before [] long from to = absurd (omega arith)
store_fits (suc n) place before (b ∷ store) long from to =
    let more : suc n + 32 ≡ suc (n + 32) = omega arith in
    ap (λ (k : ℕ). misfit 1 place before k (b ∷ (store ++ replicate 32 0))) more
    ∙ step_is 1 place before b (n + 32) (store ++ replicate 32 0)
    ∙ choose (may_stand 1 place before b) _ _ (store_stands place before b from (omega arith))
    ∙ store_fits n (place + 1) b store (omega arith) (omega arith) (omega arith)

edition_1 : (tail : List ℕ) → misfit 1 10 1 54 tail ≡ None → header_damage (codes "NEWSDESK" ++ 1 ∷ 1 ∷ tail) ≡ None
unfolding header_damage misfit
edition_1 tail fits = fits

edition_2 : (tail : List ℕ) → misfit 1 10 1 54 tail ≡ None → header_damage (codes "NEWSDESK" ++ 2 ∷ 1 ∷ tail) ≡ None
unfolding header_damage misfit
edition_2 tail fits = fits

pub room_fits : (edition : ℕ) (base store : List ℕ) → IsEdition edition → length base ≡ 6 → length store ≡ 16 → header_damage (room_head edition base store) ≡ None
unfolding room_head
room_fits edition base store known six long =
    let tail : misfit 1 10 1 54 (base ++ (store ++ replicate 32 0)) ≡ None =
    ap (misfit 1 10 1 54) (sym (append_assoc base store (replicate 32 0))) ∙ store_fits 22 10 1 (base ++ store) (omega (arith, length-append base store, six, long)) (omega arith) (omega arith) in
    elim known [
      | inl one ↦ ap (λ (e : ℕ). header_damage (codes "NEWSDESK" ++ e ∷ 1 ∷ (base ++ (store ++ replicate 32 0)))) one ∙ edition_1 (base ++ (store ++ replicate 32 0)) tail
      | inr two ↦ ap (λ (e : ℕ). header_damage (codes "NEWSDESK" ++ e ∷ 1 ∷ (base ++ (store ++ replicate 32 0)))) two ∙ edition_2 (base ++ (store ++ replicate 32 0)) tail
    ]

-- the name of a receiver
tail_is : (place before b : ℕ) → 33 ≤ place → may_stand 2 place before b ≡ (eqb b 0 || (ltb 0 before && is_name_byte b))
tail_is place before b from =
    let a : ltb place 8 ≡ false = grind (arith, nat_tests) in
    let c : ltb place 10 ≡ false = grind (arith, nat_tests) in
    let e : ltb place 32 ≡ false = grind (arith, nat_tests) in
    let g : eqb place 32 ≡ false = grind (arith, nat_tests) in
    rw (a, c, e, g) refl

zeros_fit : (n place before : ℕ) → 33 ≤ place → misfit 2 place before n (replicate n 0) ≡ None
zeros_fit zero place before from = none_left 2 place before []
zeros_fit (suc n) place before from = step_is 2 place before 0 n (replicate n 0) ∙ choose (may_stand 2 place before 0) _ _ (tail_is place before 0 from) ∙ zeros_fit n (place + 1) 0 (omega arith)

letter_stands : (place before b : ℕ) → 33 ≤ place → 0 < before → is_name_byte b ≡ true → may_stand 2 place before b ≡ true
letter_stands place before b from some named = tail_is place before b from ∙ any (eqb b 0) (ltb 0 before) (is_name_byte b) (grind (arith, nat_tests)) named
  where
    any : (x y z : Bool) → y ≡ true → z ≡ true → (x || (y && z)) ≡ true
    any true y z p q = refl
    any false y z p q = rw (p, q) refl

letters_fit : (name : List ℕ) (n z place before : ℕ) → 33 ≤ place → 0 < before → list_all is_name_byte name ≡ true → n ≡ length name + z → misfit 2 place before n (name ++ replicate z 0) ≡ None
letters_fit [] n z place before from some form size = subst (λ (k : ℕ). misfit 2 place before k (replicate z 0) ≡ None) (omega arith) (zeros_fit z place before from)
letters_fit (b ∷ name) zero z place before from some form size = absurd (omega arith)
letters_fit (b ∷ name) (suc n) z place before from some form size =
    let named = first_so (is_name_byte b) (list_all is_name_byte name) form in
    step_is 2 place before b n (name ++ replicate z 0)
    ∙ choose (may_stand 2 place before b) _ _ (letter_stands place before b from some named)
    ∙ letters_fit name n z (place + 1) b (omega arith) (no_zero_name b named) (second_so (is_name_byte b) (list_all is_name_byte name) form) (omega arith)

name_fits : (name : List ℕ) → IsTrue (is_name name) → misfit 2 32 0 32 (name ++ replicate (32 - length name) 0) ≡ None
name_fits [] form = absurd (cc form)
name_fits (b ∷ name) form =
    let letters = second_so (nat_lt 0 (length (b ∷ name)) && nat_le (length (b ∷ name)) 32) (list_all is_name_byte (b ∷ name)) form in
    let sizes = first_so (nat_lt 0 (length (b ∷ name)) && nat_le (length (b ∷ name)) 32) (list_all is_name_byte (b ∷ name)) form in
    let few = leb-true (length (b ∷ name)) 32 (second_so (nat_lt 0 (length (b ∷ name))) (nat_le (length (b ∷ name)) 32) sizes) in
    let named = first_so (is_name_byte b) (list_all is_name_byte name) letters in
    step_is 2 32 0 b 31 (name ++ replicate (32 - length (b ∷ name)) 0)
    ∙ choose (may_stand 2 32 0 b) _ _ named
    ∙ letters_fit name 31 (32 - length (b ∷ name)) 33 b (omega arith) (no_zero_name b named) (second_so (is_name_byte b) (list_all is_name_byte name) letters) (omega (arith, few))

name_1 : (tail : List ℕ) → misfit 2 32 0 32 tail ≡ None → header_damage (codes "NEWSDESK" ++ 1 ∷ 2 ∷ (replicate 22 0 ++ tail)) ≡ None
unfolding header_damage misfit
name_1 tail fits = fits

name_2 : (tail : List ℕ) → misfit 2 32 0 32 tail ≡ None → header_damage (codes "NEWSDESK" ++ 2 ∷ 2 ∷ (replicate 22 0 ++ tail)) ≡ None
unfolding header_damage misfit
name_2 tail fits = fits

pub receiver_fits : (edition : ℕ) (name : List ℕ) → IsEdition edition → IsTrue (is_name name) → header_damage (receiver_head edition name) ≡ None
unfolding receiver_head
receiver_fits edition name known form =
    let tail = name ++ replicate (32 - length name) 0 in
    elim known [
      | inl one ↦ ap (λ (e : ℕ). header_damage (codes "NEWSDESK" ++ e ∷ 2 ∷ (replicate 22 0 ++ tail))) one ∙ name_1 tail (name_fits name form)
      | inr two ↦ ap (λ (e : ℕ). header_damage (codes "NEWSDESK" ++ e ∷ 2 ∷ (replicate 22 0 ++ tail))) two ∙ name_2 tail (name_fits name form)
    ]

pub few_bytes : (name : List ℕ) → IsTrue (is_name name) → length name ≤ 32
few_bytes name form =
    leb-true (length name) 32 (second_so (nat_lt 0 (length name)) (nat_le (length name) 32) (first_so (nat_lt 0 (length name) && nat_le (length name) 32) (list_all is_name_byte name) form))
