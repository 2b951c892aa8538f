-- The promise of names before a space, of decimal numbers, and of given bytes.
use Rattle.std.proofs.Common.{◌≡◌, ℕ, zero, suc, ◌<◌, ◌≤◌, ◌+◌, ◌-◌, ◌&&◌, List, [], ◌∷◌, ◌++◌, length, drop, get_or, Option, Some, None, Ok, refl, sym, ap, subst, ◌∙◌, arith, Bool, true, false, cond, eqb, ltb, inl, inr, ◌⊎◌, length-append, add-one, drop-cons}
use Rattle.std.specs.List.{list_all}
use Rattle.std.specs.Cmp.{first_so, second_so}
use Rattle.std.proofs.lemmas.Bool.{cases_eq, and_parts, eq-eqb, ne_eqb, lt-ltb}
use Rattle.std.proofs.lemmas.Bool.Decides.{nat_tests}
use Rattle.std.proofs.Math.Seq.{take-append_seam}
use Rattle.news_types.specs.Names.{is_name_byte}
use Rattle.byte_formats.specs.Spelling.{IsName}
use Rattle.byte_formats.specs.Format.{scanned}
use Rattle.byte_formats.specs.Until.{until, until_at, before_last, word, word_at, word_step, literal, literal_at, literal_step}
use Rattle.byte_formats.proofs.Laws.{IsBytes, IsBytes-both, Lawful, via}
use Rattle.byte_formats.proofs.Fields.{IsScanned, scanned_lawful}
use Rattle.byte_formats.proofs.Names.{name_from, name_parts, letters_bytes}
use Rattle.byte_formats.proofs.Until.{IsWord, until_lawful}

pub before_last-push : (y : List ℕ) (b : ℕ) → before_last (y ++ b ∷ []) ≡ y
before_last-push y b =
    let n : length (y ++ b ∷ []) - 1 ≡ length y = omega (arith, length-append y (b ∷ [])) in
    rw n (take-append_seam y (b ∷ []))

-- ---- a name and the space behind it

abbrev by_tests : Bool → Bool → ℕ → Option (Option ℕ)
by_tests p q n = cond p (Some None) (cond q (Some (Some (n + 1))) None)

abbrev Ends : ℕ → ℕ → Type 0
Ends n b = (b ≡ 32) × (0 < n) × (word_step n b ≡ Some None)

abbrev GoesOn : ℕ → ℕ → Type 0
GoesOn n b = (is_name_byte b ≡ true) × (n < 32) × (word_step n b ≡ Some (Some (n + 1)))

word_ends : (n b : ℕ) → b ≡ 32 → 0 < n → word_step n b ≡ Some None
word_ends n b e lo = rw (eq-eqb b 32 e, lt-ltb 0 n lo) refl

space_no_letter : is_name_byte 32 ≡ false
space_no_letter = refl

word_more : (n b : ℕ) → is_name_byte b ≡ true → n < 32 → word_step n b ≡ Some (Some (n + 1))
word_more n b e hi =
    let other : eqb b 32 ≡ false = ne_eqb b 32 (λ same. letter_no_space b e same) in
    rw (other, e, lt-ltb n 32 hi) refl
  where
    letter_no_space : (b : ℕ) → is_name_byte b ≡ true → b ≡ 32 → ⊥
    letter_no_space b e same = let f : is_name_byte 32 ≡ true = subst (λ k. is_name_byte k ≡ true) same e in cc (f, space_no_letter)

bool_cases : (b : Bool) → (b ≡ true) ⊎ (b ≡ false)
bool_cases true = inl refl
bool_cases false = inr refl

word_cases : (n b : ℕ) → Ends n b ⊎ (GoesOn n b ⊎ (word_step n b ≡ None))
word_cases n b =
    elim (bool_cases (eqb b 32 && ltb 0 n)) [
      | inl p ↦ let t = and_parts (eqb b 32) (ltb 0 n) p in let e : b ≡ 32 = grind (arith, nat_tests, t.0) in let lo : 0 < n = grind (arith, nat_tests, t.1) in inl (e, lo, word_ends n b e lo)
      | inr p ↦ elim (bool_cases (is_name_byte b && ltb n 32)) [
        | inl q ↦ let t = and_parts (is_name_byte b) (ltb n 32) q in let hi : n < 32 = grind (arith, nat_tests, t.1) in inr (inl (t.0, hi, word_more n b t.0 hi))
        | inr q ↦ inr (inr (ap (λ (t : Bool × Bool). by_tests t.0 t.1 n) (λ i. (p i, q i))))
      ]
    ]

abbrev Same : Option (Option ℕ) → Option (Option ℕ) → Type 0
Same x y = x ≡ y

on_is : (t u : ℕ) → Same (Some (Some t)) (Some (Some u)) → t ≡ u
on_is t u e = cc

clash : {X : Type 0} {A : Type 0} (o x y : A) → o ≡ x → o ≡ y → (x ≡ y → X) → X
clash o x y e f k = k (sym e ∙ f)

abbrev both_true : (a b : Bool) → a ≡ true → b ≡ true → (a && b) ≡ true
both_true true true e f = refl
both_true true false e f = f
both_true false b e f = e

pub record NameWord (n : ℕ) (x : List ℕ) : Type 0 where
  pub front : List ℕ
  pub is : x ≡ front ++ 32 ∷ []
  pub letters : list_all is_name_byte front ≡ true
  pub some : 0 < n + length front
  pub few : n + length front ≤ 32

one_letter : (n b : ℕ) (x : List ℕ) → is_name_byte b ≡ true → NameWord (n + 1) x → NameWord n (b ∷ x)
one_letter n b x e w = record {
  front = b ∷ w.front;
  is = ap (λ z. b ∷ z) w.is;
  letters = both_true (is_name_byte b) (list_all is_name_byte w.front) e w.letters;
  some = omega (arith, w.some);
  few = omega (arith, w.few);
}

word_parts : (n : ℕ) (x : List ℕ) → n ≤ 32 → IsWord word_step n x → NameWord n x
word_parts n [] le h = absurd h
word_parts n (b ∷ x) le h =
    elim h [
      | inl last ↦ elim (word_cases n b) [
        | inl ends ↦ record { front = []; is = ap (λ (z : ℕ). z ∷ x) ends.0 ∙ ap (λ z. 32 ∷ z) last.1; letters = refl; some = omega (arith, ends.1); few = omega arith }
        | inr other ↦ elim other [
          | inl on ↦ clash (word_step n b) (Some None) (Some (Some (n + 1))) last.0 on.2 (λ bad. absurd (cc (bad)))
          | inr none ↦ clash (word_step n b) (Some None) None last.0 none (λ bad. absurd (cc (bad)))
        ]
      ]
      | inr more ↦ elim (word_cases n b) [
        | inl ends ↦ clash (word_step n b) (Some None) (Some (Some more.0)) ends.2 more.1 (λ bad. absurd (cc (bad)))
        | inr other ↦ elim other [
          | inl on ↦
              let t : n + 1 ≡ more.0 = on_is (n + 1) more.0 (sym on.2 ∙ more.1) in
              one_letter n b x on.0 (word_parts (n + 1) x (omega (arith, on.1)) (subst (λ k. IsWord word_step k x) (sym t) more.2))
          | inr none ↦ clash (word_step n b) None (Some (Some more.0)) none more.1 (λ bad. absurd (cc (bad)))
        ]
      ]
    ]

parts_word : (n : ℕ) (y : List ℕ) → list_all is_name_byte y ≡ true → 0 < n + length y → n + length y ≤ 32 → IsWord word_step n (y ++ 32 ∷ [])
parts_word n [] l lo hi = inl (word_ends n 32 refl (omega arith), refl)
parts_word n (b ∷ y) l lo hi =
    inr (n + 1, word_more n b (first_so (is_name_byte b) (list_all is_name_byte y) l) (omega arith), parts_word (n + 1) y (second_so (is_name_byte b) (list_all is_name_byte y) l) (omega arith) (omega arith))

word_keeps : (n b t : ℕ) → n ≤ 32 → word_step n b ≡ Some (Some t) → t ≤ 32
word_keeps n b t le e =
    elim (word_cases n b) [
      | inl ends ↦ clash (word_step n b) (Some None) (Some (Some t)) ends.2 e (λ bad. absurd (cc (bad)))
      | inr other ↦ elim other [
        | inl on ↦ let k : n + 1 ≡ t = on_is (n + 1) t (sym on.2 ∙ e) in omega (arith, on.1)
        | inr none ↦ clash (word_step n b) None (Some (Some t)) none e (λ bad. absurd (cc (bad)))
      ]
    ]

word_filler : (n : ℕ) → n ≤ 32 → (x : List ℕ) × IsWord word_step n x × IsBytes x
word_filler zero le = (97 ∷ 32 ∷ [], parts_word 0 (97 ∷ []) refl (omega arith) (omega arith), (omega arith, (omega arith, tt)))
word_filler (suc n) le = (32 ∷ [], inl (word_ends (suc n) 32 refl (omega arith), refl), (omega arith, tt))

pub words_lawful : Lawful (until word_step 0) (λ x. IsWord word_step 0 x × IsBytes x)
words_lawful = until_lawful word_step (λ n. n ≤ 32) word_keeps word_filler 0 (omega arith)

word_to : (x : List ℕ) → IsWord word_step 0 x × IsBytes x → IsName (before_last x) × (word.spell (before_last x) ≡ x)
word_to x h =
    let w = word_parts 0 x (omega arith) h.0 in
    let front : before_last x ≡ w.front = ap before_last w.is ∙ before_last-push w.front 32 in
    (subst IsName (sym front) (name_from w.front (omega (arith, w.some)) (omega (arith, w.few)) w.letters), ap (λ z. z ++ 32 ∷ []) front ∙ sym w.is)

word_back : (n : List ℕ) → IsName n → (x : List ℕ) × (IsWord word_step 0 x × IsBytes x) × (before_last x ≡ n)
word_back n h =
    let p = name_parts n h in
    (n ++ 32 ∷ [], (parts_word 0 n p.2 (omega (arith, p.0)) (omega (arith, p.1)), IsBytes-both n (32 ∷ []) (letters_bytes n p.2) (omega arith, tt)), before_last-push n 32)

pub word_lawful : Lawful word IsName
unfolding word_at
word_lawful = via (until word_step 0) (λ x. IsWord word_step 0 x × IsBytes x) word IsName before_last words_lawful (λ bytes. refl) word_to word_back

-- ---- these very bytes

abbrev Spells : List ℕ → ℕ → List ℕ → Type 0
Spells all n word = (length word ≡ n) × IsBytes word

literal_same : (n m b : ℕ) (word : List ℕ) → b ≡ m → literal_step n (m ∷ word) b ≡ Some word
literal_same n m b word e = rw (eq-eqb b m e) refl

literal_other : (n m b : ℕ) (word : List ℕ) → (b ≡ m → ⊥) → literal_step n (m ∷ word) b ≡ None
literal_other n m b word e = rw (ne_eqb b m e) refl

some_is : {A : Type 0} (x y : A) → Some x ≡ Some y → x ≡ y
some_is x y e = cc

literal_keeps : (n : ℕ) (s : List ℕ) (b : ℕ) (t : List ℕ) → Spells [] (suc n) s → literal_step n s b ≡ Some t → Spells [] n t
literal_keeps n [] b t i e = absurd (omega (arith, i.0))
literal_keeps n (m ∷ s) b t i e =
    elim (cases_eq b m) [
      | inl same ↦ subst (Spells [] n) (some_is s t (sym (literal_same n m b s same) ∙ e)) (omega (arith, i.0), i.1.1)
      | inr other ↦ clash (literal_step n (m ∷ s) b) None (Some t) (literal_other n m b s other) e (λ bad. absurd (cc (bad)))
    ]

literal_filler : (n : ℕ) (s : List ℕ) → Spells [] (suc n) s → (b : ℕ) × (b < 256) × (t : List ℕ) × (literal_step n s b ≡ Some t)
literal_filler n [] i = absurd (omega (arith, i.0))
literal_filler n (m ∷ s) i = (m, i.1.0, s, literal_same n m m s refl)

scan_literal : (n : ℕ) (s x : List ℕ) → length s ≡ n → IsScanned literal_step n s x → x ≡ s
scan_literal zero [] [] e h = refl
scan_literal zero (m ∷ s) [] e h = absurd (omega arith)
scan_literal zero s (b ∷ x) e h = absurd h
scan_literal (suc n) s [] e h = absurd h
scan_literal (suc n) [] (b ∷ x) e h = absurd (omega arith)
scan_literal (suc n) (m ∷ s) (b ∷ x) e h =
    elim (cases_eq b m) [
      | inl same ↦
          let t = some_is s h.0 (sym (literal_same n m b s same) ∙ h.1) in
          let rest = scan_literal n s x (omega arith) (subst (λ u. IsScanned literal_step n u x) (sym t) h.2) in
          cc (same, rest)
      | inr other ↦ clash (literal_step n (m ∷ s) b) None (Some h.0) (literal_other n m b s other) h.1 (λ bad. absurd (cc (bad)))
    ]

literal_scan : (n : ℕ) (s : List ℕ) → length s ≡ n → IsScanned literal_step n s s
literal_scan zero [] e = tt
literal_scan zero (m ∷ s) e = absurd (omega arith)
literal_scan (suc n) [] e = absurd (omega arith)
literal_scan (suc n) (m ∷ s) e = (s, literal_same n m m s refl, literal_scan n s (omega arith))

pub literal_lawful : (word : List ℕ) → IsBytes word → Lawful (literal word) (λ _. Unit {0})
unfolding literal_at
literal_lawful w ib =
    via (scanned literal_step w (length w)) (λ x. IsScanned literal_step (length w) w x × IsBytes x) (literal w) (λ _. Unit {0}) (λ _. tt)
    (scanned_lawful literal_step (Spells []) literal_keeps literal_filler (length w) w (refl, ib))
    (λ bytes. refl) (λ x h. (tt, sym (scan_literal (length w) w x refl h.0))) (λ u h. (w, (literal_scan (length w) w refl, ib), refl))

-- what the tests of a byte say
pub ends_by : (n b : ℕ) → (eqb b 32 && ltb 0 n) ≡ true → word_step n b ≡ Some None
ends_by n b p = ap (λ (t : Bool). by_tests t (is_name_byte b && ltb n 32) n) p

pub goes_on_by : (n b : ℕ) → (eqb b 32 && ltb 0 n) ≡ false → (is_name_byte b && ltb n 32) ≡ true → word_step n b ≡ Some (Some (n + 1))
goes_on_by n b p q = ap (λ (t : Bool × Bool). by_tests t.0 t.1 n) (λ i. (p i, q i))

pub refused_by : (n b : ℕ) → (eqb b 32 && ltb 0 n) ≡ false → (is_name_byte b && ltb n 32) ≡ false → word_step n b ≡ None
refused_by n b p q = ap (λ (t : Bool × Bool). by_tests t.0 t.1 n) (λ i. (p i, q i))

-- the name that was found
pub word_judged : (bytes x rest : List ℕ) → IsBytes bytes → until_at word_step 0 bytes ≡ Ok (x, rest) → IsName (before_last x)
word_judged bytes x rest ib e = (word_to x (words_lawful.takes bytes x rest ib e).0).0

-- a letter after the other
pub letter_more : (word : List ℕ) (i n b : ℕ) → i < length word → b ≡ get_or word i 0 → literal_step n (drop i word) b ≡ Some (drop (i + 1) word)
letter_more word i n b lt e =
    let d : drop i word ≡ get_or word i 0 ∷ drop (i + 1) word = rw add-one (drop-cons word i 0 lt) in
    rw d (literal_same n (get_or word i 0) b (drop (i + 1) word) e)

pub letter_other : (word : List ℕ) (i n b : ℕ) → i < length word → (b ≡ get_or word i 0 → ⊥) → literal_step n (drop i word) b ≡ None
letter_other word i n b lt e =
    let d : drop i word ≡ get_or word i 0 ∷ drop (i + 1) word = rw add-one (drop-cons word i 0 lt) in
    rw d (literal_other n (get_or word i 0) b (drop (i + 1) word) e)
