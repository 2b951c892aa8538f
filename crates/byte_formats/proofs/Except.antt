-- The laws of formats without one of their values.
use Rattle.std.proofs.Common.{◌≡◌, ◌==◌, ℕ, zero, suc, ◌<◌, ◌≤◌, ◌^◌, Bool, true, false, cond, List, [], ◌∷◌, ◌++◌, length, Result, Ok, Err, refl, sym, ap, subst, ◌∙◌, arith, inl, inr, append_assoc, length-append}
use Rattle.std.specs.Int.{w32}
use Rattle.std.specs.Prelude.{IsUtf8}
use mathlib.Core.Bool.{true≢false}
use Rattle.std.proofs.lemmas.Bool.Decides.{nat_tests, Decides-eqb}
use Rattle.byte_formats.specs.Spelling as spelled
use Rattle.byte_formats.specs.Spelling.{IsText, is_empty}
use Rattle.byte_formats.specs.Format.{Format, ◌>>=◌, upto}
use Rattle.byte_formats.specs.Fields.{text}
use Rattle.byte_formats.specs.Except.{except, is_zero, from_one, from_one_at, some_text, some_text_at}
use Rattle.byte_formats.proofs.Laws.{IsBytes, Lawful, Faults, bind_ok, bind_err, ok_is, not_both, same_tails}
use Rattle.byte_formats.proofs.Numbers.{wide32, upto_lawful}
use Rattle.byte_formats.proofs.Texts.{text_lawful, scan_utf8}
use Rattle.byte_formats.proofs.Names.{name_text}

-- the value that goes, whose bytes but for the last one begin another value's bytes
pub record Goes {A : Type 0} (F : Format A) (P : A → Type 0) (is_it : A → Bool) : Type 0 where
  pub it : A
  pub it_fits : P it
  pub only : (x : A) → is_it x ≡ true → x ≡ it
  pub front : List ℕ
  pub last : ℕ
  pub it_is : F.spell it ≡ front ++ last ∷ []
  pub other : A
  pub other_fits : P other
  pub other_stays : is_it other ≡ false
  pub tail : List ℕ
  pub other_is : F.spell other ≡ front ++ tail

-- what stands before the end of a list stands before its last one too
shorter : (xs ys : List ℕ) (b m : ℕ) (ms : List ℕ) → xs ++ b ∷ [] ≡ ys ++ m ∷ ms → (k : List ℕ) × (xs ≡ ys ++ k)
shorter xs [] b m ms e = (xs, refl)
shorter [] (y ∷ ys) b m ms e = absurd (omega (arith, ap length e, length-append ys (m ∷ ms)))
shorter (x ∷ xs) (y ∷ ys) b m ms e =
    let rest : xs ++ b ∷ [] ≡ ys ++ m ∷ ms = cc in
    let more = shorter xs ys b m ms rest in
    let here : x ≡ y = cc in
    (more.0, rw here (ap (λ l. y ∷ l) more.1))

module _ {A : Type 0} (F : Format A) (P : A → Type 0) (is_it : A → Bool) (lf : Lawful F P) (goes : Goes F P is_it) where
  abbrev Stays : A → Type 0
  Stays x = P x × (is_it x ≡ false)

  abbrev E : Format A
  E = except F is_it

  abbrev tested : A × List ℕ → Result (A × List ℕ) ℕ
  tested x = cond (is_it x.0) (Err (suc (length x.1))) (Ok (x.0, x.1))

  except_again : (x : A) (rest : List ℕ) → Stays x → E.read (F.spell x ++ rest) ≡ Ok (x, rest)
  except_again x rest h = rw (lf.again x rest h.0, h.1) refl

  stays_by : (b : Bool) (x : A × List ℕ) (y : A × List ℕ) → is_it x.0 ≡ b → tested x ≡ Ok y → (b ≡ false) × (x ≡ y)
  stays_by true x y is e = not_both (tested x) y (suc (length x.1)) e (rw is refl)
  stays_by false x y is e = (refl, ok_is (x.0, x.1) y (sym (ap (λ (b : Bool). let r : Result (A × List ℕ) ℕ = cond b (Err (suc (length x.1))) (Ok (x.0, x.1)) in r) is) ∙ e))

  except_takes : (bytes : List ℕ) (x : A) (rest : List ℕ) → IsBytes bytes → E.read bytes ≡ Ok (x, rest) → Stays x × (bytes ≡ F.spell x ++ rest)
  except_takes bytes x rest ib e =
      let b = bind_ok (F.read bytes) tested (x, rest) e in
      let stays = stays_by (is_it b.0.0) b.0 (x, rest) refl b.2 in
      subst (λ (y : A × List ℕ). Stays y.0 × (bytes ≡ F.spell y.0 ++ y.1)) stays.1 (
      let t = lf.takes bytes b.0.0 b.0.1 ib b.1 in ((t.0, stays.0), t.1))

  fails_by : (b : Bool) (x : A × List ℕ) (left : ℕ) → is_it x.0 ≡ b → tested x ≡ Err left → (b ≡ true) × (suc (length x.1) ≡ left)
  fails_by true x left is e = (refl, err_is (suc (length x.1)) left (sym (ap (λ (b : Bool). let r : Result (A × List ℕ) ℕ = cond b (Err (suc (length x.1))) (Ok (x.0, x.1)) in r) is) ∙ e))
    where
      err_is : (n m : ℕ) → (let r : Result (A × List ℕ) ℕ = Err n in let s : Result (A × List ℕ) ℕ = Err m in r ≡ s) → n ≡ m
      err_is n m e = cc
  fails_by false x left is e = not_both (tested x) (x.0, x.1) left (rw is refl) e

  -- what stands before a fault begins the bytes of one that stays
  other_begins : (bytes : List ℕ) (left : ℕ) → F.read bytes ≡ Err left → Faults F P bytes left → Faults E Stays bytes left
  other_begins bytes left fails f = by (is_it f.begins.value) refl
    where
      longer : (more : List ℕ) → F.spell goes.it ≡ f.front ++ more → Faults E Stays bytes left
      longer [] e =
          let whole : bytes ≡ F.spell goes.it ++ f.rest = f.is ∙ ap (λ l. l ++ f.rest) (sym (e ∙ append-nil-of f.front)) in
          not_both (F.read bytes) (goes.it, f.rest) left (ap F.read whole ∙ lf.again goes.it f.rest goes.it_fits) fails
        where
          append-nil-of : (xs : List ℕ) → xs ++ [] ≡ xs
          append-nil-of [] = refl
          append-nil-of (x ∷ xs) = ap (λ l. x ∷ l) (append-nil-of xs)
      longer (m ∷ more) e =
          let k = shorter goes.front f.front goes.last m more (sym goes.it_is ∙ e) in
          record {
            front = f.front;
            rest = f.rest;
            is = f.is;
            long = f.long;
            begins = record {
              value = goes.other;
              fits = (goes.other_fits, goes.other_stays);
              more = k.0 ++ goes.tail;
              is = goes.other_is ∙ ap (λ l. l ++ goes.tail) k.1 ∙ append_assoc f.front k.0 goes.tail;
            };
          }

      by : (b : Bool) → is_it f.begins.value ≡ b → Faults E Stays bytes left
      by false stays = record { front = f.front; rest = f.rest; is = f.is; long = f.long; begins = record { value = f.begins.value; fits = (f.begins.fits, stays); more = f.begins.more; is = f.begins.is } }
      by true is = longer f.begins.more (sym (ap F.spell (goes.only f.begins.value is)) ∙ f.begins.is)

  except_fault : (bytes : List ℕ) (left : ℕ) → IsBytes bytes → E.read bytes ≡ Err left → Faults E Stays bytes left
  except_fault bytes left ib e =
      elim (bind_err (F.read bytes) tested left e) [
        | inl first ↦ other_begins bytes left first (lf.fault bytes left ib first)
        | inr b ↦
            let fails = fails_by (is_it b.0.0) b.0 left refl b.2 in
            let t = lf.takes bytes b.0.0 b.0.1 ib b.1 in
            let spelled_it : F.spell b.0.0 ≡ goes.front ++ goes.last ∷ [] = ap F.spell (goes.only b.0.0 fails.0) ∙ goes.it_is in
            record {
              front = goes.front;
              rest = goes.last ∷ b.0.1;
              is = t.1 ∙ ap (λ l. l ++ b.0.1) spelled_it ∙ append_assoc goes.front (goes.last ∷ []) b.0.1;
              long = fails.1;
              begins = record { value = goes.other; fits = (goes.other_fits, goes.other_stays); more = goes.tail; is = goes.other_is };
            }
      ]

  except_stable : (front : List ℕ) (b : ℕ) (rest more : List ℕ) → IsBytes (front ++ b ∷ rest) → E.read (front ++ b ∷ rest) ≡ Err (suc (length rest)) → E.read (front ++ b ∷ more) ≡ Err (suc (length more))
  except_stable front b rest more ib e =
      elim (bind_err (F.read (front ++ b ∷ rest)) tested (suc (length rest)) e) [
        | inl first ↦ ap (λ r. r >>= tested) (lf.stable front b rest more ib first)
        | inr s ↦
            let fails = fails_by (is_it s.0.0) s.0 (suc (length rest)) refl s.2 in
            let t = lf.takes (front ++ b ∷ rest) s.0.0 s.0.1 ib s.1 in
            let whole : F.spell s.0.0 ++ s.0.1 ≡ (front ++ b ∷ []) ++ rest = sym t.1 ∙ sym (append_assoc front (b ∷ []) rest) in
            let parts = same_tails (F.spell s.0.0) s.0.1 (front ++ b ∷ []) rest whole (omega (arith, fails.1)) in
            let outer : front ++ b ∷ more ≡ F.spell s.0.0 ++ more = sym (append_assoc front (b ∷ []) more) ∙ ap (λ l. l ++ more) (sym parts.0) in
            ap E.read outer ∙ rw (lf.again s.0.0 more t.0, fails.0) refl
      ]

  pub except_lawful : Lawful (except F is_it) Stays
  except_lawful = record {
    again = except_again;
    takes = except_takes;
    fault = except_fault;
    stable = except_stable;
    some = goes.other;
    some_fits = (goes.other_fits, goes.other_stays);
  }

-- ---- numbers from one, and texts that are not empty

zero_goes : (most : ℕ) → 1 ≤ most → Goes (upto w32 most) (λ n. n ≤ most) is_zero
zero_goes most le = record {
  it = 0;
  it_fits = omega arith;
  only = λ n is. (Decides-eqb n 0).0 is;
  front = 0 ∷ 0 ∷ 0 ∷ [];
  last = 0;
  it_is = refl;
  other = 1;
  other_fits = le;
  other_stays = refl;
  tail = 1 ∷ [];
  other_is = refl;
}

positive : (n : ℕ) → is_zero n ≡ false → 1 ≤ n
positive zero is = absurd (true≢false is)
positive (suc n) is = omega arith

not_zero : (n : ℕ) → 1 ≤ n → is_zero n ≡ false
not_zero n le = grind (arith, nat_tests)

same_law : {A : Type 0} (F : Format A) (P Q : A → Type 0) → ((x : A) → P x → Q x) → ((x : A) → Q x → P x) → Lawful F P → Lawful F Q
same_law F P Q to back l = record {
  again = λ x rest q. l.again x rest (back x q);
  takes = λ bytes x rest ib e. let t = l.takes bytes x rest ib e in (to x t.0, t.1);
  fault = λ bytes left ib e. let f = l.fault bytes left ib e in
      record { front = f.front; rest = f.rest; is = f.is; long = f.long; begins = record { value = f.begins.value; fits = to f.begins.value f.begins.fits; more = f.begins.more; is = f.begins.is } };
  stable = l.stable;
  some = l.some;
  some_fits = to l.some l.some_fits;
}

pub from_one_lawful : (most : ℕ) → 1 ≤ most → most < 2 ^ 32 → Lawful (from_one w32 most) (λ n. (1 ≤ n) × (n ≤ most))
unfolding from_one_at
from_one_lawful most some fits =
    same_law (from_one w32 most) (λ n. (n ≤ most) × (is_zero n ≡ false)) (λ n. (1 ≤ n) × (n ≤ most)) (λ n h. (positive n h.1, h.0)) (λ n h. (h.1, not_zero n h.0))
    (except_lawful (upto w32 most) (λ n. n ≤ most) is_zero (upto_lawful w32 (2 ^ 32) most wide32 fits) (zero_goes most some))

empty_goes : (limit : ℕ) → 1 ≤ limit → Goes (text limit) (IsText limit) is_empty
empty_goes limit le = record {
  it = [];
  it_fits = (omega arith, scan_utf8 0 [] tt);
  only = empty_is;
  front = 0 ∷ 0 ∷ 0 ∷ [];
  last = 0;
  it_is = refl;
  other = 97 ∷ [];
  other_fits = (le, name_text (97 ∷ []) refl);
  other_stays = refl;
  tail = 1 ∷ 97 ∷ [];
  other_is = refl;
}
  where
    empty_is : (x : List ℕ) → is_empty x ≡ true → x ≡ []
    empty_is [] is = refl
    empty_is (b ∷ x) is = absurd (true≢false (sym is))

pub some_text_lawful : (limit : ℕ) → 1 ≤ limit → limit < 2 ^ 32 → Lawful (some_text limit) (λ t. IsText limit t × (is_empty t ≡ false))
unfolding some_text_at
some_text_lawful limit some fits = except_lawful (text limit) (IsText limit) is_empty (text_lawful limit fits) (empty_goes limit some)
