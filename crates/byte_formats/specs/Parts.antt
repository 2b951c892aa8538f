-- Formats of parts that hang together: a part that the ones before it lead to, a part that is asked more, and parts one after the other.
use Rattle.std.specs.Prelude.{◌≡◌, ℕ, zero, suc, ◌≤◌, List, [], ◌∷◌, ◌++◌, length, Bool, Option, Some, None, Result, Ok, Err, ◌+◌, if◌then◌else◌}
use Rattle.std.specs.Int.{w32}
use Rattle.byte_formats.specs.Format.{Format, ◌>>=◌, chain, whole, free}
use Rattle.byte_formats.specs.Gives.{all_of}
use Rattle.byte_formats.specs.Lawful.{IsBytes}
use Rattle.byte_formats.specs.Spelling.{u32}

-- the first, and then what it leads to
abbrev pub linked : {A B : Type 0} → Format A → (A → Format B) → Format (A × B)
linked F G = record {
  spell = λ p. F.spell p.0 ++ (G p.0).spell p.1;
  read = λ bytes. F.read bytes >>= λ x. (G x.0).read x.1 >>= λ y. Ok ((x.0, y.0), y.1);
}

-- what was chosen, or a fault at the last byte that was read
abbrev pub chosen : {B : Type 0} → List ℕ → Option B → Result (B × List ℕ) ℕ
chosen rest None = Err (suc (length rest))
chosen rest (Some y) = Ok (y, rest)

-- What is read is made into another value. Where it makes none, the fault is at its last byte, the first one with which it is known.
abbrev pub picked : {A B : Type 0} → Format A → (A → Option B) → (B → List ℕ) → Format B
picked F pick spell = record {
  spell = spell;
  read = λ bytes. F.read bytes >>= λ x. chosen x.1 (pick x.0);
}

abbrev pub passed : {A : Type 0} → (A → Bool) → A → Option A
passed test x = if test x then Some x else None

-- what is read passes a test
abbrev pub checked : {A : Type 0} → Format A → (A → Bool) → Format A
checked F test = picked F (passed test) F.spell

-- ---- so many values, each led to by a state that the ones before it left

unfoldable pub steps_at : {S A : Type 0} → (S → Format A) → (S → A → S) → ℕ → S → List ℕ → Result (List A × List ℕ) ℕ
steps_at F next zero s bytes = Ok ([], bytes)
steps_at F next (suc n) s bytes = (F s).read bytes >>= λ x. steps_at F next n (next s x.0) x.1 >>= λ xs. Ok (x.0 ∷ xs.0, xs.1)

abbrev pub steps_bytes : {S A : Type 0} → (S → Format A) → (S → A → S) → S → List A → List ℕ
steps_bytes F next s [] = []
steps_bytes F next s (x ∷ xs) = (F s).spell x ++ steps_bytes F next (next s x) xs

abbrev pub steps : {S A : Type 0} → (S → Format A) → (S → A → S) → ℕ → S → Format (List A)
steps F next n s = record { spell = steps_bytes F next s; read = steps_at F next n s }

-- each value is as its state wants it
abbrev pub AllSteps : {S A : Type 0} → (S → A → Type 0) → (S → A → S) → S → List A → Type 0
AllSteps P next s [] = Unit {0}
AllSteps P next s (x ∷ xs) = P s x × AllSteps P next (next s x) xs

-- ---- a value inside a known length

-- four bytes of length, and so many bytes
abbrev pub block : Format (List ℕ)
block = chain (whole w32) free length

-- a fault inside, with so many bytes behind
abbrev pub deeper : {A : Type 0} → ℕ → Result A ℕ → Result A ℕ
deeper n (Ok x) = Ok x
deeper n (Err left) = Err (left + n)

-- Four bytes of length, and a value whose bytes are as many. A fault inside is at the first byte with which no value's bytes go on.
unfoldable pub boxed_at : {A : Type 0} → Format A → List ℕ → Result (A × List ℕ) ℕ
boxed_at F bytes = block.read bytes >>= λ x. deeper (length x.1) (all_of F x.0) >>= λ y. Ok (y, x.1)

abbrev pub boxed_bytes : List ℕ → List ℕ
boxed_bytes bytes = u32 (length bytes) ++ bytes

abbrev pub boxed : {A : Type 0} → Format A → Format A
boxed F = record { spell = λ x. boxed_bytes (F.spell x); read = boxed_at F }

-- ---- what holds of each of these

-- Of the values that P speaks of
pub record Sound {A : Type 0} (F : Format A) (P : A → Type 0) : Type 0 where
  -- each one's bytes are read again, whatever follows them;
  pub again : (x : A) (rest : List ℕ) → P x → F.read (F.spell x ++ rest) ≡ Ok (x, rest)
  -- what is read is one of them, so spelled;
  pub takes : (bytes : List ℕ) (x : A) (rest : List ℕ) → IsBytes bytes → F.read bytes ≡ Ok (x, rest) → P x × (bytes ≡ F.spell x ++ rest)
  -- a fault lies within the bytes, or at their end;
  pub within : (bytes : List ℕ) (left : ℕ) → IsBytes bytes → F.read bytes ≡ Err left → left ≤ length bytes
  -- and with the bytes up to and with a faulty one nothing goes on.
  pub dead : (front : List ℕ) (b : ℕ) (rest more : List ℕ) (y : A × List ℕ) → IsBytes (front ++ b ∷ rest) → F.read (front ++ b ∷ rest) ≡ Err (suc (length rest)) → F.read (front ++ b ∷ more) ≡ Ok y → ⊥
