-- Formats: how a value is spelled, and how it is read from the front of some bytes.
-- Reading answers the value and the bytes behind it, or how many bytes are left from the first one on that no value's bytes go on with.
use Rattle.std.specs.Prelude.{ℕ, zero, suc, List, [], ◌∷◌, ◌++◌, length, take, drop, Option, Some, None, Result, Ok, Err, nat_lt, if◌then◌else◌}
use Rattle.std.specs.List.{flat_map}
use Rattle.std.specs.Int.{Width, byte_len, to_be_bytes, from_be_bytes}

pub record Format (A : Type 0) : Type 0 where
  pub spell : A → List ℕ
  pub read : List ℕ → Result (A × List ℕ) ℕ

infixl 10 ◌>>=◌
abbrev pub ◌>>=◌ : {A B : Type 0} → Result A ℕ → (A → Result B ℕ) → Result B ℕ
(Ok x) >>= f = f x
(Err e) >>= f = Err e

-- the first, and then what it leads to
abbrev pub chain : {A B : Type 0} → Format A → (A → Format B) → (B → A) → Format B
chain F G head = record {
  spell = λ y. F.spell (head y) ++ (G (head y)).spell y;
  read = λ bytes. F.read bytes >>= λ x. (G x.0).read x.1;
}

abbrev pub pair : {A B : Type 0} → Format A → Format B → Format (A × B)
pair F G = record {
  spell = λ p. F.spell p.0 ++ G.spell p.1;
  read = λ bytes. F.read bytes >>= λ x. G.read x.1 >>= λ y. Ok ((x.0, y.0), y.1);
}

-- what is read, made into another value; spell is that of the other values
abbrev pub made : {A B : Type 0} → Format A → (A → B) → (B → List ℕ) → Format B
made F make spell = record {
  spell = spell;
  read = λ bytes. F.read bytes >>= λ x. Ok (make x.0, x.1);
}

-- no bytes
abbrev pub nothing : {A : Type 0} → A → Format A
nothing x = record { spell = λ _. []; read = λ bytes. Ok (x, bytes) }

-- ---- numbers

abbrev pub byte_at : ℕ → ℕ → List ℕ → Result (ℕ × List ℕ) ℕ
byte_at least most [] = Err 0
byte_at least most (b ∷ bytes) = if nat_lt b least then Err (suc (length bytes)) else if nat_lt most b then Err (suc (length bytes)) else Ok (b, bytes)

-- one byte in a range
abbrev pub ranged : ℕ → ℕ → Format ℕ
ranged least most = record { spell = λ b. b ∷ []; read = byte_at least most }

-- so many bytes, whichever they are
abbrev pub free_at : ℕ → List ℕ → Result (List ℕ × List ℕ) ℕ
free_at n bytes = if nat_lt (length bytes) n then Err 0 else Ok (take n bytes, drop n bytes)

abbrev pub free : ℕ → Format (List ℕ)
free n = record { spell = λ x. x; read = free_at n }

-- any number of this width
unfoldable pub whole_at : Width → List ℕ → Result (ℕ × List ℕ) ℕ
whole_at w bytes = free_at (byte_len w) bytes >>= λ x. Ok (from_be_bytes w x.0, x.1)

abbrev pub whole : Width → Format ℕ
whole w = record { spell = to_be_bytes w; read = whole_at w }

abbrev pub with_byte : ℕ → Result (List ℕ × List ℕ) ℕ → Result (List ℕ × List ℕ) ℕ
with_byte b r = r >>= λ x. Ok (b ∷ x.0, x.1)

-- ---- so many bytes, each one allowed by a state

-- a step has the number of bytes that follow, the state and the byte
abbrev pub allowed : {S A : Type 0} → Option S → ℕ → (S → Result A ℕ) → Result A ℕ
allowed None left f = Err left
allowed (Some t) left f = f t

unfoldable pub scan_at : {S : Type 0} → (ℕ → S → ℕ → Option S) → ℕ → S → List ℕ → Result (List ℕ × List ℕ) ℕ
scan_at step zero s bytes = Ok ([], bytes)
scan_at step (suc n) s [] = Err 0
scan_at step (suc n) s (b ∷ bytes) = allowed (step n s b) (suc (length bytes)) (λ t. with_byte b (scan_at step n t bytes))

abbrev pub scanned : {S : Type 0} → (ℕ → S → ℕ → Option S) → S → ℕ → Format (List ℕ)
scanned step s n = record { spell = λ x. x; read = scan_at step n s }

-- The digits are as a number no more than the given ones: None where they are less already, whatever follows.
abbrev pub digit_step : ℕ → Option (List ℕ) → ℕ → Option (Option (List ℕ))
digit_step n None b = Some None
digit_step n (Some []) b = None
digit_step n (Some (m ∷ most)) b = if nat_lt m b then None else if nat_lt b m then Some None else Some (Some most)

-- a number of this width, up to most
unfoldable pub upto_at : Width → ℕ → List ℕ → Result (ℕ × List ℕ) ℕ
upto_at w most bytes = scan_at digit_step (byte_len w) (Some (to_be_bytes w most)) bytes >>= λ x. Ok (from_be_bytes w x.0, x.1)

abbrev pub upto : Width → ℕ → Format ℕ
upto w most = record { spell = to_be_bytes w; read = upto_at w most }

-- ---- many

unfoldable pub many_at : {A : Type 0} → Format A → ℕ → List ℕ → Result (List A × List ℕ) ℕ
many_at F zero bytes = Ok ([], bytes)
many_at F (suc n) bytes = F.read bytes >>= λ x. many_at F n x.1 >>= λ xs. Ok (x.0 ∷ xs.0, xs.1)

abbrev pub many : {A : Type 0} → Format A → ℕ → Format (List A)
many F n = record { spell = flat_map F.spell; read = many_at F n }
