-- The laws of a format.
use Rattle.std.specs.Prelude.{◌≡◌, ℕ, suc, ◌<◌, List, [], ◌∷◌, ◌++◌, length, Ok, Err}
use Rattle.byte_formats.specs.Format.{Format}

abbrev pub IsBytes : List ℕ → Type 0
IsBytes [] = Unit {0}
IsBytes (b ∷ bytes) = (b < 256) × IsBytes bytes

-- some value's bytes begin with these
pub record Begins {A : Type 0} (spell : A → List ℕ) (P : A → Type 0) (front : List ℕ) : Type 0 where
  pub value : A
  pub fits : P value
  pub more : List ℕ
  pub is : spell value ≡ front ++ more

-- With so many bytes left, what stands before them begins some value's bytes.
pub record Faults {A : Type 0} (F : Format A) (P : A → Type 0) (bytes : List ℕ) (left : ℕ) : Type 0 where
  pub front : List ℕ
  pub rest : List ℕ
  pub is : bytes ≡ front ++ rest
  pub long : length rest ≡ left
  pub begins : Begins F.spell P front

-- Of the values that P speaks of
pub record Lawful {A : Type 0} (F : Format A) (P : A → Type 0) : Type 0 where
  -- each one's bytes are read again, whatever follows them;
  pub again : (x : A) (rest : List ℕ) → P x → F.read (F.spell x ++ rest) ≡ Ok (x, rest)
  -- what is read is one of them, so spelled;
  pub takes : (bytes : List ℕ) (x : A) (rest : List ℕ) → IsBytes bytes → F.read bytes ≡ Ok (x, rest) → P x × (bytes ≡ F.spell x ++ rest)
  -- what stands before a fault begins some value's bytes;
  pub fault : (bytes : List ℕ) (left : ℕ) → IsBytes bytes → F.read bytes ≡ Err left → Faults F P bytes left
  -- nothing that follows mends a faulty byte;
  pub stable : (front : List ℕ) (b : ℕ) (rest more : List ℕ) → IsBytes (front ++ b ∷ rest) → F.read (front ++ b ∷ rest) ≡ Err (suc (length rest)) → F.read (front ++ b ∷ more) ≡ Err (suc (length more))
  -- and there is one.
  pub some : A
  pub some_fits : P some
