-- What fields are in bytes, and which values have a spelling. All numbers of more than one byte are big-endian.
use Rattle.std.specs.Prelude.{ℕ, ◌≤◌, List, [], ◌∷◌, ◌++◌, length, IsTrue, Bool, true, false, Option, Some, None, IsUtf8, All}
use Rattle.std.specs.List.{flat_map}
use Rattle.std.specs.Int.{w16, w32, w64, to_be_bytes}
use Rattle.news_types.specs.Names.{is_name}

-- one after the other
infixr 9 ◌&◌
abbrev pub ◌&◌ : List ℕ → List ℕ → List ℕ
x & y = x ++ y

abbrev pub byte : ℕ → List ℕ
byte b = b ∷ []

abbrev pub is_empty : List ℕ → Bool
is_empty [] = true
is_empty (b ∷ bytes) = false

abbrev pub u16 : ℕ → List ℕ
u16 n = to_be_bytes w16 n

abbrev pub u32 : ℕ → List ℕ
u32 n = to_be_bytes w32 n

abbrev pub u64 : ℕ → List ℕ
u64 n = to_be_bytes w64 n

-- a byte of length, and the bytes
abbrev pub name : List ℕ → List ℕ
name n = byte (length n) & n

-- four bytes of length, and the text
abbrev pub text : List ℕ → List ℕ
text t = u32 (length t) & t

-- two bytes of count, and the items
abbrev pub list : {A : Type 0} → (A → List ℕ) → List A → List ℕ
list item xs = u16 (length xs) & flat_map item xs

-- 0, or 1 and the value
abbrev pub option : {A : Type 0} → (A → List ℕ) → Option A → List ℕ
option item None = byte 0
option item (Some x) = byte 1 & item x

abbrev pub flag : Bool → List ℕ
flag false = byte 0
flag true = byte 1

-- ---- what has a spelling

abbrev pub IsName : List ℕ → Type 0
IsName n = IsTrue (is_name n)

-- a text of at most so many bytes
abbrev pub IsText : ℕ → List ℕ → Type 0
IsText limit t = (length t ≤ limit) × IsUtf8 t

-- at most so many items
abbrev pub IsList : {A : Type 0} → ℕ → (A → Type 0) → List A → Type 0
IsList limit P xs = (length xs ≤ limit) × All P xs

abbrev pub IsOption : {A : Type 0} → (A → Type 0) → Option A → Type 0
IsOption P None = Unit {0}
IsOption P (Some x) = P x
