-- No two lists have the same records.
use Rattle.std.proofs.Common.{◌≡◌, List, [], ◌∷◌, ◌++◌, length, length-append, refl, sym, arith}
use Rattle.news_types.specs.declared.entry.Entry.{Entry}
use Rattle.news_types.specs.Names.{Bytes}
use Rattle.news_types.specs.History.{History}
use Rattle.news_types.specs.Members.{Each}
use Rattle.byte_formats.proofs.Whole.{one_spelling}
use Rattle.entry_codec.specs.Spelling.{entry_bytes}
use Rattle.entry_codec.specs.Formed.{IsEntry}
use Rattle.entry_codec.specs.Commands.{entry}
use Rattle.entry_codec.proofs.EntryLaws.{entry_lawful}
use Rattle.news_types.specs.Doubt.{payloads}

never_empty : (xs : List Bytes) (x : Bytes) → xs ++ x ∷ [] ≡ [] → ⊥
never_empty [] x is = cc
never_empty (y ∷ xs) x is = cc

-- lists with the same records before the last, and the same last
pub last_is : (xs ys : List Bytes) (x y : Bytes) → xs ++ x ∷ [] ≡ ys ++ y ∷ [] → (xs ≡ ys) × (x ≡ y)
last_is [] [] x y is = (refl, cc)
last_is [] (z ∷ ys) x y is = let rest : [] ≡ ys ++ y ∷ [] = cc in absurd (never_empty ys y (sym rest))
last_is (z ∷ xs) [] x y is = let rest : xs ++ x ∷ [] ≡ [] = cc in absurd (never_empty xs x rest)
last_is (z ∷ xs) (w ∷ ys) x y is =
    let rest : xs ++ x ∷ [] ≡ ys ++ y ∷ [] = cc in
    let first : z ≡ w = cc in
    let more = last_is xs ys x y rest in
    let front : xs ≡ ys = more.0 in
    (cc, more.1)

pub same_entry : (a b : Entry) → IsEntry a → IsEntry b → entry_bytes a ≡ entry_bytes b → a ≡ b
same_entry = one_spelling entry IsEntry entry_lawful

pub same_list : (h g : History) → Each IsEntry h → Each IsEntry g → payloads entry_bytes h ≡ payloads entry_bytes g → h ≡ g
same_list [] [] p q is = refl
same_list [] (f ∷ g) p q is = absurd (never_empty (payloads entry_bytes g) (entry_bytes f) (sym is))
same_list (e ∷ h) [] p q is = absurd (never_empty (payloads entry_bytes h) (entry_bytes e) is)
same_list (e ∷ h) (f ∷ g) p q is =
    let both = last_is (payloads entry_bytes h) (payloads entry_bytes g) (entry_bytes e) (entry_bytes f) is in
    let rest : h ≡ g = same_list h g p.1 q.1 both.0 in
    let first : e ≡ f = same_entry e f p.0 q.0 both.1 in
    cc

pub counted : (h : History) → length (payloads entry_bytes h) ≡ length h
counted [] = refl
counted (e ∷ h) = omega (arith, length-append (payloads entry_bytes h) (entry_bytes e ∷ []), counted h)
