-- Entries put to a list one after another.
use Rattle.std.proofs.Common.{◌≡◌, ◌+◌, List, [], ◌∷◌, ◌++◌, length, refl, ap, arith}
use Rattle.news_types.specs.declared.entry.Entry.{Entry}
use Rattle.news_types.specs.History.{History}
use Rattle.news_types.specs.Books.{Book, followed_by, onto}

pub behind_more : (xs ys : List Entry) (h : History) → followed_by ys (followed_by xs h) ≡ followed_by (xs ++ ys) h
behind_more [] ys h = refl
behind_more (x ∷ xs) ys h = behind_more xs ys (x ∷ h)

pub behind_length : (xs : List Entry) (h : History) → length (followed_by xs h) ≡ length h + length xs
behind_length [] h = omega arith
behind_length (x ∷ xs) h = let rest = behind_length xs (x ∷ h) in omega (arith, rest)

pub onto_more : (xs ys : List Entry) (b : Book) → onto ys (onto xs b) ≡ onto (xs ++ ys) b
onto_more xs ys b = let store = b.store in let told = b.told in ap (λ l. let c : Book = record { store = store; told = told; list = l } in c) (behind_more xs ys b.list)

pub onto_none : (b : Book) → onto [] b ≡ b
onto_none b = refl
