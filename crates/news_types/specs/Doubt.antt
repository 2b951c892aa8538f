-- A keeper's doubt, which is a predicate on payloads, and the entries in doubt that bound it.
use Rattle.std.specs.Prelude.{◌≡◌, ◌⊎◌, List, [], ◌∷◌, ◌++◌}
use Rattle.news_types.specs.declared.entry.Entry.{Entry}
use Rattle.news_types.specs.Names.{Bytes}
use Rattle.news_types.specs.History.{History}
use Rattle.news_types.specs.Calls.{Fate, IsKept, IsFailed}

-- what an append says of the doubt: kept empties it, a fault adds the payload, and nothing else changes it
abbrev pub DoubtsAfter : (Bytes → Type 0) → (Bytes → Type 0) → Bytes → Fate → Type 0
DoubtsAfter old new payload IsKept = (x : Bytes) → new x → ⊥
DoubtsAfter old new payload IsFailed = (x : Bytes) → new x → old x ⊎ (x ≡ payload)
DoubtsAfter old new payload _ = (x : Bytes) → new x → old x

-- the payload is the bytes of one of these entries
abbrev pub IsAmong : (Entry → Bytes) → List Entry → Bytes → Type 0
IsAmong spelled [] x = ⊥
IsAmong spelled (e ∷ doubt) x = (x ≡ spelled e) ⊎ IsAmong spelled doubt x

-- each payload in doubt is
abbrev pub IsWithin : (Entry → Bytes) → (Bytes → Type 0) → List Entry → Type 0
IsWithin spelled doubts entries = (x : Bytes) → doubts x → IsAmong spelled entries x

-- the bytes of a list's entries, oldest first
abbrev pub payloads : (Entry → Bytes) → History → List Bytes
payloads spelled [] = []
payloads spelled (e ∷ h) = payloads spelled h ++ spelled e ∷ []

-- what a crash leaves of a keeper's payloads: as they were, or with one in doubt at the end
abbrev pub Leaves : List Bytes → (Bytes → Type 0) → List Bytes → Type 0
Leaves before doubts opened = (opened ≡ before) ⊎ ((x : Bytes) × doubts x × (opened ≡ before ++ x ∷ []))
