-- An append keeps a keeper's doubt within that of the server, and what is in doubt has its place there.
use Rattle.std.proofs.Common.{◌≡◌, inl, inr, ℕ, suc, List, [], ◌∷◌, Some, refl}
use Rattle.std.specs.List.{slice_get}
use Rattle.news_types.specs.declared.entry.Entry.{Entry}
use Rattle.news_types.specs.Names.{Bytes}
use Rattle.news_types.specs.Calls.{Fate, IsKept, IsFull, IsFailed, IsStarved}
use Rattle.news_types.specs.Server.{Server, put}
use Rattle.news_types.specs.Doubt.{DoubtsAfter, IsAmong, IsWithin}

-- an append keeps the doubt within that of the server
pub within_after : (spelled : Entry → Bytes) (old new : Bytes → Type 0) (c : Server) (e : Entry) (fate : Fate) → IsWithin spelled old c.doubt → DoubtsAfter old new (spelled e) fate → IsWithin spelled new (put c (Some e) fate).doubt
within_after spelled old new c e IsKept within after = after
within_after spelled old new c e IsFailed within after = λ x there.
    elim (after x there) [ inl before ↦ inr (within x before) | inr tried ↦ inl tried ]
within_after spelled old new c e IsFull within after = λ x there. within x (after x there)
within_after spelled old new c e IsStarved within after = λ x there. within x (after x there)

-- a payload that is among those of the entries is that of an entry at some place
pub place_in : (spelled : Entry → Bytes) (entries : List Entry) (x : Bytes) → IsAmong spelled entries x → (i : ℕ) × (e : Entry) × (slice_get entries i ≡ Some e) × (x ≡ spelled e)
place_in spelled [] x among = absurd among
place_in spelled (e ∷ entries) x (inl is) = (0, e, refl, is)
place_in spelled (e ∷ entries) x (inr older) = let rest = place_in spelled entries x older in (suc rest.0, rest.1, rest.2, rest.3)
