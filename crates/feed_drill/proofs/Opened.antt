-- A room without a record.
use Rattle.std.proofs.Common.{◌≡◌, false, List, [], ◌∷◌, ◌++◌, refl, sym}
use Rattle.std.proofs.lemmas.Bool.{true≢false}
use Rattle.news_types.specs.declared.entry.Entry.{Entry}
use Rattle.news_types.specs.Names.{Bytes}
use Rattle.news_types.specs.History.{History}
use Rattle.news_types.specs.Books.{Book}
use Rattle.news_types.specs.Doubt.{payloads}
use Rattle.news_io.specs.Keeper.{KeeperMeaning}
use Rattle.news_room.specs.Opening.{IsOpened}
use Rattle.news_room.specs.Stands.{Stands}
use Rattle.news_room.specs.declared.room.Room.{Room}

none_more : (before : List Bytes) (last : Bytes) → [] ≡ before ++ last ∷ [] → ⊥
none_more [] last is = none last [] is
  where
    none : (x : Bytes) (xs : List Bytes) → [] ≡ x ∷ xs → ⊥
    none x xs is = cc
none_more (x ∷ before) last is = none x (before ++ last ∷ []) is
  where
    none : (x : Bytes) (xs : List Bytes) → [] ≡ x ∷ xs → ⊥
    none x xs is = cc

no_entries : (spelled : Entry → Bytes) (h : History) → [] ≡ payloads spelled h → h ≡ []
no_entries spelled [] is = refl
no_entries spelled (e ∷ h) is = absurd (none_more (payloads spelled h) (spelled e) is)

pub opened_none : {K : Type 0} (keeper : KeeperMeaning K) (k : K) (store : Bytes) (room : Room K) → IsOpened keeper k store [] room → (b : Book) × Stands keeper room b × (b.list ≡ [])
opened_none keeper k store room opened =
    (record { store = store; told = false; list = opened.history }, opened.stands false (λ is. absurd (true≢false (sym is))), no_entries _ opened.history opened.opens.is)
