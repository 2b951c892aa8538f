-- A room behind what its keeper did.
use Rattle.std.specs.Prelude.{Result, IfOk}
use Rattle.std.proofs.Common.{◌≡◌, Ok, Err, ℕ, ◌+◌, ◌<◌, ◌≤◌, min, true, [], ◌∷◌, ◌∙◌, arith}
use Rattle.news_types.specs.declared.entry.Entry.{Entry}
use Rattle.news_types.specs.History.{History, moment, moment_at}
use Rattle.news_types.specs.Books.{Book, onto}
use Rattle.news_types.specs.Members.{Each}
use Rattle.entry_codec.specs.Formed.{IsEntry}
use Rattle.newsroom.specs.Stands.{StandsFor, store_of}
use Rattle.news_room.specs.Log.{size_of, IsStored}
use Rattle.news_room.specs.Stands.{Stands, Tells, LAST}
use Rattle.news_room.specs.declared.room.Room.{Room}
use Rattle.news_io.specs.Keeper.{KeeperMeaning}

module _ {K : Type 0} (keeper : KeeperMeaning K) where
  -- with one entry more
  pub stands_more : (r r' : Room K) (b : Book) (e : Entry) (count : ℕ) → Stands keeper r b → store_of r'.machine ≡ store_of r.machine → StandsFor r'.machine (e ∷ b.list) → IsStored (e ∷ b.list)
      → count ≡ size_of e → keeper.used r'.keeper ≡ keeper.used r.keeper + count → keeper.used r'.keeper ≤ LAST → (b.told ≡ true → Tells keeper r'.keeper b.store (e ∷ b.list))
      → Stands keeper r' (onto (e ∷ []) b)
  stands_more r r' b e count is store machine kept size grown within told = record {
    store_is = store ∙ is.store_is;
    machine_for = machine;
    kept = kept;
    few = omega (arith, is.few, size, grown, within);
    told = told;
  }

  -- with none more
  pub stands_same : (r r' : Room K) (b : Book) → Stands keeper r b → store_of r'.machine ≡ store_of r.machine → StandsFor r'.machine b.list
      → keeper.used r'.keeper ≡ keeper.used r.keeper → (b.told ≡ true → Tells keeper r'.keeper b.store b.list) → Stands keeper r' b
  stands_same r r' b is store machine same told = record {
    store_is = store ∙ is.store_is;
    machine_for = machine;
    kept = is.kept;
    few = omega (arith, is.few, same);
    told = told;
  }

-- there is place in the list for one more entry
pub place_left : (count used : ℕ) → count ≤ 2147483648 + min used 1073741824 → count < 4294967295
place_left count used few = omega (arith, few)

-- what comes next has a moment before the year 10000
pub moment_fits : (h : History) (now : ℕ) → Each IsEntry h → moment_at h now < 253402300800
moment_fits [] now formed = omega arith
moment_fits (e ∷ h) now formed = omega (arith, formed.0.fits.moment)

pub moment_later : (h : History) (now : ℕ) → moment h ≤ moment_at h now
moment_later h now = omega arith

-- an answer of which something follows
pub ok_weaker : {A E : Type 0} (r : Result A E) (P Q : A → Type 0) → ((x : A) → P x → Q x) → IfOk r P → IfOk r Q
ok_weaker (Ok x) P Q more is = more x is
ok_weaker (Err e) P Q more is = tt
