-- What a call on a link makes of what its receivers hold.
use Rattle.std.proofs.Common.{◌≡◌, ℕ, zero, suc, List, [], ◌∷◌, Option, Some, None, length, get_or, ◌<◌, refl, sym, ◌∙◌, ap, subst}
use Rattle.std.proofs.lemmas.List.{set-get_or}
use Rattle.std.proofs.lemmas.Option.{same_Some, none-some, slice_get-get_or}
use Rattle.std.specs.Prelude.{slice_get, slice_set}
use Rattle.std.specs.List.{AllZip}
use Rattle.news_types.specs.Names.{Bytes}
use Rattle.news_io.specs.Keeper.{KeeperMeaning}
use Rattle.feed_receiver.specs.declared.receiver.Receiver.{Receiver}
use Rattle.feed_receiver.specs.Holds.{Received, Holds}
use Rattle.news_io.specs.Link.{Nothing}
use Rattle.feed_links.specs.Receivers.{Replies, Comes, Passes, place}

-- ---- two lists beside each other

beside : {A B : Type 0} (R : A → B → Type 0) (xs : List A) (ys : List B) (i : ℕ) (x : A) → AllZip R xs ys → slice_get xs i ≡ Some x → (y : B) × (slice_get ys i ≡ Some y) × R x y
beside R [] ys i x zip here = absurd (none-some x here)
beside R (a ∷ xs) [] i x zip here = absurd zip
beside R (a ∷ xs) (b ∷ ys) zero x zip here = (b, refl, subst (λ z. R z b) (same_Some a x here) zip.0)
beside R (a ∷ xs) (b ∷ ys) (suc i) x zip here = beside R xs ys i x zip.1 here

set_beside : {A B : Type 0} (R : A → B → Type 0) (xs : List A) (ys : List B) (i : ℕ) (x : A) (y : B) → AllZip R xs ys → R x y → AllZip R (slice_set xs i x) (slice_set ys i y)
set_beside R [] [] i x y zip r = zip
set_beside R [] (b ∷ ys) i x y zip r = absurd zip
set_beside R (a ∷ xs) [] i x y zip r = absurd zip
set_beside R (a ∷ xs) (b ∷ ys) zero x y zip r = (r, zip.1)
set_beside R (a ∷ xs) (b ∷ ys) (suc i) x y zip r = (zip.0, set_beside R xs ys i x y zip.1 r)

-- ---- a call

module _ {K : Type 0} (keeper : KeeperMeaning K) where
  -- a frame comes to one of the receivers
  pub comes : (names : List Bytes) (receivers : List (Receiver K)) (waits : Option (Bytes × Bytes)) (s frame : Bytes) (at : ℕ) (old new : Receiver K) (reply : Bytes) → place s names ≡ Some at → at < length receivers → old ≡ get_or receivers at old
      → ((b : Received) → Holds keeper old b → (now : Received) × Holds keeper new now × Replies b frame now reply)
      → (was : List Received) → AllZip (Holds keeper) receivers was
      → (now : List Received) × AllZip (Holds keeper) (slice_set receivers at new) now × Comes names s frame (record { held = was; waits = waits }) (record { held = now; waits = Some (s, reply) })
  comes names receivers waits s frame at old new reply here in' is answers was stand =
      let there : slice_get receivers at ≡ Some old = slice_get-get_or receivers at old in' ∙ ap (λ (r : Receiver K). Some r) (sym is) in
      let before = beside (Holds keeper) receivers was at old stand there in
      let now = answers before.0 before.2 in
      (slice_set was at now.0, set_beside (Holds keeper) receivers was at new now.0 stand now.1, record { at = at; here = here; was = before.0; now = now.0; reply = reply; there = before.1; replies = now.2; only = refl })

  -- and then they hold something
  pub still_hold : (names : List Bytes) (receivers : List (Receiver K)) (s frame : Bytes) (at : ℕ) (old new : Receiver K) (reply : Bytes) → place s names ≡ Some at → at < length receivers → old ≡ get_or receivers at old
      → ((b : Received) → Holds keeper old b → (now : Received) × Holds keeper new now × Replies b frame now reply)
      → (held : List Received) × AllZip (Holds keeper) receivers held → (held : List Received) × AllZip (Holds keeper) (slice_set receivers at new) held
  still_hold names receivers s frame at old new reply here in' is answers held =
      let come = comes names receivers None s frame at old new reply here in' is answers held.0 held.1 in (come.0, come.1)

  -- none does: a receiver is put back as it was
  pub none_comes : (receivers : List (Receiver K)) (waits : Option (Bytes × Bytes)) (names : List Bytes) (at : ℕ) (r : Receiver K) → r ≡ get_or receivers at r
      → (was : List Received) → AllZip (Holds keeper) receivers was
      → (now : List Received) × AllZip (Holds keeper) (slice_set receivers at r) now × Passes names Nothing (record { held = was; waits = waits }) (record { held = now; waits = waits })
  none_comes receivers waits names at r is was stand =
      let same : receivers ≡ slice_set receivers at r = sym (set-get_or receivers at r) ∙ ap (slice_set receivers at) (sym is) in
      (was, subst (λ (rs : List (Receiver K)). AllZip (Holds keeper) rs was) same stand, refl)
