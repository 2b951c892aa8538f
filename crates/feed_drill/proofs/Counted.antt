-- How many frames a receiver holds.
use Rattle.std.proofs.Common.{◌≡◌, ℕ, zero, suc, List, [], ◌∷◌, length, Option, Some, None, refl, sym, ap, ◌∙◌, subst}
use Rattle.std.specs.Prelude.{slice_get, MatchOption, unwrap_or}
use Rattle.std.specs.List.{AllZip}
use Rattle.std.specs.Option.{option_and_then}
use Rattle.news_types.specs.Names.{Bytes}
use Rattle.news_types.proofs.Members.{some_is, none_some}
use Rattle.news_io.specs.Keeper.{KeeperMeaning}
use Rattle.feed_receiver.specs.declared.receiver.Receiver.{Receiver}
use Rattle.feed_receiver.specs.Holds.{Received, Holds}
use Rattle.feed_links.specs.declared.memory_link.MemoryLink.{MemoryLink}
use Rattle.feed_links.specs.Links.{AllHold, receiver_of}
use Rattle.feed_links.specs.Receivers.{place}
use Rattle.publish_workers.specs.InMemory.{names_of, received_by}
use Rattle.feed_drill.specs.Report.{frame_count}

-- the member beside another
beside : {A B : Type 0} (R : A → B → Type 0) (xs : List A) (ys : List B) (i : ℕ) (x : A) → AllZip R xs ys → slice_get xs i ≡ Some x → (y : B) × (slice_get ys i ≡ Some y) × R x y
beside R [] ys i x zip here = absurd (none_some x here)
beside R (a ∷ xs) [] i x zip here = absurd zip
beside R (a ∷ xs) (b ∷ ys) zero x zip here = (b, refl, subst (λ z. R z b) (some_is a x here) zip.0)
beside R (a ∷ xs) (b ∷ ys) (suc i) x zip here = beside R xs ys i x zip.1 here

-- and none beside none
none_beside : {A B : Type 0} (R : A → B → Type 0) (xs : List A) (ys : List B) (i : ℕ) → AllZip R xs ys → slice_get xs i ≡ None → slice_get ys i ≡ None
none_beside R [] [] i zip none = refl
none_beside R [] (b ∷ ys) i zip none = absurd zip
none_beside R (a ∷ xs) [] i zip none = absurd zip
none_beside R (a ∷ xs) (b ∷ ys) zero zip none = absurd (none_some a (sym none))
none_beside R (a ∷ xs) (b ∷ ys) (suc i) zip none = none_beside R xs ys i zip.1 none

module _ {K : Type 0} (keeper : KeeperMeaning K) (receivers : List (Receiver K)) (held : List Received) (zip : AllZip (Holds keeper) receivers held) where
  counted_at : (at : Option ℕ) (count : Option ℕ)
      → MatchOption count (option_and_then (slice_get receivers) at ≡ None) (λ n. (r : Receiver K) × (option_and_then (slice_get receivers) at ≡ Some r) × ((b : Received) → Holds keeper r b → n ≡ length b.frames))
      → unwrap_or count 0 ≡ frame_count (option_and_then (slice_get held) at)
  counted_at None None told = refl
  counted_at None (Some n) told = absurd (none_some told.0 told.1)
  counted_at (Some i) None told = sym (ap frame_count (none_beside (Holds keeper) receivers held i zip told))
  counted_at (Some i) (Some n) told =
      let there = beside (Holds keeper) receivers held i told.0 zip told.1 in
      told.2 there.0 there.2 ∙ sym (ap frame_count there.1)

pub counted : {K : Type 0} (keeper : KeeperMeaning K) (link : MemoryLink K) (held : List Received) (s : Bytes) (count : Option ℕ) → AllHold keeper link held
    → MatchOption count (receiver_of link s ≡ None) (λ n. (r : Receiver K) × (receiver_of link s ≡ Some r) × ((b : Received) → Holds keeper r b → n ≡ length b.frames))
    → unwrap_or count 0 ≡ frame_count (received_by (names_of link) held s)
counted keeper link held s count zip told = counted_at keeper link.receivers.items held zip (place s (names_of link)) count told
