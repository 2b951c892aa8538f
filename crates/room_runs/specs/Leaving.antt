-- What a crash now leaves of a desk's list.
use Rattle.std.proofs.Common.{◌≡◌, inl, inr, ℕ, Bool, true, false, List, Option, refl, subst}
use mathlib.Core.Bool.{false≢true}
use Rattle.news_types.specs.Names.{Bytes}
use Rattle.news_types.specs.Doubt.{payloads}
use Rattle.news_types.specs.History.{History}
use Rattle.news_types.specs.declared.entry.Entry.{Entry}
use Rattle.news_io.specs.Keeper.{KeeperMeaning, Leaves}
use Rattle.news_io.specs.Left.{IsLeft}
use Rattle.entry_codec.specs.Spelling.{entry_bytes}
use Rattle.news_room.specs.Log.{Opens}
use Rattle.news_room.specs.Stands.{in_doubt}
use Rattle.news_room.proofs.Crashes.{read_left}
use Rattle.room_runs.specs.Desk.{Hand, Shelf, StandsAt, moment_of}

told_moment : (told : Bool) (m : ℕ) → told ≡ true → moment_of told m ≡ m
told_moment true m is = refl
told_moment false m is = absurd (false≢true is)

pub leaves_now : {K C : Type 0} (keeper : KeeperMeaning K) (s : Shelf) (d : Hand K C) (h : History) (opened : Option (List Bytes)) → StandsAt keeper s d h
    → (s.told ≡ true) × keeper.left_since d.room.now.keeper (moment_of s.told (keeper.moment d.room.now.keeper)) opened
    → IsLeft Opens h (λ (e : Entry). (s.told ≡ true) × in_doubt keeper d.room.now e) opened
leaves_now keeper s d h opened stands left =
    let k = d.room.now.keeper in
    let told = stands.room_stands.told left.0 in
    let now = subst (λ (t : ℕ). keeper.left_since k t opened) (told_moment s.told (keeper.moment k) left.0) left.1 in
    let leaves : Leaves (payloads entry_bytes h) (keeper.doubts k) opened = subst (λ (l : List Bytes). Leaves l (keeper.doubts k) opened) told.list_is (keeper.leaves_now k opened told.tells_it now) in
    elim (read_left h (keeper.doubts k) stands.room_stands.kept told.follow opened leaves) [
      | inl same ↦ inl same
      | inr more ↦ inr (more.0, (left.0, more.1), more.2)
    ]
