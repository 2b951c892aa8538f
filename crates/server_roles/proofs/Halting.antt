-- One halt more.
use Rattle.std.proofs.Common.{◌≡◌, ℕ, false, List, [], ◌∷◌, ◌++◌, map, refl, sym, ap, subst}
use Rattle.news_types.specs.declared.entry.Entry.{Entry}
use Rattle.news_types.specs.Books.{Book, onto}
use Rattle.news_types.specs.Calls as call
use Rattle.news_types.specs.Members.{Each}
use Rattle.news_types.proofs.Members.{each_append}
use Rattle.news_io.specs.Clock.{ClockMeaning}
use Rattle.news_io.specs.Keeper.{KeeperMeaning}
use Rattle.publish_workers.specs.Links.{Reads}
use Rattle.room_lock.specs.Going.{Went}
use Rattle.room_lock.specs.Passes.{at, IsTurn, found_by, left_by}
use Rattle.room_lock.specs.declared.view.Call.{Call}
use Rattle.room_lock.proofs.Going.{went_turn, went_on}
use Rattle.news_room.specs.Events.{Happens, IsEvent}
use Rattle.news_room.specs.Said.{said_tick}
use Rattle.news_room.specs.Stands.{numbers}
use Rattle.news_room.specs.Steps.{HaltStep}
use Rattle.news_room.specs.declared.answers.Ticked.{Ticked}
use Rattle.news_room.specs.declared.room.Room.{Room}
use Rattle.shared_workers.proofs.Passing.{reads_then}
use Rattle.shared_workers.proofs.Seen.{untold, call_seen}
use Rattle.server_roles.specs.Halts.{Halted, HaltedBy, is_kept, halted, halted_calls, halted_holds, reading_of, halt_readings}

-- a halt, as its turn tells it
pub halted_by : {K : Type 0} (keeper : KeeperMeaning K) (old new : Room K) (b : Book) (more : List Entry) (now : ℕ) (ticked : Ticked)
    → Happens keeper old new b more call.Halted now (said_tick ticked) (HaltStep (numbers keeper old new) b now more ticked)
    → IsEvent keeper old new (untold b) more call.Halted now (said_tick ticked)
    → HaltedBy now (at b (keeper.faults old.keeper) (keeper.used old.keeper)) ticked (at (onto more b) (keeper.faults new.keeper) (keeper.used new.keeper))
halted_by keeper old new b more now ticked happens e = record {
  more = more;
  book_is = refl;
  step = happens.step;
  event = call_seen keeper old new b more call.Halted now (said_tick ticked) e;
}

-- what is none of the kept ones
pub not_kept : (t : Ticked) → ((place : ℕ) → t ≡ Ticked.Kept place → ⊥) → is_kept t ≡ false
not_kept (Ticked.Kept place) other = absurd (other place refl)
not_kept Ticked.Still other = refl
not_kept Ticked.Fault other = refl
not_kept (Ticked.Full size count) other = refl

pub map_more : {A B : Type 0} (f : A → B) (xs : List A) (x : A) → map f (xs ++ x ∷ []) ≡ map f xs ++ f x ∷ []
map_more f [] x = refl
map_more f (y ∷ ys) x = ap (λ l. f y ∷ l) (map_more f ys x)

pub each_more : {A : Type 0} (P : A → Type 0) (xs : List A) (x : A) → Each P xs → P x → Each P (xs ++ x ∷ [])
each_more P xs x all one = each_append P xs (x ∷ []) all (one, tt)

module _ (stands : Book → Type 0) where
  pub went_halted : (xs : List Entry) (ks : List Call) (ys : List Entry) (ls : List Call) (zs : List Entry) (ms : List Call) (halts : List Halted) (reading : ℕ) (ticked : Ticked) (c : Call)
      → Went halted_calls halted_holds stands xs ks ys ls halts → IsTurn ys ls zs ms c → ((b : Book) → stands b → HaltedBy reading (found_by c b zs) ticked (left_by c b zs))
      → Went halted_calls halted_holds stands xs ks zs ms (halts ++ halted reading ticked c ∷ [])
  went_halted xs ks ys ls zs ms halts reading ticked c w t d =
      let h : Halted = halted reading ticked c in
      went_on halted_calls halted_holds stands xs ks ys ls zs ms halts (h ∷ []) w (went_turn halted_calls halted_holds stands ys ls zs ms c h refl t (λ b is. ((found_by c b zs, left_by c b zs), refl, d b is)))

module _ {C : Type 0} (clock : ClockMeaning C) where
  pub halt_read : (old mid new : C) (halts : List Halted) (reading : ℕ) (ticked : Ticked) (c : Call) → Reads clock old mid (halt_readings halts) → Reads clock mid new (reading ∷ [])
      → Reads clock old new (halt_readings (halts ++ halted reading ticked c ∷ []))
  halt_read old mid new halts reading ticked c one two =
      subst (λ (l : List ℕ). Reads clock old new l) (sym (map_more reading_of halts (halted reading ticked c))) (reads_then clock old mid new (halt_readings halts) (reading ∷ []) one two)
