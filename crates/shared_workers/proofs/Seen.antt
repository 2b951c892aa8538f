-- A call of the room, as a turn of the lock tells it: by lists alone.
use Rattle.std.proofs.Common.{◌≡◌, ℕ, zero, suc, ◌≤◌, true, false, List, [], ◌∷◌, length, take, refl, sym, ap, ◌∙◌, subst, arith}
use Rattle.std.proofs.lemmas.Bool.{true≢false}
use mathlib.Core.List.{IsPrefix}
use Rattle.news_types.specs.declared.entry.Entry.{Entry}
use Rattle.news_types.specs.Names.{Bytes}
use Rattle.news_types.specs.History.{History}
use Rattle.news_types.specs.Books.{Book, onto, followed_by}
use Rattle.news_types.specs.Calls as call
use Rattle.news_types.specs.Products.{is_subscriber}
use Rattle.news_types.specs.Server.{Server}
use Rattle.news_types.proofs.Books.{behind_more}
use Rattle.news_types.proofs.Subscribed.{subscriber_stays}
use Rattle.news_io.specs.Keeper.{KeeperMeaning}
use Rattle.room_lock.specs.Passes.{At, at, IsTurn, found_by, left_by}
use Rattle.room_lock.specs.declared.view.Call.{Call}
use Rattle.room_lock.proofs.Fronts.{prefix_self, take_prefix}
use Rattle.news_room.specs.Claims.{ClaimStep, IsClaimEvent, ClaimHappens}
use Rattle.news_room.specs.Events.{Serves, IsEvent, Happens}
use Rattle.news_room.specs.Said.{said_kept}
use Rattle.news_room.specs.Stands.{Stands, numbers}
use Rattle.news_room.specs.Steps.{ReceiptStep}
use Rattle.news_room.specs.declared.answers.Kept.{Kept}
use Rattle.news_room.specs.declared.claim.Claimed.{Claimed}
use Rattle.news_room.specs.declared.room.Room.{Room}
use Rattle.shared_workers.specs.Steps.{IsCall, IsClaim, ClaimedBy, KeptBy}
use Rattle.shared_workers.proofs.Jobs.{frame_in, job_there}

-- ---- a book that is not told

abbrev pub untold : Book → Book
untold b = record { store = b.store; told = false; list = b.list }

module _ {K : Type 0} (keeper : KeeperMeaning K) (old : Room K) (b : Book) where
  -- who stands for a book, stands for it untold
  pub stands_untold : Stands keeper old b → Stands keeper old (untold b)
  stands_untold is = record {
    store_is = is.store_is;
    machine_for = is.machine_for;
    kept = is.kept;
    few = is.few;
    told = λ yes. absurd (true≢false (sym yes));
  }

  -- and serves there each server with its list
  serves_untold : (c : Server) → c.list ≡ b.list → Serves keeper old (untold b) c
  serves_untold c is = record { list_is = is; doubt = λ yes. absurd (true≢false (sym yes)) }

-- ---- calls

module _ {K : Type 0} (keeper : KeeperMeaning K) (old new : Room K) (b : Book) (more : List Entry) where
  abbrev before : At
  before = at b (keeper.faults old.keeper) (keeper.used old.keeper)

  abbrev after : At
  after = at (onto more b) (keeper.faults new.keeper) (keeper.used new.keeper)

  pub call_seen : (asked : call.Call) (now : ℕ) (answer : call.Answer) → IsEvent keeper old new (untold b) more asked now answer → IsCall before after asked now answer
  call_seen asked now answer e = record {
    fate = e.fate;
    lists = λ c is. (e.serves c (serves_untold keeper old b c is)).list_is;
    answers = λ c is. e.answers c (serves_untold keeper old b c is);
  }

  claim_seen : (names : List Bytes) (now : ℕ) (answer : Claimed) → IsClaimEvent keeper old new (untold b) more names now answer → IsClaim before after names now answer
  claim_seen names now answer e = record {
    first = e.first;
    second = e.second;
    lists = λ c is. (e.serves c (serves_untold keeper old b c is)).list_is;
    answers = λ c is. e.answers c (serves_untold keeper old b c is);
  }

  pub claimed_by : (now : ℕ) (names : List Bytes) (claimed : Claimed) → ClaimHappens keeper old new b more names now claimed (ClaimStep (numbers keeper old new) b now names more claimed)
      → IsClaimEvent keeper old new (untold b) more names now claimed → ClaimedBy now names before claimed after
  claimed_by now names claimed happens e = record {
    more = more;
    book_is = refl;
    step = happens.step;
    frame = frame_in (numbers keeper old new) b now names more claimed happens.step happens.stands.kept.legal;
    event = claim_seen names now claimed e;
  }

  pub kept_by : (now : ℕ) (s : Bytes) (n : ℕ) (kept : Kept) → Happens keeper old new b more (call.Receipted s n) now (said_kept kept) (ReceiptStep (numbers keeper old new) b now s n more kept)
      → IsEvent keeper old new (untold b) more (call.Receipted s n) now (said_kept kept) → KeptBy now s n before kept after
  kept_by now s n kept happens e = record {
    more = more;
    book_is = refl;
    step = happens.step;
    event = call_seen (call.Receipted s n) now (said_kept kept) e;
  }

-- ---- who is a subscriber stays one

stays_behind : (es : List Entry) (h : History) (s : Bytes) → is_subscriber h s ≡ true → is_subscriber (followed_by es h) s ≡ true
stays_behind [] h s there = there
stays_behind (e ∷ es) h s there = stays_behind es (e ∷ h) s (subscriber_stays e h s there)

prefix_take : (n : ℕ) (xs ys : List Entry) → IsPrefix xs ys → length xs ≤ n → IsPrefix xs (take n ys)
prefix_take n [] ys p le = (take n ys, refl)
prefix_take zero (x ∷ xs) ys p le = absurd (omega arith)
prefix_take (suc n) (x ∷ xs) [] p le = absurd (cc (p.1))
prefix_take (suc n) (x ∷ xs) (y ∷ ys) p le = let rest = prefix_take n xs ys (p.0, cc (p.1)) (omega arith) in (rest.0, cc (p.1, rest.1))

-- in a list that was seen, and in the one that the next turn found
pub found_there : (b : Book) (s : Bytes) (xs : List Entry) (ks : List Call) (ys : List Entry) (ls : List Call) (c : Call) → IsTurn xs ks ys ls c → is_subscriber (onto xs b).list s ≡ true → is_subscriber (found_by c b ys).book.list s ≡ true
found_there b s xs ks ys ls c t there =
    let p = prefix_take c.from xs ys t.1 t.2 in
    subst (λ (l : List Entry). is_subscriber (followed_by l b.list) s ≡ true) p.1
    (subst (λ (h : History). is_subscriber h s ≡ true) (behind_more xs p.0 b.list) (stays_behind p.0 (followed_by xs b.list) s there))

-- whose frame a turn gave, is a subscriber in the list that the turn left
pub left_there : (now : ℕ) (names : List Bytes) (b : Book) (xs : List Entry) (ks : List Call) (ys : List Entry) (ls : List Call) (c : Call) (s : Bytes) (k : ℕ) (frame : Bytes) (front : ℕ)
    → IsTurn xs ks ys ls c → ClaimedBy now names (found_by c b ys) (Claimed.Job s k frame front) (left_by c b ys) → is_subscriber (onto ys b).list s ≡ true
left_there now names b xs ks ys ls c s k frame front t claimed =
    let there = job_there _ (found_by c b ys).book now names claimed.more s k frame front claimed.step in
    let left : (left_by c b ys).book ≡ onto claimed.more (found_by c b ys).book = claimed.book_is in
    let all : take c.to ys ≡ ys = ap (λ (n : ℕ). take n ys) t.4 ∙ take_prefix ys ys (prefix_self ys) in
    subst (λ (l : List Entry). is_subscriber (onto l b).list s ≡ true) all (ap (λ (d : Book). is_subscriber d.list s) left ∙ there)
