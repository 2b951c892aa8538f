-- One turn of the lock and two, as a round.
use Rattle.std.proofs.Common.{◌≡◌, ℕ, ◌≤◌, List, [], ◌∷◌, ◌++◌, length, subst, ap, refl, ◌∙◌, append_assoc, arith}
use mathlib.Core.List.{IsPrefix}
use Rattle.news_types.specs.declared.entry.Entry.{Entry}
use Rattle.news_types.specs.Names.{Bytes}
use Rattle.news_types.specs.Books.{Book}
use Rattle.room_lock.specs.Calls.{InOrder}
use Rattle.room_lock.specs.Going.{Went}
use Rattle.room_lock.specs.Passes.{At, IsTurn, found_by, left_by}
use Rattle.room_lock.specs.declared.view.Call.{Call}
use Rattle.room_lock.proofs.Fronts.{prefix_trans}
use Rattle.room_lock.proofs.Going.{went_one, went_turn}
use Rattle.room_lock.proofs.Turns.{found_within, left_within}
use Rattle.news_room.specs.declared.claim.Claimed.{Claimed}
use Rattle.publish_workers.specs.Turns.{Exchange}
use Rattle.shared_workers.specs.declared.works.Step.{Step}
use Rattle.shared_workers.specs.Steps.{Took}
use Rattle.shared_workers.specs.Exchanges.{Exchanged}
use Rattle.shared_workers.specs.Rounds.{Stop, Work, round, round_calls, round_holds}

-- what a turn took, by a longer list
took_later : (now : ℕ) (names : List Bytes) (base : ℕ) (b : Book) (xs ys : List Entry) (c : Call) (step : Step) → Took now names base (found_by c b xs) step (left_by c b xs) → IsPrefix xs ys → c.from ≤ c.to → c.to ≤ length xs
    → Took now names base (found_by c b ys) step (left_by c b ys)
took_later now names base b xs ys c step t p low end =
    subst (λ (f : At). Took now names base f step (left_by c b ys)) (found_within c b xs ys p (omega arith))
    (subst (λ (l : At). Took now names base (found_by c b xs) step l) (left_within c b xs ys p end) t)

-- what it took, said otherwise
pub took_as : (now base : ℕ) (names names' : List Bytes) (before after : At) (step step' : Step) → names ≡ names' → step ≡ step' → Took now names base before step after → Took now names' base before step' after
took_as now base names names' before after step step' same is took =
    subst (λ (s : Step). Took now names' base before s after) is (subst (λ (ns : List Bytes). Took now ns base before step after) same took)

-- the claim that a turn came to, said otherwise
pub step_as : (step : Step) (c d : Claimed) → step ≡ Step.Claimed c → c ≡ d → step ≡ Step.Claimed d
step_as step c d is same = is ∙ ap (λ (x : Claimed). Step.Claimed x) same

module _ (base : ℕ) (names : List Bytes) (stands : Book → Type 0) (xs : List Entry) (ks : List Call) (ys : List Entry) (ls : List Call) (c : Call) (t : IsTurn xs ks ys ls c) (now : ℕ) where
  -- the one call found a stop
  pub stop_round : (place : ℕ) → ((b : Book) → stands b → Took now names base (found_by c b ys) (Step.Stopping place) (left_by c b ys))
      → Went round_calls (round_holds base names) stands xs ks ys ls (round (Stop now place) (c ∷ []) ∷ [])
  stop_round place took = went_turn round_calls (round_holds base names) stands xs ks ys ls c (round (Stop now place) (c ∷ [])) refl t
      (λ b is. record { call = (found_by c b ys, left_by c b ys); calls_are = refl; took = took b is })

  module _ (claimed : Claimed) (took : (b : Book) → stands b → Took now names base (found_by c b ys) (Step.Claimed claimed) (left_by c b ys)) where
    -- the one call claimed, and there was no receipt to keep
    pub claim_round : (x : Exchange) → Exchanged claimed x [] → Went round_calls (round_holds base names) stands xs ks ys ls (round (Work (record { reading = now; claimed = claimed; exchange = x })) (c ∷ []) ∷ [])
    claim_round x done = went_turn round_calls (round_holds base names) stands xs ks ys ls c (round (Work (record { reading = now; claimed = claimed; exchange = x })) (c ∷ [])) refl t
        (λ b is. record { claim = (found_by c b ys, left_by c b ys); later = []; calls_are = refl; took = took b is; exchanged = done })

    -- the second call brought a receipt
    pub receipt_round : (zs : List Entry) (ms : List Call) (d : Call) → IsTurn ys ls zs ms d → (x : Exchange) → ((b : Book) → stands b → Exchanged claimed x ((found_by d b zs, left_by d b zs) ∷ []))
        → Went round_calls (round_holds base names) stands xs ks zs ms (round (Work (record { reading = now; claimed = claimed; exchange = x })) (c ∷ d ∷ []) ∷ [])
    receipt_round zs ms d u x done =
        let low = t.2 in let one = t.3 in let end = t.4 in let next = u.2 in let two = u.3 in let last = u.4 in
        let order : InOrder (length xs) (c ∷ d ∷ []) (length zs) = (low, one, (omega (arith, end, next), two, omega (arith, last))) in
        went_one round_calls (round_holds base names) stands xs ks zs ms (round (Work (record { reading = now; claimed = claimed; exchange = x })) (c ∷ d ∷ []))
        (u.0 ∙ (ap (λ (l : List Call). l ++ d ∷ []) t.0 ∙ append_assoc ks (c ∷ []) (d ∷ [])))
        (prefix_trans xs ys zs t.1 u.1)
        order
        (λ b is. record {
          claim = (found_by c b zs, left_by c b zs);
          later = (found_by d b zs, left_by d b zs) ∷ [];
          calls_are = refl;
          took = took_later now names base b ys zs c (Step.Claimed claimed) (took b is) u.1 one (omega (arith, end));
          exchanged = done b is;
        })
