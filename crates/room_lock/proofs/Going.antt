-- Steps of a role, one behind another, and seen from a longer list.
use Rattle.std.proofs.Common.{◌≡◌, ℕ, List, [], ◌∷◌, ◌++◌, length, subst, sym, ap, refl, ◌∙◌, append_assoc, append-nil, arith}
use mathlib.Core.List.{IsPrefix}
use Rattle.news_types.specs.declared.entry.Entry.{Entry}
use Rattle.news_types.specs.Books.{Book}
use Rattle.room_lock.specs.declared.view.Call.{Call}
use Rattle.room_lock.specs.Calls.{InOrder}
use Rattle.room_lock.specs.Passes.{At, found_by, left_by, IsTurn, pairs}
use Rattle.room_lock.specs.Going.{calls_all, AllHold, Went}
use Rattle.room_lock.proofs.Calls.{order_wider, order_first, order_last, order_append}
use Rattle.room_lock.proofs.Fronts.{prefix_self, prefix_trans, prefix_length}
use Rattle.room_lock.proofs.Turns.{pairs_later, turn_in_order}

module _ {S : Type 0} (calls_in : S → List Call) where
  pub calls_more : (ss ts : List S) → calls_all calls_in (ss ++ ts) ≡ calls_all calls_in ss ++ calls_all calls_in ts
  calls_more [] ts = refl
  calls_more (s ∷ ss) ts = ap (λ l. calls_in s ++ l) (calls_more ss ts) ∙ sym (append_assoc (calls_in s) (calls_all calls_in ss) (calls_all calls_in ts))

  module _ (holds : S → List (At × At) → Type 0) where
    -- steps within a list did the same by a longer one
    pub all_later : (b : Book) (a : ℕ) (xs ys : List Entry) (ss : List S) → IsPrefix xs ys → InOrder a (calls_all calls_in ss) (length xs) → AllHold calls_in holds b xs ss → AllHold calls_in holds b ys ss
    all_later b a xs ys [] p o d = tt
    all_later b a xs ys (s ∷ ss) p o d =
        let rest = order_last a (calls_in s) (calls_all calls_in ss) (length xs) o in (
          subst (λ ps. holds s ps) (pairs_later b a (calls_in s) xs ys p (order_first a (calls_in s) (calls_all calls_in ss) (length xs) o)) d.0,
          all_later b rest.0 xs ys ss p rest.1 d.1,
        )

    -- some steps, and others
    pub all_more : (b : Book) (xs : List Entry) (ss ts : List S) → AllHold calls_in holds b xs ss → AllHold calls_in holds b xs ts → AllHold calls_in holds b xs (ss ++ ts)
    all_more b xs [] ts d e = e
    all_more b xs (s ∷ ss) ts d e = (d.0, all_more b xs ss ts d.1 e)

    module _ (stands : Book → Type 0) where
      -- no step
      pub went_none : (xs : List Entry) (ks : List Call) → Went calls_in holds stands xs ks xs ks []
      went_none xs ks = record { calls_are = sym (append-nil ks); grows = prefix_self xs; order = omega arith; did = λ b is. tt }

      -- one step, of some turns
      pub went_one : (xs : List Entry) (ks : List Call) (ys : List Entry) (ls : List Call) (s : S) → ls ≡ ks ++ calls_in s → IsPrefix xs ys → InOrder (length xs) (calls_in s) (length ys)
          → ((b : Book) → stands b → holds s (pairs b ys (calls_in s))) → Went calls_in holds stands xs ks ys ls (s ∷ [])
      went_one xs ks ys ls s e p o d = record {
        calls_are = e ∙ ap (λ l. ks ++ l) (sym (append-nil (calls_in s)));
        grows = p;
        order = subst (λ l. InOrder (length xs) l (length ys)) (sym (append-nil (calls_in s))) o;
        did = λ b is. (d b is, tt);
      }

      -- a step of one turn
      pub went_turn : (xs : List Entry) (ks : List Call) (ys : List Entry) (ls : List Call) (c : Call) (s : S) → calls_in s ≡ c ∷ [] → IsTurn xs ks ys ls c
          → ((b : Book) → stands b → holds s ((found_by c b ys, left_by c b ys) ∷ [])) → Went calls_in holds stands xs ks ys ls (s ∷ [])
      went_turn xs ks ys ls c s one t d = went_one xs ks ys ls s (t.0 ∙ ap (λ l. ks ++ l) (sym one)) t.1 (subst (λ l. InOrder (length xs) l (length ys)) (sym one) (turn_in_order xs ks ys ls c t))
          (λ b is. subst (λ l. holds s (pairs b ys l)) (sym one) (d b is))

      -- some steps, and behind them some others
      pub went_on : (xs : List Entry) (ks : List Call) (ys : List Entry) (ls : List Call) (zs : List Entry) (ms : List Call) (ss ts : List S)
          → Went calls_in holds stands xs ks ys ls ss → Went calls_in holds stands ys ls zs ms ts → Went calls_in holds stands xs ks zs ms (ss ++ ts)
      went_on xs ks ys ls zs ms ss ts v w = record {
        calls_are = w.calls_are ∙ (ap (λ l. l ++ calls_all calls_in ts) v.calls_are ∙ (append_assoc ks (calls_all calls_in ss) (calls_all calls_in ts) ∙ ap (λ l. ks ++ l) (sym (calls_more ss ts))));
        grows = prefix_trans xs ys zs v.grows w.grows;
        order = subst (λ l. InOrder (length xs) l (length zs)) (sym (calls_more ss ts)) (order_append (length xs) (calls_all calls_in ss) (length ys) (calls_all calls_in ts) (length zs) v.order w.order);
        did = λ b is. all_more b zs ss ts (all_later b (length xs) ys zs ss w.grows v.order (v.did b is)) (w.did b is);
      }

      -- what a role did, by a longer list
      pub went_later : (xs : List Entry) (ks : List Call) (ys : List Entry) (ls : List Call) (zs : List Entry) (ss : List S) → Went calls_in holds stands xs ks ys ls ss → IsPrefix ys zs
          → InOrder (length xs) (calls_all calls_in ss) (length zs) × ((b : Book) → stands b → AllHold calls_in holds b zs ss)
      went_later xs ks ys ls zs ss v p = (order_wider (length xs) (calls_all calls_in ss) (length ys) (length zs) v.order (prefix_length ys zs p), λ b is. all_later b (length xs) ys zs ss p v.order (v.did b is))
