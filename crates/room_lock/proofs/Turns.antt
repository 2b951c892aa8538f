-- What a turn did, by the list that is seen behind it.
use Rattle.std.proofs.Common.{◌≡◌, ℕ, zero, suc, ◌≤◌, List, [], ◌∷◌, ◌++◌, length, take, subst, sym, ap, refl, ◌∙◌, arith}
use mathlib.Core.List.{IsPrefix}
use Rattle.news_types.specs.declared.entry.Entry.{Entry}
use Rattle.news_types.specs.Books.{Book, onto}
use Rattle.room_lock.specs.declared.view.Call.{Call}
use Rattle.room_lock.specs.Views.{call}
use Rattle.room_lock.specs.Rules.{Since}
use Rattle.room_lock.specs.Passes.{At, at, found_by, left_by, IsTurn, pairs, Lent}
use Rattle.room_lock.specs.Calls.{InOrder}
use Rattle.room_lock.proofs.Calls.{order_length}
use Rattle.room_lock.proofs.Fronts.{prefix_self, take_prefix}

-- what the work says of its turn, by the list that is seen behind it
pub turn_told : {W : Type 0} (does : W → At → W → At → Type 0) (h : Book) (f g r : List Entry) (w w' : W) (b a : ℕ × ℕ) → IsPrefix f g → r ≡ g
    → does w (at (onto f h) b.0 b.1) w' (at (onto g h) a.0 a.1)
    → does w (found_by (call (length f) (length g) b a) h r) w' (left_by (call (length f) (length g) b a) h r)
turn_told does h f g r w w' b a p is d =
    let c : Call = call (length f) (length g) b a in
    subst (λ z. does w (found_by c h z) w' (left_by c h z)) (sym is)
    (subst (λ l. does w (at (onto l h) b.0 b.1) w' (left_by c h g)) (sym (take_prefix f g p))
    (subst (λ l. does w (at (onto f h) b.0 b.1) w' (at (onto l h) a.0 a.1)) (sym (take_prefix g g (prefix_self g))) d))

-- the first of a list are those of a longer one
pub take_within : (n : ℕ) (xs ys : List Entry) → IsPrefix xs ys → n ≤ length xs → take n xs ≡ take n ys
take_within zero xs ys p le = refl
take_within (suc n) [] ys p le = absurd (omega arith)
take_within (suc n) (x ∷ xs) [] p le = absurd (cc (p.1))
take_within (suc n) (x ∷ xs) (y ∷ ys) p le = let rest = take_within n xs ys (p.0, cc (p.1)) (omega arith) in cc (p.1, rest)

-- what a call found and left is the same by a longer list
pub found_within : (c : Call) (h : Book) (xs ys : List Entry) → IsPrefix xs ys → c.from ≤ length xs → found_by c h xs ≡ found_by c h ys
found_within c h xs ys p le = ap (λ l. at (onto l h) c.faults c.used) (take_within c.from xs ys p le)

pub left_within : (c : Call) (h : Book) (xs ys : List Entry) → IsPrefix xs ys → c.to ≤ length xs → left_by c h xs ≡ left_by c h ys
left_within c h xs ys p le = ap (λ l. at (onto l h) c.later_faults c.later_used) (take_within c.to xs ys p le)

-- calls that lie within a list found and left the same by a longer one
pub pairs_later : (b : Book) (a : ℕ) (cs : List Call) (xs ys : List Entry) → IsPrefix xs ys → InOrder a cs (length xs) → pairs b xs cs ≡ pairs b ys cs
pairs_later b a [] xs ys p o = refl
pairs_later b a (c ∷ cs) xs ys p o =
    let end : c.to ≤ length xs = order_length c.to cs (length xs) o.2 in
    let low : c.from ≤ c.to = o.1 in
    let rest = pairs_later b c.to cs xs ys p o.2 in
    let one : found_by c b xs ≡ found_by c b ys = found_within c b xs ys p (omega arith) in
    let two : left_by c b xs ≡ left_by c b ys = left_within c b xs ys p end in
    ap (λ (x : At). (x, left_by c b xs) ∷ pairs b xs cs) one ∙ (ap (λ (x : At). (found_by c b ys, x) ∷ pairs b xs cs) two ∙ ap (λ l. (found_by c b ys, left_by c b ys) ∷ l) rest)

-- what some calls and others found and left
pub pairs_more : (b : Book) (seen : List Entry) (cs ds : List Call) → pairs b seen (cs ++ ds) ≡ pairs b seen cs ++ pairs b seen ds
pairs_more b seen [] ds = refl
pairs_more b seen (c ∷ cs) ds = ap (λ l. (found_by c b seen, left_by c b seen) ∷ l) (pairs_more b seen cs ds)

-- what the value that was lent stood for, by the list that is seen behind the turn
pub turn_lent : {T : Type 0} (stands : T → Book → Type 0) (faults used : T → ℕ) (start : Book → Type 0) (f g r : List Entry) (found left : T) (b a : ℕ × ℕ) → IsPrefix f g → r ≡ g
    → Since stands start found f → Since stands start left g → b.0 ≡ faults found → b.1 ≡ used found → a.0 ≡ faults left → a.1 ≡ used left
    → Lent stands faults used start r (call (length f) (length g) b a)
turn_lent stands faults used start f g r found left b a p is was stays b₀ b₁ a₀ a₁ = record {
  found = found;
  left = left;
  before = λ h st. subst (λ l. stands found (onto l h)) (sym (take_prefix f r (subst (IsPrefix f) (sym is) p))) (was.all h st);
  after = λ h st. subst (λ l. stands left (onto l h)) (sym (take_prefix g r (subst (IsPrefix g) (sym is) (prefix_self g)))) (stays.all h st);
  faults_is = b₀;
  used_is = b₁;
  later_faults_is = a₀;
  later_used_is = a₁;
}

-- one turn is in order behind what was seen
pub turn_in_order : (xs : List Entry) (ks : List Call) (ys : List Entry) (ls : List Call) (c : Call) → IsTurn xs ks ys ls c → InOrder (length xs) (c ∷ []) (length ys)
turn_in_order xs ks ys ls c t = let low = t.2 in let more = t.3 in let end = t.4 in (low, more, omega arith)
