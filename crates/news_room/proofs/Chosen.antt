-- Whose feed is chosen is ready, and has the entry that is sent.
use Rattle.std.proofs.Common.{◌≡◌, ℕ, suc, ◌+◌, ◌<◌, ◌≤◌, ◌&&◌, Bool, true, false, cond, List, [], ◌∷◌, length, Option, Some, None, refl, sym, ap, ◌∙◌, subst, arith}
use Rattle.std.specs.Prelude.{filter_map}
use Rattle.std.specs.List.{cons_option}
use Rattle.std.specs.Option.{option_map}
use Rattle.std.proofs.lemmas.Bool.{true≢false}
use Rattle.std.proofs.lemmas.Option.{slice_get_within}
use Rattle.news_types.specs.declared.query.Ready.{Ready}
use Rattle.news_types.specs.declared.query.Ready.TheVariants.{Now, Later}
use Rattle.news_types.specs.Names.{Bytes}
use Rattle.news_types.specs.History.{History}
use Rattle.news_types.specs.Products.{is_subscriber}
use Rattle.news_types.specs.Feeds.{Dispatch, feed}
use Rattle.news_types.specs.Frames.{numbered}
use Rattle.news_types.specs.Delivery.{acked, tries, tried, next_entry, ready_from, ready_at, is_by, is_ready, Candidate, candidate, comes_first, earlier, earliest, ready_candidate, chosen, choice}
use Rattle.news_types.proofs.Members.{some_is, none_some}

-- ---- who is chosen

ready_by : (h : History) (m : ℕ) (s : Bytes) (ready : Bool) (o : Option ℕ) (c : Candidate) → is_ready h s m ≡ ready → cond ready (option_map (candidate s) o) None ≡ Some c → is_ready h c.name m ≡ true
ready_by h m s false o c is found = absurd (none_some c found)
ready_by h m s true None c is found = absurd (none_some c found)
ready_by h m s true (Some at) c is found = subst (λ (x : Candidate). is_ready h x.name m ≡ true) (some_is (candidate s at) c found) is

earlier_has : (P : Candidate → Type 0) (a : Candidate) (o : Option Candidate) → P a → ((c : Candidate) → o ≡ Some c → P c) → P (earlier a o)
earlier_has P a None one rest = one
earlier_has P a (Some b) one rest = elim (comes_first a b) as (λ t. P (cond t a b)) [ true ↦ one | false ↦ rest b refl ]

earliest_has : (P : Candidate → Type 0) (o : Option Candidate) (cs : List Candidate) (c : Candidate) → ((a : Candidate) → o ≡ Some a → P a) → ((a : Candidate) → earliest cs ≡ Some a → P a) → earliest (cons_option o cs) ≡ Some c → P c
earliest_has P None cs c one rest found = rest c found
earliest_has P (Some a) cs c one rest found = subst P (some_is _ c found) (earlier_has P a (earliest cs) (one a refl) rest)

earliest_ready : (h : History) (m : ℕ) (names : List Bytes) (c : Candidate) → earliest (filter_map (ready_candidate h m) names) ≡ Some c → is_ready h c.name m ≡ true
earliest_ready h m [] c found = absurd (none_some c found)
earliest_ready h m (s ∷ names) c found =
    earliest_has (λ (a : Candidate). is_ready h a.name m ≡ true) (ready_candidate h m s) (filter_map (ready_candidate h m) names) c
    (λ a one. ready_by h m s (is_ready h s m) (ready_at h s) a refl one) (λ a one. earliest_ready h m names a one) found

abbrev IsNext : History → ℕ → Ready → Type 0
IsNext h m (Now s k) = (is_ready h s m ≡ true) × (k ≡ acked h s + 1)
IsNext h m (Later next) = Unit {0}

chosen_next : (h : History) (m : ℕ) (names : List Bytes) (o : Option Candidate) → ((c : Candidate) → o ≡ Some c → is_ready h c.name m ≡ true) → IsNext h m (chosen h o names)
chosen_next h m names None ready = tt
chosen_next h m names (Some c) ready = (ready c refl, refl)

-- it is ready, and its next entry is sent
pub chosen_ready : (h : History) (names : List Bytes) (m : ℕ) (s : Bytes) (k : ℕ) → choice h names m ≡ Now s k → (is_ready h s m ≡ true) × (k ≡ acked h s + 1)
chosen_ready h names m s k is = subst (IsNext h m) is (chosen_next h m names (earliest (filter_map (ready_candidate h m) names)) (earliest_ready h m names))

-- ---- its entry

both_true : (a b : Bool) → (a && b) ≡ true → (a ≡ true) × (b ≡ true)
both_true true b is = (refl, is)
both_true false b is = absurd (true≢false (sym is))

next_some : (o : Option Dispatch) (n last m : ℕ) → is_by m (ready_from o n last) ≡ true → (p : Dispatch) × (o ≡ Some p)
next_some None n last m by = absurd (true≢false (sym by))
next_some (Some p) n last m by = (p, refl)

ready_next : (h : History) (s : Bytes) (m : ℕ) → is_ready h s m ≡ true → (p : Dispatch) × (next_entry h s ≡ Some p)
ready_next h s m ready = next_some (next_entry h s) (tries h s) (tried h s) m (both_true (is_subscriber h s) _ ready).1

-- the subscriber is there, and its feed has the entry
pub chosen_there : (h : History) (names : List Bytes) (m : ℕ) (s : Bytes) (k : ℕ) → choice h names m ≡ Now s k → (is_subscriber h s ≡ true) × (0 < k) × (k ≤ length (feed h s))
chosen_there h names m s k is =
    let ready = chosen_ready h names m s k is in
    let next = ready_next h s m ready.0 in
    let within = slice_get_within (feed h s) (acked h s) next.0 next.1 in
    ((both_true (is_subscriber h s) _ ready.0).0, omega (arith, ready.1), omega (arith, ready.1, within))

pub chosen_entry : (h : History) (names : List Bytes) (m : ℕ) (s : Bytes) (k : ℕ) → choice h names m ≡ Now s k → (p : Dispatch) × (numbered (feed h s) k ≡ Some p)
chosen_entry h names m s k is =
    let ready = chosen_ready h names m s k is in
    let next = ready_next h s m ready.0 in
    let same : k ≡ suc (acked h s) = omega (arith, ready.1) in
    (next.0, ap (λ (i : ℕ). numbered (feed h s) i) same ∙ next.1)
