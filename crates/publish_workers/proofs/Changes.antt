-- What the entries of a turn change for a subscriber.
use Rattle.std.proofs.Common.{◌≡◌, ◌⊎◌, inl, inr, ◌≤◌, ◌<◌, ◌+◌, ◌&&◌, ℕ, max, nat_le, nat_lt, Bool, true, false, cond, List, [], ◌∷◌, ◌++◌, length, Option, Some, None, refl, sym, ap, ◌∙◌, subst, arith, append_assoc, append-nil, length-append}
use Rattle.std.specs.List.{slice_get}
use Rattle.std.proofs.lemmas.Bool.{true≢false, cases_lt}
use Rattle.std.proofs.lemmas.Bool.Decides.{nat_tests}
use Rattle.news_types.specs.declared.entry.Entry.{Entry}
use Rattle.news_types.specs.declared.entry.Act.TheVariants.{Attempt, Receipt}
use Rattle.news_types.specs.Names.{Bytes, same}
use Rattle.news_types.specs.History.{History, moment_at}
use Rattle.news_types.specs.Books.{followed_by}
use Rattle.news_types.specs.Calls.{IsKept, ticked}
use Rattle.news_types.specs.Products.{is_subscriber}
use Rattle.news_types.specs.Outcome.{entry_of}
use Rattle.news_types.specs.Legal.{IsLegal, some_waits}
use Rattle.news_types.specs.Feeds.{Dispatch, feed}
use Rattle.news_types.specs.FeedLaws.{BeginsWith}
use Rattle.news_types.specs.Frames.{Frame}
use Rattle.news_types.specs.Receiver as step
use Rattle.news_types.specs.Delivery.{acked, tries, tried, next_entry, ready_from, ready_at, is_by, is_ready}
use Rattle.news_types.proofs.Members.{same_self, get_more}
use Rattle.news_types.proofs.Prefix.{feeds_grow}
use Rattle.publish_workers.specs.Completeness.{IsAcknowledged, MayBeSent, Takes}

-- ---- longer lists

pub legal_before : (es : List Entry) (h : History) → IsLegal (followed_by es h) → IsLegal h
legal_before [] h legal = legal
legal_before (e ∷ es) h legal = (legal_before es (e ∷ h) legal).0

begins_then : (a b c : List Dispatch) → BeginsWith a b → BeginsWith b c → BeginsWith a c
begins_then a b c one two = (two.0 ++ one.0, one.1 ∙ ap (λ (l : List Dispatch). l ++ one.0) two.1 ∙ append_assoc c two.0 one.0)

pub feed_begins : (es : List Entry) (h : History) (s : Bytes) → IsLegal (followed_by es h) → BeginsWith (feed (followed_by es h) s) (feed h s)
feed_begins [] h s legal = ([], sym (append-nil (feed h s)))
feed_begins (e ∷ es) h s legal = begins_then (feed (followed_by es (e ∷ h)) s) (feed (e ∷ h) s) (feed h s) (feed_begins es (e ∷ h) s legal) (feeds_grow (e ∷ []) h s (legal_before es (e ∷ h) legal))

pub begins_longer : (a b : List Dispatch) → BeginsWith a b → length b ≤ length a
begins_longer a b begins = let one : length a ≡ length (b ++ begins.0) = ap length begins.1 in let both = length-append b begins.0 in omega (arith, one, both)

pub feed_longer : (es : List Entry) (h : History) (s : Bytes) → IsLegal (followed_by es h) → length (feed h s) ≤ length (feed (followed_by es h) s)
feed_longer es h s legal = begins_longer (feed (followed_by es h) s) (feed h s) (feed_begins es h s legal)

-- ---- what stays

-- how far the delivery to a subscriber is, is as it was
pub record Stays (h g : History) (s : Bytes) : Type 0 where
  pub acked_is : acked g s ≡ acked h s
  pub tries_is : tries g s ≡ tries h s
  pub tried_is : tried g s ≡ tried h s
  pub there : is_subscriber g s ≡ is_subscriber h s

pub stays : (h : History) (s : Bytes) → Stays h h s
stays h s = record { acked_is = refl; tries_is = refl; tried_is = refl; there = refl }

pub stays_then : (h g f : History) (s : Bytes) → Stays h g s → Stays g f s → Stays h f s
stays_then h g f s one two = record { acked_is = two.acked_is ∙ one.acked_is; tries_is = two.tries_is ∙ one.tries_is; tried_is = two.tried_is ∙ one.tried_is; there = two.there ∙ one.there }

pub tick_stays : (h : History) (m : ℕ) (s : Bytes) → Stays h (ticked h m) s
tick_stays h m s = by (some_waits h m) refl
  where
    by : (b : Bool) → some_waits h m ≡ b → Stays h (ticked h m) s
    by true is = rw is (record { acked_is = refl; tries_is = refl; tried_is = refl; there = refl })
    by false is = rw is (record { acked_is = refl; tries_is = refl; tried_is = refl; there = refl })

pub attempt_stays : (h : History) (m : ℕ) (r : Bytes) (k : ℕ) (s : Bytes) → same r s ≡ false → Stays h (entry_of m (Attempt r k) ∷ h) s
attempt_stays h m r k s other = record {
  acked_is = refl;
  tries_is = ap (λ (b : Bool). cond b (tries h s + 1) (tries h s)) other;
  tried_is = ap (λ (b : Bool). cond b m (tried h s)) other;
  there = refl;
}

pub receipt_stays : (h : History) (m : ℕ) (r : Bytes) (n : ℕ) (s : Bytes) → same r s ≡ false → Stays h (entry_of m (Receipt r n) ∷ h) s
receipt_stays h m r n s other = record {
  acked_is = ap (λ (b : Bool). cond b (max n (acked h s)) (acked h s)) other;
  tries_is = ap (λ (b : Bool). cond (b && nat_lt (acked h s) n) 0 (tries h s)) other;
  tried_is = refl;
  there = refl;
}

-- ---- a receipt

pub receipt_acked : (h : History) (m : ℕ) (s : Bytes) (n : ℕ) → acked (entry_of m (Receipt s n) ∷ h) s ≡ max n (acked h s)
receipt_acked h m s n = ap (λ (b : Bool). cond b (max n (acked h s)) (acked h s)) (same_self s)

pub receipt_tries : (h : History) (m : ℕ) (s : Bytes) (n : ℕ) → acked h s < n → tries (entry_of m (Receipt s n) ∷ h) s ≡ 0
receipt_tries h m s n raises =
    let lt : nat_lt (acked h s) n ≡ true = grind (arith, nat_tests) in
    ap (λ (b : Bool). cond (b && nat_lt (acked h s) n) 0 (tries h s)) (same_self s) ∙ ap (λ (b : Bool). cond b 0 (tries h s)) lt

-- ---- since the drain began

-- no tries have failed since then, or nothing came of the subscriber's
abbrev pub Since : History → History → Bytes → Type 0
Since h g s = (tries g s ≡ 0) ⊎ Stays h g s

pub since_stays : (h g f : History) (s : Bytes) → Since h g s → Stays g f s → Since h f s
since_stays h g f s (inl zero') then' = inl (then'.tries_is ∙ zero')
since_stays h g f s (inr one) then' = inr (stays_then h g f s one then')

pub since_then : (h g f : History) (s : Bytes) → Since h g s → Since g f s → Since h f s
since_then h g f s one (inl zero') = inl zero'
since_then h g f s one (inr two) = since_stays h g f s one two

next_some : (o : Option Dispatch) (n last m : ℕ) → is_by m (ready_from o n last) ≡ true → (p : Dispatch) × (o ≡ Some p)
next_some None n last m by = absurd (true≢false (sym by))
next_some (Some p) n last m by = (p, refl)

second_true : (a b : Bool) → (a && b) ≡ true → b ≡ true
second_true true b is = is
second_true false b is = absurd (true≢false (sym is))

-- as ready as it was
ready_stays : (h g : History) (s : Bytes) (m : ℕ) → Stays h g s → BeginsWith (feed g s) (feed h s) → is_ready h s m ≡ true → is_ready g s m ≡ true
ready_stays h g s m stay begins ready =
    let next = next_some (next_entry h s) (tries h s) (tried h s) m (second_true (is_subscriber h s) _ ready) in
    let later : next_entry g s ≡ Some next.0 = ap (λ (l : List Dispatch). slice_get l (acked g s)) begins.1 ∙ ap (λ (i : ℕ). slice_get (feed h s ++ begins.0) i) stay.acked_is ∙ get_more (feed h s) begins.0 (acked h s) next.0 next.1 in
    let at : ready_at g s ≡ ready_at h s = ap (λ (o : Option Dispatch). ready_from o (tries g s) (tried g s)) (later ∙ sym next.1) ∙ ap (λ (n : ℕ). ready_from (next_entry h s) n (tried g s)) stay.tries_is ∙ ap (λ (n : ℕ). ready_from (next_entry h s) (tries h s) n) stay.tried_is in
    ap (λ (b : Bool). b && is_by m (ready_at g s)) stay.there ∙ ap (λ (o : Option ℕ). is_subscriber h s && is_by m o) at ∙ ready

pub all_delivered : (h g : History) (names : List Bytes) (s : Bytes) (m : ℕ) → Since h g s → BeginsWith (feed g s) (feed h s) → is_ready g s m ≡ false → (tries g s ≡ 0 → IsAcknowledged g s) → MayBeSent h s m → IsAcknowledged g s
all_delivered h g names s m (inl zero') begins unready done may = done zero'
all_delivered h g names s m (inr stay) begins unready done (inl zero') = done (stay.tries_is ∙ zero')
all_delivered h g names s m (inr stay) begins unready done (inr ready) = absurd (true≢false (sym (ready_stays h g s m stay begins ready) ∙ unready))

-- ---- the moment of a claim

pub ticked_again : (h : History) (reading : ℕ) → moment_at (ticked h (moment_at h reading)) reading ≡ moment_at h reading
ticked_again h reading = by (some_waits h (moment_at h reading)) refl
  where
    by : (b : Bool) → some_waits h (moment_at h reading) ≡ b → moment_at (ticked h (moment_at h reading)) reading ≡ moment_at h reading
    by true is = rw is (omega arith)
    by false is = rw is refl

-- ---- a receiver that takes a frame

abbrev Grows : ℕ → ℕ → ℕ → Type 0
Grows k old new = (k ≤ new) × (old ≤ new) × ((new ≡ old) ⊎ (new ≡ k))

took : (s : Bytes) (k : ℕ) (old : List Frame) (f : Frame) → same s f.to ≡ true → f.k ≡ k → k ≤ length old + 1 → Grows k (length old) (length (step.taken s (record { held = old; doubt = [] }) f IsKept).held)
took s k old f mine number least = by (cases_lt (length old) k)
  where
    by : (length old < k) ⊎ (k ≤ length old) → Grows k (length old) (length (step.taken s (record { held = old; doubt = [] }) f IsKept).held)
    by (inl more) =
        let known : nat_le f.k (length old) ≡ false = grind (arith, nat_tests, number, more) in
        let ahead : nat_lt (length old + 1) f.k ≡ false = grind (arith, nat_tests, number, least) in
        let longer = length-append old (f ∷ []) in
        rw (mine, known, ahead) (omega (arith, longer, more), omega (arith, longer), inr (omega (arith, longer, more, least)))
    by (inr has) = let known : nat_le f.k (length old) ≡ true = grind (arith, nat_tests, number, has) in rw (mine, known) (has, omega arith, inl refl)

pub takes_grows : (s : Bytes) (k : ℕ) (frame : Bytes) (old new : List Frame) → k ≤ length old + 1 → Takes s k frame old new → Grows k (length old) (length new)
takes_grows s k frame old new least takes =
    subst (λ (l : List Frame). Grows k (length old) (length l)) (sym takes.holds) (took s k old (record { to = s; k = k; payload = takes.payload }) (same_self s) refl least)
