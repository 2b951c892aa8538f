-- Attempts and receipts of a legal list: what they never exceed, and that they are of subscribers alone.
use Rattle.std.proofs.Common.{◌≡◌, ◌==◌, ℕ, ◌+◌, ◌<◌, ◌≤◌, max, Bool, true, false, ◌&&◌, cond, Option, Some, None, List, [], ◌∷◌, ◌++◌, length, refl, sym, ap, ◌∙◌, inl, inr, arith}
use Rattle.std.specs.Prelude.{nat_lt}
use mathlib.Core.Bool.{true≢false}
use Rattle.std.specs.Cmp.{first_so, second_so}
use Rattle.std.proofs.lemmas.Bool.{cases_lt}
use Rattle.std.proofs.lemmas.Bool.Decides.{nat_tests}
use Rattle.std.proofs.lemmas.List.{length-append}
use Rattle.news_types.specs.declared.entry.Entry.{Entry}
use Rattle.news_types.specs.declared.entry.Act.{Act}
use Rattle.news_types.specs.declared.entry.Act.TheVariants.{Attempt, Receipt, Request}
use Rattle.news_types.specs.declared.command.Command.{Command}
use Rattle.news_types.specs.declared.command.Command.TheVariants.{Resume}
use Rattle.news_types.specs.Names.{Bytes, same}
use Rattle.news_types.specs.History.{History}
use Rattle.news_types.specs.Products.{is_subscriber}
use Rattle.news_types.specs.Feeds.{Dispatch, feed}
use Rattle.news_types.specs.FeedLaws.{BeginsWith}
use Rattle.news_types.specs.Delivery.{acked, acked_after, tries, tries_after, tries_after_command, tried, tried_after, retry_delay, next_entry, ready_from, ready_at, is_by, is_ready}
use Rattle.news_types.specs.Legal.{IsLegal, Follows}
use Rattle.news_types.proofs.Members.{same_is}
use Rattle.news_types.proofs.Prefix.{feeds_grow}
use Rattle.news_types.proofs.Subscribed.{absent_before, absent_feed}

-- ---- what is acknowledged

longer : (ps qs : List Dispatch) → BeginsWith ps qs → length qs ≤ length ps
longer ps qs begins = let one : length ps ≡ length (qs ++ begins.0) = ap length begins.1 in let both = length-append qs begins.0 in omega (arith, one, both)

-- a feed never gets shorter
pub feed_longer : (e : Entry) (h : History) (s : Bytes) → IsLegal (e ∷ h) → length (feed h s) ≤ length (feed (e ∷ h) s)
feed_longer e h s legal = longer (feed (e ∷ h) s) (feed h s) (feeds_grow (e ∷ []) h s legal)

acked_by : (h : History) (act : Act) (m : ℕ) (s : Bytes) → Follows h act m → acked h s ≤ length (feed h s) → acked_after s act (acked h s) ≤ length (feed h s)
acked_by h (Receipt t n) m s follows le = by (same t s) refl
  where
    by : (b : Bool) → same t s ≡ b → cond b (max n (acked h s)) (acked h s) ≤ length (feed h s)
    by false other = le
    by true alike = let feeds : length (feed h t) ≡ length (feed h s) = ap (λ (u : Bytes). length (feed h u)) (same_is t s alike) in omega (arith, follows.1, feeds, le)
acked_by h _ m s follows le = le

-- no more is acknowledged than the feed has
pub acked_within : (h : History) (s : Bytes) → IsLegal h → acked h s ≤ length (feed h s)
acked_within [] s legal = omega arith
acked_within (e ∷ h) s legal = let now = acked_by h e.act e.moment s legal.2 (acked_within h s legal.0) in let grown = feed_longer e h s legal in omega (arith, now, grown)

-- ---- tries

-- where the next entry may be sent, there were fewer than ten tries
pub ready_tries : (o : Option Dispatch) (n last m : ℕ) → is_by m (ready_from o n last) ≡ true → n < 10
ready_tries None n last m ready = absurd (true≢false (sym ready))
ready_tries (Some p) n last m ready =
    elim (cases_lt n 10) [
      | inl lt ↦ lt
      | inr le ↦
          let some : (n == 0) ≡ false = grind (arith, nat_tests) in
          let many : nat_lt n 10 ≡ false = grind (arith, nat_tests) in
          absurd (true≢false (sym ready ∙ ap (λ (b : Bool). is_by m (cond b (Some p.release) (cond (nat_lt n 10) (Some (last + retry_delay n)) None))) some ∙ ap (λ (b : Bool). is_by m (cond b (Some (last + retry_delay n)) None)) many))
    ]

pub ready_there : (h : History) (s : Bytes) (m : ℕ) → is_ready h s m ≡ true → is_subscriber h s ≡ true
ready_there h s m ready = first_so (is_subscriber h s) (is_by m (ready_at h s)) ready

pub ready_few : (h : History) (s : Bytes) (m : ℕ) → is_ready h s m ≡ true → tries h s < 10
ready_few h s m ready = ready_tries (next_entry h s) (tries h s) (tried h s) m (second_so (is_subscriber h s) (is_by m (ready_at h s)) ready)

tries_command : (s : Bytes) (command : Command) (n : ℕ) → n ≤ 10 → tries_after_command s command n ≤ 10
tries_command s (Resume t) n le = elim (same t s) as (λ b. cond b 0 n ≤ 10) [ true ↦ omega arith | false ↦ le ]
tries_command s _ n le = le

tries_by : (h : History) (act : Act) (m : ℕ) (s : Bytes) → Follows h act m → tries h s ≤ 10 → tries_after s act (acked h s) (tries h s) ≤ 10
tries_by h (Attempt t k) m s follows le = by (same t s) refl
  where
    by : (b : Bool) → same t s ≡ b → cond b (tries h s + 1) (tries h s) ≤ 10
    by false other = le
    by true alike = let few = ready_few h t m follows.0 in let counts : tries h t ≡ tries h s = ap (tries h) (same_is t s alike) in omega (arith, few, counts)
tries_by h (Receipt t n) m s follows le = elim (same t s && nat_lt (acked h s) n) as (λ b. cond b 0 (tries h s) ≤ 10) [ true ↦ omega arith | false ↦ le ]
tries_by h (Request caller number command) m s follows le = tries_command s command (tries h s) le
tries_by h _ m s follows le = le

pub tries_within : (h : History) (s : Bytes) → IsLegal h → tries h s ≤ 10
tries_within [] s legal = omega arith
tries_within (e ∷ h) s legal = tries_by h e.act e.moment s legal.2 (tries_within h s legal.0)

-- ---- a subscriber that is not there

absent_acked_by : (h : History) (act : Act) (m : ℕ) (s : Bytes) → Follows h act m → is_subscriber h s ≡ false → acked h s ≡ 0 → acked_after s act (acked h s) ≡ 0
absent_acked_by h (Receipt t n) m s follows absent none = by (same t s) refl
  where
    by : (b : Bool) → same t s ≡ b → cond b (max n (acked h s)) (acked h s) ≡ 0
    by false other = none
    by true alike =
        let empty : length (feed h t) ≡ 0 = ap (λ (u : Bytes). length (feed h u)) (same_is t s alike) ∙ ap length (absent_feed h s absent) in
        omega (arith, follows.1, empty, none)
absent_acked_by h _ m s follows absent none = none

pub absent_acked : (h : History) (s : Bytes) → IsLegal h → is_subscriber h s ≡ false → acked h s ≡ 0
absent_acked [] s legal absent = refl
absent_acked (e ∷ h) s legal absent =
    let before = absent_before e h s absent in absent_acked_by h e.act e.moment s legal.2 before (absent_acked h s legal.0 before)

absent_tries_command : (s : Bytes) (command : Command) (n : ℕ) → n ≡ 0 → tries_after_command s command n ≡ 0
absent_tries_command s (Resume t) n none = elim (same t s) as (λ b. cond b 0 n ≡ 0) [ true ↦ refl | false ↦ none ]
absent_tries_command s _ n none = none

-- no attempt is made for it
not_attempted : (h : History) (s t : Bytes) (m : ℕ) → is_ready h t m ≡ true → is_subscriber h s ≡ false → same t s ≡ true → ⊥
not_attempted h s t m ready absent alike = true≢false (sym (ready_there h t m ready) ∙ ap (is_subscriber h) (same_is t s alike) ∙ absent)

absent_tries_by : (h : History) (act : Act) (m : ℕ) (s : Bytes) → Follows h act m → is_subscriber h s ≡ false → tries h s ≡ 0 → tries_after s act (acked h s) (tries h s) ≡ 0
absent_tries_by h (Attempt t k) m s follows absent none = by (same t s) refl
  where
    by : (b : Bool) → same t s ≡ b → cond b (tries h s + 1) (tries h s) ≡ 0
    by false other = none
    by true alike = absurd (not_attempted h s t m follows.0 absent alike)
absent_tries_by h (Receipt t n) m s follows absent none = elim (same t s && nat_lt (acked h s) n) as (λ b. cond b 0 (tries h s) ≡ 0) [ true ↦ refl | false ↦ none ]
absent_tries_by h (Request caller number command) m s follows absent none = absent_tries_command s command (tries h s) none
absent_tries_by h _ m s follows absent none = none

pub absent_tries : (h : History) (s : Bytes) → IsLegal h → is_subscriber h s ≡ false → tries h s ≡ 0
absent_tries [] s legal absent = refl
absent_tries (e ∷ h) s legal absent =
    let before = absent_before e h s absent in absent_tries_by h e.act e.moment s legal.2 before (absent_tries h s legal.0 before)

absent_tried_by : (h : History) (act : Act) (m : ℕ) (s : Bytes) → Follows h act m → is_subscriber h s ≡ false → tried h s ≡ 0 → tried_after s act m (tried h s) ≡ 0
absent_tried_by h (Attempt t k) m s follows absent none = by (same t s) refl
  where
    by : (b : Bool) → same t s ≡ b → cond b m (tried h s) ≡ 0
    by false other = none
    by true alike = absurd (not_attempted h s t m follows.0 absent alike)
absent_tried_by h _ m s follows absent none = none

pub absent_tried : (h : History) (s : Bytes) → IsLegal h → is_subscriber h s ≡ false → tried h s ≡ 0
absent_tried [] s legal absent = refl
absent_tried (e ∷ h) s legal absent =
    let before = absent_before e h s absent in absent_tried_by h e.act e.moment s legal.2 before (absent_tried h s legal.0 before)
