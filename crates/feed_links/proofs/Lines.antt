-- What was read of a reply, byte by byte or to its first line feed.
use Rattle.std.proofs.Common.{◌≡◌, ℕ, ◌+◌, ◌-◌, ◌<◌, ◌≤◌, ◌==◌, List, length, get_or, take, Bool, true, false, cond, nat_lt, Some, None, refl, ap, sym, ◌∙◌, subst, arith}
use Rattle.std.specs.Prelude.{All, slice_set}
use Rattle.std.specs.List.{position_or_len, position}
use Rattle.std.proofs.lemmas.Bool.{eqb-false, ltb-true, ltb-false}
use Rattle.std.proofs.lemmas.List.{take-take, take-set, length-set, length-take, get_or-set_same, get_or-take, take_all}
use Rattle.std.proofs.lemmas.List.Elements.{All-take, All-more}
use Rattle.std.proofs.lemmas.List.Sums.{fails_before_first}
use Rattle.std.proofs.lemmas.Option.{cond_some, none-some}
use Rattle.news_io.specs.Link.{IsReply}
use Rattle.news_io.proofs.Replies.{first_is_reply}
use Rattle.feed_links.specs.Receivers.{first_line}

abbrev pub NoLineFeed : List ℕ → Type 0
NoLineFeed bytes = All (λ (b : ℕ). b ≡ 10 → ⊥) bytes

-- one byte more
pub none_more : (bytes : List ℕ) (n b : ℕ) → n < length bytes → NoLineFeed (take n bytes) → (b ≡ 10 → ⊥) → NoLineFeed (take (n + 1) (slice_set bytes n b))
none_more bytes n b in' none other =
    All-more (λ (x : ℕ). x ≡ 10 → ⊥) (slice_set bytes n b) n 0 (omega (arith, in', length-set bytes n b))
    (subst NoLineFeed (sym (take-set bytes n b)) none)
    (λ is. other (sym (get_or-set_same bytes n b 0 in') ∙ is))

-- the first n of some bytes, of which the first m are no line feed
pub none_is_reply : (n m : ℕ) (bytes : List ℕ) → n ≤ length bytes → n ≤ m + 1 → NoLineFeed (take m bytes) → IsReply (take n bytes)
none_is_reply n m bytes le few none =
    first_is_reply n bytes le
    (subst NoLineFeed (take-take (n - 1) m bytes (omega (arith, few))) (All-take (λ (b : ℕ). b ≡ 10 → ⊥) (n - 1) (take m bytes) none))

abbrev first : List ℕ → ℕ
first bytes = position_or_len (λ (b : ℕ). b == 10) bytes

-- no byte before the first line feed is one
none_before : (bytes : List ℕ) → NoLineFeed (take (first bytes) bytes)
none_before bytes = λ k d lt is.
    let before : k < first bytes = omega (arith, lt, length-take (first bytes) bytes) in
    eqb-false (get_or bytes k d) 10 (fails_before_first (λ (b : ℕ). b == 10) bytes k d before) (sym (get_or-take (first bytes) bytes k d before) ∙ is)

pub record IsFirstLine (bytes : List ℕ) (n : ℕ) : Type 0 where
  pub within : n ≤ length bytes
  pub line : take n bytes ≡ first_line bytes
  pub reply : IsReply (take n bytes)

none_there : (b : Bool) (x : ℕ) → None ≡ cond b (Some x) None → b ≡ false
none_there true x e = absurd (none-some x e)
none_there false x e = refl

pub at_feed : (bytes : List ℕ) (at : ℕ) → Some at ≡ position (λ (b : ℕ). b == 10) bytes → IsFirstLine bytes (at + 1)
at_feed bytes at is =
    let found = cond_some (nat_lt (first bytes) (length bytes)) (first bytes) at (sym is) in
    let in' = ltb-true (first bytes) (length bytes) found.0 in
    record {
      within = omega (arith, in', found.1);
      line = ap (λ (n : ℕ). take (n + 1) bytes) (sym found.1);
      reply = none_is_reply (at + 1) (first bytes) bytes (omega (arith, in', found.1)) (omega (arith, found.1)) (none_before bytes);
    }

pub at_end : (bytes : List ℕ) → None ≡ position (λ (b : ℕ). b == 10) bytes → IsFirstLine bytes (length bytes)
at_end bytes is =
    let past = ltb-false (first bytes) (length bytes) (none_there (nat_lt (first bytes) (length bytes)) (first bytes) is) in
    record {
      within = omega arith;
      line = take_all (length bytes) bytes (omega arith) ∙ sym (take_all (first bytes + 1) bytes (omega (arith, past)));
      reply = none_is_reply (length bytes) (first bytes) bytes (omega arith) (omega (arith, past)) (none_before bytes);
    }
