-- What passes over a link and what a clock gives, in rounds.
use Rattle.std.proofs.Common.{◌≡◌, ℕ, false, List, [], ◌∷◌, ◌++◌, refl, sym, ap, ◌∙◌, subst, append_assoc, append-nil}
use Rattle.news_types.specs.Names.{Bytes}
use Rattle.news_io.specs.Clock.{ClockMeaning}
use Rattle.news_io.specs.Link.{LinkMeaning, Passed, Goes}
use Rattle.news_io.proofs.Readings.{gave_then}
use Rattle.room_lock.specs.Passes.{At}
use Rattle.news_room.specs.declared.answers.Kept.{Kept}
use Rattle.news_room.specs.declared.claim.Claimed.{Claimed}
use Rattle.publish_workers.specs.Links.{Passes, Reads}
use Rattle.publish_workers.specs.Turns.{Exchange, Unsent, Unread, Replied, Receipted, word_of_receipt, is_link_fault, receipt_readings}
use Rattle.shared_workers.specs.Exchanges.{Exchanged}

module _ {L : Type 0} (link : LinkMeaning L) where
  -- nothing passed
  pub passes_none : (l : L) → link.tells l → Passes link l l [] [] []
  passes_none l told = record { tells = told; sent = sym (append-nil _); said = sym (append-nil _); goes = refl }

  goes_then : (old mid new : L) (passed more : List Passed) → Goes link old mid passed → Goes link mid new more → Goes link old new (passed ++ more)
  goes_then old mid new [] more one two = subst (λ (l : L). Goes link l new more) one two
  goes_then old mid new (p ∷ passed) more one two = (one.0, one.1, goes_then one.0 mid new passed more one.2 two)

  -- some passed, and then more
  pub passes_then : (old mid new : L) (sent sent' said said' : List (Bytes × Bytes)) (passed more : List Passed) → Passes link old mid sent said passed → Passes link mid new sent' said' more → Passes link old new (sent ++ sent') (said ++ said') (passed ++ more)
  passes_then old mid new sent sent' said said' passed more one two = record {
    tells = two.tells;
    sent = two.sent ∙ ap (λ (l : List (Bytes × Bytes)). l ++ sent') one.sent ∙ append_assoc (link.sent old) sent sent';
    said = two.said ∙ ap (λ (l : List (Bytes × Bytes)). l ++ said') one.said ∙ append_assoc (link.said old) said said';
    goes = goes_then old mid new passed more one.goes two.goes;
  }

module _ {C : Type 0} (clock : ClockMeaning C) where
  -- some readings, and then others
  pub reads_then : (old mid new : C) (xs ys : List ℕ) → Reads clock old mid xs → Reads clock mid new ys → Reads clock old new (xs ++ ys)
  reads_then old mid new xs ys one two = record { tells = two.tells; gave = gave_then (clock.ahead old) xs (clock.ahead mid) ys (clock.ahead new) one.gave two.gave }

nothing_kept : (call : At × At) (calls : List (At × At)) → [] ≡ call ∷ calls → ⊥
nothing_kept call calls is = cc

-- without a call behind the claim's there was no receipt
pub no_reading : (claimed : Claimed) (x : Exchange) → Exchanged claimed x [] → receipt_readings x ≡ []
no_reading (Claimed.Job s k frame front) Unsent done = refl
no_reading (Claimed.Job s k frame front) Unread done = refl
no_reading (Claimed.Job s k frame front) (Replied reply) done = refl
no_reading (Claimed.Job s k frame front) (Receipted reply n at kept) done = absurd (nothing_kept done.call [] done.calls_are)
no_reading (Claimed.Idle next) x done = ap receipt_readings done.0
no_reading Claimed.Fault x done = ap receipt_readings done.0
no_reading (Claimed.Full size count) x done = ap receipt_readings done.0
no_reading Claimed.Memory x done = ap receipt_readings done.0

-- a receipt came, so the link had not failed
pub receipt_calm : (s : Bytes) (k : ℕ) (reply : Bytes) (n : ℕ) (kept : Kept) → is_link_fault (word_of_receipt s k reply n kept) ≡ false
receipt_calm s k reply n (Kept.Done done) = refl
receipt_calm s k reply n (Kept.Denied why) = refl
receipt_calm s k reply n Kept.Fault = refl
receipt_calm s k reply n (Kept.Full size count) = refl
