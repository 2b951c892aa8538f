-- What passed over the link and the clock in a turn.
use Rattle.std.proofs.Common.{◌≡◌, ℕ, Bool, false, List, [], ◌∷◌, ◌++◌, refl, sym, ap, ◌∙◌, subst, append-nil}
use Rattle.news_types.specs.Names.{Bytes}
use Rattle.news_io.specs.Clock.{ClockMeaning}
use Rattle.news_io.specs.Link.{Passed, Sent, Said, Nothing, LinkMeaning, Goes}
use Rattle.news_io.proofs.Readings.{gave_then}
use Rattle.news_room.specs.declared.answers.Kept.{Kept}
use Rattle.publish_workers.specs.declared.worked.Worked.{Worked}
use Rattle.publish_workers.specs.Turns.{Exchange, Unsent, Unread, Replied, Receipted, word_of_frame, word_of_receipt, is_link_fault, frames_to, IsReplied, replies_from, passed_with}
use Rattle.publish_workers.specs.Links.{Passes, Reads, CountsFaults}

-- ---- where a reply was read

frames_replied : (s frame reply : Bytes) (x : Exchange) → IsReplied reply x → frames_to s frame x ≡ (s, frame) ∷ []
frames_replied s frame reply Unsent is = absurd is
frames_replied s frame reply Unread is = absurd is
frames_replied s frame reply (Replied bytes) is = refl
frames_replied s frame reply (Receipted bytes n at kept) is = refl

replies_replied : (s reply : Bytes) (x : Exchange) → IsReplied reply x → replies_from s x ≡ (s, reply) ∷ []
replies_replied s reply Unsent is = absurd is
replies_replied s reply Unread is = absurd is
replies_replied s reply (Replied bytes) is = ap (λ (b : Bytes). (s, b) ∷ []) is
replies_replied s reply (Receipted bytes n at kept) is = ap (λ (b : Bytes). (s, b) ∷ []) is

passed_replied : (s frame reply : Bytes) (x : Exchange) → IsReplied reply x → passed_with s frame x ≡ Sent s frame ∷ Said s reply ∷ []
passed_replied s frame reply Unsent is = absurd is
passed_replied s frame reply Unread is = absurd is
passed_replied s frame reply (Replied bytes) is = ap (λ (b : Bytes). Sent s frame ∷ Said s b ∷ []) is
passed_replied s frame reply (Receipted bytes n at kept) is = ap (λ (b : Bytes). Sent s frame ∷ Said s b ∷ []) is

receipt_calm : (s : Bytes) (k : ℕ) (reply : Bytes) (n : ℕ) (kept : Kept) → is_link_fault (word_of_receipt s k reply n kept) ≡ false
receipt_calm s k reply n (Kept.Done done) = refl
receipt_calm s k reply n (Kept.Denied why) = refl
receipt_calm s k reply n Kept.Fault = refl
receipt_calm s k reply n (Kept.Full size count) = refl

word_replied : (s : Bytes) (k : ℕ) (reply : Bytes) (x : Exchange) → IsReplied reply x → is_link_fault (word_of_frame s k x) ≡ false
word_replied s k reply Unsent is = absurd is
word_replied s k reply Unread is = absurd is
word_replied s k reply (Replied bytes) is = refl
word_replied s k reply (Receipted bytes n at kept) is = receipt_calm s k bytes n kept

-- the link did not fail
pub counts_replied : (s : Bytes) (k : ℕ) (reply : Bytes) (x : Exchange) (worked : Worked) (before now : ℕ) → IsReplied reply x → worked ≡ word_of_frame s k x → now ≡ before → CountsFaults (is_link_fault worked) before now
counts_replied s k reply x worked before now is word same =
    subst (λ (b : Bool). CountsFaults b before now) (sym (ap (λ (w : Worked). is_link_fault w) word ∙ word_replied s k reply x is)) same

module _ {L : Type 0} (link : LinkMeaning L) where
  -- some calls, and then others
  pub goes_then : (old mid new : L) (passed more : List Passed) → Goes link old mid passed → Goes link mid new more → Goes link old new (passed ++ more)
  goes_then old mid new [] more one two = subst (λ (l : L). Goes link l new more) one two
  goes_then old mid new (p ∷ passed) more one two = (one.0, one.1, goes_then one.0 mid new passed more one.2 two)

  -- nothing passed
  pub passes_none : (l : L) → link.tells l → Passes link l l [] [] []
  passes_none l told = record { tells = told; sent = sym (append-nil _); said = sym (append-nil _); goes = refl }

  -- the frame was not sent
  pub passes_unsent : (old new : L) → link.tells new → link.sent new ≡ link.sent old → link.said new ≡ link.said old → link.step old new Nothing → Passes link old new [] [] (Nothing ∷ [])
  passes_unsent old new told sent said still = record { tells = told; sent = sent ∙ sym (append-nil _); said = said ∙ sym (append-nil _); goes = (new, still, refl) }

  -- its reply was not read
  pub passes_unread : (old mid new : L) (s frame : Bytes) → link.tells new → link.sent mid ≡ link.sent old ++ (s, frame) ∷ [] → link.said mid ≡ link.said old → link.sent new ≡ link.sent mid → link.said new ≡ link.said mid
      → link.step old mid (Sent s frame) → link.step mid new Nothing → Passes link old new ((s, frame) ∷ []) [] (Sent s frame ∷ Nothing ∷ [])
  passes_unread old mid new s frame told sent said then silent step still = record {
    tells = told;
    sent = then ∙ sent;
    said = silent ∙ said ∙ sym (append-nil _);
    goes = (mid, step, (new, still, refl));
  }

  -- its reply was read
  pub passes_replied : (old mid new : L) (s frame reply bytes : Bytes) (x : Exchange) → IsReplied reply x → reply ≡ bytes → link.tells new → link.sent mid ≡ link.sent old ++ (s, frame) ∷ [] → link.said mid ≡ link.said old
      → link.sent new ≡ link.sent mid → link.said new ≡ link.said mid ++ (s, bytes) ∷ [] → link.step old mid (Sent s frame) → link.step mid new (Said s bytes)
      → Passes link old new (frames_to s frame x) (replies_from s x) (passed_with s frame x)
  passes_replied old mid new s frame reply bytes x is same told sent said then replied step read = record {
    tells = told;
    sent = then ∙ sent ∙ ap (λ (l : List (Bytes × Bytes)). link.sent old ++ l) (sym (frames_replied s frame reply x is));
    said = replied ∙ ap (λ (l : List (Bytes × Bytes)). l ++ (s, bytes) ∷ []) said ∙ ap (λ (b : Bytes). link.said old ++ (s, b) ∷ []) (sym same) ∙ ap (λ (l : List (Bytes × Bytes)). link.said old ++ l) (sym (replies_replied s reply x is));
    goes = subst (λ (l : List Passed). Goes link old new l) (sym (passed_replied s frame reply x is)) (mid, step, (new, subst (λ (b : Bytes). link.step mid new (Said s b)) (sym same) read, refl));
  }

module _ {C : Type 0} (clock : ClockMeaning C) where
  -- some readings, and then others
  pub reads_then : (old mid new : C) (xs ys : List ℕ) → Reads clock old mid xs → Reads clock mid new ys → Reads clock old new (xs ++ ys)
  reads_then old mid new xs ys one two = record { tells = two.tells; gave = gave_then (clock.ahead old) xs (clock.ahead mid) ys (clock.ahead new) one.gave two.gave }
