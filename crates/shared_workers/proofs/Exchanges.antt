-- What came of a frame, by what its reply is.
use Rattle.std.proofs.Common.{◌≡◌, ℕ, Bool, true, false, [], ◌∷◌, Result, Ok, Err, if◌then◌else◌, refl, sym, ap, ◌∙◌, subst}
use Rattle.std.specs.Prelude.{MatchResult}
use Rattle.news_types.specs.Names.{Bytes}
use Rattle.news_io.specs.Link.{LinkMeaning, Sent, Said, Nothing}
use Rattle.news_room.specs.declared.claim.Claimed.{Claimed}
use Rattle.publish_workers.specs.declared.worked.Worked.{Worked}
use Rattle.publish_workers.specs.declared.worked.Worked.TheVariants.{NoReceipt, LinkFault}
use Rattle.publish_workers.specs.Links.{Passes}
use Rattle.publish_workers.specs.Receipts.{IsReceiptFor}
use Rattle.publish_workers.specs.Turns.{Exchange, Unsent, Unread, Replied, word_of, frames_of, replies_of, passed_of}
use Rattle.shared_workers.specs.declared.exchange.Receipt.{Receipt}
use Rattle.shared_workers.specs.Exchanges.{Exchanged, Comes, Ends}

module _ {L : Type 0} (link : LinkMeaning L) (old new : L) (claimed : Claimed) (s : Bytes) (k : ℕ) (frame : Bytes) (front : ℕ) (is : claimed ≡ Claimed.Job s k frame front) where
  -- the claim gave this job, and the exchange of its frame came to no receipt
  ended : (x : Exchange) (worked : Worked) → worked ≡ word_of (Claimed.Job s k frame front) x → Exchanged (Claimed.Job s k frame front) x []
      → (link.tells old → Passes link old new (frames_of (Claimed.Job s k frame front) x) (replies_of (Claimed.Job s k frame front) x) (passed_of (Claimed.Job s k frame front) x)) → Ends link old new claimed worked
  ended x worked word done passes = record {
    exchange = x;
    word_is = word ∙ ap (λ (c : Claimed). word_of c x) (sym is);
    exchanged = subst (λ (c : Claimed). Exchanged c x []) (sym is) done;
    passes = λ told. subst (λ (c : Claimed). Passes link old new (frames_of c x) (replies_of c x) (passed_of c x)) (sym is) (passes told);
  }

  -- the link failed
  pub link_lost : (sent : Bool) → (link.tells old → Passes link old new (if sent then (s, frame) ∷ [] else []) [] (if sent then Sent s frame ∷ Nothing ∷ [] else Nothing ∷ [])) → Ends link old new claimed (LinkFault s k)
  link_lost true passes = ended Unread (LinkFault s k) refl refl passes
  link_lost false passes = ended Unsent (LinkFault s k) refl refl passes

  -- a reply was read
  pub reply_read : (reply : Bytes) (r : Result Receipt Worked) → (link.tells old → Passes link old new ((s, frame) ∷ []) ((s, reply) ∷ []) (Sent s frame ∷ Said s reply ∷ []))
      → MatchResult r (λ (c : Receipt). (c.subscriber ≡ s) × (c.k ≡ k) × (c.reply ≡ reply) × IsReceiptFor s k c.n reply) (λ (worked : Worked). (worked ≡ NoReceipt s k reply) × ((n : ℕ) → IsReceiptFor s k n reply → ⊥))
      → MatchResult r (Comes link old new claimed) (Ends link old new claimed)
  reply_read reply (Ok c) passes e = record {
    frame = frame;
    front = front;
    claimed_is = is ∙ ap (λ (t : Bytes). Claimed.Job t k frame front) (sym e.0) ∙ ap (λ (j : ℕ). Claimed.Job c.subscriber j frame front) (sym e.1);
    receipt = subst (λ (t : Bytes). IsReceiptFor t c.k c.n c.reply) (sym e.0) (subst (λ (j : ℕ). IsReceiptFor s j c.n c.reply) (sym e.1) (subst (λ (b : Bytes). IsReceiptFor s k c.n b) (sym e.2) e.3));
    passes = λ told. subst (λ (t : Bytes). Passes link old new ((t, frame) ∷ []) ((t, c.reply) ∷ []) (Sent t frame ∷ Said t c.reply ∷ [])) (sym e.0)
        (subst (λ (b : Bytes). Passes link old new ((s, frame) ∷ []) ((s, b) ∷ []) (Sent s frame ∷ Said s b ∷ [])) (sym e.2) (passes told));
  }
  reply_read reply (Err worked) passes e = ended (Replied reply) worked e.0 (refl, e.1) passes
