-- What a turn makes of the delivery to a subscriber.
use Rattle.std.proofs.Common.{◌≡◌, ◌⊎◌, inl, inr, ℕ, ◌+◌, ◌≤◌, ◌<◌, Bool, true, false, nat_lt, max, min, List, [], ◌∷◌, ◌++◌, length, Option, Some, None, refl, sym, ap, ◌∙◌, subst, arith}
use Rattle.std.proofs.lemmas.Bool.{true≢false}
use Rattle.std.proofs.lemmas.Bool.Decides.{nat_tests}
use Rattle.news_types.specs.declared.denial.Denial.{Denial}
use Rattle.news_types.specs.declared.entry.Entry.{Entry}
use Rattle.news_types.specs.declared.entry.Act.TheVariants.{Attempt, Receipt}
use Rattle.news_types.specs.Names.{Bytes, same}
use Rattle.news_types.specs.Members.{Each}
use Rattle.news_types.specs.History.{History, moment_at}
use Rattle.news_types.specs.Books.{Book, onto, followed_by}
use Rattle.news_types.specs.Calls.{ticked}
use Rattle.news_types.specs.Denial.{receipt_denial}
use Rattle.news_types.specs.Delivery.{acked, tries}
use Rattle.news_types.specs.Feeds.{feed}
use Rattle.news_types.specs.Legal.{IsLegal}
use Rattle.news_types.specs.Frames.{Frame}
use Rattle.news_types.specs.Outcome.{Outcome, Answered, entry_of, receipt_at}
use Rattle.news_types.proofs.Members.{same_is, same_self}
use Rattle.news_types.proofs.Books.{behind_more}
use Rattle.news_types.proofs.Bounds.{feed_within, standing_within}
use Rattle.news_io.specs.Keeper.{KeeperMeaning}
use Rattle.entry_codec.specs.Formed.{IsEntry}
use Rattle.feed_receiver.specs.Spelling.{receipt_bytes, IsReceipt}
use Rattle.news_room.specs.Beside.{Beside}
use Rattle.news_room.specs.Claims.{ClaimStep}
use Rattle.news_room.specs.Stands.{Stands, LAST, numbers}
use Rattle.news_room.specs.Steps.{entries}
use Rattle.news_room.specs.declared.answers.Kept.{Kept}
use Rattle.news_room.specs.declared.claim.Claimed.{Claimed}
use Rattle.news_room.specs.declared.room.Room.{Room}
use Rattle.news_room.proofs.Chosen.{chosen_ready, chosen_there}
use Rattle.news_room.proofs.Small.{receipt_kept, receipt_settled, receipt_refused}
use Rattle.publish_workers.specs.Turns.{Exchange, Unsent, Unread, Replied, Receipted, word_of}
use Rattle.publish_workers.specs.Receipts.{Acknowledges}
use Rattle.publish_workers.specs.Steps.{Exchanges}
use Rattle.publish_workers.specs.Drains.{IsReported}
use Rattle.publish_workers.specs.Completeness.{Takes, AnswersFrame, AnswersClaim, is_lost_to, is_refused_by}
use Rattle.publish_workers.proofs.Answering.{same_number, fits_by}
use Rattle.publish_workers.proofs.Turning.{left_is, job_there}
use Rattle.publish_workers.proofs.Changes.{feed_longer, Stays, stays, stays_then, tick_stays, attempt_stays, receipt_stays, receipt_acked, receipt_tries, Since, since_stays, takes_grows}

-- ---- the list behind a turn

list_is : (first later : List Entry) (b : Book) → (onto (first ++ later) b).list ≡ followed_by later (onto first b).list
list_is first later b = sym (behind_more first later b.list)

-- a receipt adds its entry, or nothing
pub any_receipt : (h : History) (s : Bytes) (n m : ℕ) → ((receipt_at h s n m).more ≡ None) ⊎ ((receipt_at h s n m).more ≡ Some (entry_of m (Receipt s n)))
any_receipt h s n m = by (receipt_denial h s n) (nat_lt (acked h s) n) refl refl
  where
    by : (d : Option Denial) (raises : Bool) → receipt_denial h s n ≡ d → nat_lt (acked h s) n ≡ raises → ((receipt_at h s n m).more ≡ None) ⊎ ((receipt_at h s n m).more ≡ Some (entry_of m (Receipt s n)))
    by (Some why) raises is low = inl (ap (λ (o : Outcome Answered). o.more) (receipt_refused h s n m why is))
    by None true is low = inr (ap (λ (o : Outcome Answered). o.more) (receipt_kept h s n m is low))
    by None false is low = inl (ap (λ (o : Outcome Answered). o.more) (receipt_settled h s n m is low))

-- of another subscriber it leaves all as it was
receipt_leaves : (h : History) (r : Bytes) (n m : ℕ) (s : Bytes) → same r s ≡ false → Stays h (followed_by (entries (receipt_at h r n m).more) h) s
receipt_leaves h r n m s other = by (any_receipt h r n m)
  where
    by : ((receipt_at h r n m).more ≡ None) ⊎ ((receipt_at h r n m).more ≡ Some (entry_of m (Receipt r n))) → Stays h (followed_by (entries (receipt_at h r n m).more) h) s
    by (inl none) = subst (λ (o : Option Entry). Stays h (followed_by (entries o) h) s) (sym none) (stays h s)
    by (inr one) = subst (λ (o : Option Entry). Stays h (followed_by (entries o) h) s) (sym one) (receipt_stays h m r n s other)

-- no more is acknowledged than it says, or than was
receipt_raises : (h : History) (s : Bytes) (n m : ℕ) → acked (followed_by (entries (receipt_at h s n m).more) h) s ≤ max n (acked h s)
receipt_raises h s n m = by (any_receipt h s n m)
  where
    by : ((receipt_at h s n m).more ≡ None) ⊎ ((receipt_at h s n m).more ≡ Some (entry_of m (Receipt s n))) → acked (followed_by (entries (receipt_at h s n m).more) h) s ≤ max n (acked h s)
    by (inl none) = subst (λ (o : Option Entry). acked (followed_by (entries o) h) s ≤ max n (acked h s)) (sym none) (omega arith)
    by (inr one) = subst (λ (o : Option Entry). acked (followed_by (entries o) h) s ≤ max n (acked h s)) (sym one) (let is = receipt_acked h m s n in omega (arith, is))

module _ (x : Beside) (b : Book) (now : ℕ) (names : List Bytes) (first : List Entry) (r : Bytes) (k : ℕ) (frame : Bytes) (front : ℕ) (step : ClaimStep x b now names first (Claimed.Job r k frame front)) where
  -- the claim leaves all of another subscriber as it was
  claim_stays : (s : Bytes) → same r s ≡ false → Stays b.list (onto first b).list s
  claim_stays s other =
      let m : ℕ = moment_at b.list now in
      subst (λ (g : History). Stays b.list g s) (sym (left_is x b now names first r k frame front step)) (stays_then b.list (ticked b.list m) (entry_of m (Attempt r k) ∷ ticked b.list m) s (tick_stays b.list m s) (attempt_stays (ticked b.list m) m r k s other))

  -- and acknowledges nothing
  claim_acked : (s : Bytes) → acked (onto first b).list s ≡ acked b.list s
  claim_acked s = ap (λ (g : History). acked g s) (left_is x b now names first r k frame front step) ∙ (tick_stays b.list (moment_at b.list now) s).acked_is

  -- the entry is the first that is not acknowledged
  pub job_next : k ≡ acked b.list r + 1
  job_next = (chosen_ready (ticked b.list (moment_at b.list now)) names (moment_at b.list now) r k step.0).1 ∙ ap (λ (n : ℕ). n + 1) (tick_stays b.list (moment_at b.list now) r).acked_is

  module _ {K : Type 0} (keeper : KeeperMeaning K) (between : Room K) (stands : Stands keeper between (onto first b)) where
    -- the feed has it
    pub job_within : k ≤ length (feed (onto first b).list r)
    job_within =
        let m : ℕ = moment_at b.list now in
        let g : History = ticked b.list m in
        let is = left_is x b now names first r k frame front step in
        let longer = feed_longer (entry_of m (Attempt r k) ∷ []) g r (subst IsLegal is stands.kept.legal) in
        let there = (chosen_there g names m r k step.0).2 in
        let same' : length (feed (onto first b).list r) ≡ length (feed (entry_of m (Attempt r k) ∷ g) r) = ap (λ (l : History). length (feed l r)) is in
        omega (arith, longer, there, same')

    -- the number of entries of the feed stands in a receipt of the subscriber
    pub job_form : (n : ℕ) → n ≤ length (feed (onto first b).list r) → IsReceipt r n
    job_form n most =
        let g : History = (onto first b).list in
        let formed = subst (λ (l : History). Each IsEntry l) (left_is x b now names first r k frame front step) stands.kept.formed in
        let feeds = feed_within g r in
        let all = standing_within g in
        let few : length g ≤ 2147483648 + min (keeper.used between.keeper) LAST = stands.few in
        (formed.0.formed.0, omega (arith, most, feeds, all, few))

module _ {K : Type 0} (keeper : KeeperMeaning K) (left between new : Room K) (b : Book) (names : List Bytes) (reading : ℕ) (first later : List Entry) where
  -- ---- a turn of another subscriber

  quiet_list : later ≡ [] → (onto (first ++ later) b).list ≡ (onto first b).list
  quiet_list none = list_is first later b ∙ ap (λ (l : List Entry). followed_by l (onto first b).list) none

  module _ (r : Bytes) (k : ℕ) (frame : Bytes) (front : ℕ) (step : ClaimStep (numbers keeper left between) b reading names first (Claimed.Job r k frame front)) where
    pub quiet_stays : (s : Bytes) → same r s ≡ false → later ≡ [] → Stays b.list (onto (first ++ later) b).list s
    quiet_stays s other none = subst (λ (g : History). Stays b.list g s) (sym (quiet_list none)) (claim_stays (numbers keeper left between) b reading names first r k frame front step s other)

    pub receipt_other : (s : Bytes) (n at : ℕ) → same r s ≡ false → later ≡ entries (receipt_at (onto first b).list r n (moment_at (onto first b).list at)).more → Stays b.list (onto (first ++ later) b).list s
    receipt_other s n at other is =
        let g : History = (onto first b).list in
        let m : ℕ = moment_at g at in
        subst (λ (h : History). Stays b.list h s) (sym (list_is first later b ∙ ap (λ (l : List Entry). followed_by l g) is))
        (stays_then b.list g (followed_by (entries (receipt_at g r n m).more) g) s (claim_stays (numbers keeper left between) b reading names first r k frame front step s other) (receipt_leaves g r n m s other))

    other_stays : (x : Exchange) → Exchanges keeper between new (onto first b) (Claimed.Job r k frame front) x later → IsReported (word_of (Claimed.Job r k frame front) x) → (s : Bytes) → same r s ≡ false → Stays b.list (onto (first ++ later) b).list s
    other_stays Unsent e reported s other = quiet_stays s other e.0.1
    other_stays Unread e reported s other = quiet_stays s other e.0.1
    other_stays (Replied reply) e reported s other = quiet_stays s other e.0.1
    other_stays (Receipted reply n at (Kept.Done done)) e reported s other = receipt_other s n at other e.0.step.1.whole.is
    other_stays (Receipted reply n at (Kept.Denied why)) e reported s other = receipt_other s n at other e.0.step.1.whole.is
    other_stays (Receipted reply n at Kept.Fault) e reported s other = absurd reported
    other_stays (Receipted reply n at (Kept.Full size count)) e reported s other = absurd reported

    -- ---- a turn that delivers

    -- the receipt raises what is acknowledged, so no tries are left
    delivered_tries : (reply : Bytes) (n at : ℕ) → Acknowledges (onto first b).list r k n reply → later ≡ entries (receipt_at (onto first b).list r n (moment_at (onto first b).list at)).more → tries (onto (first ++ later) b).list r ≡ 0
    delivered_tries reply n at told is =
        let g : History = (onto first b).list in
        let m : ℕ = moment_at g at in
        let next = job_next (numbers keeper left between) b reading names first r k frame front step in
        let was = claim_acked (numbers keeper left between) b reading names first r k frame front step r in
        let raises : acked g r < n = omega (arith, next, was, told.receipt.reaches) in
        let low : nat_lt (acked g r) n ≡ true = grind (arith, nat_tests, raises) in
        let there = job_there (numbers keeper left between) b reading names first r k frame front step in
        let kept : (receipt_at g r n m).more ≡ Some (entry_of m (Receipt r n)) = ap (λ (o : Outcome Answered). o.more) (receipt_kept g r n m (fits_by g r n there told.within) low) in
        ap (λ (h : History). tries h r) (list_is first later b ∙ ap (λ (l : List Entry). followed_by l g) is ∙ ap (λ (o : Option Entry). followed_by (entries o) g) kept) ∙ receipt_tries g m r n raises

  -- ---- since the drain began

  since_by : (r : Bytes) (k : ℕ) (frame : Bytes) (front : ℕ) → ClaimStep (numbers keeper left between) b reading names first (Claimed.Job r k frame front) → (x : Exchange)
      → Exchanges keeper between new (onto first b) (Claimed.Job r k frame front) x later → IsReported (word_of (Claimed.Job r k frame front) x) → (s : Bytes) (mine : Bool) → same r s ≡ mine
      → is_lost_to s (word_of (Claimed.Job r k frame front) x) ≡ false → is_refused_by s (word_of (Claimed.Job r k frame front) x) ≡ false → (h : History) → Since h b.list s → Since h (onto (first ++ later) b).list s
  since_by r k frame front step x e reported s false other lost refused h since =
      since_stays h b.list (onto (first ++ later) b).list s since (other_stays r k frame front step x e reported s other)
  since_by r k frame front step Unsent e reported s true alike lost refused h since = absurd (true≢false (sym alike ∙ lost))
  since_by r k frame front step Unread e reported s true alike lost refused h since = absurd (true≢false (sym alike ∙ lost))
  since_by r k frame front step (Replied reply) e reported s true alike lost refused h since = absurd (true≢false (sym alike ∙ refused))
  since_by r k frame front step (Receipted reply n at (Kept.Done done)) e reported s true alike lost refused h since =
      inl (subst (λ (t : Bytes). tries (onto (first ++ later) b).list t ≡ 0) (same_is r s alike) (delivered_tries r k frame front step reply n at e.1 e.0.step.1.whole.is))
  since_by r k frame front step (Receipted reply n at (Kept.Denied why)) e reported s true alike lost refused h since = absurd (true≢false (sym alike ∙ refused))
  since_by r k frame front step (Receipted reply n at Kept.Fault) e reported s true alike lost refused h since = absurd reported
  since_by r k frame front step (Receipted reply n at (Kept.Full size count)) e reported s true alike lost refused h since = absurd reported

  pub since_on : (c : Claimed) (x : Exchange) → ClaimStep (numbers keeper left between) b reading names first c → Exchanges keeper between new (onto first b) c x later → IsReported (word_of c x) → (s : Bytes)
      → is_lost_to s (word_of c x) ≡ false → is_refused_by s (word_of c x) ≡ false → (h : History) → Since h b.list s → Since h (onto (first ++ later) b).list s
  since_on (Claimed.Job r k frame front) x step e reported s lost refused h since = since_by r k frame front step x e reported s (same r s) refl lost refused h since
  since_on (Claimed.Idle next) x step e reported s lost refused h since = absurd reported
  since_on Claimed.Fault x step e reported s lost refused h since = absurd reported
  since_on (Claimed.Full size count) x step e reported s lost refused h since = absurd reported
  since_on Claimed.Memory x step e reported s lost refused h since = absurd reported

  -- ---- a receiver that answers as it should

  -- what it holds, behind the turn
  pub record Held (s : Bytes) (now : List Frame) : Type 0 where
    pub least : acked (onto (first ++ later) b).list s ≤ length now
    pub most : length now ≤ length (feed (onto (first ++ later) b).list s)

  module _ (claimed : Stands keeper between (onto first b)) (stands : Stands keeper new (onto (first ++ later) b)) (s : Bytes) (old now : List Frame) (least : acked b.list s ≤ length old) (most : length old ≤ length (feed b.list s)) where
    other_held : (r : Bytes) (k : ℕ) (frame : Bytes) (front : ℕ) → ClaimStep (numbers keeper left between) b reading names first (Claimed.Job r k frame front) → (x : Exchange)
        → Exchanges keeper between new (onto first b) (Claimed.Job r k frame front) x later → IsReported (word_of (Claimed.Job r k frame front) x) → same r s ≡ false → now ≡ old → Held s now
    other_held r k frame front step x e reported other still =
        let is = (other_stays r k frame front step x e reported s other).acked_is in
        let longer = feed_longer (first ++ later) b.list s stands.kept.legal in
        let same' : length now ≡ length old = ap length still in
        record { least = omega (arith, is, least, same'); most = omega (arith, most, longer, same') }

    module _ (k : ℕ) (frame : Bytes) (front : ℕ) (step : ClaimStep (numbers keeper left between) b reading names first (Claimed.Job s k frame front)) where
      -- what it took is its own
      took : (takes : Takes s k frame old now) → (k ≤ length now) × (length old ≤ length now) × (length now ≤ length (feed (onto first b).list s))
      took takes =
          let next = job_next (numbers keeper left between) b reading names first s k frame front step in
          let grows = takes_grows s k frame old now (omega (arith, next, least)) takes in
          let longer = feed_longer first b.list s claimed.kept.legal in
          let within = job_within (numbers keeper left between) b reading names first s k frame front step keeper between claimed in
          (grows.0, grows.1, elim (grows.2) [ inl still ↦ omega (arith, still, most, longer) | inr new' ↦ omega (arith, new', within) ])

      -- nothing was acknowledged
      quiet_held : later ≡ [] → (length old ≤ length now) × (length now ≤ length (feed (onto first b).list s)) → Held s now
      quiet_held none few =
          let list = quiet_list none in
          let is = claim_acked (numbers keeper left between) b reading names first s k frame front step s in
          let acked_is : acked (onto (first ++ later) b).list s ≡ acked (onto first b).list s = ap (λ (g : History). acked g s) list in
          let feed_is : length (feed (onto (first ++ later) b).list s) ≡ length (feed (onto first b).list s) = ap (λ (g : History). length (feed g s)) list in
          record { least = omega (arith, acked_is, is, least, few.0); most = omega (arith, feed_is, few.1) }

      -- the link failed
      pub failed : later ≡ [] → (now ≡ old) ⊎ Takes s k frame old now → Held s now
      failed none (inl still) =
          let same' : length now ≡ length old = ap length still in
          let longer = feed_longer first b.list s claimed.kept.legal in
          quiet_held none (omega (arith, same'), omega (arith, same', most, longer))
      failed none (inr takes) = let all = took takes in quiet_held none (all.1, all.2)

      -- its receipt acknowledges the entry
      receipted : (reply : Bytes) → Takes s k frame old now → reply ≡ receipt_bytes s (length now) → Acknowledges (onto first b).list s k (length now) reply
      receipted reply takes is =
          let all = took takes in
          record { receipt = record { line = is; form = job_form (numbers keeper left between) b reading names first s k frame front step keeper between claimed (length now) all.2; reaches = all.0 }; within = all.2 }

      pub delivered : (reply : Bytes) (n at : ℕ) → Takes s k frame old now → reply ≡ receipt_bytes s (length now) → Acknowledges (onto first b).list s k n reply
          → later ≡ entries (receipt_at (onto first b).list s n (moment_at (onto first b).list at)).more → Held s now
      delivered reply n at takes is told follows =
          let g : History = (onto first b).list in
          let all = took takes in
          let same' : n ≡ length now = same_number s (length now) n reply (receipted reply takes is).receipt.form told.receipt.form is told.receipt.line in
          let raises = receipt_raises g s n (moment_at g at) in
          let list : (onto (first ++ later) b).list ≡ followed_by (entries (receipt_at g s n (moment_at g at)).more) g = list_is first later b ∙ ap (λ (l : List Entry). followed_by l g) follows in
          let acked_is : acked (onto (first ++ later) b).list s ≡ acked (followed_by (entries (receipt_at g s n (moment_at g at)).more) g) s = ap (λ (h : History). acked h s) list in
          let was = claim_acked (numbers keeper left between) b reading names first s k frame front step s in
          let longer = feed_longer later g s (subst IsLegal (list_is first later b) stands.kept.legal) in
          let feed_is : length (feed (onto (first ++ later) b).list s) ≡ length (feed (followed_by later g) s) = ap (λ (h : History). length (feed h s)) (list_is first later b) in
          record { least = omega (arith, acked_is, raises, same', was, least, all.1); most = omega (arith, feed_is, longer, all.2) }

      mine_held : (x : Exchange) → Exchanges keeper between new (onto first b) (Claimed.Job s k frame front) x later → IsReported (word_of (Claimed.Job s k frame front) x) → AnswersFrame s k frame x old now
          → (is_refused_by s (word_of (Claimed.Job s k frame front) x) ≡ false) × Held s now
      mine_held Unsent e reported answers = (refl, failed e.0.1 answers)
      mine_held Unread e reported answers = (refl, failed e.0.1 answers)
      mine_held (Replied reply) e reported answers = absurd (e.1 (length now) (receipted reply answers.0 answers.1))
      mine_held (Receipted reply n at (Kept.Done done)) e reported answers = (refl, delivered reply n at answers.0 answers.1 e.1 e.0.step.1.whole.is)
      mine_held (Receipted reply n at (Kept.Denied why)) e reported answers = absurd (e.1 (length now) (receipted reply answers.0 answers.1))
      mine_held (Receipted reply n at Kept.Fault) e reported answers = absurd reported
      mine_held (Receipted reply n at (Kept.Full size count)) e reported answers = absurd reported

    -- a reply to another's frame is none of its own
    not_its : (r : Bytes) (k : ℕ) (frame : Bytes) (front : ℕ) (x : Exchange) → same r s ≡ false → is_refused_by s (word_of (Claimed.Job r k frame front) x) ≡ false
    not_its r k frame front Unsent other = refl
    not_its r k frame front Unread other = refl
    not_its r k frame front (Replied reply) other = other
    not_its r k frame front (Receipted reply n at (Kept.Done done)) other = refl
    not_its r k frame front (Receipted reply n at (Kept.Denied why)) other = other
    not_its r k frame front (Receipted reply n at Kept.Fault) other = refl
    not_its r k frame front (Receipted reply n at (Kept.Full size count)) other = refl

    held_by : (r : Bytes) (k : ℕ) (frame : Bytes) (front : ℕ) → ClaimStep (numbers keeper left between) b reading names first (Claimed.Job r k frame front) → (x : Exchange)
        → Exchanges keeper between new (onto first b) (Claimed.Job r k frame front) x later → IsReported (word_of (Claimed.Job r k frame front) x) → AnswersClaim s (Claimed.Job r k frame front) x old now → (mine : Bool) → same r s ≡ mine
        → (is_refused_by s (word_of (Claimed.Job r k frame front) x) ≡ false) × Held s now
    held_by r k frame front step x e reported answers false other =
        (not_its r k frame front x other, other_held r k frame front step x e reported other (answers.1 (λ is. true≢false (sym (subst (λ (t : Bytes). same r t ≡ true) is (same_self r)) ∙ other))))
    held_by r k frame front step x e reported answers true alike =
        let is : r ≡ s = same_is r s alike in
        let own = mine_held k frame front (subst (λ (t : Bytes). ClaimStep (numbers keeper left between) b reading names first (Claimed.Job t k frame front)) is step) x
        (subst (λ (t : Bytes). Exchanges keeper between new (onto first b) (Claimed.Job t k frame front) x later) is e) (subst (λ (t : Bytes). IsReported (word_of (Claimed.Job t k frame front) x)) is reported) (answers.0 is) in
        (subst (λ (t : Bytes). is_refused_by s (word_of (Claimed.Job t k frame front) x) ≡ false) (sym is) own.0, own.1)

    pub held_on : (c : Claimed) (x : Exchange) → ClaimStep (numbers keeper left between) b reading names first c → Exchanges keeper between new (onto first b) c x later → IsReported (word_of c x) → AnswersClaim s c x old now
        → (is_refused_by s (word_of c x) ≡ false) × Held s now
    held_on (Claimed.Job r k frame front) x step e reported answers = held_by r k frame front step x e reported answers (same r s) refl
    held_on (Claimed.Idle next) x step e reported answers = absurd reported
    held_on Claimed.Fault x step e reported answers = absurd reported
    held_on (Claimed.Full size count) x step e reported answers = absurd reported
    held_on Claimed.Memory x step e reported answers = absurd reported
