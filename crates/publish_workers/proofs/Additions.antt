-- What the turns of a drain add to the list.
use Rattle.std.proofs.Common.{◌≡◌, ◌⊎◌, inl, inr, ℕ, Bool, true, false, List, [], ◌∷◌, ◌++◌, Option, Some, None, refl, sym, ap, ◌∙◌, subst}
use Rattle.news_types.specs.declared.entry.Act.{Act}
use Rattle.news_types.specs.declared.entry.Act.TheVariants.{Advance, Attempt, Receipt, Halt, Ingest, Request}
use Rattle.news_types.specs.declared.entry.Entry.{Entry}
use Rattle.news_types.specs.declared.query.Ready.{Ready}
use Rattle.news_types.specs.declared.query.Ready.TheVariants.{Now, Later}
use Rattle.news_types.specs.Names.{Bytes}
use Rattle.news_types.specs.Members.{Each}
use Rattle.news_types.specs.History.{History, moment_at}
use Rattle.news_types.specs.Books.{Book, onto, followed_by}
use Rattle.news_types.specs.Calls.{ticked, attempt_of, entry_if}
use Rattle.news_types.specs.Delivery.{acked, acked_after, choice}
use Rattle.news_types.specs.Legal.{some_waits}
use Rattle.news_types.specs.Outcome.{receipt_at}
use Rattle.news_types.proofs.Members.{each_map, each_append}
use Rattle.news_io.specs.Keeper.{KeeperMeaning}
use Rattle.news_room.specs.Beside.{Beside}
use Rattle.news_room.specs.Claims.{ClaimStep, attempt_entries, claim_entries}
use Rattle.news_room.specs.Stands.{numbers}
use Rattle.news_room.specs.Steps.{entries, tick_entries}
use Rattle.news_room.specs.declared.answers.Kept.{Kept}
use Rattle.news_room.specs.declared.claim.Claimed.{Claimed}
use Rattle.news_room.specs.declared.room.Room.{Room}
use Rattle.publish_workers.specs.Turns.{Exchange, Unsent, Unread, Replied, Receipted, Turn}
use Rattle.publish_workers.specs.Receipts.{Acknowledges}
use Rattle.publish_workers.specs.Steps.{Exchanges, TurnHappens}
use Rattle.publish_workers.specs.Drains.{TurnsHappen}
use Rattle.publish_workers.specs.Completeness.{Delivers, DrainsOnlyDeliver}
use Rattle.publish_workers.proofs.Answering.{denied_none}
use Rattle.publish_workers.proofs.Delivering.{any_receipt}

-- ---- a claim

-- ticks and attempts
abbrev Claims : Act → Type 0
Claims Advance = Unit {0}
Claims (Attempt s k) = Unit {0}
Claims _ = ⊥

abbrev AllClaim : List Entry → Type 0
AllClaim es = Each (λ (e : Entry). Claims e.act) es

claims_front : (xs ys : List Entry) → AllClaim (xs ++ ys) → AllClaim xs
claims_front [] ys all = tt
claims_front (x ∷ xs) ys all = (all.0, claims_front xs ys all.1)

tick_claims : (h : History) (m : ℕ) → AllClaim (tick_entries h m)
tick_claims h m = by (some_waits h m)
  where
    by : (b : Bool) → AllClaim (entries (entry_if b m Advance))
    by true = (tt, tt)
    by false = tt

attempt_claims : (g : History) (names : List Bytes) (m : ℕ) → AllClaim (attempt_entries g names m)
attempt_claims g names m = by (choice g names m)
  where
    by : (r : Ready) → AllClaim (entries (attempt_of m r))
    by (Now s k) = (tt, tt)
    by (Later next) = tt

claim_claims : (h : History) (names : List Bytes) (m : ℕ) → AllClaim (claim_entries h names m)
claim_claims h names m = each_append (λ (e : Entry). Claims e.act) (tick_entries h m) (attempt_entries (ticked h m) names m) (tick_claims h m) (attempt_claims (ticked h m) names m)

claimed : (x : Beside) (b : Book) (now : ℕ) (names : List Bytes) (first : List Entry) (c : Claimed) → ClaimStep x b now names first c → AllClaim first
claimed x b now names first (Claimed.Job s k frame front) step = subst AllClaim (sym step.3.whole.is) (claim_claims b.list names (moment_at b.list now))
claimed x b now names first (Claimed.Idle next) step = subst AllClaim (sym step.1.whole.is) (claim_claims b.list names (moment_at b.list now))
claimed x b now names first Claimed.Fault step = claims_front first (step.next ∷ step.rest) (subst AllClaim step.is (claim_claims b.list names (moment_at b.list now)))
claimed x b now names first (Claimed.Full size count) step = claims_front first (step.next ∷ step.rest) (subst AllClaim step.is (claim_claims b.list names (moment_at b.list now)))
claimed x b now names first Claimed.Memory step = subst AllClaim (sym step.whole.is) (tick_claims b.list (moment_at b.list now))

claim_acks : (act : Act) (s : Bytes) (n : ℕ) → Claims act → acked_after s act n ≡ n
claim_acks Advance s n claims = refl
claim_acks (Attempt r k) s n claims = refl
claim_acks (Receipt r k) s n claims = absurd claims
claim_acks Halt s n claims = absurd claims
claim_acks (Ingest provider come) s n claims = absurd claims
claim_acks (Request caller number command) s n claims = absurd claims

acks_same : (es : List Entry) (h : History) (s : Bytes) → AllClaim es → acked (followed_by es h) s ≡ acked h s
acks_same [] h s all = refl
acks_same (e ∷ es) h s all = acks_same es (e ∷ h) s all.1 ∙ claim_acks e.act s (acked h s) all.0

-- it acknowledges nothing
pub claimed_acked : (x : Beside) (b : Book) (now : ℕ) (names : List Bytes) (first : List Entry) (c : Claimed) (s : Bytes) → ClaimStep x b now names first c → acked (onto first b).list s ≡ acked b.list s
claimed_acked x b now names first c s step = acks_same first b.list s (claimed x b now names first c step)

-- ---- what an exchange keeps

none_cons : {A : Type 0} (x : A) (xs : List A) → [] ≡ x ∷ xs → ⊥
none_cons x xs is = cc

tail_is : {A : Type 0} (x y : A) (xs ys : List A) → x ∷ xs ≡ y ∷ ys → xs ≡ ys
tail_is x y xs ys is = cc

-- before an entry that was not kept there is none
none_before : (o : Option Entry) (kept : List Entry) (next : Entry) (rest : List Entry) → entries o ≡ kept ++ next ∷ rest → kept ≡ []
none_before o [] next rest is = refl
none_before None (e ∷ kept) next rest is = absurd (none_cons e (kept ++ next ∷ rest) is)
none_before (Some d) (e ∷ []) next rest is = absurd (none_cons next rest (tail_is d e [] (next ∷ rest) is))
none_before (Some d) (e ∷ f ∷ kept) next rest is = absurd (none_cons f (kept ++ next ∷ rest) (tail_is d e [] (f ∷ kept ++ next ∷ rest) is))

module _ {K : Type 0} (keeper : KeeperMeaning K) (left between new : Room K) (b : Book) (names : List Bytes) (reading : ℕ) (first later : List Entry) where
  -- nothing, or the entry of a receipt that acknowledges the frame
  abbrev pub Keeps : Bytes → ℕ → Exchange → Type 0
  Keeps r k x =
      (later ≡ []) ⊎ ((reply : Bytes) × (n : ℕ) × (at : ℕ) × (kept : Kept) × (x ≡ Receipted reply n at kept) × Acknowledges (onto first b).list r k n reply
      × (later ≡ entries (receipt_at (onto first b).list r n (moment_at (onto first b).list at)).more))

  pub keeps : (r : Bytes) (k : ℕ) (frame : Bytes) (front : ℕ) (x : Exchange) → Exchanges keeper between new (onto first b) (Claimed.Job r k frame front) x later → Keeps r k x
  keeps r k frame front Unsent e = inl e.0.1
  keeps r k frame front Unread e = inl e.0.1
  keeps r k frame front (Replied reply) e = inl e.0.1
  keeps r k frame front (Receipted reply n at (Kept.Done done)) e = inr (reply, n, at, Kept.Done done, refl, e.1, e.0.step.1.whole.is)
  keeps r k frame front (Receipted reply n at (Kept.Denied why)) e =
      inl (e.0.step.1.whole.is ∙ ap entries (denied_none (onto first b).list r n (moment_at (onto first b).list at) why e.0.step.0))
  keeps r k frame front (Receipted reply n at Kept.Fault) e = inl (none_before (receipt_at (onto first b).list r n (moment_at (onto first b).list at)).more later e.0.step.next e.0.step.rest e.0.step.is)
  keeps r k frame front (Receipted reply n at (Kept.Full size count)) e = inl (none_before (receipt_at (onto first b).list r n (moment_at (onto first b).list at)).more later e.0.step.next e.0.step.rest e.0.step.is)

-- ---- a turn, and turns one behind another

claims_deliver : (act : Act) → Claims act → Delivers act
claims_deliver Advance claims = tt
claims_deliver (Attempt r k) claims = tt
claims_deliver (Receipt r k) claims = absurd claims
claims_deliver Halt claims = absurd claims
claims_deliver (Ingest provider come) claims = absurd claims
claims_deliver (Request caller number command) claims = absurd claims

abbrev AllDeliver : List Entry → Type 0
AllDeliver es = Each (λ (e : Entry). Delivers e.act) es

receipt_delivers : (h : History) (s : Bytes) (n m : ℕ) → AllDeliver (entries (receipt_at h s n m).more)
receipt_delivers h s n m = elim (any_receipt h s n m) [ inl none ↦ subst (λ (o : Option Entry). AllDeliver (entries o)) (sym none) tt | inr some ↦ subst (λ (o : Option Entry). AllDeliver (entries o)) (sym some) (tt, tt) ]

module _ {K : Type 0} (keeper : KeeperMeaning K) where
  later_delivers : (left between new : Room K) (b : Book) (names : List Bytes) (reading : ℕ) (first later : List Entry) (c : Claimed) (x : Exchange) → Exchanges keeper between new (onto first b) c x later → AllDeliver later
  later_delivers left between new b names reading first later (Claimed.Job r k frame front) x e =
      elim (keeps keeper left between new b names reading first later r k frame front x e) [
        | inl none ↦ subst AllDeliver (sym none) tt
        | inr kept ↦ subst AllDeliver (sym kept.6) (receipt_delivers (onto first b).list r kept.1 (moment_at (onto first b).list kept.2))
      ]
  later_delivers left between new b names reading first later (Claimed.Idle next) x e = subst AllDeliver (sym e.2) tt
  later_delivers left between new b names reading first later Claimed.Fault x e = subst AllDeliver (sym e.2) tt
  later_delivers left between new b names reading first later (Claimed.Full size count) x e = subst AllDeliver (sym e.2) tt
  later_delivers left between new b names reading first later Claimed.Memory x e = subst AllDeliver (sym e.2) tt

  turn_delivers : (left between new : Room K) (b : Book) (names : List Bytes) (t : Turn) (first later : List Entry) → TurnHappens keeper left between new b names t first later → AllDeliver (first ++ later)
  turn_delivers left between new b names t first later happens =
      each_append (λ (e : Entry). Delivers e.act) first later
      (each_map (λ (e : Entry). Claims e.act) (λ (e : Entry). Delivers e.act) first (λ e claims. claims_deliver e.act claims) (claimed (numbers keeper left between) b t.reading names first t.claimed happens.claim.step))
      (later_delivers left between new b names t.reading first later t.claimed t.exchange happens.exchange)

  turns_deliver : (old left : Room K) (b : Book) (names : List Bytes) (ts : List Turn) (before : List Entry) → TurnsHappen keeper old left b names ts before → AllDeliver before
  turns_deliver old left b names [] before happens = subst AllDeliver (sym happens.1) tt
  turns_deliver old left b names (t ∷ ts) before happens =
      subst AllDeliver (sym happens.7)
      (each_append (λ (e : Entry). Delivers e.act) happens.2 (happens.3 ++ happens.4) (turns_deliver old happens.0 b names ts happens.2 happens.5) (turn_delivers happens.0 happens.1 left (onto happens.2 b) names t happens.3 happens.4 happens.6))

  pub drains_only_deliver : DrainsOnlyDeliver keeper
  drains_only_deliver old new b names t ts more happens =
      subst AllDeliver (sym happens.more_is)
      (each_append (λ (e : Entry). Delivers e.act) happens.before (happens.first ++ happens.later) (turns_deliver old happens.left b names ts happens.before happens.turns)
      (turn_delivers happens.left happens.between new (onto happens.before b) names t happens.first happens.later happens.last))
