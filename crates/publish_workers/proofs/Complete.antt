-- What a drain has done.
use Rattle.std.proofs.Common.{◌≡◌, inr, ℕ, ◌≤◌, Bool, true, false, ◌||◌, List, [], ◌∷◌, ◌++◌, length, Option, refl, sym, ap, ◌∙◌, subst}
use Rattle.std.proofs.lemmas.Bool.{true≢false}
use Rattle.news_types.specs.declared.entry.Entry.{Entry}
use Rattle.news_types.specs.Names.{Bytes, is_in}
use Rattle.news_types.specs.History.{History, moment_at}
use Rattle.news_types.specs.Books.{Book, onto, followed_by}
use Rattle.news_types.specs.Calls.{ticked}
use Rattle.news_types.specs.Delivery.{acked}
use Rattle.news_types.specs.Feeds.{feed}
use Rattle.news_types.specs.Frames.{Frame}
use Rattle.news_types.proofs.Members.{same_self}
use Rattle.news_types.proofs.Books.{behind_more, onto_more}
use Rattle.news_types.proofs.Quiet.{ticked_moment}
use Rattle.news_io.specs.Faults.{Rose}
use Rattle.news_io.specs.Keeper.{KeeperMeaning}
use Rattle.news_room.specs.Claims.{ClaimStep, attempt_entries}
use Rattle.news_room.specs.Stands.{numbers}
use Rattle.news_room.specs.Steps.{tick_entries}
use Rattle.news_room.specs.declared.answers.Kept.{Kept}
use Rattle.news_room.specs.declared.claim.Claimed.{Claimed}
use Rattle.news_room.specs.declared.room.Room.{Room}
use Rattle.news_room.proofs.Claims.{attempt_none, behind_tick}
use Rattle.world_laws.proofs.Followers.{moment_grows}
use Rattle.publish_workers.specs.declared.worked.Worked.{Worked}
use Rattle.publish_workers.specs.declared.worked.Worked.TheVariants.{Delivered, Idle, NoReceipt, LinkFault, StoreFault, Full, Memory}
use Rattle.publish_workers.specs.declared.drain.Drained as ends
use Rattle.publish_workers.specs.declared.drain.Drained.{Drained}
use Rattle.publish_workers.specs.Turns.{Exchange, Unsent, Unread, Replied, Receipted, Turn, word_of, word, is_link_fault, is_no_receipt}
use Rattle.publish_workers.specs.Links.{CountsFaults}
use Rattle.publish_workers.specs.Steps.{Exchanges}
use Rattle.publish_workers.specs.Drains.{AllReported, lost_in, refused_in, end_of, TurnsHappen, DrainHappens}
use Rattle.publish_workers.specs.Completeness.{NoneReady, Answers, is_lost_to, is_refused_by, lost_to, refused_by, IdlesAreDone, FeedsAreDelivered, RepliesAreReceipts, DrainsAreComplete}
use Rattle.publish_workers.proofs.Named.{choice_named}
use Rattle.publish_workers.proofs.Ready.{none_ready_at}
use Rattle.publish_workers.proofs.Changes.{feed_begins, stays, tick_stays, Since, since_stays, all_delivered, ticked_again}
use Rattle.publish_workers.proofs.Delivering.{since_on, held_on}

pub or_parts : (a b : Bool) → (a || b) ≡ false → (a ≡ false) × (b ≡ false)
or_parts false b is = (refl, is)
or_parts true b is = absurd (true≢false is)

or_none : (a b : Bool) → a ≡ false → b ≡ false → (a || b) ≡ false
or_none false b one two = two
or_none true b one two = absurd (true≢false one)

-- ---- words

pub job_idle : (c : Claimed) (x : Exchange) (next : Option ℕ) → word_of c x ≡ Idle next → c ≡ Claimed.Idle next
job_idle (Claimed.Job s k frame front) Unsent next is = absurd (lost s k next is)
  where
    lost : (s : Bytes) (k : ℕ) (next : Option ℕ) → LinkFault s k ≡ Idle next → ⊥
    lost s k next is = cc
job_idle (Claimed.Job s k frame front) Unread next is = absurd (lost s k next is)
  where
    lost : (s : Bytes) (k : ℕ) (next : Option ℕ) → LinkFault s k ≡ Idle next → ⊥
    lost s k next is = cc
job_idle (Claimed.Job s k frame front) (Replied reply) next is = absurd (refused s k reply next is)
  where
    refused : (s : Bytes) (k : ℕ) (reply : Bytes) (next : Option ℕ) → NoReceipt s k reply ≡ Idle next → ⊥
    refused s k reply next is = cc
job_idle (Claimed.Job s k frame front) (Receipted reply n at (Kept.Done done)) next is = absurd (sent s k n next is)
  where
    sent : (s : Bytes) (k n : ℕ) (next : Option ℕ) → Delivered s k n ≡ Idle next → ⊥
    sent s k n next is = cc
job_idle (Claimed.Job s k frame front) (Receipted reply n at (Kept.Denied why)) next is = absurd (refused s k reply next is)
  where
    refused : (s : Bytes) (k : ℕ) (reply : Bytes) (next : Option ℕ) → NoReceipt s k reply ≡ Idle next → ⊥
    refused s k reply next is = cc
job_idle (Claimed.Job s k frame front) (Receipted reply n at Kept.Fault) next is = absurd (fault next is)
  where
    fault : (next : Option ℕ) → StoreFault ≡ Idle next → ⊥
    fault next is = cc
job_idle (Claimed.Job s k frame front) (Receipted reply n at (Kept.Full size count)) next is = absurd (full size count next is)
  where
    full : (size count : ℕ) (next : Option ℕ) → Full size count ≡ Idle next → ⊥
    full size count next is = cc
job_idle (Claimed.Idle later) x next is = ap (λ (n : Option ℕ). Claimed.Idle n) (same_next later next is)
  where
    same_next : (later next : Option ℕ) → Idle later ≡ Idle next → later ≡ next
    same_next later next is = cc
job_idle Claimed.Fault x next is = absurd (fault next is)
  where
    fault : (next : Option ℕ) → StoreFault ≡ Idle next → ⊥
    fault next is = cc
job_idle (Claimed.Full size count) x next is = absurd (full size count next is)
  where
    full : (size count : ℕ) (next : Option ℕ) → Full size count ≡ Idle next → ⊥
    full size count next is = cc
job_idle Claimed.Memory x next is = absurd (memory next is)
  where
    memory : (next : Option ℕ) → Memory ≡ Idle next → ⊥
    memory next is = cc

-- what failed at none, failed at none of a subscriber's
lost_of : (s : Bytes) (w : Worked) → is_link_fault w ≡ false → is_lost_to s w ≡ false
lost_of s (LinkFault r k) is = absurd (true≢false is)
lost_of s (Delivered r k n) is = refl
lost_of s (NoReceipt r k reply) is = refl
lost_of s (Idle next) is = refl
lost_of s StoreFault is = refl
lost_of s (Full size count) is = refl
lost_of s Memory is = refl

pub lost_none : (s : Bytes) (ts : List Turn) → lost_in ts ≡ false → lost_to s ts ≡ false
lost_none s [] is = refl
lost_none s (t ∷ ts) is = let parts = or_parts (lost_in ts) (is_link_fault (word t)) is in or_none (lost_to s ts) (is_lost_to s (word t)) (lost_none s ts parts.0) (lost_of s (word t) parts.1)

-- so of what was refused
refused_of : (s : Bytes) (w : Worked) → is_no_receipt w ≡ false → is_refused_by s w ≡ false
refused_of s (NoReceipt r k reply) is = absurd (true≢false is)
refused_of s (Delivered r k n) is = refl
refused_of s (LinkFault r k) is = refl
refused_of s (Idle next) is = refl
refused_of s StoreFault is = refl
refused_of s (Full size count) is = refl
refused_of s Memory is = refl

pub refused_of_none : (s : Bytes) (ts : List Turn) → refused_in ts ≡ false → refused_by s ts ≡ false
refused_of_none s [] is = refl
refused_of_none s (t ∷ ts) is = let parts = or_parts (refused_in ts) (is_no_receipt (word t)) is in or_none (refused_by s ts) (is_refused_by s (word t)) (refused_of_none s ts parts.0) (refused_of s (word t) parts.1)

-- an end with none ready
pub idle_end : (w : Worked) (lost refused lost' refused' : Bool) → ends.Drained.Idle lost' refused' ≡ end_of w lost refused → (next : Option ℕ) × (w ≡ Idle next) × (lost' ≡ lost) × (refused' ≡ refused)
idle_end (Idle next) lost refused lost' refused' is = (next, refl, cc, cc)
idle_end StoreFault lost refused lost' refused' is = absurd (no is)
  where
    no : {a b : Bool} → ends.Drained.Idle a b ≡ ends.Drained.StoreFault → ⊥
    no is = cc
idle_end (Full size count) lost refused lost' refused' is = absurd (no is)
  where
    no : {a b : Bool} {size count : ℕ} → ends.Drained.Idle a b ≡ ends.Drained.Full size count → ⊥
    no is = cc
idle_end Memory lost refused lost' refused' is = absurd (no_memory is)
  where
    no_memory : {a b : Bool} → ends.Drained.Idle a b ≡ ends.Drained.Memory → ⊥
    no_memory is = cc
idle_end (Delivered s k n) lost refused lost' refused' is = absurd (no_memory is)
  where
    no_memory : {a b : Bool} → ends.Drained.Idle a b ≡ ends.Drained.Memory → ⊥
    no_memory is = cc
idle_end (NoReceipt s k reply) lost refused lost' refused' is = absurd (no_memory is)
  where
    no_memory : {a b : Bool} → ends.Drained.Idle a b ≡ ends.Drained.Memory → ⊥
    no_memory is = cc
idle_end (LinkFault s k) lost refused lost' refused' is = absurd (no_memory is)
  where
    no_memory : {a b : Bool} → ends.Drained.Idle a b ≡ ends.Drained.Memory → ⊥
    no_memory is = cc

module _ {K : Type 0} (keeper : KeeperMeaning K) where
  -- ---- the last turn found none ready

  nothing_more : (between new : Room K) (b : Book) (next : Option ℕ) (x : Exchange) (later : List Entry) → Exchanges keeper between new b (Claimed.Idle next) x later → later ≡ []
  nothing_more between new b next x later e = e.2

  -- so the list behind it is that behind its tick
  rests : (left between new : Room K) (b : Book) (names : List Bytes) (reading : ℕ) (first later : List Entry) (next : Option ℕ) (x : Exchange) → ClaimStep (numbers keeper left between) b reading names first (Claimed.Idle next)
      → Exchanges keeper between new (onto first b) (Claimed.Idle next) x later → (onto (first ++ later) b).list ≡ ticked b.list (moment_at b.list reading)
  rests left between new b names reading first later next x step e =
      let h : History = b.list in
      let m : ℕ = moment_at h reading in
      sym (behind_more first later h) ∙ ap (λ (l : List Entry). followed_by l (followed_by first h)) (nothing_more between new (onto first b) next x later e) ∙ ap (λ (l : List Entry). followed_by l h) step.1.whole.is
      ∙ sym (behind_more (tick_entries h m) (attempt_entries (ticked h m) names m) h) ∙ ap (λ (l : List Entry). followed_by l (followed_by (tick_entries h m) h)) (attempt_none (ticked h m) names m next step.0)
      ∙ behind_tick h m (tick_entries h m) refl

  module _ (old new : Room K) (b : Book) (names : List Bytes) (t : Turn) (ts : List Turn) (more : List Entry) (next : Option ℕ) (happens : DrainHappens keeper old new b names t ts more) (idle : word t ≡ Idle next) where
    claimed : t.claimed ≡ Claimed.Idle next
    claimed = job_idle t.claimed t.exchange next idle

    last_step : ClaimStep (numbers keeper happens.left happens.between) (onto happens.before b) t.reading names happens.first (Claimed.Idle next)
    last_step = subst (λ (c : Claimed). ClaimStep (numbers keeper happens.left happens.between) (onto happens.before b) t.reading names happens.first c) claimed happens.last.claim.step

    list_is : (onto more b).list ≡ ticked (onto happens.before b).list (moment_at (onto happens.before b).list t.reading)
    list_is =
        ap (λ (l : List Entry). (onto l b).list) happens.more_is ∙ sym (behind_more happens.before (happens.first ++ happens.later) b.list)
        ∙ rests happens.left happens.between new (onto happens.before b) names t.reading happens.first happens.later next t.exchange last_step
        (subst (λ (c : Claimed). Exchanges keeper happens.between new (onto happens.first (onto happens.before b)) c t.exchange happens.later) claimed happens.last.exchange)

    moment_is : moment_at (onto more b).list t.reading ≡ moment_at (onto happens.before b).list t.reading
    moment_is = ap (λ (h : History). moment_at h t.reading) list_is ∙ ticked_again (onto happens.before b).list t.reading

    pub rests_there : NoneReady (onto more b).list names (moment_at (onto more b).list t.reading)
    rests_there =
        let h : History = (onto happens.before b).list in
        let m : ℕ = moment_at h t.reading in
        subst (λ (n : ℕ). NoneReady (onto more b).list names n) (sym moment_is) (subst (λ (g : History). NoneReady g names m) (sym list_is) (none_ready_at (ticked h m) names m next (ticked_moment h m (moment_grows h t.reading)) last_step.0))

  pub idles_are_done : IdlesAreDone keeper
  idles_are_done old new b names t ts more next happens idle = rests_there old new b names t ts more next happens idle

  -- ---- turns of a subscriber that are all delivered

  since_turns : (old left : Room K) (b : Book) (names : List Bytes) (ts : List Turn) (before : List Entry) → TurnsHappen keeper old left b names ts before → AllReported ts → (s : Bytes) → lost_to s ts ≡ false → refused_by s ts ≡ false
      → Since b.list (onto before b).list s
  since_turns old left b names [] before happens reported s lost refused = subst (λ (l : List Entry). Since b.list (onto l b).list s) (sym happens.1) (inr (stays b.list s))
  since_turns old left b names (t ∷ ts) before happens reported s lost refused =
      let losts = or_parts (lost_to s ts) (is_lost_to s (word t)) lost in
      let refusals = or_parts (refused_by s ts) (is_refused_by s (word t)) refused in
      let was = since_turns old happens.0 b names ts happens.2 happens.5 reported.1 s losts.0 refusals.0 in
      let turn = happens.6 in
      let now = since_on keeper happens.0 happens.1 left (onto happens.2 b) names t.reading happens.3 happens.4 t.claimed t.exchange turn.claim.step turn.exchange reported.0 s losts.1 refusals.1 b.list was in
      subst (λ (l : List Entry). Since b.list (onto l b).list s) (sym happens.7) (subst (λ (d : Book). Since b.list d.list s) (onto_more happens.2 (happens.3 ++ happens.4) b) now)

  pub drain_since : (old new : Room K) (b : Book) (names : List Bytes) (t : Turn) (ts : List Turn) (more : List Entry) (next : Option ℕ) → DrainHappens keeper old new b names t ts more → AllReported ts → word t ≡ Idle next
      → (s : Bytes) → lost_to s ts ≡ false → refused_by s ts ≡ false → Since b.list (onto more b).list s
  drain_since old new b names t ts more next happens reported idle s lost refused =
      let h : History = (onto happens.before b).list in
      let m : ℕ = moment_at h t.reading in
      let was = since_turns old happens.left b names ts happens.before happens.turns reported s lost refused in
      subst (λ (g : History). Since b.list g s) (sym (list_is old new b names t ts more next happens idle)) (since_stays b.list h (ticked h m) s was (tick_stays h m s))

  pub feeds_are_delivered : FeedsAreDelivered keeper
  feeds_are_delivered old new b names t ts more next happens reported idle s there lost refused may =
      let now = drain_since old new b names t ts more next happens reported idle s lost refused in
      let done = rests_there old new b names t ts more next happens idle in
      all_delivered b.list (onto more b).list names s (moment_at (onto more b).list t.reading) now (feed_begins more b.list s happens.stands.kept.legal) (done.none s there) (done.done s there) may

  -- ---- a receiver that answers as it should

  pub record Good (b : Book) (s : Bytes) (ts : List Turn) (before : List Entry) (now : List Frame) : Type 0 where
    pub none : refused_by s ts ≡ false
    pub least : acked (onto before b).list s ≤ length now
    pub most : length now ≤ length (feed (onto before b).list s)

  good_turns : (old left : Room K) (b : Book) (names : List Bytes) (ts : List Turn) (before : List Entry) → TurnsHappen keeper old left b names ts before → AllReported ts → (s : Bytes) (held now : List Frame) → acked b.list s ≤ length held → length held ≤ length (feed b.list s)
      → Answers s held ts now → Good b s ts before now
  good_turns old left b names [] before happens reported s held now least most answers =
      subst (λ (l : List Entry). Good b s [] l now) (sym happens.1) (subst (λ (frames : List Frame). Good b s [] [] frames) (sym answers) (record { none = refl; least = least; most = most }))
  good_turns old left b names (t ∷ ts) before happens reported s held now least most answers =
      let was = good_turns old happens.0 b names ts happens.2 happens.5 reported.1 s held answers.0 least most answers.1 in
      let turn = happens.6 in
      let next = held_on keeper happens.0 happens.1 left (onto happens.2 b) names t.reading happens.3 happens.4 turn.claim.stands turn.stands s answers.0 now was.least was.most t.claimed t.exchange turn.claim.step turn.exchange reported.0 answers.2 in
      let list : (onto (happens.3 ++ happens.4) (onto happens.2 b)).list ≡ (onto before b).list = behind_more happens.2 (happens.3 ++ happens.4) b.list ∙ ap (λ (l : List Entry). (onto l b).list) (sym happens.7) in
      record {
        none = or_none (refused_by s ts) (is_refused_by s (word t)) was.none next.0;
        least = subst (λ (g : History). acked g s ≤ length now) list next.1.least;
        most = subst (λ (g : History). length now ≤ length (feed g s)) list next.1.most;
      }

  pub replies_are_receipts : RepliesAreReceipts keeper
  replies_are_receipts old new b names t ts more happens reported s receiver =
      (good_turns old happens.left b names ts happens.before happens.turns reported s receiver.first receiver.now receiver.least receiver.most receiver.answers).none

  -- ---- all of them

  -- a refused reply is one to a name of the link
  refused_one : (left between : Room K) (b : Book) (names : List Bytes) (reading : ℕ) (first : List Entry) (c : Claimed) (x : Exchange) → ClaimStep (numbers keeper left between) b reading names first c
      → ((s : Bytes) → is_in s names ≡ true → is_refused_by s (word_of c x) ≡ false) → is_no_receipt (word_of c x) ≡ false
  refused_one left between b names reading first (Claimed.Job r k frame front) x step none = by x (none r (choice_named (ticked b.list (moment_at b.list reading)) names (moment_at b.list reading) r k step.0))
    where
      by : (x : Exchange) → is_refused_by r (word_of (Claimed.Job r k frame front) x) ≡ false → is_no_receipt (word_of (Claimed.Job r k frame front) x) ≡ false
      by Unsent is = refl
      by Unread is = refl
      by (Replied reply) is = absurd (true≢false (sym (same_self r) ∙ is))
      by (Receipted reply n at (Kept.Done done)) is = refl
      by (Receipted reply n at (Kept.Denied why)) is = absurd (true≢false (sym (same_self r) ∙ is))
      by (Receipted reply n at Kept.Fault) is = refl
      by (Receipted reply n at (Kept.Full size count)) is = refl
  refused_one left between b names reading first (Claimed.Idle next) x step none = refl
  refused_one left between b names reading first Claimed.Fault x step none = refl
  refused_one left between b names reading first (Claimed.Full size count) x step none = refl
  refused_one left between b names reading first Claimed.Memory x step none = refl

  refused_none : (old left : Room K) (b : Book) (names : List Bytes) (ts : List Turn) (before : List Entry) → TurnsHappen keeper old left b names ts before → ((s : Bytes) → is_in s names ≡ true → refused_by s ts ≡ false) → refused_in ts ≡ false
  refused_none old left b names [] before happens none = refl
  refused_none old left b names (t ∷ ts) before happens none =
      or_none (refused_in ts) (is_no_receipt (word t))
      (refused_none old happens.0 b names ts happens.2 happens.5 (λ s there. (or_parts (refused_by s ts) (is_refused_by s (word t)) (none s there)).0))
      (refused_one happens.0 happens.1 (onto happens.2 b) names t.reading happens.3 t.claimed t.exchange happens.6.claim.step (λ s there. (or_parts (refused_by s ts) (is_refused_by s (word t)) (none s there)).1))

  -- no count rose
  calm : (failed : Bool) (a c : ℕ) → CountsFaults failed a c → (Rose a c → ⊥) → failed ≡ false
  calm true a c counts free = absurd (free counts)
  calm false a c counts free = refl

  pub drains_are_complete : DrainsAreComplete keeper
  drains_are_complete old new b names t ts more (ends.Drained.Idle lost' refused') link link' happens reported end counts store no_link no_store free receivers =
      let is = idle_end (word t) (lost_in ts) (refused_in ts) lost' refused' end in
      let idle = is.1 in
      let none : (s : Bytes) → is_in s names ≡ true → refused_by s ts ≡ false = λ s there. replies_are_receipts old new b names t ts more happens reported s (receivers s there) in
      let lost : lost' ≡ false = calm lost' link link' counts no_link in
      let refused : refused' ≡ false = is.3 ∙ refused_none old happens.left b names ts happens.before happens.turns none in
      let kept : lost_in ts ≡ false = sym is.2 ∙ lost in (
        ap (λ (x : Bool). ends.Drained.Idle x refused') lost ∙ ap (λ (x : Bool). ends.Drained.Idle false x) refused,
        λ s there may. feeds_are_delivered old new b names t ts more is.0 happens reported idle s there (lost_none s ts kept) (none s there) may,
      )
  drains_are_complete old new b names t ts more ends.Drained.StoreFault link link' happens reported end counts store no_link no_store free receivers = absurd (no_store store)
  drains_are_complete old new b names t ts more ends.Drained.OutputFault link link' happens reported end counts store no_link no_store free receivers = absurd free
  drains_are_complete old new b names t ts more (ends.Drained.Full size count) link link' happens reported end counts store no_link no_store free receivers = absurd free
  drains_are_complete old new b names t ts more ends.Drained.Memory link link' happens reported end counts store no_link no_store free receivers = absurd free
