-- A receiver keeps pace over a turn.
use Rattle.std.proofs.Common.{◌≡◌, ◌⊎◌, inl, inr, ℕ, ◌+◌, ◌≤◌, ◌&&◌, Bool, true, false, List, [], ◌++◌, length, Option, refl, sym, ap, ◌∙◌, subst, arith}
use Rattle.std.specs.Option.{option_map}
use Rattle.std.proofs.lemmas.Bool.{true≢false}
use Rattle.news_types.specs.declared.entry.Entry.{Entry}
use Rattle.news_types.specs.Names.{Bytes, same}
use Rattle.news_types.specs.History.{History, moment_at}
use Rattle.news_types.specs.Books.{Book, onto}
use Rattle.news_types.specs.Calls.{ticked}
use Rattle.news_types.specs.Delivery.{acked}
use Rattle.news_types.specs.Feeds.{Dispatch, feed}
use Rattle.news_types.specs.Frames.{Frame, Writer, frame_bytes, bytes_of, framed, format}
use Rattle.news_types.specs.Outcome.{receipt_at}
use Rattle.news_types.proofs.Members.{same_is, same_self}
use Rattle.news_types.proofs.Books.{behind_more}
use Rattle.news_io.specs.Keeper.{KeeperMeaning}
use Rattle.feed_frames.specs.Writer.{the_writer}
use Rattle.feed_receiver.specs.Spelling.{IsReceipt}
use Rattle.feed_links.specs.Receivers.{Behind}
use Rattle.news_room.specs.Claims.{ClaimStep}
use Rattle.news_room.specs.Stands.{Stands, numbers}
use Rattle.news_room.specs.Steps.{entries}
use Rattle.news_room.specs.declared.answers.Kept.{Kept}
use Rattle.news_room.specs.declared.claim.Claimed.{Claimed}
use Rattle.news_room.specs.declared.room.Room.{Room}
use Rattle.news_room.proofs.Chosen.{chosen_entry}
use Rattle.publish_workers.specs.Turns.{Exchange, Unsent, Unread, Replied, Receipted, passed_of}
use Rattle.publish_workers.specs.Receipts.{Acknowledges}
use Rattle.publish_workers.specs.Steps.{Exchanges}
use Rattle.publish_workers.specs.Completeness.{Takes, AnswersFrame, AnswersClaim}
use Rattle.publish_workers.specs.InMemory.{received_by, KeepsPace, is_silent, is_silent_to}
use Rattle.publish_workers.proofs.Additions.{claimed_acked, keeps}
use Rattle.publish_workers.proofs.Changes.{feed_longer, Stays}
use Rattle.publish_workers.proofs.Delivering.{job_next, job_within, job_form, quiet_stays, receipt_other, Held, failed, delivered}
use Rattle.publish_workers.proofs.Headings.{HasHeading, receipt_some}
use Rattle.publish_workers.proofs.Passing.{AllPass, Reached, own_frame, other_frame}

module _ {K : Type 0} (keeper : KeeperMeaning K) (left between new : Room K) (b : Book) (names : List Bytes) (reading : ℕ) (first later : List Entry) where
  -- ---- the turn

  module _ (claimed : Stands keeper between (onto first b)) (stands : Stands keeper new (onto (first ++ later) b)) (a c : Behind) (s : Bytes) (was : KeepsPace b.list names a.held s) where
    -- what the receiver of the subscriber makes of it
    pub record Paced (claim : Claimed) (x : Exchange) : Type 0 where
      pub now : KeepsPace (onto (first ++ later) b).list names c.held s
      pub answers : is_silent_to s claim x ≡ false → AnswersClaim s claim x was.receiver.frames now.receiver.frames

    -- it holds what it held, and nothing is acknowledged
    abbrev still : received_by names c.held s ≡ received_by names a.held s → acked (onto (first ++ later) b).list s ≡ acked b.list s → KeepsPace (onto (first ++ later) b).list names c.held s
    still same' is =
        let longer = feed_longer (first ++ later) b.list s stands.kept.legal in
        let least = was.least in
        let most = was.most in
        record { receiver = was.receiver; there = same' ∙ was.there; name = was.name; least = omega (arith, is, least); most = omega (arith, most, longer) }

    -- without a frame
    abbrev none_sent : (claim : Claimed) → ClaimStep (numbers keeper left between) b reading names first claim → c ≡ a → later ≡ [] → KeepsPace (onto (first ++ later) b).list names c.held s
    none_sent claim step same' none =
        still (ap (λ (x : Behind). received_by names x.held s) same')
        (ap (λ (l : List Entry). acked (onto (first ++ l) b).list s) none ∙ ap (λ (h : History). acked h s) (sym (behind_more first [] b.list)) ∙ claimed_acked (numbers keeper left between) b reading names first claim s step)

    module _ (r : Bytes) (k : ℕ) (frame : Bytes) (front : ℕ) where
      -- another's frame
      other : ClaimStep (numbers keeper left between) b reading names first (Claimed.Job r k frame front) → (x : Exchange) → Exchanges keeper between new (onto first b) (Claimed.Job r k frame front) x later
          → AllPass names (passed_of (Claimed.Job r k frame front) x) a c → same r s ≡ false → Paced (Claimed.Job r k frame front) x
      other step x e all alike = record {
        now = still (other_frame names r s frame alike a x c all) stay.acked_is;
        answers = λ quiet. ((λ is. absurd (true≢false (sym (subst (λ (t : Bytes). same r t ≡ true) is (same_self r)) ∙ alike))), λ no. refl);
      }
        where
          stay : Stays b.list (onto (first ++ later) b).list s
          stay =
              elim (keeps keeper left between new b names reading first later r k frame front x e) [
                | inl none ↦ quiet_stays keeper left between new b names reading first later r k frame front step s alike none
                | inr kept ↦ receipt_other keeper left between new b names reading first later r k frame front step s kept.1 kept.2 alike kept.6
              ]

    -- its own
    module _ (k : ℕ) (frame : Bytes) (front : ℕ) (step : ClaimStep (numbers keeper left between) b reading names first (Claimed.Job s k frame front)) where
      abbrev m : ℕ
      m = moment_at b.list reading

      entry : (p : Dispatch) × (frame ≡ frame_bytes (framed (the_writer b.store) (format (ticked b.list m) s) s k p))
      entry =
          let write : Writer = the_writer b.store in
          let g : History = ticked b.list m in
          let there = chosen_entry g names m s k step.0 in
          (there.0, step.1 ∙ ap (λ (o : Option Dispatch). bytes_of (option_map (framed write (format g s) s k) o)) there.1)

      within : k ≤ length (feed (onto first b).list s)
      within = job_within (numbers keeper left between) b reading names first s k frame front step keeper between claimed

      next : k ≡ acked b.list s + 1
      next = job_next (numbers keeper left between) b reading names first s k frame front step

      form : (n : ℕ) → n ≤ length (feed (onto first b).list s) → IsReceipt s n
      form n most = job_form (numbers keeper left between) b reading names first s k frame front step keeper between claimed n most

      heading : HasHeading (framed (the_writer b.store) (format (ticked b.list m) s) s k entry.0)
      heading = record { name = (form k within).0; first = omega (arith, next); last = (form k within).1 }

      few : (n : ℕ) → (n ≡ length was.receiver.frames) ⊎ (n ≡ k) → IsReceipt s n
      few n which =
          let most = was.most in
          let longer = feed_longer first b.list s claimed.kept.legal in
          form n (elim which [ inl held ↦ omega (arith, held, most, longer) | inr is ↦ omega (arith, is, within) ])

      least : k ≤ length was.receiver.frames + 1
      least = let held = was.least in omega (arith, next, held)

      held_by : (x : Exchange) → Exchanges keeper between new (onto first b) (Claimed.Job s k frame front) x later → (now : List Frame) → Reached s k frame x was.receiver.frames now
          → Held keeper left between new b names reading first later s now
      held_by x e now reached = elim (keeps keeper left between new b names reading first later s k frame front x e) [ inl none ↦ quiet none x reached | inr kept ↦ receipted kept.0 kept.1 kept.2 kept.3 (subst (λ (y : Exchange). Reached s k frame y was.receiver.frames now) kept.4 reached) kept.5 kept.6 ]
        where
          fails : later ≡ [] → (now ≡ was.receiver.frames) ⊎ Takes s k frame was.receiver.frames now → Held keeper left between new b names reading first later s now
          fails none did = failed keeper left between new b names reading first later claimed stands s was.receiver.frames now was.least was.most k frame front step none did

          quiet : later ≡ [] → (x : Exchange) → Reached s k frame x was.receiver.frames now → Held keeper left between new b names reading first later s now
          quiet none Unsent did = fails none (inl did)
          quiet none Unread did = fails none did
          quiet none (Replied reply) did = fails none (elim did [ inl silent ↦ inl silent.0 | inr takes ↦ inr takes.0 ])
          quiet none (Receipted reply n at kept) did = fails none (elim did [ inl silent ↦ inl silent.0 | inr takes ↦ inr takes.0 ])

          receipted : (reply : Bytes) (n at : ℕ) (kept : Kept) → Reached s k frame (Receipted reply n at kept) was.receiver.frames now → Acknowledges (onto first b).list s k n reply
              → later ≡ entries (receipt_at (onto first b).list s n (moment_at (onto first b).list at)).more → Held keeper left between new b names reading first later s now
          receipted reply n at kept did told follows =
              elim did [
                | inl silent ↦ absurd (receipt_some s n (sym silent.1 ∙ told.receipt.line))
                | inr takes ↦ delivered keeper left between new b names reading first later claimed stands s was.receiver.frames now was.least was.most k frame front step reply n at takes.0 takes.1 told follows
              ]

      answers_by : (x : Exchange) (now : List Frame) → is_silent x ≡ false → Reached s k frame x was.receiver.frames now → AnswersFrame s k frame x was.receiver.frames now
      answers_by Unsent now loud did = inl did
      answers_by Unread now loud did = did
      answers_by (Replied reply) now loud did = elim did [ inl silent ↦ absurd (true≢false (sym (ap (λ (r : Bytes). is_silent (Replied r)) silent.1) ∙ loud)) | inr takes ↦ takes ]
      answers_by (Receipted reply n at kept) now loud did = elim did [ inl silent ↦ absurd (true≢false (sym (ap (λ (r : Bytes). is_silent (Receipted r n at kept)) silent.1) ∙ loud)) | inr takes ↦ takes ]

      own : (x : Exchange) → Exchanges keeper between new (onto first b) (Claimed.Job s k frame front) x later → AllPass names (passed_of (Claimed.Job s k frame front) x) a c → Paced (Claimed.Job s k frame front) x
      own x e all =
          let has = own_frame names s k frame (framed (the_writer b.store) (format (ticked b.list m) s) s k entry.0).payload heading entry.1 a was.receiver was.there was.name least few x c all in
          let held = held_by x e has.receiver.frames has.reached in
          record {
            now = record { receiver = has.receiver; there = has.there; name = has.name; least = held.least; most = held.most };
            answers = λ quiet. ((λ is. answers_by x has.receiver.frames (sym (ap (λ (t : Bool). t && is_silent x) (same_self s)) ∙ quiet) has.reached), λ no. absurd (no refl));
          }

    job_by : (r : Bytes) (k : ℕ) (frame : Bytes) (front : ℕ) → ClaimStep (numbers keeper left between) b reading names first (Claimed.Job r k frame front) → (x : Exchange)
        → Exchanges keeper between new (onto first b) (Claimed.Job r k frame front) x later → AllPass names (passed_of (Claimed.Job r k frame front) x) a c → (mine : Bool) → same r s ≡ mine → Paced (Claimed.Job r k frame front) x
    job_by r k frame front step x e all false alike = other r k frame front step x e all alike
    job_by r k frame front step x e all true alike =
        let is : s ≡ r = sym (same_is r s alike) in
        subst (λ (t : Bytes). Paced (Claimed.Job t k frame front) x) is
        (own k frame front (subst (λ (t : Bytes). ClaimStep (numbers keeper left between) b reading names first (Claimed.Job t k frame front)) (sym is) step) x
        (subst (λ (t : Bytes). Exchanges keeper between new (onto first b) (Claimed.Job t k frame front) x later) (sym is) e)
        (subst (λ (t : Bytes). AllPass names (passed_of (Claimed.Job t k frame front) x) a c) (sym is) all))

    pub paced : (claim : Claimed) (x : Exchange) → ClaimStep (numbers keeper left between) b reading names first claim → Exchanges keeper between new (onto first b) claim x later → AllPass names (passed_of claim x) a c → Paced claim x
    paced (Claimed.Job r k frame front) x step e all = job_by r k frame front step x e all (same r s) refl
    paced (Claimed.Idle next) x step e all = record { now = none_sent (Claimed.Idle next) step all e.2; answers = λ quiet. refl }
    paced Claimed.Fault x step e all = record { now = none_sent Claimed.Fault step all e.2; answers = λ quiet. refl }
    paced (Claimed.Full size count) x step e all = record { now = none_sent (Claimed.Full size count) step all e.2; answers = λ quiet. refl }
    paced Claimed.Memory x step e all = record { now = none_sent Claimed.Memory step all e.2; answers = λ quiet. refl }
