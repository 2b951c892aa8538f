-- The job that a claim gives: the list behind it, whose frame it is, and the frame.
use Rattle.std.proofs.Common.{◌≡◌, ℕ, true, List, ◌∷◌, Option, Some, refl, sym, ap, ◌∙◌, subst}
use Rattle.std.specs.Option.{option_map}
use Rattle.news_types.specs.declared.entry.Entry.{Entry}
use Rattle.news_types.specs.declared.entry.Act.TheVariants.{Attempt}
use Rattle.news_types.specs.declared.query.Ready.TheVariants.{Now}
use Rattle.news_types.specs.Names.{Bytes}
use Rattle.news_types.specs.History.{History, moment_at}
use Rattle.news_types.specs.Books.{Book, onto, followed_by}
use Rattle.news_types.specs.Products.{is_subscriber}
use Rattle.news_types.specs.Legal.{IsLegal}
use Rattle.news_types.specs.Frames.{Frame, Writer, frame_at, frame_bytes_at, bytes_of, framed, format}
use Rattle.news_types.specs.Calls.{ticked}
use Rattle.news_types.specs.Delivery.{choice}
use Rattle.news_types.specs.Outcome.{entry_of}
use Rattle.news_types.proofs.Books.{behind_more}
use Rattle.feed_frames.specs.Writer.{the_writer}
use Rattle.news_room.specs.Beside.{Beside}
use Rattle.news_room.specs.Claims.{ClaimStep, claim_entries, attempt_entries}
use Rattle.news_room.specs.Steps.{tick_entries}
use Rattle.news_room.specs.declared.claim.Claimed.{Claimed}
use Rattle.news_room.proofs.Chosen.{chosen_there, chosen_entry}
use Rattle.news_room.proofs.Claims.{attempt_is, behind_tick}
use Rattle.world_laws.proofs.Frames.{frame_stays}
use Rattle.shared_workers.specs.Exchanges.{is_served}
use Rattle.shared_workers.specs.Steps.{IsFrameIn}
use Rattle.shared_workers.proofs.Named.{choice_named}

claim_list : (h : History) (names : List Bytes) (m : ℕ) (s : Bytes) (k : ℕ) → choice (ticked h m) names m ≡ Now s k → followed_by (claim_entries h names m) h ≡ entry_of m (Attempt s k) ∷ ticked h m
claim_list h names m s k is =
    sym (behind_more (tick_entries h m) (attempt_entries (ticked h m) names m) h) ∙ ap (followed_by (attempt_entries (ticked h m) names m)) (behind_tick h m (tick_entries h m) refl)
    ∙ ap (λ (l : List Entry). followed_by l (ticked h m)) (attempt_is (ticked h m) names m s k is)

module _ (x : Beside) (b : Book) (now : ℕ) (names : List Bytes) (more : List Entry) where
  module _ (s : Bytes) (k : ℕ) (frame : Bytes) (front : ℕ) (step : ClaimStep x b now names more (Claimed.Job s k frame front)) where
    -- the attempt is the last entry
    left_is : (onto more b).list ≡ entry_of (moment_at b.list now) (Attempt s k) ∷ ticked b.list (moment_at b.list now)
    left_is = ap (λ (l : List Entry). followed_by l b.list) step.3.whole.is ∙ claim_list b.list names (moment_at b.list now) s k step.0

    -- whose frame it is, is a subscriber
    pub job_there : is_subscriber (onto more b).list s ≡ true
    job_there = ap (λ (g : History). is_subscriber g s) left_is ∙ (chosen_there (ticked b.list (moment_at b.list now)) names (moment_at b.list now) s k step.0).0

    -- the frame is that of its feed in the list that the claim left
    job_frame : IsLegal (onto more b).list → frame ≡ frame_bytes_at (the_writer b.store) (onto more b).list s k
    job_frame legal =
        let write : Writer = the_writer b.store in
        let m : ℕ = moment_at b.list now in
        let g : History = ticked b.list m in
        let e : Entry = entry_of m (Attempt s k) in
        let there = chosen_entry g names m s k step.0 in
        let f : Frame = framed write (format g s) s k there.0 in
        let is : frame_at write g s k ≡ Some f = ap (option_map (framed write (format g s) s k)) there.1 in
        let stays : frame_at write (e ∷ g) s k ≡ Some f = frame_stays write e g s k f (subst IsLegal left_is legal) is in
        step.1 ∙ ap (λ (o : Option Frame). bytes_of o) (is ∙ sym stays) ∙ ap (λ (l : History). frame_bytes_at write l s k) (sym left_is)

  pub frame_in : (claimed : Claimed) → ClaimStep x b now names more claimed → IsLegal (onto more b).list → IsFrameIn (onto more b) claimed
  frame_in (Claimed.Job s k frame front) step legal = job_frame s k frame front step legal
  frame_in (Claimed.Idle next) step legal = tt
  frame_in Claimed.Fault step legal = tt
  frame_in (Claimed.Full size count) step legal = tt
  frame_in Claimed.Memory step legal = tt

  -- whose frame it is, is one of those for whom was claimed
  pub served_by : (claimed : Claimed) → ClaimStep x b now names more claimed → is_served names claimed ≡ true
  served_by (Claimed.Job s k frame front) step = choice_named (ticked b.list (moment_at b.list now)) names (moment_at b.list now) s k step.0
  served_by (Claimed.Idle next) step = refl
  served_by Claimed.Fault step = refl
  served_by (Claimed.Full size count) step = refl
  served_by Claimed.Memory step = refl
