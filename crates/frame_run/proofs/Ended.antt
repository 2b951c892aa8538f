-- What follows from the end of a run.
use Rattle.std.proofs.Common.{◌≡◌, ◌⊎◌, inl, inr, ⊎_elim, ℕ, ◌<◌, ◌≤◌, true, List, [], ◌++◌, length, Result, Ok, Err, refl, sym, ◌∙◌, ap, subst, arith}
use Rattle.std.proofs.lemmas.List.{append-nil, length-append}
use Rattle.std.specs.Prelude.{◌∷◌, Some}
use Rattle.news_types.specs.Names.{Bytes}
use Rattle.news_types.specs.Frames.{Frame}
use Rattle.news_io.specs.Faults.{Rose}
use Rattle.news_io.specs.Keeper.{KeeperMeaning, Leaves}
use Rattle.news_io.specs.Source.{SourceMeaning}
use Rattle.news_io.specs.Sink.{SinkMeaning}
use Rattle.run_status.specs.Status.{number_of, line_of}
use Rattle.run_status.specs.Output.{AllPassed, Told}
use Rattle.line_run.proofs.Ended.{rose_later}
use Rattle.feed_receiver.specs.declared.receiver.Receiver.{Receiver}
use Rattle.feed_receiver.specs.Holds.{Received, Holds}
use Rattle.frame_run.specs.Input.{AreFrames}
use Rattle.frame_run.specs.Answers.{behind_all, Kept}
use Rattle.frame_run.specs.Run.{IsEnd, Ran, Ends}
use Rattle.frame_run.specs.Status.{status_by, CrashLeaves, IsComplete}
use Rattle.frame_run.specs.declared.ending.Ending.{Ending}
use Rattle.frame_run.specs.declared.ending.Ending.TheVariants as end
use Rattle.frame_run.proofs.Inputs.{never_bad}

-- ---- a crash

module _ {K : Type 0} (keeper : KeeperMeaning K) (old new : Receiver K) (b : Received) (h : Holds keeper old b) (told : b.told ≡ true) where
  leaves : (frames : List Frame) → Kept keeper old new b frames → CrashLeaves keeper old new b
  leaves frames k =
      let before = h.kept told in
      let now = k.list.kept told in
      let time = k.time told in
      record {
        frames = frames;
        list = k.list;
        more = k.more;
        later = time.later;
        each = λ found left. ⊎_elim
            (λ was. record {
              part = b.frames;
              beyond = ([], sym (append-nil b.frames));
              within = k.more;
              left = ⊎_elim
                  (λ all. inl (all ∙ ap (λ (l : List Bytes). Some l) before.is))
                  (λ one. inr (one.0, inl (refl, one.1), one.2 ∙ ap (λ (l : List Bytes). Some (l ++ one.0 ∷ [])) before.is))
                  (keeper.leaves_now old.keeper found before.told was);
            })
            (λ between. between)
            (time.nothing_else (keeper.moment old.keeper) found (omega arith) left);
        now = λ found left. subst (λ (l : List Bytes). Leaves l (keeper.doubts new.keeper) found) now.is (keeper.leaves_now new.keeper found now.told left);
      }

  leaves_end : {O : Type 0} (sink : SinkMeaning O) (most : ℕ) (o o' : O) (read more : Bytes) (r : Result (Unit {0}) Ending) → IsEnd keeper sink most old new o o' b read more r → CrashLeaves keeper old new b
  leaves_end sink most o o' read more (Ok u) d = leaves (behind_all b.name b.frames d.2.0) d.2.2.kept
  leaves_end sink most o o' read more (Err end.Read) d = leaves (behind_all b.name b.frames d.1.0) d.1.2.kept
  leaves_end sink most o o' read more (Err end.TooLong) d = leaves (behind_all b.name b.frames d.1.0) d.1.2.kept
  leaves_end sink most o o' read more (Err (end.BadFrame at)) d = leaves (behind_all b.name b.frames d.1.0) d.1.2.kept
  leaves_end sink most o o' read more (Err end.Write) d = leaves d.3.now d.3.kept
  leaves_end sink most o o' read more (Err end.Store) d = leaves d.3.now d.3.kept
  leaves_end sink most o o' read more (Err end.Full) d = leaves d.3.now d.3.kept
  leaves_end sink most o o' read more (Err end.Memory) d = leaves d.3.now d.3.kept

  pub leaves_ran : {S O : Type 0} (source : SourceMeaning S) (sink : SinkMeaning O) (most : ℕ) (i i' : S) (o o' : O) (r : Result (Unit {0}) Ending) → Ran keeper source sink most i i' old new o o' b r → CrashLeaves keeper old new b
  leaves_ran source sink most i i' o o' r ran = leaves_end sink most o o' ran.read ran.more r ran.did

-- ---- where nothing failed

module _ {K S O : Type 0} (keeper : KeeperMeaning K) (source : SourceMeaning S) (sink : SinkMeaning O) (most : ℕ) (i i' : S) (old new : Receiver K) (o o' : O) (b : Received) where
  pub completes : (f f' k k' c c' : ℕ) (why : Ending) (frames : List Frame) → Ran keeper source sink most i i' old new o o' b (Err why) → Ends f f' k k' c c' (Err why)
      → source.tells i → length (source.ahead i) ≤ most → AreFrames (source.ahead i) frames [] → (Rose f f' → ⊥) → (Rose c c' → ⊥) → (Rose k k' → ⊥) → IsComplete (number_of (status_by why))
  completes f f' k k' c c' end.Read frames ran ends t short all nf nc nk = absurd (nf ends.0)
  completes f f' k k' c c' end.Write frames ran ends t short all nf nc nk = absurd (nc ends.1.1)
  completes f f' k k' c c' end.Store frames ran ends t short all nf nc nk = absurd (nk ends.1.0)
  completes f f' k k' c c' end.Full frames ran ends t short all nf nc nk = inr (inl refl)
  completes f f' k k' c c' end.Memory frames ran ends t short all nf nc nk = inr (inr refl)
  completes f f' k k' c c' end.TooLong frames ran ends t short all nf nc nk =
      absurd (omega (arith, ran.did.0, short, ap length (ran.was_read.input t), length-append ran.read ran.more))
  completes f f' k k' c c' (end.BadFrame at) frames ran ends t short all nf nc nk =
      absurd (never_bad (ran.read ++ ran.more) ran.did.1.0 frames at (subst (λ (l : Bytes). AreFrames l frames []) (ran.was_read.input t) all) ran.did.1.1)

-- ---- behind the status line

module _ {O : Type 0} (sink : SinkMeaning O) where
  rose_from : (a b c : ℕ) → b ≡ a → Rose b c → Rose a c
  rose_from a b c same r = subst (λ (n : ℕ). Rose n c) same r

  line_passed : (o mid o' : O) (line : Bytes) → (sink.tells o → sink.tells mid) → sink.faults mid ≡ sink.faults o → 0 < length line → Told sink mid o' line → sink.tells o → AllPassed sink o' ⊎ Rose (sink.faults o) (sink.faults o')
  line_passed o mid o' line goes same some told t = ⊎_elim (λ through. inl (through.1 (goes t) some)) (λ rose. inr (rose_from _ _ _ same rose)) told.whole

  -- all has passed on, or the output has failed
  pub told_passed : (f f' k k' : ℕ) (o mid o' : O) (why : Ending) → (sink.tells o → sink.tells mid) → Ends f f' k k' (sink.faults o) (sink.faults mid) (Err why) → Told sink mid o' (line_of (status_by why))
      → sink.tells o → AllPassed sink o' ⊎ Rose (sink.faults o) (sink.faults o')
  told_passed f f' k k' o mid o' end.Write goes ends told t = inr (rose_later (sink.faults o) (sink.faults mid) (sink.faults o') ends.1.1 told.later)
  told_passed f f' k k' o mid o' end.Read goes ends told t = line_passed o mid o' _ goes ends.2 (omega arith) told t
  told_passed f f' k k' o mid o' end.TooLong goes ends told t = line_passed o mid o' _ goes ends.2 (omega arith) told t
  told_passed f f' k k' o mid o' end.Store goes ends told t = line_passed o mid o' _ goes ends.1.1 (omega arith) told t
  told_passed f f' k k' o mid o' end.Full goes ends told t = line_passed o mid o' _ goes ends.1.1 (omega arith) told t
  told_passed f f' k k' o mid o' end.Memory goes ends told t = line_passed o mid o' _ goes ends.1.1 (omega arith) told t
  told_passed f f' k k' o mid o' (end.BadFrame at) goes ends told t = line_passed o mid o' _ goes ends.1.1 (omega arith) told t

  pub ran_tells : {K : Type 0} (keeper : KeeperMeaning K) (most : ℕ) (old new : Receiver K) (o o' : O) (b : Received) (read more : Bytes) (r : Result (Unit {0}) Ending) → IsEnd keeper sink most old new o o' b read more r → sink.tells o → sink.tells o'
  ran_tells keeper most old new o o' b read more (Ok u) d = d.2.2.wrote.told
  ran_tells keeper most old new o o' b read more (Err end.Read) d = d.1.2.wrote.told
  ran_tells keeper most old new o o' b read more (Err end.TooLong) d = d.1.2.wrote.told
  ran_tells keeper most old new o o' b read more (Err (end.BadFrame at)) d = d.1.2.wrote.told
  ran_tells keeper most old new o o' b read more (Err end.Write) d = d.3.wrote.told
  ran_tells keeper most old new o o' b read more (Err end.Store) d = d.3.wrote.told
  ran_tells keeper most old new o o' b read more (Err end.Full) d = d.3.wrote.told
  ran_tells keeper most old new o o' b read more (Err end.Memory) d = d.3.wrote.told

pub not_done : (why : Ending) → number_of (status_by why) ≡ 0 → ⊥
not_done end.Read is = omega (arith, is)
not_done end.Write is = omega (arith, is)
not_done end.Store is = omega (arith, is)
not_done end.Full is = omega (arith, is)
not_done end.Memory is = omega (arith, is)
not_done end.TooLong is = omega (arith, is)
not_done (end.BadFrame at) is = omega (arith, is)
