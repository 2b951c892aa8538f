-- What follows from the end of a run.
use Rattle.std.proofs.Common.{◌≡◌, inl, inr, ⊎_elim, ℕ, ◌≤◌, true, List, [], ◌++◌, length, Result, Ok, Err, refl, sym, ◌∙◌, ap, subst, arith}
use Rattle.std.proofs.lemmas.List.{append-nil, length-append}
use Rattle.std.specs.Prelude.{◌∷◌, Some}
use Rattle.news_types.specs.Names.{Bytes}
use Rattle.record_lines.specs.Spelling.{Numbered}
use Rattle.news_io.specs.Faults.{Rose}
use Rattle.news_io.specs.Keeper.{KeeperMeaning, Leaves}
use Rattle.news_io.specs.Source.{SourceMeaning}
use Rattle.news_io.specs.Sink.{SinkMeaning}
use Rattle.run_status.specs.Status.{number_of}
use Rattle.room_standby.specs.declared.standby.Standby.{Standby}
use Rattle.standby_files.specs.Input.{AreRecords}
use Rattle.frame_run.specs.Run.{Ends}
use Rattle.frame_run.specs.Status.{status_by, IsComplete}
use Rattle.standby_files.specs.Answers.{Copied, holding, Stands, behind_all, Kept}
use Rattle.standby_files.specs.Run.{IsEnd, Ran}
use Rattle.standby_files.specs.Status.{CrashLeaves, AllEntries}
use Rattle.frame_run.specs.declared.ending.Ending.{Ending}
use Rattle.frame_run.specs.declared.ending.Ending.TheVariants as end
use Rattle.standby_files.proofs.Inputs.{never_stray}
use Rattle.standby_files.proofs.Steps.{told_list}

-- ---- a crash

module _ {K : Type 0} (keeper : KeeperMeaning K) (old new : Standby K) (b : Copied) (h : Stands keeper old b) (told : b.told ≡ true) where
  leaves : (held : List Bytes) → Kept keeper old new b held → CrashLeaves keeper old new b
  leaves held k =
      let before = told_list keeper old b h told in
      let now = told_list keeper new (holding held b) k.stands told in
      let time = k.time told in
      record {
        held = held;
        list = k.stands;
        more = k.more;
        later = time.later;
        each = λ found left. ⊎_elim
            (λ was. record {
              part = b.held;
              beyond = ([], sym (append-nil b.held));
              within = k.more;
              left = ⊎_elim
                  (λ all. inl (all ∙ ap (λ (l : List Bytes). Some l) before.1))
                  (λ one. inr (one.0, inl (refl, one.1), one.2 ∙ ap (λ (l : List Bytes). Some (l ++ one.0 ∷ [])) before.1))
                  (keeper.leaves_now old.keeper found before.0 was);
            })
            (λ between. between)
            (time.nothing_else (keeper.moment old.keeper) found (omega arith) left);
        now = λ found left. subst (λ (l : List Bytes). Leaves l (keeper.doubts new.keeper) found) now.1 (keeper.leaves_now new.keeper found now.0 left);
      }

  leaves_end : {O : Type 0} (sink : SinkMeaning O) (most : ℕ) (o o' : O) (read more : Bytes) (r : Result (Unit {0}) Ending) → IsEnd keeper sink most old new o o' b read more r → CrashLeaves keeper old new b
  leaves_end sink most o o' read more (Ok u) d = leaves (behind_all b.held d.2.0) d.2.2.kept
  leaves_end sink most o o' read more (Err end.Read) d = leaves (behind_all b.held d.1.0) d.1.2.kept
  leaves_end sink most o o' read more (Err end.TooLong) d = leaves (behind_all b.held d.1.0) d.1.2.kept
  leaves_end sink most o o' read more (Err (end.BadFrame at)) d = leaves (behind_all b.held d.0) d.2.kept
  leaves_end sink most o o' read more (Err end.Write) d = leaves d.3.now d.3.kept
  leaves_end sink most o o' read more (Err end.Store) d = leaves d.3.now d.3.kept
  leaves_end sink most o o' read more (Err end.Full) d = leaves d.3.now d.3.kept
  leaves_end sink most o o' read more (Err end.Memory) d = leaves d.3.now d.3.kept

  pub leaves_ran : {S O : Type 0} (source : SourceMeaning S) (sink : SinkMeaning O) (most : ℕ) (i i' : S) (o o' : O) (r : Result (Unit {0}) Ending) → Ran keeper source sink most i i' old new o o' b r → CrashLeaves keeper old new b
  leaves_ran source sink most i i' o o' r ran = leaves_end sink most o o' ran.read ran.more r ran.did

-- ---- where nothing failed

module _ {K S O : Type 0} (keeper : KeeperMeaning K) (source : SourceMeaning S) (sink : SinkMeaning O) (most : ℕ) (i i' : S) (old new : Standby K) (o o' : O) (b : Copied) where
  pub completes : (f f' k k' c c' : ℕ) (why : Ending) (records : List Numbered) → Ran keeper source sink most i i' old new o o' b (Err why) → Ends f f' k k' c c' (Err why)
      → source.tells i → length (source.ahead i) ≤ most → AreRecords (source.ahead i) records [] → AllEntries records → (Rose f f' → ⊥) → (Rose c c' → ⊥) → (Rose k k' → ⊥) → IsComplete (number_of (status_by why))
  completes f f' k k' c c' end.Read records ran ends t short all fits nf nc nk = absurd (nf ends.0)
  completes f f' k k' c c' end.Write records ran ends t short all fits nf nc nk = absurd (nc ends.1.1)
  completes f f' k k' c c' end.Store records ran ends t short all fits nf nc nk = absurd (nk ends.1.0)
  completes f f' k k' c c' end.Full records ran ends t short all fits nf nc nk = inr (inl refl)
  completes f f' k k' c c' end.Memory records ran ends t short all fits nf nc nk = inr (inr refl)
  completes f f' k k' c c' end.TooLong records ran ends t short all fits nf nc nk =
      absurd (omega (arith, ran.did.0, short, ap length (ran.was_read.input t), length-append ran.read ran.more))
  completes f f' k k' c c' (end.BadFrame at) records ran ends t short all fits nf nc nk =
      absurd (never_stray (behind_all b.held ran.did.0) most (ran.read ++ ran.more) ran.did.0 records at (subst (λ (l : Bytes). AreRecords l records []) (ran.was_read.input t) all) fits ran.did.1)

-- ---- behind the status line

module _ {O : Type 0} (sink : SinkMeaning O) where
  pub ran_tells : {K : Type 0} (keeper : KeeperMeaning K) (most : ℕ) (old new : Standby K) (o o' : O) (b : Copied) (read more : Bytes) (r : Result (Unit {0}) Ending) → IsEnd keeper sink most old new o o' b read more r → sink.tells o → sink.tells o'
  ran_tells keeper most old new o o' b read more (Ok u) d = d.2.2.wrote.told
  ran_tells keeper most old new o o' b read more (Err end.Read) d = d.1.2.wrote.told
  ran_tells keeper most old new o o' b read more (Err end.TooLong) d = d.1.2.wrote.told
  ran_tells keeper most old new o o' b read more (Err (end.BadFrame at)) d = d.2.wrote.told
  ran_tells keeper most old new o o' b read more (Err end.Write) d = d.3.wrote.told
  ran_tells keeper most old new o o' b read more (Err end.Store) d = d.3.wrote.told
  ran_tells keeper most old new o o' b read more (Err end.Full) d = d.3.wrote.told
  ran_tells keeper most old new o o' b read more (Err end.Memory) d = d.3.wrote.told
