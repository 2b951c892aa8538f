-- What a receiver answered to frames, by what was said of it before.
use Rattle.std.proofs.Common.{◌≡◌, inl, inr, ℕ, ◌+◌, ◌<◌, true, List, [], ◌∷◌, ◌++◌, length, Option, Some, None, refl, sym, ap, ◌∙◌, subst, arith}
use Rattle.std.specs.Prelude.{Result, Ok, Err}
use Rattle.std.proofs.lemmas.List.{append-nil}
use Rattle.news_types.specs.Names.{Bytes}
use Rattle.news_types.specs.Frames.{Frame}
use Rattle.news_io.specs.Keeper.{KeeperMeaning}
use Rattle.news_io.specs.Sink.{AreFirst, SinkMeaning}
use Rattle.run_status.specs.Output.{Wrote, AllPassed}
use Rattle.feed_receiver.specs.Holds as held
use Rattle.feed_receiver.specs.Spelling.{frame_bytes, IsFrame, receipt_bytes}
use Rattle.feed_receiver.specs.declared.receiver.Receiver.{Receiver}
use Rattle.frame_run.specs.Answers as run
use Rattle.frame_run.specs.Answers.{behind as old_behind}
use Rattle.frame_run.specs.Input.{AreFrames}
use Rattle.frame_run.specs.Run as ran
use Rattle.frame_run.specs.declared.ending.Ending.{Ending}
use Rattle.frame_run.specs.declared.ending.Ending.TheVariants as end
use Rattle.program_run.specs.Received.{behind, behind_all, receipt, receipts, sizes, ByLog, WasTried, held_at, NextIs, Answers, Causes, LONGEST_INPUT}

-- ---- what is held and answered

behind_same : (name : Bytes) (held : List Frame) (f : Frame) → behind name held f ≡ old_behind name held f
unfolding behind old_behind
behind_same name held f = refl

all_same : (name : Bytes) (held frames : List Frame) → behind_all name held frames ≡ run.behind_all name held frames
all_same name held [] = refl
all_same name held (f ∷ frames) = all_same name (behind name held f) frames ∙ ap (λ (h : List Frame). run.behind_all name h frames) (behind_same name held f)

receipt_same : (name : Bytes) (held : List Frame) (f : Frame) → receipt name held f ≡ run.receipt_for name held f
receipt_same name held f = ap (λ (h : List Frame). receipt_bytes name (length h)) (behind_same name held f)

receipts_same : (name : Bytes) (held frames : List Frame) → receipts name held frames ≡ run.receipts name held frames
receipts_same name held [] = refl
receipts_same name held (f ∷ frames) =
    ap (λ (h : List Frame). receipt_bytes name (length h) ++ receipts name h frames) (behind_same name held f)
    ∙ ap (λ (l : Bytes). run.receipt_for name held f ++ l) (receipts_same name (old_behind name held f) frames)

sizes_same : (frames : List Frame) → sizes frames ≡ run.record_bytes frames
sizes_same [] = refl
sizes_same (f ∷ frames) = ap (λ (n : ℕ). length (frame_bytes f) + 5 + n) (sizes_same frames)

by_log : (why : Ending) → ByLog why → run.ByLog why
by_log end.Store by = tt
by_log end.Full by = tt
by_log end.Read by = absurd by
by_log end.Write by = absurd by
by_log end.Memory by = absurd by
by_log end.TooLong by = absurd by
by_log (end.BadFrame at) by = absurd by

held_same : (why : Ending) (name : Bytes) (held : List Frame) (f : Frame) → run.held_at why held (old_behind name held f) ≡ held_at why held (behind name held f)
held_same end.Write name held f = sym (behind_same name held f)
held_same end.Store name held f = refl
held_same end.Full name held f = refl
held_same end.Read name held f = refl
held_same end.Memory name held f = refl
held_same end.TooLong name held f = refl
held_same (end.BadFrame at) name held f = refl

-- ---- failures

pub causes_of : (i i' k k' o o' : ℕ) (result : Result (Unit {0}) Ending) → ran.Ends i i' k k' o o' result → Causes i i' k k' o o' result
causes_of i i' k k' o o' (Ok u) e = e
causes_of i i' k k' o o' (Err end.Read) e = e
causes_of i i' k k' o o' (Err end.TooLong) e = e
causes_of i i' k k' o o' (Err end.Write) e = (e.0, e.1.0, e.1.1)
causes_of i i' k k' o o' (Err end.Store) e = (e.0, e.1.0, e.1.1)
causes_of i i' k k' o o' (Err end.Full) e = (e.0, e.1.0, e.1.1)
causes_of i i' k k' o o' (Err end.Memory) e = (e.0, e.1.0, e.1.1)
causes_of i i' k k' o o' (Err (end.BadFrame at)) e = (e.0, e.1.0, e.1.1)

-- ---- the run

module _ {K O : Type 0} (keeper : KeeperMeaning K) (sink : SinkMeaning O) (old new : Receiver K) (o o' : O) (b : held.Received) (read more : Bytes)
    (uses : keeper.used old.keeper ≡ 65 + run.record_bytes b.frames) (none : (x : Bytes) → keeper.doubts old.keeper x → ⊥) where
  -- what it comes to, with what was kept, and what is in doubt
  pub record Shown (result : Result (Unit {0}) Ending) : Type 0 where
    pub frames : List Frame
    pub now : List Frame
    pub said : Bytes
    pub next : Option Frame
    pub answers : Answers b.name b.frames read more frames now said next result
    pub half : 0 < length said → result ≡ Err end.Write
    pub wrote : Wrote sink o o' (receipts b.name b.frames frames ++ said)
    pub passed : sink.tells o → AllPassed sink o → AreFirst (sink.taken o ++ receipts b.name b.frames frames) (sink.passed o')
    pub kept : run.Kept keeper old new b now
    pub doubt : b.told ≡ true → (x : Bytes) → keeper.doubts new.keeper x → (f : Frame) × WasTried result next f × IsFrame f × (x ≡ frame_bytes f)

  -- all that were begun were answered
  module _ (result : Result (Unit {0}) Ending) (frames : List Frame) (a : run.AnsweredAll keeper sink old new o o' b frames) where
    abbrev all : List Frame
    all = behind_all b.name b.frames frames

    all_wrote : Wrote sink o o' (receipts b.name b.frames frames ++ [])
    all_wrote = subst (Wrote sink o o') (sym (append-nil (receipts b.name b.frames frames) ∙ receipts_same b.name b.frames frames)) a.wrote

    all_shown : Answers b.name b.frames read more frames all [] None result → Shown result
    all_shown answers = record {
      frames = frames;
      now = all;
      said = [];
      next = None;
      answers = answers;
      half = λ some. absurd (omega (arith, some));
      wrote = all_wrote;
      passed = λ tells before. ([], a.passed tells before ∙ all_wrote.bytes tells ∙ ap (λ (l : Bytes). sink.taken o ++ l) (append-nil (receipts b.name b.frames frames)) ∙ sym (append-nil (sink.taken o ++ receipts b.name b.frames frames)));
      kept = subst (run.Kept keeper old new b) (sym (all_same b.name b.frames frames)) a.kept;
      doubt = λ told x d. absurd (none x (a.calm told x d).1);
    }

  -- or the next one was begun
  module _ (frames : List Frame) (rest : Bytes) (are : AreFrames (read ++ more) frames rest) (why : Ending) (s : run.AnsweredSome keeper sink old new o o' b frames rest why) where
    abbrev front : List Frame
    front = behind_all b.name b.frames frames

    abbrev Doubted : Bytes → Type 0
    Doubted x = (s.now ≡ b.frames) × keeper.doubts old.keeper x

    abbrev Doubts : Bytes → Type 0
    Doubts x = (b.told ≡ true) × keeper.doubts new.keeper x

    abbrev NextBegun : Option Frame → Type 0
    NextBegun next = NextIs b.name front rest why s.now s.said next × (b.told ≡ true → (x : Bytes) → keeper.doubts new.keeper x → (f : Frame) × WasTried (Err why) next f × IsFrame f × (x ≡ frame_bytes f))

    used_now : keeper.used new.keeper ≡ 65 + sizes s.now
    used_now = omega (arith, s.kept.used, uses, sizes_same s.now)

    begun : run.NextIs b.name (run.behind_all b.name b.frames frames) rest why s.now s.said (keeper.used new.keeper) Doubted Doubts → (next : Option Frame) × NextBegun next
    begun (inl n) = (None, ((n.list ∙ sym (all_same b.name b.frames frames), n.bytes, λ by. n.other (by_log why by)), λ told x d. absurd (none x (n.calm x (told, d)).1)))
    begun (inr next) = by_frame next.0 (subst (λ (h : List Frame). run.Begun b.name h rest next.0 why s.now s.said (keeper.used new.keeper) Doubted Doubts) (sym (all_same b.name b.frames frames)) next.1)
      where
        by_frame : (f : Frame) → run.Begun b.name front rest f why s.now s.said (keeper.used new.keeper) Doubted Doubts → (next : Option Frame) × NextBegun next
        by_frame f n = (
          Some f,
          (
            record {
              form = n.form;
              first = n.first;
              list = n.list ∙ held_same why b.name front f;
              begun = (n.bytes.0, receipt_same b.name front f ∙ n.bytes.1);
              unkept = λ by. behind_same b.name front f ∙ n.unkept (by_log why by);
              full = λ full. omega (arith, n.full full, used_now);
            },
            λ told x d. elim (n.doubt x (told, d)) [
              | inl was ↦ absurd (none x was.1)
              | inr tried ↦ (f, (ap (λ (w : Ending). Err w) tried.0, refl), n.form, tried.1)
            ],
          ),
        )

    some_shown : ((next : Option Frame) → NextIs b.name front rest why s.now s.said next → Answers b.name b.frames read more frames s.now s.said next (Err why)) → Shown (Err why)
    some_shown answers =
        let next = begun s.next in
        record {
          frames = frames;
          now = s.now;
          said = s.said;
          next = next.0;
          answers = answers next.0 next.1.0;
          half = λ some. ap (λ (w : Ending). Err w) (s.half some);
          wrote = subst (λ (l : Bytes). Wrote sink o o' (l ++ s.said)) (sym (receipts_same b.name b.frames frames)) s.wrote;
          passed = λ tells before. subst (λ (l : Bytes). AreFirst (sink.taken o ++ l) (sink.passed o')) (sym (receipts_same b.name b.frames frames)) (s.passed tells before);
          kept = s.kept;
          doubt = next.1.1;
        }

  pub shown : (result : Result (Unit {0}) Ending) → ran.IsEnd keeper sink LONGEST_INPUT old new o o' b read more result → Shown result
  shown (Ok u) d = all_shown (Ok u) d.2.0 d.2.2 (d.0, d.1, d.2.1, (refl, refl, refl))
  shown (Err end.Read) d = all_shown (Err end.Read) d.1.0 d.1.2 (d.0, d.1.1, (refl, refl, refl))
  shown (Err end.TooLong) d = all_shown (Err end.TooLong) d.1.0 d.1.2 (d.0, d.1.1, (refl, refl, refl))
  shown (Err (end.BadFrame at)) d = all_shown (Err (end.BadFrame at)) d.1.0 d.1.2 (d.0, d.1.1, (refl, refl, refl))
  shown (Err end.Write) d = some_shown d.0 d.1 d.2 end.Write d.3 (λ next is. (d.1, d.2, is))
  shown (Err end.Store) d = some_shown d.0 d.1 d.2 end.Store d.3 (λ next is. (d.1, d.2, is))
  shown (Err end.Full) d = some_shown d.0 d.1 d.2 end.Full d.3 (λ next is. (d.1, d.2, is))
  shown (Err end.Memory) d = some_shown d.0 d.1 d.2 end.Memory d.3 (λ next is. (d.1, d.2, is))
