-- One frame is taken, and its receipt written.
use Rattle.std.proofs.Common.{◌≡◌, ◌⊎◌, inl, inr, ⊎_elim, ℕ, ◌+◌, ◌<◌, true, List, [], ◌∷◌, ◌++◌, length, take, drop, map, Result, Ok, Err, refl, sym, ◌∙◌, ap, subst, arith}
use Rattle.std.proofs.lemmas.List.{append-nil, take-append-drop}
use Rattle.std.specs.Prelude.{Option, Some}
use Rattle.news_types.specs.Names.{Bytes}
use Rattle.news_types.specs.Frames.{Frame}
use Rattle.news_types.specs.Calls.{Fate, IsKept, IsFull, IsFailed, IsStarved}
use Rattle.news_types.specs.Doubt.{DoubtsAfter}
use Rattle.news_types.specs.Receiver as step
use Rattle.news_io.specs.Keeper.{KeeperMeaning, KeeperGains, BeforeOrAfter}
use Rattle.news_io.specs.Sink.{AreFirst, SinkMeaning}
use Rattle.news_io.proofs.Pieces.{first_all}
use Rattle.news_io.proofs.Runs.{elapses_weaker}
use Rattle.run_status.specs.Output.{Wrote, AllPassed}
use Rattle.run_status.proofs.Tellings.{wrote_none, wrote_is}
use Rattle.byte_formats.proofs.Whole.{one_spelling}
use Rattle.feed_receiver.specs.declared.receiver.Receiver.{Receiver}
use Rattle.feed_receiver.specs.declared.receiver.Taken.{Taken}
use Rattle.feed_receiver.specs.declared.receiver.Taken.TheVariants.{BadFrame, NotMine, Known, Ahead, Accepted, Fault, Full, Memory}
use Rattle.feed_receiver.specs.Spelling.{frame_bytes, IsFrame}
use Rattle.feed_receiver.specs.Formats.{frame}
use Rattle.feed_receiver.specs.Holds.{Received, onto, Holds}
use Rattle.feed_receiver.specs.Takes.{AreFrame, Reacts, IsStep, IsCounted, Numbers, fate_of, numbers}
use Rattle.feed_receiver.proofs.Written.{frame_lawful}
use Rattle.frame_run.specs.Answers.{outcome, CausedBy, EndsAtFrame, behind, holding, record_bytes, receipt_for, Between, Kept, AnsweredAll, AnsweredSome, held_at}
use Rattle.frame_run.specs.declared.ending.Ending.{Ending}
use Rattle.frame_run.specs.declared.ending.Ending.TheVariants as end

-- ---- what is held behind a frame

pub behind_accepted : (name : Bytes) (held : List Frame) (f : Frame) → step.reaction name (length held) f ≡ step.Accepted → behind name held f ≡ held ++ f ∷ []
unfolding behind
behind_accepted name held f is = ap (λ (t : step.Taken). (step.reacted (record { held = held; doubt = [] }) f IsKept t).held) is

behind_refused : (name : Bytes) (held : List Frame) (f : Frame) (t : step.Taken) → step.reaction name (length held) f ≡ t → ((r : step.Receiver) → (step.reacted r f IsKept t).held ≡ r.held) → behind name held f ≡ held
unfolding behind
behind_refused name held f t is stays = ap (λ (t : step.Taken). (step.reacted (record { held = held; doubt = [] }) f IsKept t).held) is ∙ stays (record { held = held; doubt = [] })

-- the same frame is meant
same_frame : (f g : Frame) (bytes : Bytes) → AreFrame f bytes → AreFrame g bytes → g ≡ f
same_frame f g bytes a b = one_spelling frame IsFrame frame_lawful g f b.form a.form (sym b.is ∙ a.is)

reacts_to : (name : Bytes) (held : List Frame) (f : Frame) (bytes : Bytes) (answer : Taken) (more : List Frame) → AreFrame f bytes → (g : Frame) → AreFrame g bytes → Reacts name held g answer more → Reacts name held f answer more
reacts_to name held f bytes answer more a g b r = subst (λ (x : Frame). Reacts name held x answer more) (same_frame f g bytes a b) r

pub record_bytes_more : (frames : List Frame) (f : Frame) → record_bytes (frames ++ f ∷ []) ≡ record_bytes frames + length (frame_bytes f) + 5
record_bytes_more [] f = omega arith
record_bytes_more (g ∷ frames) f = let rest = record_bytes_more frames f in omega (arith, rest)

-- ---- a crash in the course of it

between_of : (h g : List Frame) (D D' : Bytes → Type 0) (before after : List Bytes) (found : Option (List Bytes)) → before ≡ map frame_bytes h → after ≡ map frame_bytes g → (more : List Frame) × (g ≡ h ++ more)
    → BeforeOrAfter before D after D' found → Between h g D D' found
between_of h g D D' before after found is_before is_after more (inl left) = record {
  part = h;
  beyond = ([], sym (append-nil h));
  within = more;
  left = ⊎_elim
      (λ all. inl (subst (λ (l : List Bytes). found ≡ Some l) is_before all))
      (λ one. inr (one.0, inl (refl, one.1), subst (λ (l : List Bytes). found ≡ Some (l ++ one.0 ∷ [])) is_before one.2))
      left;
}
between_of h g D D' before after found is_before is_after more (inr left) = record {
  part = g;
  beyond = more;
  within = ([], sym (append-nil g));
  left = ⊎_elim
      (λ all. inl (subst (λ (l : List Bytes). found ≡ Some l) is_after all))
      (λ one. inr (one.0, inr (refl, one.1), subst (λ (l : List Bytes). found ≡ Some (l ++ one.0 ∷ [])) is_after one.2))
      left;
}

-- what a receiver says of the frame that it was given
pub record Took {K : Type 0} (keeper : KeeperMeaning K) (old new : Receiver K) (bytes : Bytes) (answer : Taken) : Type 0 where
  pub step : (more : List Frame) × ((c : Received) → Holds keeper old c → Holds keeper new (onto more c) × IsStep c.name c.frames bytes answer more)
  pub counts : IsCounted (numbers keeper old.keeper) (numbers keeper new.keeper) bytes answer
  pub doubts : keeper.tells old.keeper → DoubtsAfter (keeper.doubts old.keeper) (keeper.doubts new.keeper) bytes (fate_of answer)
  pub crash : keeper.tells old.keeper → KeeperGains keeper old.keeper new.keeper (BeforeOrAfter (keeper.list old.keeper) (keeper.doubts old.keeper) (keeper.list new.keeper) (keeper.doubts new.keeper))

-- the frame was taken, and is to be answered
pub record Went {K : Type 0} (keeper : KeeperMeaning K) (old new : Receiver K) (b : Received) (f : Frame) : Type 0 where
  pub kept : Kept keeper old new b (behind b.name b.frames f)
  pub calm : b.told ≡ true → (x : Bytes) → keeper.doubts new.keeper x → (behind b.name b.frames f ≡ b.frames) × keeper.doubts old.keeper x

abbrev ends_by : Ending → Result (Unit {0}) Ending
ends_by why = Err why

same_end : (a b : Ending) → ends_by a ≡ ends_by b → a ≡ b
same_end a b is = cc

module _ {K : Type 0} (keeper : KeeperMeaning K) (old new : Receiver K) (b : Received) (h : Holds keeper old b) (f : Frame) (bytes : Bytes) (a : AreFrame f bytes) (label : keeper.label new.keeper ≡ keeper.label old.keeper) where
  -- it holds these now, which are what it held and more
  kept_by : (now more : List Frame) → now ≡ b.frames ++ more → Holds keeper new (onto more b) → keeper.used new.keeper + record_bytes b.frames ≡ keeper.used old.keeper + record_bytes now
      → (keeper.tells old.keeper → KeeperGains keeper old.keeper new.keeper (BeforeOrAfter (keeper.list old.keeper) (keeper.doubts old.keeper) (keeper.list new.keeper) (keeper.doubts new.keeper)))
      → Kept keeper old new b now
  kept_by now more is holds used crash =
      let list : Holds keeper new (holding now b) = subst (λ (l : List Frame). Holds keeper new (holding l b)) (sym is) holds in
      record {
        list = list;
        more = (more, is);
        used = used;
        label = label;
        time = λ t. elapses_weaker _ _ _ _ _ (Between b.frames now (keeper.doubts old.keeper) (keeper.doubts new.keeper)) (crash (h.kept t).told)
            (λ found left. between_of b.frames now _ _ _ _ found (h.kept t).is (list.kept t).is (more, is) left);
      }

  -- one that is not the next
  went_by : (t : step.Taken) (more : List Frame) → step.reaction b.name (length b.frames) f ≡ t → ((r : step.Receiver) → (step.reacted r f IsKept t).held ≡ r.held)
      → (step.taken b.name (record { held = b.frames; doubt = [] }) f IsStarved).held ≡ b.frames ++ more → ((r : step.Receiver) → (step.reacted r f IsStarved t).held ≡ r.held)
      → Holds keeper new (onto more b) → keeper.used new.keeper ≡ keeper.used old.keeper
      → (keeper.tells old.keeper → (x : Bytes) → keeper.doubts new.keeper x → keeper.doubts old.keeper x)
      → (keeper.tells old.keeper → KeeperGains keeper old.keeper new.keeper (BeforeOrAfter (keeper.list old.keeper) (keeper.doubts old.keeper) (keeper.list new.keeper) (keeper.doubts new.keeper)))
      → Went keeper old new b f
  went_by t more is stays grown starved holds used doubts crash =
      let same : behind b.name b.frames f ≡ b.frames = behind_refused b.name b.frames f t is stays in
      let none : b.frames ≡ b.frames ++ more =
      sym (starved (record { held = b.frames; doubt = [] })) ∙ sym (ap (λ (x : step.Taken). (step.reacted (record { held = b.frames; doubt = [] }) f IsStarved x).held) is) ∙ grown in
      record {
        kept = kept_by (behind b.name b.frames f) more (same ∙ none) holds (omega (arith, used, ap record_bytes same)) crash;
        calm = λ told x d. (same, doubts (h.kept told).told x d);
      }

  pub went : (answer : Taken) (u : Unit {0}) → outcome answer ≡ Ok u → Took keeper old new bytes answer → Went keeper old new b f
  went (BadFrame at) u is t = absurd ((t.step.1 b h).1.0.none f a.form (sym a.is))
  went NotMine u is t =
      let s = (t.step.1 b h).1 in
      let r = reacts_to b.name b.frames f bytes NotMine t.step.0 a s.0 s.1 s.2 in
      went_by step.NotMine t.step.0 r.reaction (λ x. refl) (r.grown []) (λ x. refl) (t.step.1 b h).0 t.counts.1 t.doubts t.crash
  went (Known count) u is t =
      let s = (t.step.1 b h).1 in
      let r = reacts_to b.name b.frames f bytes (Known count) t.step.0 a s.0 s.1 s.2 in
      went_by step.Known t.step.0 r.reaction (λ x. refl) (r.grown []) (λ x. refl) (t.step.1 b h).0 t.counts.1 t.doubts t.crash
  went (Ahead count) u is t =
      let s = (t.step.1 b h).1 in
      let r = reacts_to b.name b.frames f bytes (Ahead count) t.step.0 a s.0 s.1 s.2 in
      went_by step.Ahead t.step.0 r.reaction (λ x. refl) (r.grown []) (λ x. refl) (t.step.1 b h).0 t.counts.1 t.doubts t.crash
  went (Accepted k) u is t =
      let s = (t.step.1 b h).1 in
      let r = reacts_to b.name b.frames f bytes (Accepted k) t.step.0 a s.0 s.1 s.2 in
      let next : behind b.name b.frames f ≡ b.frames ++ f ∷ [] = behind_accepted b.name b.frames f r.reaction in
      let grown : b.frames ++ f ∷ [] ≡ b.frames ++ t.step.0 = sym (ap (λ (x : step.Taken). (step.reacted (record { held = b.frames; doubt = [] }) f IsKept x).held) r.reaction) ∙ r.grown [] in
      record {
        kept = kept_by (behind b.name b.frames f) t.step.0 (next ∙ grown) (t.step.1 b h).0
            (omega (arith, t.counts.1, ap record_bytes next, record_bytes_more b.frames f, ap length a.is)) t.crash;
        calm = λ told x d. absurd (t.doubts (h.kept told).told x d);
      }
  went Fault u is t = absurd cc
  went (Full size count) u is t = absurd cc
  went Memory u is t = absurd cc

  module _ {O : Type 0} (sink : SinkMeaning O) (o o' : O) where
    -- all of its receipt was written and has passed on
    pub answered_all : Went keeper old new b f → Wrote sink o o' (receipt_for b.name b.frames f) → (sink.tells o → AllPassed sink o') → AnsweredAll keeper sink old new o o' b (f ∷ [])
    answered_all w wrote passed = record {
      kept = w.kept;
      calm = w.calm;
      wrote = wrote_is sink o o' _ _ (sym (append-nil (receipt_for b.name b.frames f))) wrote;
      passed = λ t all. passed t;
    }

    -- what was written before still has passed on
    first_passed : (sink.tells o → AreFirst (sink.passed o) (sink.passed o')) → sink.tells o → AllPassed sink o → AreFirst (sink.taken o ++ []) (sink.passed o')
    first_passed kept t all = subst (λ (l : List ℕ). AreFirst l (sink.passed o')) (all ∙ sym (append-nil (sink.taken o))) (kept t)

    -- the first of its receipt
    pub answered_some : Went keeper old new b f → (n : ℕ) → Wrote sink o o' (take n (receipt_for b.name b.frames f)) → (sink.tells o → AreFirst (sink.passed o) (sink.passed o')) → AnsweredSome keeper sink old new o o' b [] (frame_bytes f) end.Write
    answered_some w n wrote passed = record {
      now = behind b.name b.frames f;
      said = take n (receipt_for b.name b.frames f);
      next = inr (
        f,
        record {
          form = a.form;
          first = ([], sym (append-nil (frame_bytes f)));
          list = refl;
          bytes = (drop n (receipt_for b.name b.frames f), sym (take-append-drop n (receipt_for b.name b.frames f)));
          unkept = λ log. absurd log;
          full = λ is. cc;
          doubt = λ x d. inl (w.calm d.0 x d.1);
        },
      );
      half = λ lt. refl;
      kept = w.kept;
      wrote = wrote;
      passed = first_passed passed;
    }

  module _ {O : Type 0} (sink : SinkMeaning O) (o : O) where
    -- the frame is the next one, and is not kept
    stopped_by : (fate : Fate) (why : Ending) (more : List Frame) → step.reaction b.name (length b.frames) f ≡ step.Accepted → ((r : step.Receiver) → (step.accepted r f fate).held ≡ r.held)
        → (step.taken b.name (record { held = b.frames; doubt = [] }) f fate).held ≡ b.frames ++ more → held_at why b.frames (behind b.name b.frames f) ≡ b.frames
        → Holds keeper new (onto more b) → keeper.used new.keeper ≡ keeper.used old.keeper
        → (why ≡ end.Full → 1073741824 < keeper.used new.keeper + length (frame_bytes f) + 5)
        → (keeper.tells old.keeper → (x : Bytes) → keeper.doubts new.keeper x → keeper.doubts old.keeper x ⊎ ((why ≡ end.Store) × (x ≡ frame_bytes f)))
        → (keeper.tells old.keeper → KeeperGains keeper old.keeper new.keeper (BeforeOrAfter (keeper.list old.keeper) (keeper.doubts old.keeper) (keeper.list new.keeper) (keeper.doubts new.keeper)))
        → AnsweredSome keeper sink old new o o b [] (frame_bytes f) why
    stopped_by fate why more is stays grown at holds used full doubts crash =
        let none : b.frames ≡ b.frames ++ more =
        sym (stays (record { held = b.frames; doubt = [] })) ∙ sym (ap (λ (x : step.Taken). (step.reacted (record { held = b.frames; doubt = [] }) f fate x).held) is) ∙ grown in
        record {
          now = b.frames;
          said = [];
          next = inr (
            f,
            record {
              form = a.form;
              first = ([], sym (append-nil (frame_bytes f)));
              list = sym at;
              bytes = (receipt_for b.name b.frames f, refl);
              unkept = λ log. behind_accepted b.name b.frames f is;
              full = full;
              doubt = λ x d. ⊎_elim (λ was. inl (refl, was)) (λ now. inr now) (doubts (h.kept d.0).told x d.1);
            },
          );
          half = λ lt. absurd (omega (arith, lt));
          kept = kept_by b.frames more none holds (omega (arith, used)) crash;
          wrote = wrote_none sink o;
          passed = first_passed sink o o (λ t. first_all (sink.passed o));
        }

    pub stopped_fault : Took keeper old new bytes Fault → AnsweredSome keeper sink old new o o b [] (frame_bytes f) end.Store
    stopped_fault t =
        let s = (t.step.1 b h).1 in
        let r = reacts_to b.name b.frames f bytes Fault t.step.0 a s.0 s.1 s.2 in
        stopped_by IsFailed end.Store t.step.0 r.reaction (λ x. refl) (r.grown []) refl (t.step.1 b h).0 t.counts.2 (λ is. cc)
        (λ told x d. ⊎_elim (λ was. inl was) (λ now. inr (refl, now ∙ a.is)) (t.doubts told x d)) t.crash

    pub stopped_full : (size count : ℕ) → Took keeper old new bytes (Full size count) → AnsweredSome keeper sink old new o o b [] (frame_bytes f) end.Full
    stopped_full size count t =
        let s = (t.step.1 b h).1 in
        let r = reacts_to b.name b.frames f bytes (Full size count) t.step.0 a s.0 s.1 s.2 in
        stopped_by IsFull end.Full t.step.0 r.reaction (λ x. refl) (r.grown []) refl (t.step.1 b h).0 t.counts.1 (λ is. omega (arith, t.counts.1, t.counts.2, ap length a.is))
        (λ told x d. inl (t.doubts told x d)) t.crash

    pub stopped_memory : Took keeper old new bytes Memory → AnsweredSome keeper sink old new o o b [] (frame_bytes f) end.Memory
    stopped_memory t =
        let s = (t.step.1 b h).1 in
        let r = reacts_to b.name b.frames f bytes Memory t.step.0 a s.0 s.1 s.2 in
        stopped_by IsStarved end.Memory t.step.0 r.reaction (λ x. refl) (r.grown []) refl (t.step.1 b h).0 t.counts.1 (λ is. cc)
        (λ told x d. inl (t.doubts told x d)) t.crash

    -- by what ends the run
    pub stopped : (answer : Taken) (why : Ending) → outcome answer ≡ Err why → Took keeper old new bytes answer → EndsAtFrame why × AnsweredSome keeper sink old new o o b [] (frame_bytes f) why
    stopped Fault why is t = subst (λ (w : Ending). EndsAtFrame w × AnsweredSome keeper sink old new o o b [] (frame_bytes f) w) (same_end end.Store why is) (tt, stopped_fault t)
    stopped (Full size count) why is t = subst (λ (w : Ending). EndsAtFrame w × AnsweredSome keeper sink old new o o b [] (frame_bytes f) w) (same_end end.Full why is) (tt, stopped_full size count t)
    stopped Memory why is t = subst (λ (w : Ending). EndsAtFrame w × AnsweredSome keeper sink old new o o b [] (frame_bytes f) w) (same_end end.Memory why is) (tt, stopped_memory t)
    stopped (BadFrame at) why is t = absurd cc
    stopped NotMine why is t = absurd cc
    stopped (Known count) why is t = absurd cc
    stopped (Ahead count) why is t = absurd cc
    stopped (Accepted k) why is t = absurd cc

-- ---- counts of faults

-- of a frame that ends the run
pub stop_causes : (old new : Numbers) (bytes : Bytes) (answer : Taken) (why : Ending) (o : ℕ) → outcome answer ≡ Err why → IsCounted old new bytes answer → CausedBy old.faults new.faults o o why
stop_causes old new bytes Fault why o is n = subst (λ (w : Ending). CausedBy old.faults new.faults o o w) (same_end end.Store why is) (n.0, refl)
stop_causes old new bytes (Full size count) why o is n = subst (λ (w : Ending). CausedBy old.faults new.faults o o w) (same_end end.Full why is) (n.0, refl)
stop_causes old new bytes Memory why o is n = subst (λ (w : Ending). CausedBy old.faults new.faults o o w) (same_end end.Memory why is) (n.0, refl)
stop_causes old new bytes (BadFrame at) why o is n = absurd cc
stop_causes old new bytes NotMine why o is n = absurd cc
stop_causes old new bytes (Known count) why o is n = absurd cc
stop_causes old new bytes (Ahead count) why o is n = absurd cc
stop_causes old new bytes (Accepted k) why o is n = absurd cc

-- and of one that does not
pub calm_counts : (old new : Numbers) (bytes : Bytes) (answer : Taken) (u : Unit {0}) → outcome answer ≡ Ok u → IsCounted old new bytes answer → new.faults ≡ old.faults
calm_counts old new bytes (BadFrame at) u is n = n.0
calm_counts old new bytes NotMine u is n = n.0
calm_counts old new bytes (Known count) u is n = n.0
calm_counts old new bytes (Ahead count) u is n = n.0
calm_counts old new bytes (Accepted k) u is n = n.0
calm_counts old new bytes Fault u is n = absurd cc
calm_counts old new bytes (Full size count) u is n = absurd cc
calm_counts old new bytes Memory u is n = absurd cc
