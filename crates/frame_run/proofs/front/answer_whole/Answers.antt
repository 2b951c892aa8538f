use Rattle.std.proofs.Common.{◌-◌, ◌∙◌, ℕ, List, take, drop, length, refl, ap, subst, arith}
use Rattle.std.proofs.lemmas.List.{length-drop, length-take, take_rest}
use Rattle.feed_receiver.specs.Takes.{AreFrame}
use Rattle.feed_receiver.specs.declared.frame.FirstFrame.TheVariants.{Whole, Bad, Cut}
use Rattle.frame_run.specs.Input.{HasBegun}
use Rattle.frame_run.specs.Run.{IsBadByte}
use Rattle.frame_run.proofs.Inputs.{frame_some, first_next}
use Rattle.frame_run.proofs.Pieces.{front_starts, front_next, front_stops, found_stop, causes_then}
use Rattle.frame_run.proofs.front.answer_whole.Goals as goal

-- what is looked at: the bytes behind those that are done
abbrev rest_of : List ℕ → ℕ → List ℕ
rest_of bytes done = take (length bytes - done) (drop done bytes)

pub frames-init : goal.frames-init
frames-init g c = record {
  within = omega arith;
  so_far = λ b h. front_starts g.K.Keeper.keeper g.O.Sink.sink c.args.bytes.now c.args.receiver.now c.args.output.now b h;
  calm = refl;
  calm_output = refl;
}

pub returns-in-Err-clause-found : goal.returns-in-Err-clause-found
returns-in-Err-clause-found g c = λ b h.
    let bytes : List ℕ = c.args.bytes.now in
    let done : ℕ = c.frames.done in
    let next = first_next (rest_of bytes done) (Whole c.in-Whole.size) c.in-Whole.ensures in
    let s = c.frames.invariant.so_far b h in
    let a : AreFrame next.1.0 (take c.in-Whole.size (drop done bytes)) = subst (λ (l : List ℕ). AreFrame next.1.0 (take c.in-Whole.size l)) (take_rest bytes done) next.1.1 in
    found_stop g.K.Keeper.keeper g.O.Sink.sink bytes c.args.begun c.args.receiver.now c.answer_frame.new.receiver c.args.output.now c.answer_frame.new.output b c.in-Err.why
    (c.in-Err.ensures.did _ s.done.kept.list next.1.0 next.1.1).0
    (front_stops g.K.Keeper.keeper g.O.Sink.sink bytes c.args.receiver.now c.frames.receiver c.answer_frame.new.receiver c.args.output.now c.frames.output c.answer_frame.new.output b done c.in-Whole.size next.1.0 c.in-Err.why s a
    (λ b' h'. (c.in-Err.ensures.did b' h' next.1.0 next.1.1).1))

pub returns-in-Err-clause-causes : goal.returns-in-Err-clause-causes
returns-in-Err-clause-causes g c = causes_then _ _ _ _ _ _ c.in-Err.why c.frames.invariant.calm c.frames.invariant.calm_output c.in-Err.ensures.causes

pub slice_bounds-answer_frame-end : goal.slice_bounds-answer_frame-end
slice_bounds-answer_frame-end g c =
    let rest : List ℕ = rest_of c.args.bytes.now c.frames.done in
    omega (arith, c.in-Whole.ensures.3, length-take c.in-Whole.size rest)

pub overflow_add-done : goal.overflow_add-done
overflow_add-done g c =
    omega (arith, c.requires, c.in-Whole.ensures.3, c.frames.invariant.within, ap length (take_rest c.args.bytes.now c.frames.done), length-drop c.frames.done c.args.bytes.now)

pub frames-smaller : goal.frames-smaller
frames-smaller g c =
    let rest : List ℕ = rest_of c.args.bytes.now c.frames.done in
    let next = first_next rest (Whole c.in-Whole.size) c.in-Whole.ensures in
    omega (
      arith,
      frame_some next.1.0,
      ap length next.1.1.is,
      length-take c.in-Whole.size rest,
      next.0,
      c.frames.invariant.within,
      ap length (take_rest c.args.bytes.now c.frames.done),
      length-drop c.frames.done c.args.bytes.now,
    )

pub frames-preserved : goal.frames-preserved
frames-preserved g c =
    let bytes : List ℕ = c.args.bytes.now in
    let done : ℕ = c.frames.done in
    let next = first_next (rest_of bytes done) (Whole c.in-Whole.size) c.in-Whole.ensures in
    let inv = c.frames.invariant in
    let a : AreFrame next.1.0 (take c.in-Whole.size (drop done bytes)) = subst (λ (l : List ℕ). AreFrame next.1.0 (take c.in-Whole.size l)) (take_rest bytes done) next.1.1 in
    record {
      within = omega (arith, next.0, inv.within, ap length (take_rest bytes done), length-drop done bytes);
      so_far = λ b h.
          front_next g.K.Keeper.keeper g.O.Sink.sink bytes c.args.receiver.now c.frames.receiver c.answer_frame.new.receiver c.args.output.now c.frames.output c.answer_frame.new.output b done c.in-Whole.size next.1.0 (inv.so_far b h) a
          (λ b' h'. c.in_default.ensures.did b' h' next.1.0 next.1.1);
      calm = c.in_default.ensures.causes.0 ∙ inv.calm;
      calm_output = c.in_default.ensures.causes.1 ∙ inv.calm_output;
    }

pub returns-in-Cut-clause-found : goal.returns-in-Cut-clause-found
returns-in-Cut-clause-found g c = λ b h.
    let s = c.frames.invariant.so_far b h in
    (subst HasBegun (take_rest c.args.bytes.now c.frames.done) (first_next (rest_of c.args.bytes.now c.frames.done) Cut c.in-Cut.ensures), (s.frames, s.are, s.done))

pub overflow_add-result : goal.overflow_add-result
overflow_add-result g c =
    omega (arith, c.requires, c.in-Bad.ensures.0, c.frames.invariant.within, ap length (take_rest c.args.bytes.now c.frames.done), length-drop c.frames.done c.args.bytes.now)

pub overflow_add-result-in-Bad : goal.overflow_add-result-in-Bad
overflow_add-result-in-Bad g c =
    omega (arith, c.requires, c.in-Bad.ensures.0, c.frames.invariant.within, ap length (take_rest c.args.bytes.now c.frames.done), length-drop c.frames.done c.args.bytes.now)

pub returns-in-Bad-clause-found : goal.returns-in-Bad-clause-found
returns-in-Bad-clause-found g c = λ b h.
    let bytes : List ℕ = c.args.bytes.now in
    let done : ℕ = c.frames.done in
    let s = c.frames.invariant.so_far b h in
    (s.frames, drop done bytes, c.in-Bad.at, s.are, subst (λ (l : List ℕ). IsBadByte l c.in-Bad.at) (take_rest bytes done) (first_next (rest_of bytes done) (Bad c.in-Bad.at) c.in-Bad.ensures), omega (arith, length-drop done bytes, c.frames.invariant.within), s.done)
