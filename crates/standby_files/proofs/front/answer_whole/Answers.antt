use Rattle.std.proofs.Common.{◌≡◌, inl, ◌-◌, ◌+◌, ◌∙◌, ℕ, List, take, drop, length, refl, ap, subst, arith}
use Rattle.std.specs.Prelude.{Err}
use Rattle.std.proofs.lemmas.List.{length-drop, length-take, take_rest}
use Rattle.record_lines.specs.Reads.{AreRecord}
use Rattle.record_lines.specs.declared.record.FirstRecord.TheVariants.{Whole, Bad, Cut}
use Rattle.standby_files.specs.Input.{HasBegun}
use Rattle.standby_files.specs.Answers.{Answered}
use Rattle.standby_files.specs.Run.{IsBadByte}
use Rattle.frame_run.proofs.Pieces.{causes_then}
use Rattle.standby_files.proofs.Inputs.{record_some, first_next}
use Rattle.standby_files.proofs.Pieces.{front_starts, front_next, found_record}
use Rattle.standby_files.proofs.front.answer_whole.Goals as goal

-- what is looked at: the bytes behind those that are done
abbrev rest_of : List ℕ → ℕ → List ℕ
rest_of bytes done = take (length bytes - done) (drop done bytes)

pub records-init : goal.records-init
records-init g c = record {
  within = omega arith;
  so_far = λ b h. front_starts g.K.Keeper.keeper g.O.Sink.sink c.args.bytes.now c.args.standby.now c.args.output.now b h;
  calm = refl;
  calm_output = refl;
}

pub returns-in-Err-clause-found : goal.returns-in-Err-clause-found
returns-in-Err-clause-found g c = λ b h.
    let bytes : List ℕ = c.args.bytes.now in
    let done : ℕ = c.records.done in
    let next = first_next (rest_of bytes done) (Whole c.in-Whole.size) c.in-Whole.ensures in
    let s = c.records.invariant.so_far b h in
    let a : AreRecord next.1.0 (take c.in-Whole.size (drop done bytes)) = subst (λ (l : List ℕ). AreRecord next.1.0 (take c.in-Whole.size l)) (take_rest bytes done) next.1.1 in
    let size : ℕ = c.in-Whole.size in
    let place : c.args.begun + done + length (take size (rest_of bytes done)) ≡ c.args.begun + done + size = omega (arith, next.0, length-take size (rest_of bytes done)) in
    found_record g.K.Keeper.keeper g.O.Sink.sink bytes c.args.begun c.args.standby.now c.records.standby c.answer_record.new.standby c.args.output.now c.records.output c.answer_record.new.output b done size next.1.0 c.in-Err.why s a
    (omega (arith, next.0, c.records.invariant.within, ap length (take_rest bytes done), length-drop done bytes))
    (λ b' h'. subst (λ (n : ℕ). Answered g.K.Keeper.keeper g.O.Sink.sink c.records.standby c.answer_record.new.standby c.records.output c.answer_record.new.output b' next.1.0 n (Err c.in-Err.why)) place
    (c.in-Err.ensures.did b' h' next.1.0 next.1.1))

pub returns-in-Err-clause-causes : goal.returns-in-Err-clause-causes
returns-in-Err-clause-causes g c = causes_then _ _ _ _ _ _ c.in-Err.why c.records.invariant.calm c.records.invariant.calm_output c.in-Err.ensures.causes

pub slice_bounds-answer_record-end : goal.slice_bounds-answer_record-end
slice_bounds-answer_record-end g c =
    let rest : List ℕ = rest_of c.args.bytes.now c.records.done in
    omega (arith, c.in-Whole.ensures.3, length-take c.in-Whole.size rest)

pub overflow_add-done : goal.overflow_add-done
overflow_add-done g c =
    omega (arith, c.requires, c.in-Whole.ensures.3, c.records.invariant.within, ap length (take_rest c.args.bytes.now c.records.done), length-drop c.records.done c.args.bytes.now)

pub records-smaller : goal.records-smaller
records-smaller g c =
    let rest : List ℕ = rest_of c.args.bytes.now c.records.done in
    let next = first_next rest (Whole c.in-Whole.size) c.in-Whole.ensures in
    omega (
      arith,
      record_some next.1.0,
      ap length next.1.1.is,
      length-take c.in-Whole.size rest,
      next.0,
      c.records.invariant.within,
      ap length (take_rest c.args.bytes.now c.records.done),
      length-drop c.records.done c.args.bytes.now,
    )

pub records-preserved : goal.records-preserved
records-preserved g c =
    let bytes : List ℕ = c.args.bytes.now in
    let done : ℕ = c.records.done in
    let next = first_next (rest_of bytes done) (Whole c.in-Whole.size) c.in-Whole.ensures in
    let inv = c.records.invariant in
    let a : AreRecord next.1.0 (take c.in-Whole.size (drop done bytes)) = subst (λ (l : List ℕ). AreRecord next.1.0 (take c.in-Whole.size l)) (take_rest bytes done) next.1.1 in
    record {
      within = omega (arith, next.0, inv.within, ap length (take_rest bytes done), length-drop done bytes);
      so_far = λ b h.
          front_next g.K.Keeper.keeper g.O.Sink.sink bytes c.args.standby.now c.records.standby c.answer_record.new.standby c.args.output.now c.records.output c.answer_record.new.output b done c.in-Whole.size next.1.0 (inv.so_far b h) a
          (λ b' h'. c.in_default.ensures.did b' h' next.1.0 next.1.1);
      calm = c.in_default.ensures.causes.0 ∙ inv.calm;
      calm_output = c.in_default.ensures.causes.1 ∙ inv.calm_output;
    }

pub returns-in-Cut-clause-found : goal.returns-in-Cut-clause-found
returns-in-Cut-clause-found g c = λ b h.
    let s = c.records.invariant.so_far b h in
    (subst HasBegun (take_rest c.args.bytes.now c.records.done) (first_next (rest_of c.args.bytes.now c.records.done) Cut c.in-Cut.ensures), (s.records, s.are, s.done))

pub overflow_add-result : goal.overflow_add-result
overflow_add-result g c =
    omega (arith, c.requires, c.in-Bad.ensures.0, c.records.invariant.within, ap length (take_rest c.args.bytes.now c.records.done), length-drop c.records.done c.args.bytes.now)

pub overflow_add-result-in-Bad : goal.overflow_add-result-in-Bad
overflow_add-result-in-Bad g c =
    omega (arith, c.requires, c.in-Bad.ensures.0, c.records.invariant.within, ap length (take_rest c.args.bytes.now c.records.done), length-drop c.records.done c.args.bytes.now)

pub returns-in-Bad-clause-found : goal.returns-in-Bad-clause-found
returns-in-Bad-clause-found g c = λ b h.
    let bytes : List ℕ = c.args.bytes.now in
    let done : ℕ = c.records.done in
    let s = c.records.invariant.so_far b h in (
      s.records,
      drop done bytes,
      s.are,
      inl (record {
        within = c.in-Bad.at;
        byte = subst (λ (l : List ℕ). IsBadByte l c.in-Bad.at) (take_rest bytes done) (first_next (rest_of bytes done) (Bad c.in-Bad.at) c.in-Bad.ensures);
        place = omega (arith, length-drop done bytes, c.records.invariant.within);
      }),
      s.done,
    )
