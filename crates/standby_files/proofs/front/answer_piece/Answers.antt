use Rattle.std.proofs.Common.{◌≡◌, ◌++◌, ◌∙◌, ℕ, List, drop, length, refl, sym, ap, subst, arith}
use Rattle.std.proofs.lemmas.List.{length-append, length-drop}
use Rattle.std.proofs.lemmas.Result.{err_from_is_err_and}
use Rattle.standby_files.specs.Input.{AreRecords}
use Rattle.standby_files.specs.Run.{FoundEnd}
use Rattle.standby_files.proofs.Pieces.{found_none, found_all, found_moved}
use Rattle.standby_files.proofs.front.answer_piece.Goals as goal

pub returns-in_err-extend_from_slice-clause-within : goal.returns-in_err-extend_from_slice-clause-within
returns-in_err-extend_from_slice-clause-within g c = let p = err_from_is_err_and c.from_residual.result c.from_residual.ensures.1 in rw p.1 tt

pub returns-in_err-extend_from_slice-clause-found : goal.returns-in_err-extend_from_slice-clause-found
returns-in_err-extend_from_slice-clause-found g c =
    let p = err_from_is_err_and c.from_residual.result c.from_residual.ensures.1 in
    λ b h. rw (p.1, p.2) (found_none g.K.Keeper.keeper g.O.Sink.sink (c.args.held.now.items ++ c.args.piece.now) c.args.begun c.args.standby.now c.args.output.now b h)

pub returns-in_err-extend_from_slice-clause-causes : goal.returns-in_err-extend_from_slice-clause-causes
returns-in_err-extend_from_slice-clause-causes g c = let p = err_from_is_err_and c.from_residual.result c.from_residual.ensures.1 in rw (p.1, p.2) (refl, refl)

pub answer_whole-requires : goal.answer_whole-requires
answer_whole-requires g c =
    omega (arith, c.requires, ap length c.deref.ensures.value, ap length c.in_ok-extend_from_slice.ensures.items, length-append c.args.held.now.items c.args.piece.now)

pub returns-in_err-done-clause-within : goal.returns-in_err-done-clause-within
returns-in_err-done-clause-within g c = let p = err_from_is_err_and c.from_residual-in_err-done.result c.from_residual-in_err-done.ensures.1 in rw p.1 tt

pub returns-in_err-done-clause-found : goal.returns-in_err-done-clause-found
returns-in_err-done-clause-found g c =
    let p = err_from_is_err_and c.from_residual-in_err-done.result c.from_residual-in_err-done.ensures.1 in
    let all : c.deref.result.now ≡ c.args.held.now.items ++ c.args.piece.now = c.deref.ensures.value ∙ c.in_ok-extend_from_slice.ensures.items in
    λ b h. rw (p.1, p.2)
    (subst (λ (l : List ℕ). FoundEnd g.K.Keeper.keeper g.O.Sink.sink c.args.standby.now c.answer_whole.new.standby c.args.output.now c.answer_whole.new.output b l c.args.begun c.in_err-done.field-0.0) all (c.in_err-done.ensures.found b h))

pub returns-in_err-done-clause-causes : goal.returns-in_err-done-clause-causes
returns-in_err-done-clause-causes g c = let p = err_from_is_err_and c.from_residual-in_err-done.result c.from_residual-in_err-done.ensures.1 in rw (p.1, p.2) c.in_err-done.ensures.causes

pub returns-then-done-eq0-clause-within : goal.returns-then-done-eq0-clause-within
returns-then-done-eq0-clause-within g c = omega (arith, ap length c.in_ok-extend_from_slice.ensures.items, length-append c.args.held.now.items c.args.piece.now)

pub returns-then-done-eq0-clause-found : goal.returns-then-done-eq0-clause-found
returns-then-done-eq0-clause-found g c =
    let all : c.deref.result.now ≡ c.args.held.now.items ++ c.args.piece.now = c.deref.ensures.value ∙ c.in_ok-extend_from_slice.ensures.items in
    let left : drop c.in_ok-done.done c.deref.result.now ≡ c.extend_from_slice.new.self.items = ap (λ (n : ℕ). drop n c.deref.result.now) c.if-done-eq0.true ∙ c.deref.ensures.value in
    λ b h. found_moved g.K.Keeper.keeper g.O.Sink.sink c.args.standby.now c.answer_whole.new.standby c.args.output.now c.answer_whole.new.output b _ _ _ _ all left (c.in_ok-done.ensures.found b h)

pub returns-in_err-rest-clause-within : goal.returns-in_err-rest-clause-within
returns-in_err-rest-clause-within g c = let p = err_from_is_err_and c.from_residual-in_err-rest.result c.from_residual-in_err-rest.ensures.1 in rw p.1 tt

pub returns-in_err-rest-clause-found : goal.returns-in_err-rest-clause-found
returns-in_err-rest-clause-found g c =
    let p = err_from_is_err_and c.from_residual-in_err-rest.result c.from_residual-in_err-rest.ensures.1 in
    let bytes : List ℕ = c.args.held.now.items ++ c.args.piece.now in
    let all : c.deref.result.now ≡ bytes = c.deref.ensures.value ∙ c.in_ok-extend_from_slice.ensures.items in
    λ b h.
    let d = c.in_ok-done.ensures.found b h in
    rw (p.1, p.2)
    (found_all g.K.Keeper.keeper g.O.Sink.sink bytes c.args.begun c.args.standby.now c.answer_whole.new.standby c.args.output.now c.answer_whole.new.output b d.1.0 (drop c.in_ok-done.done c.deref.result.now)
    (subst (λ (l : List ℕ). AreRecords l d.1.0 (drop c.in_ok-done.done c.deref.result.now)) all d.1.1) d.1.2)

pub returns-in_err-rest-clause-causes : goal.returns-in_err-rest-clause-causes
returns-in_err-rest-clause-causes g c = let p = err_from_is_err_and c.from_residual-in_err-rest.result c.from_residual-in_err-rest.ensures.1 in rw (p.1, p.2) c.in_ok-done.ensures.causes

pub returns-clause-within : goal.returns-clause-within
returns-clause-within g c =
    omega (arith, ap length c.in_ok-rest.ensures.tail, length-drop c.in_ok-done.done c.extend_from_slice.new.self.items, ap length c.in_ok-extend_from_slice.ensures.items, length-append c.args.held.now.items c.args.piece.now)

pub returns-clause-found : goal.returns-clause-found
returns-clause-found g c =
    let all : c.deref.result.now ≡ c.args.held.now.items ++ c.args.piece.now = c.deref.ensures.value ∙ c.in_ok-extend_from_slice.ensures.items in
    let left : drop c.in_ok-done.done c.deref.result.now ≡ c.in_ok-rest.rest.items = ap (λ (l : List ℕ). drop c.in_ok-done.done l) c.deref.ensures.value ∙ sym c.in_ok-rest.ensures.tail in
    λ b h. found_moved g.K.Keeper.keeper g.O.Sink.sink c.args.standby.now c.answer_whole.new.standby c.args.output.now c.answer_whole.new.output b _ _ _ _ all left (c.in_ok-done.ensures.found b h)
