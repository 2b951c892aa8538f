use Rattle.std.proofs.Common.{◌≡◌, List, ℕ, ◌++◌, [], ◌∷◌, take, refl, ◌∙◌, ap, arith}
use Rattle.std.proofs.lemmas.Result.{err_from_is_err_and}
use Rattle.news_io.proofs.Pieces.{first_all}
use Rattle.line_run.proofs.Steps.{stopped_some, answered_all, answered_some}
use Rattle.run_status.proofs.Tellings.{wrote_none, wrote_is}
use Rattle.line_run.proofs.loops.answer_line.Goals as goal

pub returns-in_err-text-clause-did : goal.returns-in_err-text-clause-did
returns-in_err-text-clause-did g c =
    let p = err_from_is_err_and c.from_residual.result c.from_residual.ensures.1 in
    λ shelf h stands. rw (p.1, p.2) (stopped_some _ _ _ _ _ c.args.output.now h _ c.in_err-text.field-0.0 (c.in_err-text.ensures.step shelf h stands))

pub returns-in-Err-clause-did : goal.returns-in-Err-clause-did
returns-in-Err-clause-did g c = λ shelf h stands. answered_some _ _ _ _ _ _ _ h _ c.in_ok-text.text.items 0 _ (λ none. none) (λ is. cc) (λ lt. absurd (omega (arith, lt))) (c.in_ok-text.ensures.step shelf h stands)
    (wrote_is _ _ _ [] _ (ap (λ (l : List ℕ). take 0 l) c.in-Err.ensures.items) (wrote_none _ _)) (λ t. first_all _)

pub returns-in-Err-write_through-clause-did : goal.returns-in-Err-write_through-clause-did
returns-in-Err-write_through-clause-did g c = λ shelf h stands.
    let all : c.deref.result.now ≡ c.in_ok-text.text.items ++ 10 ∷ [] = c.deref.ensures.value ∙ c.in_default.ensures.items in
    let some = c.in-Err-write_through.ensures.err in
    answered_some _ _ _ _ _ _ _ h _ c.in_ok-text.text.items some.0 _ (λ none. none) (λ is. cc) (λ lt. refl) (c.in_ok-text.ensures.step shelf h stands)
    (wrote_is _ _ _ _ _ (ap (λ (l : List ℕ). take some.0 l) all) (record { told = c.write_through.ensures.told; bytes = some.2 })) c.write_through.ensures.kept

pub returns-clause-did : goal.returns-clause-did
returns-clause-did g c = λ shelf h stands.
    let all : c.deref.result.now ≡ c.in_ok-text.text.items ++ 10 ∷ [] = c.deref.ensures.value ∙ c.in_default.ensures.items in
    answered_all _ _ _ _ _ _ _ h _ c.in_ok-text.text.items (c.in_ok-text.ensures.step shelf h stands)
    (wrote_is _ _ _ _ _ all (record { told = c.write_through.ensures.told; bytes = c.in_default-write_through.ensures.ok })) c.in_default-write_through.ensures.passed
