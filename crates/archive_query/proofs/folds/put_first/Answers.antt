use Rattle.std.proofs.Common.{◌∙◌, ◌++◌, List, ℕ, sym, ap, encode_utf8}
use Rattle.archive_query.proofs.Folding.{behind_first}
use Rattle.archive_query.proofs.folds.put_first.Goals as goal

pub returns-in_ok-put_folded-in-Some-clause-rest : goal.returns-in_ok-put_folded-in-Some-clause-rest
returns-in_ok-put_folded-in-Some-clause-rest c =
    behind_first c.args.text.now c.as_str.result.now c.args.out.now.items c.put_folded.new.out.items c.in-Some.character c.utf8.text
    (sym c.chars-characters.ensures.rest ∙ c.in-Some.ensures.steps.0 ∙ ap (λ (l : List ℕ). encode_utf8 c.in-Some.character ++ l) (sym c.as_str.ensures)) c.in_ok-put_folded-in-Some.ensures
