use Rattle.std.proofs.Common.{◌≤◌, sym, ap, ◌∙◌, subst, Some}
use Rattle.serde_json.specs.Data.{depth}
use Rattle.serde_json.specs.Read.{max_depth}
use Rattle.serde_json.proofs.Views.{view-Object}
use Rattle.ninjs_text.specs.Reading.{json_of}
use Rattle.ninjs_text.proofs.JsonTexts.{json_of-some}
use Rattle.ninjs_text.proofs.writing.written.Goals as goal

pub returns-clause-read_again : goal.returns-clause-read_again
returns-clause-read_again c shallow =
    let seen = view-Object c.args.members in
    let told = c.in_ok-to_vec.ensures in
    ap json_of c.of.ensures
    ∙ json_of-some _ _ told.utf8 (told.reads_back (subst (λ d. depth d ≤ max_depth) (sym seen) shallow) ∙ ap (λ d. Some d) seen)
