use Rattle.std.proofs.Common.{arith, ◌≡◌, ◌++◌, ◌∙◌, string_bytes, OnOk, [], ◌∷◌, subst}
use Rattle.std.proofs.lemmas.Grind.{common_steps}
use Rattle.std.specs.Prelude.{decimal}
use Rattle.news_types.specs.Names.{Bytes}
use Rattle.feed_reports.specs.Line.{line}
use Rattle.archive_query.specs.Words.{act_word}
use Rattle.archive_search.proofs.hit.put_hit.Goals as goal

-- with any text for the release
pub returns : goal.returns
returns c =
    let hit = c.args.hit.now in
    let P : Bytes → Type 0 = λ release. OnOk c.writeln.result (string_bytes c.writeln.new.self ≡ string_bytes c.args.text.now ++ line (decimal hit.number ∷ decimal hit.item ∷ decimal hit.version ∷ act_word hit.act ∷ release ∷ [])) in
    let written : P c.as_str.result.now = grind (arith, common_steps, c.writeln.ensures.bytes, c.act_word.ensures) in
    subst P (c.as_str.ensures ∙ c.text_of_moment-release.ensures.value) written
