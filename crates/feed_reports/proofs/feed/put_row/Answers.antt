use Rattle.std.proofs.Common.{arith, ◌≡◌, ◌++◌, ◌∙◌, string_bytes, OnOk, [], ◌∷◌, subst}
use Rattle.std.proofs.lemmas.Grind.{common_steps}
use Rattle.std.specs.Prelude.{decimal}
use Rattle.news_types.specs.Names.{Bytes}
use Rattle.feed_reports.specs.Feed.{kind_word}
use Rattle.feed_reports.specs.Line.{line}
use Rattle.feed_reports.proofs.feed.put_row.Goals as goal

-- with any text for the release
pub returns : goal.returns
returns c =
    let row = c.args.row.now in
    let P : Bytes → Type 0 = λ release. OnOk c.writeln.result (string_bytes c.writeln.new.self ≡ string_bytes c.args.text.now ++ line (decimal row.k ∷ decimal row.publication ∷ decimal row.item ∷ decimal row.version ∷ kind_word row.kind ∷ release ∷ [])) in
    let written : P c.as_str.result.now = grind (arith, common_steps, c.writeln.ensures.bytes, c.kind_word.ensures) in
    subst P (c.as_str.ensures ∙ c.text_of_moment-release.ensures.value) written
