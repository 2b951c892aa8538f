use Rattle.std.proofs.Common.{◌≡◌, Some, sym, ap, ◌∙◌}
use Rattle.std.specs.Prelude.{option_map}
use Rattle.std.specs.Option.{option_copied}
use Rattle.news_types.specs.Publications.{item}
use Rattle.story_tables.specs.Views.{version_in, story_in}
use Rattle.desk_questions.proofs.Wanted.{told_of}
use Rattle.desk_questions.proofs.line.line_of.Goals as goal

pub returns : goal.returns
returns c h keeps =
    let it = item h c.args.item in
    let version_is : Some c.in-Some.version ≡ option_map version_in it = sym c.in-Some.is ∙ c.version.ensures h keeps in
    let story_is : Some c.in-Some-story.story.now ≡ option_map story_in it = ap option_copied (sym c.in-Some-story.is) ∙ c.story.ensures h keeps in
    rw (c.in_ok-copy.ensures, c.in_ok-copy-2.ensures)
    (told_of c.args.item c.args.state c.args.place c.args.holder c.args.wire it c.in-Some.version c.in-Some-story.story.now version_is story_is)
