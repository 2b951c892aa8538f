use Rattle.std.proofs.Common.{◌≡◌, ap, ◌∙◌}
use Rattle.serde_json.specs.Data.{no_members}
use Rattle.serde_json.specs.View.{members_view}
use Rattle.ninjs_text.specs.Writing as said
use Rattle.ninjs_text.proofs.writing.members_of.Goals as goal

pub returns-clause-members : goal.returns-clause-members
returns-clause-members c =
    let none : members_view c.new-members.result.entries ≡ no_members = ap members_view c.new-members.ensures.empty in
    let texts = c.in_ok-put_texts.ensures.members ∙ ap (said.put_texts c.args.publication.now) none in
    c.in_ok-put_marks.ensures.members ∙ ap (said.put_marks c.args.publication.now c.args.uri.now) texts
