use Rattle.std.proofs.Common.{◌∙◌, codes}
use Rattle.std.proofs.lemmas.Result.{on_ok_weaker}
use Rattle.serde_json.specs.View.{members_view}
use Rattle.ninjs_text.specs.Writing as said
use Rattle.ninjs_text.proofs.writing.put_marks.Goals as goal

pub returns-clause-members : goal.returns-clause-members
returns-clause-members c =
    let media = c.in_ok-put_text.ensures.members ∙ (λ i. said.put_text (codes "type") (c.word.ensures i) (members_view c.args.members.now.entries)) in
    let urgency = c.in_ok-put_urgency.ensures.members ∙ (λ i. said.put_urgency c.args.publication.now.story.urgency (media i)) in
    let uri = c.in_ok-put_text-2.ensures.members ∙ (λ i. said.put_text (codes "uri") (c.as_str.ensures i) (urgency i)) in
    let version = c.in_ok-put_version.ensures.members ∙ (λ i. said.put_version c.args.publication.now.version (uri i)) in
    on_ok_weaker c.put_text-3.result (λ e. e ∙ (λ i. said.put_text (codes "versioncreated") ((c.as_str-2.ensures ∙ c.text_of_moment-created.ensures.value) i) (version i))) c.put_text-3.ensures.members

pub returns-clause-plain : goal.returns-clause-plain
returns-clause-plain c none =
    let uri = c.in_ok-put_text-2.ensures.plain (c.in_ok-put_urgency.ensures.plain (c.in_ok-put_text.ensures.plain none)) in
    c.put_text-3.ensures.plain (c.in_ok-put_version.ensures.plain uri)
