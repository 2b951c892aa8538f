use Rattle.std.proofs.Common.{◌∙◌, codes}
use Rattle.std.proofs.lemmas.Result.{on_ok_weaker}
use Rattle.serde_json.specs.View.{members_view}
use Rattle.ninjs_text.specs.Writing as said
use Rattle.ninjs_text.proofs.writing.put_texts.Goals as goal

pub returns-clause-members : goal.returns-clause-members
returns-clause-members c =
    let body = c.in_ok-put_text.ensures.members ∙ (λ i. said.put_text (c.body_key.ensures i) (c.as_str.ensures i) (members_view c.args.members.now.entries)) in
    let byline = c.in_ok-put_filled.ensures.members ∙ (λ i. said.put_filled (codes "byline") (c.as_str-2.ensures i) (body i)) in
    let copyright = c.in_ok-put_filled-2.ensures.members ∙ (λ i. said.put_filled (codes "copyrightholder") (c.as_str-3.ensures i) (byline i)) in
    let headline = c.in_ok-put_filled-3.ensures.members ∙ (λ i. said.put_filled (codes "headline") (c.as_str-4.ensures i) (copyright i)) in
    let language = c.in_ok-put_filled-4.ensures.members ∙ (λ i. said.put_filled (codes "language") (c.as_str-5.ensures i) (headline i)) in
    let status = c.in_ok-put_text-2.ensures.members ∙ (λ i. said.put_text (codes "pubstatus") (c.status_word.ensures i) (language i)) in
    on_ok_weaker c.put_filled-5.result (λ e. e ∙ (λ i. said.put_filled (codes "slugline") (c.as_str-6.ensures i) (status i))) c.put_filled-5.ensures.members

pub returns-clause-plain : goal.returns-clause-plain
returns-clause-plain c none =
    let byline = c.in_ok-put_filled.ensures.plain (c.in_ok-put_text.ensures.plain none) in
    let language = c.in_ok-put_filled-4.ensures.plain (c.in_ok-put_filled-3.ensures.plain (c.in_ok-put_filled-2.ensures.plain byline)) in
    c.put_filled-5.ensures.plain (c.in_ok-put_text-2.ensures.plain language)
