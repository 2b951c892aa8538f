use Rattle.std.proofs.Common.{ap, ◌∙◌, codes}
use Rattle.std.proofs.lemmas.Result.{on_ok_weaker}
use Rattle.serde_json.specs.Written.{has_float, members_have_float}
use Rattle.serde_json.specs.View.{view, members_view}
use Rattle.ninjs_text.proofs.Plain.{put_plain}
use Rattle.ninjs_text.proofs.members.put_urgency.Goals as goal

pub returns-clause-plain : goal.returns-clause-plain
returns-clause-plain c hm =
    on_ok_weaker c.put.result (λ e. ap members_have_float e ∙ put_plain (codes "urgency") (view c.from.result) (members_view c.args.members.now.entries) (ap has_float c.from.ensures) hm) c.put.ensures.ok
