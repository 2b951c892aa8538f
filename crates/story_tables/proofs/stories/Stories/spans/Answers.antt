use Rattle.story_tables.proofs.Spanned.{spans_ok}
use Rattle.story_tables.proofs.stories.Stories.spans.Goals as goal

pub returns : goal.returns
returns c ps st keeps = spans_ok c.spans_of.result c.soonest-soonest.result.now c.newest.result.now st c.args.item c.spans_of.ensures (c.soonest-soonest.ensures.given ps st keeps) (c.newest.ensures ps st keeps)
