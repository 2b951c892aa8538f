use Rattle.std.proofs.Common.{ap}
use Rattle.std.proofs.lemmas.Result.{IfOk-weaker}
use Rattle.news_types.specs.Due.{takes_back}
use Rattle.newsroom.proofs.Recorded.{issue_publishes, issue_retracts}
use Rattle.newsroom.proofs.records.prepare_issued.Goals as goal

pub returns-in-First-clause-change : goal.returns-in-First-clause-change
returns-in-First-clause-change c h caller number command keeps is from are told =
    IfOk-weaker c.prepare_publication.result _ _ (λ change leads. leads h _ keeps (issue_publishes h c.args.moment caller number command c.args.issue.now _ is from told (ap takes_back c.in-First.is))) c.prepare_publication.ensures.change

pub returns-in-Correct-clause-change : goal.returns-in-Correct-clause-change
returns-in-Correct-clause-change c h caller number command keeps is from are told =
    IfOk-weaker c.prepare_publication-in-Correct.result _ _ (λ change leads. leads h _ keeps (issue_publishes h c.args.moment caller number command c.args.issue.now _ is from told (ap takes_back c.in-Correct.is))) c.prepare_publication-in-Correct.ensures.change

pub returns-in-Kill-clause-change : goal.returns-in-Kill-clause-change
returns-in-Kill-clause-change c h caller number command keeps is from are told =
    IfOk-weaker c.prepare_taking_back.result _ _ (λ change leads. leads h _ keeps (issue_retracts h c.args.moment caller number command c.args.issue.now _ is from told _ are (ap takes_back c.in-Kill.is))) c.prepare_taking_back.ensures.change

pub returns-in-Recall-clause-change : goal.returns-in-Recall-clause-change
returns-in-Recall-clause-change c h caller number command keeps is from are told =
    IfOk-weaker c.prepare_taking_back-in-Recall.result _ _ (λ change leads. leads h _ keeps (issue_retracts h c.args.moment caller number command c.args.issue.now _ is from told _ are (ap takes_back c.in-Recall.is))) c.prepare_taking_back-in-Recall.ensures.change
