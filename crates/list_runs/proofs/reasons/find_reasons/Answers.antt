use Rattle.std.proofs.Common.{refl}
use Rattle.list_runs.proofs.Makings.{makes_behind}
use Rattle.list_runs.proofs.Whys.{reasons_are}
use Rattle.list_runs.proofs.reasons.find_reasons.Goals as goal

pub returns : goal.returns
returns c = λ h p stands are found same.
    let making = c.in_ok-making.ensures.making h are in
    reasons_are h making.list c.args.publication c.args.subscriber.now p c.args.published.now c.args.published.now.kind _ _ c.course.result found same
    (makes_behind c.args.publication h making.list _ making.makes) (c.in_ok-verdict.ensures c.args.publication h p making found same) (c.course.ensures h stands) refl
