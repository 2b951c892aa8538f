use Rattle.byte_formats.proofs.Varints.{written_small, written_big}
use Rattle.byte_formats.proofs.output.+put_groups.Goals as goal

pub returns-then-number-lt128 : goal.returns-then-number-lt128
returns-then-number-lt128 t c = λ more lt. written_small _ _ c.args.number more c.in_ok-push.ensures.items c.if-number-lt128.true

pub returns : goal.returns
returns t c = λ more lt. written_big _ _ _ c.args.number more c.in_ok-push-2.ensures.items c.in_ok-put_groups.ensures c.if-number-lt128.false lt
