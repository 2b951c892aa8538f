use Rattle.std.proofs.Common.{[], refl, arith}
use Rattle.std.proofs.lemmas.Result.{err_from_is_err_and}
use Rattle.whole_runs.proofs.reading.read_whole.Goals as goal

-- nothing was read
pub returns-in_err-piece : goal.returns-in_err-piece
returns-in_err-piece g c =
    let p = err_from_is_err_and c.from_residual.result c.from_residual.ensures.1 in
    rw (p.1, p.2) (
      record {
        read = [];
        more = g.S.Source.source.ahead c.args.input.now;
        was_read = record { told = λ t. t; input = λ t. refl; rest = λ t. refl };
        few = omega arith;
      },
      refl,
    )
