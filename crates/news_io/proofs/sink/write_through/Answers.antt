use Rattle.std.proofs.Common.{◌++◌, List, ℕ, length, Result, Ok, Err, sym, ◌∙◌, ap, arith}
use Rattle.std.proofs.lemmas.List.{take_all}
use Rattle.std.specs.Prelude.{OnErr}
use Rattle.news_io.proofs.sink.write_through.Goals as goal

on_err : {T E : Type 0} (r : Result T E) (P : Type 0) → P → OnErr r P
on_err (Ok value) P p = tt
on_err (Err why) P p = p

pub returns-clause-err : goal.returns-clause-err
returns-clause-err g c = on_err c.flush.result _ (
  length c.args.bytes.now,
  omega arith,
  λ t. c.flush.ensures.same (c.write_all.ensures.told t) ∙ c.in_ok-write_all.ensures.ok t
      ∙ ap (λ (l : List ℕ). g.O.Sink.sink.taken c.args.sink.now ++ l) (sym (take_all (length c.args.bytes.now) c.args.bytes.now (omega arith))),
)
