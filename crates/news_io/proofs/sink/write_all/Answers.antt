use Rattle.std.proofs.Common.{rules, ◌∙◌}
use Rattle.std.proofs.lemmas.List.{take_rest}
use Rattle.news_io.proofs.Pieces.{one_more, first_then}
use Rattle.news_io.proofs.sink.write_all.Goals as goal

pub loop-done-preserved : goal.loop-done-preserved
loop-done-preserved g c = record {
  within = search rules;
  bytes = λ tells. one_more c.loop-done.done c.in_ok-done.field-0 _ _ _ _ (c.loop-done.invariant.bytes tells)
      (simp take_rest at (c.in_ok-done.ensures.bytes (c.loop-done.invariant.told tells)));
  told = λ tells. c.write.ensures.told (c.loop-done.invariant.told tells);
  kept = λ tells. first_then _ _ _ (c.loop-done.invariant.kept tells) (c.write.ensures.kept (c.loop-done.invariant.told tells));
  calm = c.in_ok-done.ensures.count.calm ∙ c.loop-done.invariant.calm;
}
