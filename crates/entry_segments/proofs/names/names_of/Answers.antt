use Rattle.std.proofs.Common.{◌∙◌, ◌+◌, sym, ap, subst, drop, List, ℕ}
use Rattle.news_types.specs.Names.{AreInOrder}
use Rattle.entry_segments.specs.Segment.{names_from}
use Rattle.entry_segments.proofs.NameOrder.{acts_ascend, names_step}
use Rattle.entry_segments.proofs.names.names_of.Goals as goal

pub loop-entry-preserved : goal.loop-entry-preserved
loop-entry-preserved c =
    let es = c.args.entries.now in
    let i = c.loop-entry.entry-index in
    let e = c.entry-item.result in
    let ns = c.loop-entry.names.items in
    let up = c.loop-entry.invariant.up in
    let is = c.in_ok-add_names_of.ensures up in
    record {
      up = subst AreInOrder (sym is) (acts_ascend e.act ns up);
      rest = ap (λ (z : List (List ℕ)). names_from z (drop (i + 1) es)) is ∙ sym (names_step es i e ns c.loop-entry-test.true c.entry-item.is) ∙ c.loop-entry.invariant.rest;
    }
