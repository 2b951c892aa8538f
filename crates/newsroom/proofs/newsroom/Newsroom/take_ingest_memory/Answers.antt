use Rattle.std.proofs.Common.{ℕ, sym, ap, subst, ◌∙◌}
use Rattle.news_types.specs.declared.entry.Reply.{Reply}
use Rattle.news_types.specs.Items as items
use Rattle.newsroom.specs.Ingests.{IsThereIfMade}
use Rattle.newsroom.specs.Changes.{IsForPlace}
use Rattle.newsroom.proofs.Placed.{effect_there}
use Rattle.newsroom.proofs.Recorded.{wire_told}
use Rattle.newsroom.proofs.newsroom.Newsroom.take_ingest_memory.Goals as goal

abbrev item_in : Reply → ℕ
item_in r = r.item

pub returns-clause-change : goal.returns-clause-change
returns-clause-change c h stands legal does =
    let name = c.args.provider.now in
    let come = c.args.come.now in
    let m = c.args.moment in
    let story = c.in_ok-parts.ensures.change h stands legal.1 does in
    record {
      legal = legal;
      parts = story.parts;
      dues = story.dues;
      wires = c.in_ok-wires.ensures.change h _ (wire_told h m name come _ _ (ap item_in (c.reply.ensures ∙ story.parts.reply)) c.wire_of.ensures);
      place = subst (λ (e : items.Effect). IsForPlace c.in_ok-place.place h e) does (c.in_ok-place.ensures.change h (subst (IsThereIfMade h) (sym does) (effect_there h stands.legal name come m)));
    }
