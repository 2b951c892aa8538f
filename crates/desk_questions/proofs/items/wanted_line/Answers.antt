use Rattle.std.proofs.Common.{◌≡◌, Option, sym, ap, ◌∙◌}
use Rattle.std.proofs.lemmas.Result.{IfOk-weaker}
use Rattle.std.specs.Prelude.{option_map}
use Rattle.news_types.specs.History.{History, moment}
use Rattle.news_types.specs.Items.{Item, state_at}
use Rattle.news_types.specs.Due.{standing_first}
use Rattle.news_types.specs.Publications.{item, made, state}
use Rattle.story_tables.specs.Keeps.{KeepsStories}
use Rattle.desk_questions.specs.declared.line.ItemLine.{ItemLine}
use Rattle.desk_views.specs.declared.wire.Wire.{Wire}
use Rattle.desk_views.specs.Wires.{last_wire}
use Rattle.desk_questions.specs.Items.{line_given, wanted_by, wanted_of}
use Rattle.desk_questions.proofs.Wanted.{told_unwanted, told_wanted}
use Rattle.desk_questions.proofs.items.wanted_line.Goals as goal

pub returns : goal.returns
returns c =
    let i = c.args.item in
    let now = c.in-Some.state in
    let place = c.place-place.result in
    let holder = c.holder-holder.result in
    let wire = c.wire-wire.result in
    let w = wanted_of c.args.wanted.now in
    IfOk-weaker c.line_of.result
    (λ (line : Option ItemLine). (h : History) → KeepsStories c.stories-2.result.now h → line ≡ option_map (line_given i now place holder wire) (item h i))
    _
    (λ line says h stands.
    let stories = c.stories.ensures.keeps h stands in
    let looked = c.state.ensures h stories ∙ ap (λ m. state h i m) (c.moment.ensures h stands) in
    let facts = λ (it : Item). state_at (moment h) (standing_first i ((made h).standing)) it.state in
    says h (c.stories-2.ensures.keeps h stands)
    ∙ told_wanted w i facts now place holder wire (item h i)
    (sym c.in-Some.is ∙ looked)
    (c.place-place.ensures h (c.rules.ensures h stands))
    (c.holder-holder.ensures h (c.rules-2.ensures h stands))
    (sym c.is_wanted.ensures ∙ c.if-not-is_wanted.false)
    ∙ ap (λ (o : Option Wire). wanted_by w i o (item h i) (option_map facts (item h i))) (c.wire-wire.ensures h (c.wires.ensures h stands)))
    c.line_of.ensures

pub returns-then-not-is_wanted : goal.returns-then-not-is_wanted
returns-then-not-is_wanted c = λ h stands.
    let looked = c.state.ensures h (c.stories.ensures.keeps h stands) ∙ ap (λ m. state h c.args.item m) (c.moment.ensures h stands) in
    told_unwanted (wanted_of c.args.wanted.now) c.args.item (λ (it : Item). state_at (moment h) (standing_first c.args.item ((made h).standing)) it.state)
    c.in-Some.state c.place-place.result c.holder-holder.result (last_wire h c.args.item) (item h c.args.item)
    (sym c.in-Some.is ∙ looked)
    (c.place-place.ensures h (c.rules.ensures h stands))
    (c.holder-holder.ensures h (c.rules-2.ensures h stands))
    (sym c.is_wanted.ensures ∙ c.if-not-is_wanted.true)
