use Rattle.std.proofs.Common.{◌≡◌, sym, ap, ◌∙◌}
use Rattle.std.proofs.lemmas.Result.{IfOk-weaker}
use Rattle.news_types.specs.History.{History}
use Rattle.newsroom.specs.Stands.{StandsFor}
use Rattle.desk_questions.specs.declared.answer.DeskTold.{DeskTold}
use Rattle.desk_questions.specs.Told.{desk_told, items_told, things_told, reach_told, publications_told}
use Rattle.desk_questions.proofs.answer.answer_desk.Goals as goal

pub returns-in-Items : goal.returns-in-Items
returns-in-Items g c =
    IfOk-weaker c.tell_items.result
    (λ (told : DeskTold). (h : History) → StandsFor c.newsroom-newsroom.result.now h → told ≡ items_told h (record { desk = c.in-Items.desk; state = c.in-Items.state; user = c.in-Items.user }) c.in-Items.below)
    _
    (λ told says b stands. says b.list (c.newsroom-newsroom.ensures.stands_for b stands) ∙ sym (ap (desk_told b.list) c.in-Items.is))
    c.tell_items.ensures

pub returns-in-Reach : goal.returns-in-Reach
returns-in-Reach g c =
    IfOk-weaker c.tell_reach.result
    (λ (told : DeskTold). (h : History) → StandsFor c.newsroom-newsroom.result.now h → told ≡ reach_told h c.in-Reach.item c.as_slice.result.now)
    _
    (λ told says b stands. says b.list (c.newsroom-newsroom.ensures.stands_for b stands) ∙ ap (reach_told b.list c.in-Reach.item) c.as_slice.ensures ∙ sym (ap (desk_told b.list) c.in-Reach.is))
    c.tell_reach.ensures

pub returns-in-Things : goal.returns-in-Things
returns-in-Things g c =
    IfOk-weaker c.tell_things.result
    (λ (told : DeskTold). (h : History) → StandsFor c.newsroom-newsroom.result.now h → told ≡ things_told h c.in-Things.of c.in-Things.after)
    _
    (λ told says b stands. says b.list (c.newsroom-newsroom.ensures.stands_for b stands) ∙ sym (ap (desk_told b.list) c.in-Things.is))
    c.tell_things.ensures

pub returns-in-Publications : goal.returns-in-Publications
returns-in-Publications g c =
    IfOk-weaker c.tell_publications.result
    (λ (told : DeskTold). (h : History) → StandsFor c.newsroom-newsroom.result.now h → told ≡ publications_told h c.in-Publications.item c.in-Publications.after)
    _
    (λ told says b stands. says b.list (c.newsroom-newsroom.ensures.stands_for b stands) ∙ sym (ap (desk_told b.list) c.in-Publications.is))
    c.tell_publications.ensures
