use Rattle.std.proofs.Common.{◌≡◌, Option, Some, None, [], ◌∷◌, ◌++◌, sym, ap, ◌∙◌, map, append-nil}
use Rattle.std.specs.Prelude.{option_map}
use Rattle.std.specs.Option.{option_to_list}
use Rattle.std.proofs.lemmas.List.{map-append}
use Rattle.told_objects.specs.Seen.{seen}
use Rattle.desk_views.specs.Publications.{Destined}
use Rattle.desk_questions.specs.Publications.{destined_in, destined_row, destiny}
use Rattle.desk_questions.proofs.published.add_due.Goals as goal

pub returns : goal.returns
returns c = λ h stands.
    let found = c.in-Some.found in
    let is : Some (destined_in found) ≡ destiny h c.args.number c.args.subscriber.now = sym (ap (option_map destined_in) c.in-Some.is) ∙ c.destiny.ensures h stands in
    let row = c.in_ok-destined_object.field-0 in
    ap (map seen) c.in_ok-push.ensures.items
    ∙ map-append seen c.args.rows.now.items (row ∷ [])
    ∙ ap (λ m. map seen c.args.rows.now.items ++ m ∷ []) c.in_ok-destined_object.ensures
    ∙ ap (λ (o : Option Destined). map seen c.args.rows.now.items ++ map destined_row (option_to_list o)) is

pub returns-in_default : goal.returns-in_default
returns-in_default c = λ h stands.
    let before = map seen c.args.rows.now.items in
    let is : None ≡ destiny h c.args.number c.args.subscriber.now = sym (ap (option_map destined_in) c.in_default.is) ∙ c.destiny.ensures h stands in
    sym (ap (λ (o : Option Destined). before ++ map destined_row (option_to_list o)) (sym is) ∙ append-nil before)
