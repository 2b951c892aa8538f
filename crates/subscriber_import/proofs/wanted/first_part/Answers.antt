use Rattle.std.proofs.Common.{◌∙◌, ◌+◌, ◌∷◌, ℕ, List, take, ap, sym}
use Rattle.std.proofs.lemmas.List.{take_rest}
use Rattle.subscriber_import.specs.Fields.{parts_of}
use Rattle.subscriber_import.proofs.Parts.{front_part, only_part}
use Rattle.subscriber_import.proofs.wanted.first_part.Goals as goal

pub returns-in-Some-clause-parts : goal.returns-in-Some-clause-parts
returns-in-Some-clause-parts c =
    front_part c.args.field.now c.in-Some.end (sym c.in-Some.ensures.place)
    ∙ ap (λ (l : List ℕ). take c.in-Some.end c.args.field.now ∷ parts_of l) (sym (take_rest c.args.field.now (c.in-Some.end + 1)))

pub returns-in-None-clause-parts : goal.returns-in-None-clause-parts
returns-in-None-clause-parts c = only_part c.args.field.now (sym c.in-None.ensures.place)
