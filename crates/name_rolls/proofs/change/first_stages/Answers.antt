use Rattle.std.proofs.Common.{◌≡◌, [], ◌∷◌, ap, ◌∙◌}
use Rattle.news_types.specs.Desks.{incoming}
use Rattle.news_types.specs.Answers.{in_order}
use Rattle.name_rolls.proofs.change.first_stages.Goals as goal

pub returns : goal.returns
returns c =
    let none : c.reserve.new.self.names.items ≡ [] = c.in_ok-reserve.ensures.alike ∙ c.new-roll.ensures in
    let one : c.put.new.self.names.items ≡ in_order (c.working.result ∷ []) = c.put.ensures [] none in
    let two : c.put-2.new.self.names.items ≡ in_order (c.incoming.result ∷ c.working.result ∷ []) = c.put-2.ensures (c.working.result ∷ []) (c.in_ok-reserve-2.ensures.alike ∙ one) in
    two ∙ ap (λ s. in_order (s ∷ c.working.result ∷ [])) c.incoming.ensures ∙ ap (λ s. in_order (incoming ∷ s ∷ [])) c.working.ensures
