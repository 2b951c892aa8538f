-- Tokens behind tokens.
use Rattle.std.specs.Prelude.{◌≡◌, List, [], ◌∷◌, ◌++◌}
use Rattle.std.proofs.Common.{refl, ap, ◌∙◌}
use Rattle.std.proofs.lemmas.List.{append_assoc}

pub then : {A : Type 0} (old ts us new new' : List A) → new ≡ old ++ ts → new' ≡ new ++ us → new' ≡ old ++ (ts ++ us)
then old ts us new new' e f = f ∙ ap (λ l. l ++ us) e ∙ append_assoc old ts us
