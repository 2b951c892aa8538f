use Rattle.std.proofs.Common.{◌∷◌, subst}
use Rattle.desk_rules.specs.Facts.{facts}
use Rattle.desk_rules.specs.Keeps.{Keeps}
use Rattle.desk_rules.specs.Steps.{leads}
use Rattle.desk_rules.proofs.Alike.{kept_alike, request_alike, ingest_alike}
use Rattle.desk_rules.proofs.table.Desks.commit.Goals as goal

pub returns-clause-request : goal.returns-clause-request
returns-clause-request c h e caller number command keeps is act =
    let behind = c.apply.ensures (facts h) keeps is.fits in
    kept_alike _ _ (facts (e ∷ h)) (request_alike h e caller number command act) (subst (λ s. Keeps c.apply.new.self (leads s (facts h))) is.step behind)

pub returns-clause-ingest : goal.returns-clause-ingest
returns-clause-ingest c h e name come place published keeps is act does =
    let behind = c.apply.ensures (facts h) keeps is.fits in
    kept_alike _ _ (facts (e ∷ h)) (ingest_alike h e name come place published act does) (subst (λ s. Keeps c.apply.new.self (leads s (facts h))) is.step behind)
