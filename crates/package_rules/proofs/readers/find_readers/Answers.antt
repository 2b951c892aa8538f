use Rattle.std.proofs.Common.{◌∙◌, ap}
use Rattle.std.specs.List.{filter}
use Rattle.std.proofs.lemmas.Result.{IfOk-weaker}
use Rattle.package_rules.specs.Finding.{names_of}
use Rattle.package_rules.specs.Readers.{has_all}
use Rattle.package_rules.proofs.Finding.{few_names}
use Rattle.package_rules.proofs.readers.find_readers.Goals as goal

pub returns-clause-few : goal.returns-clause-few
returns-clause-few g c =
    let b = c.requires.0 in
    let stands = c.requires.1 in
    IfOk-weaker c.having_every.result _ _
    (λ names is.
    few_names b.list c.args.members.now names stands.kept.legal
    (is b stands ∙ ap (filter (has_all b.list c.args.members.now)) (ap names_of c.as_slice.ensures ∙ c.in_ok-rows.ensures b stands)))
    c.having_every.ensures
