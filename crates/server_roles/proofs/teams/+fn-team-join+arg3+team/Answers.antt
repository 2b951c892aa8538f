use Rattle.std.proofs.Common.{subst, sym, ap, ◌≡◌, ◌∙◌, ◌++◌, ◌∷◌, [], append_assoc, append-nil}
use Rattle.std.specs.List.{AllZip}
use Rattle.server_roles.proofs.Zips.{zip_more, none_left}
use Rattle.server_roles.proofs.teams.+fn-team-join+arg3+team.Goals as goal

pub returns-clause-work : goal.returns-clause-work
returns-clause-work g t c =
    let r = c.join-mine.ensures.second.2 in
    let mine = c.join-mine.result.0 in
    let did = g.S.Crew.did c.args.crew.now in
    let whole : c.args.jobs.items ≡ c.pop.new.self.items ++ c.in-Some.job ∷ [] = c.in-Some.ensures.items in (
      r.0 ++ mine ∷ [],
      c.push_reserved.ensures.items ∙ (ap (λ xs. xs ++ mine ∷ []) r.1 ∙ append_assoc c.args.done.items r.0 (mine ∷ [])),
      subst (λ xs. AllZip did xs (r.0 ++ mine ∷ [])) (sym whole) (zip_more did c.pop.new.self.items r.0 c.in-Some.job mine r.2 c.join-mine.ensures.first),
    )

pub returns-in_default-clause-work : goal.returns-in_default-clause-work
returns-in_default-clause-work g t c =
    ([], sym (append-nil c.args.done.items), subst (λ xs. AllZip (g.S.Crew.did c.args.crew.now) xs []) (sym (none_left c.args.jobs.items (sym c.args.jobs.ok.0 ∙ c.in_default.ensures.cases.0))) tt)
