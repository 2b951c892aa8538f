use Rattle.std.proofs.Common.{subst, sym, ◌≡◌, ◌++◌, ◌∷◌, [], List, All}
use mathlib.Core.List.{IsPrefix}
use Rattle.std.specs.List.{AllPairs}
use Rattle.std.proofs.lemmas.List.Elements.{All-push, All-weaker}
use Rattle.std.proofs.lemmas.List.Quantifiers.{all_pairs_push}
use Rattle.room_lock.specs.Calls.{AllClear}
use Rattle.room_lock.specs.Locks.{front, calls}
use Rattle.room_lock.proofs.Calls.{clear_of_merged}
use Rattle.room_lock.proofs.Fronts.{prefix_trans}
use Rattle.server_roles.specs.declared.job.JobDone.{JobDone}
use Rattle.server_roles.proofs.parts.+part.Goals as goal

pub returns-clause-front : goal.returns-clause-front
returns-clause-front g t c =
    let J : Type 0 = JobDone g.row.C.Denot g.row.L.Denot in
    let rest = c.pop.new.self.items in
    let job = c.in-Some.job in
    let whole : c.args.jobs.items ≡ rest ++ job ∷ [] = c.in-Some.ensures.items in
    let mid = front c.part-whole.result.0 in
    let end = front c.join.result in
    let P : J → Type 0 = λ j. IsPrefix (front j.pass) end in
    let f = c.part-whole.ensures.front in
    let k = c.join.ensures.front in (
      prefix_trans (front c.args.pass) mid end f.0 k.1,
      subst (λ xs. All P xs) (sym whole) (All-push P rest job (All-weaker (λ (j : J). IsPrefix (front j.pass) mid) P (λ j p. prefix_trans (front j.pass) mid end p k.1) rest f.1) k.2),
    )

pub returns-clause-apart : goal.returns-clause-apart
returns-clause-apart g t c =
    let J : Type 0 = JobDone g.row.C.Denot g.row.L.Denot in
    let rest = c.pop.new.self.items in
    let job = c.in-Some.job in
    let whole : c.args.jobs.items ≡ rest ++ job ∷ [] = c.in-Some.ensures.items in
    let P : J → Type 0 = λ j. AllClear (calls c.args.pass) (calls j.pass) in
    let a = c.part-whole.ensures.apart in
    let k = c.part-whole.ensures.clear (calls job.pass) c.join.ensures.calls.1 in (
      subst (λ xs. All P xs) (sym whole) (All-push P rest job a.0 k.0),
      subst (λ (xs : List J). AllPairs (λ i j. AllClear (calls i.pass) (calls j.pass)) xs) (sym whole) (all_pairs_push (λ (i j : J). AllClear (calls i.pass) (calls j.pass)) rest job a.1 k.1),
    )

pub returns-clause-clear : goal.returns-clause-clear
returns-clause-clear g t c ds all =
    let J : Type 0 = JobDone g.row.C.Denot g.row.L.Denot in
    let rest = c.pop.new.self.items in
    let job = c.in-Some.job in
    let whole : c.args.jobs.items ≡ rest ++ job ∷ [] = c.in-Some.ensures.items in
    let P : J → Type 0 = λ j. AllClear (calls j.pass) ds in
    let both = clear_of_merged (calls c.part-whole.result.0) (calls job.pass) ds (subst (λ cs. AllClear cs ds) c.join.ensures.calls.0 all) in
    let k = c.part-whole.ensures.clear ds both.0 in (
      k.0,
      subst (λ xs. All P xs) (sym whole) (All-push P rest job k.1 both.1),
    )
