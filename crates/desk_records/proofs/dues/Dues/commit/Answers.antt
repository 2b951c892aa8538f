use Rattle.std.proofs.Common.{ℕ, List, sym, subst}
use Rattle.desk_records.specs.DueSteps.{TakesBack}
use Rattle.desk_records.proofs.dues.Dues.commit.Goals as goal

pub returns-in-Add : goal.returns-in-Add
returns-in-Add c h g keeps is = c.add.ensures h g keeps (rw c.in-Add.is at is.leads)

pub returns-in-Publish : goal.returns-in-Publish
returns-in-Publish c h g keeps is = let leads = rw c.in-Publish.is at is.leads in c.publish.ensures h g leads.0 keeps leads.1 leads.2

pub returns-in-TakeBack : goal.returns-in-TakeBack
returns-in-TakeBack c h g keeps is =
    let leads = rw c.in-TakeBack.is at is.leads in
    c.take_back.ensures h g leads.0 keeps leads.1 (subst (λ (ns : List ℕ). TakesBack leads.0 ns c.in-TakeBack.moment h g) (sym c.deref.ensures.value) leads.2)
