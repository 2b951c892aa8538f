use Rattle.publications.proofs.table.Publications.commit.Goals as goal

pub returns-in-Withdraw : goal.returns-in-Withdraw
returns-in-Withdraw c ps st after_ps after_st keeps is = c.withdraw.ensures ps st after_ps after_st keeps (rw c.in-Withdraw.is at is.leads)
