use Rattle.std.proofs.Common.{◌∷◌, refl}
use Rattle.publications.proofs.Following.{step_leads}
use Rattle.story_tables.proofs.Issued.{first_leads}
use Rattle.story_tables.proofs.follow.prepare_first.Goals as goal

pub returns-clause-change : goal.returns-clause-change
returns-clause-change c ps st p keeps first row_is targets_is number_is tells =
    step_leads c.prepare.result _ ps st (p ∷ ps) (p ∷ st) c.prepare.ensures.change
    (first_leads p c.args.row _ c.args.due.now ps st first row_is refl targets_is number_is c.in_ok-from_slice.ensures.items c.in_ok-from_slice-2.ensures.items tells)
