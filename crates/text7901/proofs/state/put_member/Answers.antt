use Rattle.text7901.specs.Limits.{FitsFound}
use Rattle.text7901.proofs.Sizes.{all_more}
use Rattle.text7901.proofs.state.put_member.Goals as goal

pub returns-clause-fits : goal.returns-clause-fits
returns-clause-fits c =
    all_more FitsFound c.args.made.now.items c.push_back.new.self.items c.in_ok-found_at.field-0 c.requires.fits c.in_ok-found_at.ensures.fits c.in_ok-push_back.ensures.items
