use Rattle.news_types.specs.Books.{Book}
use Rattle.news_room.specs.Stands.{Stands}
use Rattle.package_rules.specs.Opening.{Walk}
use Rattle.package_rules.specs.Walking.{IsAt}
use Rattle.package_rules.proofs.Walking.{Opened}
use Rattle.package_rules.proofs.walk.+open_publication.Given as goal

abbrev pub decreases-open_publication : goal.decreases-open_publication
decreases-open_publication g l = l.levels

-- the members that are left go on from these steps to all that the publication opens
abbrev pub invariant-loop-member : goal.invariant-loop-member
invariant-loop-member g l = (b : Book) (w : Walk) → Stands g.K.Keeper.keeper l.room b → IsAt l.fn.steps w → Opened b.list l.levels l.depth l.number w l.member-items l.member-index l.steps
