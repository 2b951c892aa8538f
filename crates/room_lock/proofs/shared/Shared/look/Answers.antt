use Rattle.std.proofs.Common.{rules}
use Rattle.room_lock.specs.Rules.{Since}
use Rattle.room_lock.proofs.Keeps.{looks}
use Rattle.room_lock.proofs.shared.Shared.look.Goals as goal

pub load-served-requires : goal.load-served-requires
load-served-requires g c = let stands = g.T.StandsFor.stands in let start = stands c.args.self.now.table.shared.key.value in (
  search rules,
  search rules,
  looks (Since stands start) (Since stands g.O.Opening.books)
      (λ room more s. record { all = λ h is. s.all h (c.requires.books.0 h is); witness = (s.witness.0, c.requires.books.1 s.witness.0 s.witness.1) })
      _ _ _ (search rules),
)
