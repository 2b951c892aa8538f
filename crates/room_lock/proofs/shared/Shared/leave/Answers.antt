use Rattle.room_lock.specs.Rules.{Since}
use Rattle.room_lock.specs.Views.{rank}
use Rattle.std.proofs.Common.{rules, ap, sym, subst, ◌∙◌}
use Rattle.room_lock.proofs.Keeps.{passes}
use Rattle.room_lock.proofs.shared.Shared.leave.Goals as goal

pub fetch_add-served-requires : goal.fetch_add-served-requires
fetch_add-served-requires g c = let e = c.exchange.ensures.3 in (
  search rules,
  search rules,
  passes (Since g.T.StandsFor.stands (g.T.StandsFor.stands c.args.self.now.table.shared.key.value)) _ _ c.exchange.new.seat.me c.args.room _ (search rules)
      (ap (λ m. m.1) e) (ap (λ m. rank m.0.stage) e ∙ c.requires.turn.0) (subst (λ m. Since g.T.StandsFor.stands (g.T.StandsFor.stands c.args.self.now.table.shared.key.value) c.args.room m.0.front) (sym e) c.requires.room),
)
