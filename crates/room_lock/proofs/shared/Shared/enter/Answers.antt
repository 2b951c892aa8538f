use Rattle.std.proofs.Common.{rules, Some, ap, sym, ◌∙◌, ◌∷◌}
use Rattle.atomic_table.specs.Table.{rest}
use Rattle.room_lock.proofs.shared.Shared.enter.Goals as goal

pub exchange-requires : goal.exchange-requires
exchange-requires g c = let t = c.look.ensures.served in let e = ap (λ m. m.1) t.2 in
    (search rules, (Some t.0, e ∙ ap (λ l. (0, Some t.0) ∷ rest l) (sym e)))
