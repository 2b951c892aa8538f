use Rattle.std.proofs.Common.{rules}
use Rattle.room_lock.specs.Rules.{Since}
use Rattle.room_lock.proofs.Keeps.{counts}
use Rattle.room_lock.proofs.shared.Shared.count.Goals as goal

pub fetch_add-requires : goal.fetch_add-requires
fetch_add-requires g c = let stands = g.T.StandsFor.stands in let t = c.requires.list in
    (c.requires.lock, search rules, counts (Since stands (stands c.args.self.now.table.shared.key.value)) _ _ c.args.seat.now.me g.F.Finding.holds _ _ c.args.added t.0 c.requires.turn t.1 t.2 t.3 t.4)
