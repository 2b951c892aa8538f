use Rattle.std.proofs.Common.{Option, ap, sym, ◌∙◌, subst}
use Rattle.room_lock.specs.declared.pass.Pass.{Pass}
use Rattle.room_lock.specs.Locks.{front, calls, id_of, start_of}
use Rattle.news_room.specs.Stands.{Stands}
use Rattle.shared_connections.specs.Passes.{front_in, calls_in, HasPass}
use Rattle.shared_connections.specs.Connections.{ServedInTurns}
use Rattle.shared_connections.proofs.InTurns.{turns_same, served_in_turns}
use Rattle.shared_connections.proofs.connection.serve_connection.Goals as goal

pub returns-clause-lock : goal.returns-clause-lock
returns-clause-lock g c =
    let served = c.serve-ended.ensures.served in
    let same = turns_same g.K.Keeper.keeper (λ t. t.shared.now) (λ t. t.pass) _ c.serve-ended.new.room served.exchanges served.turns in
    subst (λ (p : Option Pass). HasPass c.serve-ended.new.room.shared.now p) c.unwrap.ensures c.serve-ended.ensures.ready ∙ (ap id_of same ∙ sym c.requires.lock)

pub returns-clause-served : goal.returns-clause-served
returns-clause-served g c =
    subst
    (λ (p : Option Pass). ServedInTurns (Stands g.K.Keeper.keeper (start_of c.args.shared.now)) g.C.Clock.clock g.S.Source.source g.O.Sink.sink (front c.args.pass) (calls c.args.pass) (front_in p) (calls_in p) c.args.clock.now c.serve-ended.new.clock c.args.source.now c.serve-ended.new.source c.args.sink.now c.serve-ended.new.sink c.serve-ended.result)
    c.unwrap.ensures
    (served_in_turns g.K.Keeper.keeper (λ t. t.shared.now) (λ t. t.pass) g.C.Clock.clock g.S.Source.source g.O.Sink.sink _ c.serve-ended.new.room c.args.clock.now c.serve-ended.new.clock c.args.source.now c.serve-ended.new.source c.args.sink.now c.serve-ended.new.sink c.serve-ended.result c.serve-ended.ensures.served)
