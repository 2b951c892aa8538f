use Rattle.std.proofs.Common.{◌≤◌, ◌<◌, false, Ok, Err, sym, subst, arith}
use Rattle.news_types.specs.History.{moment, moment_at}
use Rattle.news_types.specs.Books.{followed_by}
use Rattle.news_types.specs.declared.entry.Act.TheVariants.{Halt}
use Rattle.news_types.specs.Outcome.{entry_of}
use Rattle.news_room.specs.Steps.{Puts, is_append_fault, ticked_by}
use Rattle.news_room.specs.declared.answers.Ticked.{Ticked}
use Rattle.news_room.proofs.Going.{after_as}
use Rattle.news_room.proofs.Events.{halted}
use Rattle.news_room.proofs.Rooms.{moment_later, moment_fits}
use Rattle.news_room.proofs.Small.{put_at, place_is, not_halted}
use Rattle.news_room.proofs.room.Room.halt.Goals as goal

pub put-kept-requires-clause-fits : goal.put-kept-requires-clause-fits
put-kept-requires-clause-fits g c =
    let b = c.requires.stands.0 in
    let is = c.requires.stands.1 in
    record { moment = subst (λ m. m < 253402300800) (sym (c.moment_at.ensures b is)) (moment_fits b.list c.args.now is.kept.formed); act = tt }

pub returns-in-Ok : goal.returns-in-Ok
returns-in-Ok g c =
    let r = subst (λ r. Puts g.K.Keeper.keeper c.args.self.now c.put-kept.new.self 1073741824 (record { moment = c.moment_at.result; act = Halt }) r) c.in-Ok.is c.put-kept.ensures in (
      r.0,
      λ b is.
          let at = c.moment_at.ensures b is in
          let le = subst (λ m. moment b.list ≤ m) (sym at) (moment_later b.list c.args.now) in
          let a = put_at g.K.Keeper.keeper c.args.self.now c.put-kept.new.self b Halt 1073741824 c.moment_at.result (moment_at b.list c.args.now) r.0 false (Ok tt) at (r.1 b is (is.kept.legal, le, tt)) in
          let place = place_is r.0 b.list (entry_of (moment_at b.list c.args.now) Halt) _ (c.entries.ensures (followed_by r.0 b.list) a.stands.machine_for) a.did.whole.is in
          halted g.K.Keeper.keeper c.args.self.now c.put-kept.new.self b c.args.now r.0 (Ticked.Kept c.entries.result) (after_as g.K.Keeper.keeper c.args.self.now c.put-kept.new.self b _ r.0 _ _ _ a (place, a.did)),
    )

pub returns-in-Err : goal.returns-in-Err
returns-in-Err g c =
    let r = subst (λ r. Puts g.K.Keeper.keeper c.args.self.now c.put-kept.new.self 1073741824 (record { moment = c.moment_at.result; act = Halt }) r) c.in-Err.is c.put-kept.ensures in
    rw c.not_ticked.ensures (
      r.0,
      λ b is.
          let at = c.moment_at.ensures b is in
          let le = subst (λ m. moment b.list ≤ m) (sym at) (moment_later b.list c.args.now) in
          let a = put_at g.K.Keeper.keeper c.args.self.now c.put-kept.new.self b Halt 1073741824 c.moment_at.result (moment_at b.list c.args.now) r.0 (is_append_fault {A = Unit {0}} (Err c.in-Err.fault)) (Err c.in-Err.fault) at (r.1 b is (is.kept.legal, le, tt)) in
          halted g.K.Keeper.keeper c.args.self.now c.put-kept.new.self b c.args.now r.0 (ticked_by c.in-Err.fault) (not_halted g.K.Keeper.keeper c.args.self.now c.put-kept.new.self b r.0 c.args.now c.in-Err.fault a),
    )

pub put-kept-requires-clause-stands : goal.put-kept-requires-clause-stands
put-kept-requires-clause-stands g c = c.requires.stands

pub put-kept-requires-clause-small : goal.put-kept-requires-clause-small
put-kept-requires-clause-small g c = tt

pub put-kept-requires-clause-limit : goal.put-kept-requires-clause-limit
put-kept-requires-clause-limit g c = omega arith
