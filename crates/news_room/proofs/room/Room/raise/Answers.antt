use Rattle.std.proofs.Common.{◌≤◌, ◌<◌, ◌∙◌, false, Ok, Err, sym, ap, subst, arith}
use Rattle.news_types.specs.History.{moment, moment_at}
use Rattle.news_types.specs.Books.{followed_by}
use Rattle.news_types.specs.declared.entry.Act.TheVariants.{Receipt}
use Rattle.news_types.specs.Outcome.{Done, entry_of}
use Rattle.news_room.specs.Steps.{Puts, is_append_fault}
use Rattle.news_room.proofs.Rooms.{moment_later, moment_fits}
use Rattle.news_room.proofs.Going.{after_as}
use Rattle.news_room.proofs.Small.{put_at, place_is, not_raised}
use Rattle.news_room.proofs.room.Room.raise.Goals as goal

pub put-kept-requires-clause-fits : goal.put-kept-requires-clause-fits
put-kept-requires-clause-fits g c =
    let b = c.requires.stands.0 in
    let is = c.requires.stands.1 in
    record { moment = subst (λ m. m < 253402300800) (sym (c.moment_at.ensures b is)) (moment_fits b.list c.args.now is.kept.formed); act = tt }

pub returns-in-Ok : goal.returns-in-Ok
returns-in-Ok g c =
    let r = subst (λ r. Puts g.K.Keeper.keeper c.args.self.now c.put-kept.new.self 1073737728 (record { moment = c.moment_at.result; act = Receipt c.args.subscriber c.args.n }) r) c.in-Ok.is c.put-kept.ensures in (
      r.0,
      λ b is low within.
          let at = c.moment_at.ensures b is in
          let le = subst (λ m. moment b.list ≤ m) (sym at) (moment_later b.list c.args.now) in
          let a = put_at g.K.Keeper.keeper c.args.self.now c.put-kept.new.self b (Receipt c.args.subscriber c.args.n) 1073737728 c.moment_at.result (moment_at b.list c.args.now) r.0 false (Ok tt) at (r.1 b is (is.kept.legal, le, (low, within))) in
          let place = place_is r.0 b.list (entry_of (moment_at b.list c.args.now) (Receipt c.args.subscriber c.args.n)) _ (c.entries.ensures (followed_by r.0 b.list) a.stands.machine_for) a.did.whole.is in
          after_as g.K.Keeper.keeper c.args.self.now _ b _ r.0 _ _ _ a (ap (λ k. Done (record { entry = k; item = 0; publication = 0; release = 0 })) (sym place) ∙ ap (λ x. Done x) (sym c.reply_of.ensures), a.did),
    )

pub returns-in-Err : goal.returns-in-Err
returns-in-Err g c =
    let r = subst (λ r. Puts g.K.Keeper.keeper c.args.self.now c.put-kept.new.self 1073737728 (record { moment = c.moment_at.result; act = Receipt c.args.subscriber c.args.n }) r) c.in-Err.is c.put-kept.ensures in
    rw c.not_raised.ensures (
      r.0,
      λ b is low within.
          let at = c.moment_at.ensures b is in
          let le = subst (λ m. moment b.list ≤ m) (sym at) (moment_later b.list c.args.now) in
          let a = put_at g.K.Keeper.keeper c.args.self.now c.put-kept.new.self b (Receipt c.args.subscriber c.args.n) 1073737728 c.moment_at.result (moment_at b.list c.args.now) r.0 (is_append_fault {A = Unit {0}} (Err c.in-Err.fault)) (Err c.in-Err.fault) at (r.1 b is (is.kept.legal, le, (low, within))) in
          not_raised g.K.Keeper.keeper c.args.self.now c.put-kept.new.self b r.0 c.args.subscriber c.args.n c.args.now c.in-Err.fault a,
    )

pub put-kept-requires-clause-stands : goal.put-kept-requires-clause-stands
put-kept-requires-clause-stands g c = c.requires.stands

pub put-kept-requires-clause-small : goal.put-kept-requires-clause-small
put-kept-requires-clause-small g c = tt

pub put-kept-requires-clause-limit : goal.put-kept-requires-clause-limit
put-kept-requires-clause-limit g c = omega arith
