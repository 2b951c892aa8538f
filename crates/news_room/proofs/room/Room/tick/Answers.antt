use Rattle.std.proofs.Common.{◌≤◌, ◌<◌, ◌∙◌, Bool, true, false, Ok, Err, sym, subst}
use Rattle.news_types.specs.History.{moment, moment_at}
use Rattle.news_types.specs.Books.{followed_by}
use Rattle.news_types.specs.declared.entry.Act.TheVariants.{Advance}
use Rattle.news_types.specs.Outcome.{entry_of}
use Rattle.news_room.specs.Steps.{is_append_fault, ticked_by}
use Rattle.news_room.specs.declared.answers.Ticked.{Ticked}
use Rattle.news_room.proofs.Going.{after_as}
use Rattle.news_room.proofs.Events.{ticked}
use Rattle.news_room.proofs.Rooms.{moment_later, moment_fits}
use Rattle.news_room.proofs.Small.{release_at, place_is, ticks_one, not_ticked}
use Rattle.news_room.proofs.room.Room.tick.Goals as goal

pub release-requires-clause-stands : goal.release-requires-clause-stands
release-requires-clause-stands g c =
    let b = c.requires.stands.0 in
    let is = c.requires.stands.1 in
    (b, (is, subst (λ m. moment b.list ≤ m) (sym (c.moment_at-moment.ensures b is)) (moment_later b.list c.args.now)))

pub release-requires-clause-early : goal.release-requires-clause-early
release-requires-clause-early g c =
    let b = c.requires.stands.0 in
    let is = c.requires.stands.1 in
    subst (λ m. m < 253402300800) (sym (c.moment_at-moment.ensures b is)) (moment_fits b.list c.args.now is.kept.formed)

pub returns-in-Ok-true : goal.returns-in-Ok-true
returns-in-Ok-true g c =
    let r = rw c.in-Ok-true.field-0-test at c.in-Ok-true.ensures in (
      r.0,
      λ b is.
          let at = c.moment_at-moment.ensures b is in
          let le = subst (λ m. moment b.list ≤ m) (sym at) (moment_later b.list c.args.now) in
          let a = release_at g.K.Keeper.keeper c.args.self.now c.release.new.self b c.moment_at-moment.result (moment_at b.list c.args.now) r.0 false (Ok true) at (r.1 b is le) in
          let place = place_is r.0 b.list (entry_of (moment_at b.list c.args.now) Advance) _ (c.entries.ensures (followed_by r.0 b.list) a.stands.machine_for) (a.did.1.whole.is ∙ ticks_one b.list (moment_at b.list c.args.now) a.did.0) in
          ticked g.K.Keeper.keeper c.args.self.now c.release.new.self b c.args.now r.0 (Ticked.Kept c.entries.result) (after_as g.K.Keeper.keeper c.args.self.now c.release.new.self b _ r.0 _ _ _ a (a.did.0, place, a.did.1)),
    )

pub returns-in-Ok-false : goal.returns-in-Ok-false
returns-in-Ok-false g c =
    let r = rw c.in-Ok-false.field-0-test at c.in-Ok-false.ensures in (
      r.0,
      λ b is.
          let at = c.moment_at-moment.ensures b is in
          let le = subst (λ m. moment b.list ≤ m) (sym at) (moment_later b.list c.args.now) in
          let a = release_at g.K.Keeper.keeper c.args.self.now c.release.new.self b c.moment_at-moment.result (moment_at b.list c.args.now) r.0 false (Ok false) at (r.1 b is le) in
          ticked g.K.Keeper.keeper c.args.self.now c.release.new.self b c.args.now r.0 Ticked.Still (after_as g.K.Keeper.keeper c.args.self.now c.release.new.self b _ r.0 _ _ _ a a.did),
    )

pub returns-in-Err : goal.returns-in-Err
returns-in-Err g c =
    let r = c.in-Err.ensures in
    rw c.not_ticked.ensures (
      r.0,
      λ b is.
          let at = c.moment_at-moment.ensures b is in
          let le = subst (λ m. moment b.list ≤ m) (sym at) (moment_later b.list c.args.now) in
          let a = release_at g.K.Keeper.keeper c.args.self.now c.release.new.self b c.moment_at-moment.result (moment_at b.list c.args.now) r.0 (is_append_fault {A = Bool} (Err c.in-Err.fault)) (Err c.in-Err.fault) at (r.1 b is le) in
          ticked g.K.Keeper.keeper c.args.self.now c.release.new.self b c.args.now r.0 (ticked_by c.in-Err.fault) (not_ticked g.K.Keeper.keeper c.args.self.now c.release.new.self b r.0 c.args.now c.in-Err.fault a),
    )
