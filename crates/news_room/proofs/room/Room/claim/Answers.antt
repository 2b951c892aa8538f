use Rattle.std.proofs.Common.{◌≤◌, ◌<◌, ◌++◌, Bool, Err, sym, subst}
use Rattle.news_types.specs.History.{moment, moment_at}
use Rattle.news_types.specs.Books.{onto}
use Rattle.news_room.specs.Steps.{is_append_fault}
use Rattle.news_room.proofs.Rooms.{moment_later, moment_fits}
use Rattle.news_room.proofs.Small.{release_at}
use Rattle.news_room.proofs.Claims.{ticks_at, behind_tick, behind_moment, attempt_at}
use Rattle.news_room.proofs.ClaimEvents.{happens_then, happens_cut}
use Rattle.news_room.proofs.room.Room.claim.Goals as goal

pub release-requires-clause-stands : goal.release-requires-clause-stands
release-requires-clause-stands g c =
    let b = c.requires.stands.0 in
    let is = c.requires.stands.1 in
    (b, (is, subst (λ m. moment b.list ≤ m) (sym (c.moment_at-moment.ensures b is)) (moment_later b.list c.args.now)))

pub release-requires-clause-early : goal.release-requires-clause-early
release-requires-clause-early g c =
    let b = c.requires.stands.0 in
    let is = c.requires.stands.1 in
    subst (λ m. m < 253402300800) (sym (c.moment_at-moment.ensures b is)) (moment_fits b.list c.args.now is.kept.formed)

pub attempt-requires-clause-stands : goal.attempt-requires-clause-stands
attempt-requires-clause-stands g c =
    let b = c.requires.stands.0 in
    let is = c.requires.stands.1 in
    let r = c.in-Ok.ensures in
    let le = subst (λ m. moment b.list ≤ m) (sym (c.moment_at-moment.ensures b is)) (moment_later b.list c.args.now) in
    let a = r.1 b is le in
    (onto r.0 b, (a.stands, behind_moment b.list c.moment_at-moment.result r.0 a.did.1.whole.is le))

pub attempt-requires-clause-early : goal.attempt-requires-clause-early
attempt-requires-clause-early g c =
    let b = c.requires.stands.0 in
    let is = c.requires.stands.1 in
    subst (λ m. m < 253402300800) (sym (c.moment_at-moment.ensures b is)) (moment_fits b.list c.args.now is.kept.formed)

pub returns-in-Ok : goal.returns-in-Ok
returns-in-Ok g c =
    let r = c.in-Ok.ensures in
    let q = c.attempt.ensures in (
      r.0 ++ q.0,
      λ b is.
          let m = moment_at b.list c.args.now in
          let at = c.moment_at-moment.ensures b is in
          let le = subst (λ m. moment b.list ≤ m) (sym at) (moment_later b.list c.args.now) in
          let early = r.1 b is le in
          let one = ticks_at g.K.Keeper.keeper c.args.self.now c.release.new.self b c.moment_at-moment.result m r.0 _ at early in
          let late = q.1 (onto r.0 b) early.stands (behind_moment b.list c.moment_at-moment.result r.0 early.did.1.whole.is le) in
          let two = attempt_at g.K.Keeper.keeper c.release.new.self _ (onto r.0 b) _ _ c.args.names.now c.moment_at-moment.result m q.0 c.attempt.result (behind_tick b.list m r.0 one.did.whole.is) at late in
          happens_then g.K.Keeper.keeper c.args.names.now c.args.now c.args.self.now c.release.new.self _ b r.0 q.0 c.attempt.result one two,
    )

pub returns-in-Err : goal.returns-in-Err
returns-in-Err g c =
    let r = c.in-Err.ensures in
    rw c.not_claimed.ensures (
      r.0,
      λ b is.
          let at = c.moment_at-moment.ensures b is in
          let le = subst (λ m. moment b.list ≤ m) (sym at) (moment_later b.list c.args.now) in
          let a = release_at g.K.Keeper.keeper c.args.self.now c.release.new.self b c.moment_at-moment.result (moment_at b.list c.args.now) r.0 (is_append_fault {A = Bool} (Err c.in-Err.fault)) (Err c.in-Err.fault) at (r.1 b is le) in
          happens_cut g.K.Keeper.keeper c.args.names.now c.args.now c.args.self.now c.release.new.self b r.0 c.in-Err.fault a,
    )
