use Rattle.std.proofs.Common.{[], refl, ap, subst, ◌∙◌, arith}
use Rattle.news_types.specs.Names.{Bytes}
use Rattle.news_types.specs.Books.{followed_by}
use Rattle.news_types.specs.declared.entry.Act.TheVariants.{Attempt}
use Rattle.news_types.specs.Outcome.{entry_of}
use Rattle.news_types.specs.Frames.{frame_bytes_at}
use Rattle.feed_frames.specs.Writer.{the_writer}
use Rattle.news_room.specs.Steps.{Puts}
use Rattle.news_room.proofs.Steps.{nothing_given}
use Rattle.news_room.proofs.Appends.{after_none}
use Rattle.news_room.proofs.Small.{place_is}
use Rattle.news_room.proofs.Chosen.{chosen_ready, chosen_there}
use Rattle.news_room.proofs.Claims.{sent, not_sent}
use Rattle.news_room.proofs.room.Room.send.Goals as goal

pub frame-requires : goal.frame-requires
frame-requires g c =
    let b = c.requires.chosen.0 in
    let names = c.requires.chosen.1 in
    let is = c.requires.chosen.2.0 in
    let there = chosen_there b.list names c.args.moment c.args.subscriber c.args.k c.requires.chosen.2.1 in
    (b.list, (is.machine_for, there.0, omega (arith, there.1), omega (arith, there.1, there.2)))

pub put-kept-requires-clause-stands : goal.put-kept-requires-clause-stands
put-kept-requires-clause-stands g c = (c.requires.chosen.0, c.requires.chosen.2.0)

pub put-kept-requires-clause-fits : goal.put-kept-requires-clause-fits
put-kept-requires-clause-fits g c = record { moment = c.requires.early; act = tt }

pub put-kept-requires-clause-small : goal.put-kept-requires-clause-small
put-kept-requires-clause-small g c = tt

pub put-kept-requires-clause-limit : goal.put-kept-requires-clause-limit
put-kept-requires-clause-limit g c = omega arith

pub returns-in_default : goal.returns-in_default
returns-in_default g c = ([], λ b names is le chosen. after_none g.K.Keeper.keeper c.args.self.now _ b _ _ refl is refl is.machine_for (nothing_given _ _ _ refl refl refl))

pub returns-in-Ok-kept : goal.returns-in-Ok-kept
returns-in-Ok-kept g c =
    let m = c.args.moment in
    let s = c.args.subscriber in
    let k = c.args.k in
    let r = subst (λ r. Puts g.K.Keeper.keeper c.args.self.now c.put-kept.new.self 1073737728 (record { moment = m; act = Attempt s k }) r) c.in-Ok-kept.is c.put-kept.ensures in (
      r.0,
      λ b names is le chosen.
          let a = r.1 b is (is.kept.legal, le, chosen_ready b.list names m s k chosen) in
          let place = place_is r.0 b.list (entry_of m (Attempt s k)) _ (c.entries.ensures (followed_by r.0 b.list) a.stands.machine_for) a.did.whole.is in
          let bytes = c.in-Ok.ensures b.list is.machine_for ∙ ap (λ (u : Bytes). frame_bytes_at (the_writer u) b.list s k) is.store_is in
          sent g.K.Keeper.keeper c.args.self.now c.put-kept.new.self b names m s k chosen _ _ r.0 bytes place a,
    )

pub returns-in-Err : goal.returns-in-Err
returns-in-Err g c =
    let m = c.args.moment in
    let s = c.args.subscriber in
    let k = c.args.k in
    let r = subst (λ r. Puts g.K.Keeper.keeper c.args.self.now c.put-kept.new.self 1073737728 (record { moment = m; act = Attempt s k }) r) c.in-Err.is c.put-kept.ensures in
    rw c.not_claimed.ensures (
      r.0,
      λ b names is le chosen. not_sent g.K.Keeper.keeper c.args.self.now c.put-kept.new.self b names m s k chosen r.0 c.in-Err.fault (r.1 b is (is.kept.legal, le, chosen_ready b.list names m s k chosen)),
    )
