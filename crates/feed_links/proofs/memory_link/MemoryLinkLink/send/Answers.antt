use Rattle.std.proofs.Common.{◌≡◌, Some, refl, sym, ◌∙◌, ap}
use Rattle.feed_links.specs.Receivers.{place}
use Rattle.feed_links.proofs.Moving.{comes, still_hold, none_comes}
use Rattle.feed_links.proofs.memory_link.MemoryLinkLink.send.Goals as goal

pub returns-in-Err-clause-still : goal.returns-in-Err-clause-still
returns-in-Err-clause-still g c = λ tells.
    let item = c.in-Some-get_mut.ensures.item in
    record { names = refl; held = none_comes g.K.Keeper.keeper c.args.self.now.receivers.items c.args.self.now.reply c.args.self.now.names c.in-Some.place c.in-Some-get_mut.receiver.now (item.3.1 _) }

pub returns-clause-step : goal.returns-clause-step
returns-clause-step g c = λ tells.
    let item = c.in-Some-get_mut.ensures.item in
    let here : place c.args.subscriber.now c.args.self.now.names ≡ Some c.in-Some.place = ap (place c.args.subscriber.now) (sym c.as_slice.ensures) ∙ sym c.in-Some.ensures in
    record {
      names = refl;
      held = comes g.K.Keeper.keeper c.args.self.now.names c.args.self.now.receivers.items c.args.self.now.reply c.args.subscriber.now c.args.frame.now c.in-Some.place c.in-Some-get_mut.receiver.now c.answer.new.receiver c.answer.result
          here item.3.0 (item.3.1 _) c.answer.ensures;
    }

pub returns-clause-told : goal.returns-clause-told
returns-clause-told g c =
    let item = c.in-Some-get_mut.ensures.item in
    let here : place c.args.subscriber.now c.args.self.now.names ≡ Some c.in-Some.place = ap (place c.args.subscriber.now) (sym c.as_slice.ensures) ∙ sym c.in-Some.ensures in
    still_hold g.K.Keeper.keeper c.args.self.now.names c.args.self.now.receivers.items c.args.subscriber.now c.args.frame.now c.in-Some.place c.in-Some-get_mut.receiver.now c.answer.new.receiver c.answer.result here item.3.0 (item.3.1 _) c.answer.ensures
