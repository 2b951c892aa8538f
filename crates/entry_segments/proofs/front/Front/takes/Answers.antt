use Rattle.std.proofs.Common.{refl, sym}
use Rattle.entry_segments.proofs.Fronts.{size_is, with_entry, no_room, front_same, front_more}
use Rattle.entry_segments.proofs.front.Front.takes.Goals as goal

pub returns-in-None-clause-front : goal.returns-in-None-clause-front
returns-in-None-clause-front c = front_same c.args.self.now _ c.requires.front (rw c.in-None.is at c.in_ok-admit.ensures).1 refl refl

pub returns-in-None-clause-goes_in : goal.returns-in-None-clause-goes_in
returns-in-None-clause-goes_in c = λ e same h.
    let s = size_is c.args.self.now c.args.told.now e c.args.moment c.varint_len.result c.told_len.result _ refl c.varint_len.ensures.len c.told_len.ensures same in
    (no_room c.args.self.now e c.args.told.now _ _ h s (rw c.in-None.is at c.in_ok-admit.ensures), refl, (rw c.in-None.is at c.in_ok-admit.ensures).1)

pub returns-in-Some-clause-front : goal.returns-in-Some-clause-front
returns-in-Some-clause-front c = front_more _ c.args.told.now c.args.self.now.names.items c.admit.new.names.items _ c.in-Some.named c.requires.front.up (rw c.in-Some.is at c.in_ok-admit.ensures) refl refl refl

pub returns-in-Some-clause-goes_in : goal.returns-in-Some-clause-goes_in
returns-in-Some-clause-goes_in c = λ e same h.
    let s = size_is c.args.self.now c.args.told.now e c.args.moment c.varint_len.result c.told_len.result _ refl c.varint_len.ensures.len c.told_len.ensures same in
    with_entry c.args.self.now _ e c.args.told.now _ c.in-Some.named h s (rw c.in-Some.is at c.in_ok-admit.ensures) refl refl (sym same)
