use Rattle.std.proofs.Common.{refl, subst, sym, ap, ◌∙◌, ◌++◌, ◌∷◌, [], ℕ, length, length-append, arith}
use mathlib.Core.List.{IsPrefix}
use Rattle.news_types.specs.Books.{Book, onto}
use Rattle.news_types.proofs.Books.{onto_more, behind_length}
use Rattle.room_lock.specs.Calls.{InOrder}
use Rattle.room_lock.specs.Views.{call}
use Rattle.room_lock.specs.Passes.{at}
use Rattle.room_lock.specs.Locks.{front as seen}
use Rattle.room_lock.proofs.Fronts.{prefix_trans, prefix_length}
use Rattle.room_lock.proofs.Turns.{turn_told, turn_lent}
use Rattle.room_lock.proofs.shared.Shared.with_turn.Goals as goal

pub turn-requires : goal.turn-requires
turn-requires g c = let e = c.enter-seat.ensures.room.0 in record { stands = (onto c.enter-seat.result.0.me.0.front e.witness.0, e.all e.witness.0 e.witness.1) }

pub overflow_sub-to : goal.overflow_sub-to
overflow_sub-to g c =
    let front = c.enter-seat.result.0.me.0.front in
    let e = c.enter-seat.ensures.room.0 in
    let t = c.turn.ensures in
    let b = e.witness.0 in
    let from = c.count-from.ensures (onto front b) (e.all b e.witness.1) in
    let to = c.count-to.ensures (onto t.0 (onto front b)) (t.1 (onto front b) (e.all b e.witness.1)).0 in
    let longer = behind_length t.0 (onto front b).list in
    omega (arith, from, to, longer)

-- the history is longer by what the work added
pub count-requires-clause-list : goal.count-requires-clause-list
count-requires-clause-list g c =
    let stands = g.T.StandsFor.stands in
    let room = c.enter-seat.result.1 in
    let front = c.enter-seat.result.0.me.0.front in
    let e = c.enter-seat.ensures.room.0 in
    let t = c.turn.ensures in
    let more = t.0 in
    let b = e.witness.0 in
    let from = c.count-from.ensures (onto front b) (e.all b e.witness.1) in
    let to = c.count-to.ensures (onto more (onto front b)) (t.1 (onto front b) (e.all b e.witness.1)).0 in
    let l₁ = behind_length front b.list in let l₂ = behind_length more (onto front b).list in let l₃ = length-append front more in
    let small = c.count-to.auto in (
      front ++ more,
      (
        (more, refl),
        record { all = λ h is. subst (stands c.turn.new.room) (onto_more front more h) (t.1 (onto front h) (e.all h is)).0; witness = e.witness },
        λ h is.
            let found = at (onto front h) (g.T.StandsFor.faults room) (g.T.StandsFor.used room) in
            let left = λ (l : Book). at l (g.T.StandsFor.faults c.turn.new.room) (g.T.StandsFor.used c.turn.new.room) in
            subst (λ r. g.W.Work.does c.of-began.result.value (at (onto front h) (g.T.StandsFor.faults r) (g.T.StandsFor.used r)) c.turn.new.self (left (onto (front ++ more) h))) (sym c.of-found.ensures)
            (subst (λ w. g.W.Work.does w found c.turn.new.self (left (onto (front ++ more) h))) (sym c.of-began.ensures)
            (subst (λ l. g.W.Work.does c.args.work.now found c.turn.new.self (left l)) (onto_more front more h) (t.1 (onto front h) (e.all h is)).1)),
      ),
      (more, refl),
      omega arith,
      omega arith,
    )

pub returns-clause-order : goal.returns-clause-order
returns-clause-order g c =
    let k = c.count.ensures.list in
    let is = c.leave.ensures.pass.0 ∙ ap (λ m. m.0.front) k.2 in
    subst (λ cs. InOrder 0 cs (length (seen c.leave.result))) (sym c.leave.ensures.pass.1)
    (subst (λ l. InOrder 0 c.count.new.seat.me.0.calls (length l)) (sym is) k.3)

pub returns-clause-turn : goal.returns-clause-turn
returns-clause-turn g c =
    let k = c.count.ensures.list in
    let front = c.enter-seat.result.0.me.0.front in
    let b : ℕ × ℕ = (g.T.StandsFor.faults c.of-found.result.value, g.T.StandsFor.used c.of-found.result.value) in
    let a : ℕ × ℕ = (g.T.StandsFor.faults c.turn.new.room, g.T.StandsFor.used c.turn.new.room) in
    let is = c.leave.ensures.pass.0 ∙ ap (λ m. m.0.front) k.2 in (
      call (length front) (length k.0) b a,
      (
        c.leave.ensures.pass.1 ∙ (ap (λ m. m.0.calls) k.2 ∙ ap (λ cs. cs ++ call (length front) (length k.0) b a ∷ []) c.enter-seat.ensures.seat.1),
        subst (λ r. IsPrefix (seen c.args.pass) r) (sym is) (prefix_trans (seen c.args.pass) front k.0 c.enter-seat.ensures.room.1 k.1.0),
        prefix_length (seen c.args.pass) front c.enter-seat.ensures.room.1,
        prefix_length front k.0 k.1.0,
        ap length (sym is),
      ),
      λ h at-start. turn_told g.W.Work.does h front k.0 _ c.args.work.now c.turn.new.self b a k.1.0 is
          (subst (λ w. g.W.Work.does w (at (onto front h) b.0 b.1) c.turn.new.self (at (onto k.0 h) a.0 a.1)) c.of-began.ensures (k.1.2 h at-start)),
    )

pub returns-clause-lent : goal.returns-clause-lent
returns-clause-lent g c =
    let k = c.count.ensures.list in
    let front = c.enter-seat.result.0.me.0.front in
    let b : ℕ × ℕ = (g.T.StandsFor.faults c.of-found.result.value, g.T.StandsFor.used c.of-found.result.value) in
    let a : ℕ × ℕ = (g.T.StandsFor.faults c.turn.new.room, g.T.StandsFor.used c.turn.new.room) in
    let is = c.leave.ensures.pass.0 ∙ ap (λ m. m.0.front) k.2 in (
      call (length front) (length k.0) b a,
      c.leave.ensures.pass.1 ∙ (ap (λ m. m.0.calls) k.2 ∙ ap (λ cs. cs ++ call (length front) (length k.0) b a ∷ []) c.enter-seat.ensures.seat.1),
      turn_lent g.T.StandsFor.stands g.T.StandsFor.faults g.T.StandsFor.used (g.T.StandsFor.stands c.args.self.now.table.shared.key.value) front k.0 _ c.enter-seat.result.1 c.turn.new.room b a k.1.0 is
          c.enter-seat.ensures.room.0 k.1.1 (ap g.T.StandsFor.faults c.of-found.ensures) (ap g.T.StandsFor.used c.of-found.ensures) refl refl,
    )

pub returns-clause-stood : goal.returns-clause-stood
returns-clause-stood g c = c.enter-seat.ensures.room.0.witness
