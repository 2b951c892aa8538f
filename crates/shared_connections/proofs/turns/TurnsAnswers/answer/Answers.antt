use Rattle.std.proofs.Common.{◌≡◌, ◌∙◌, ℕ, Option, Some, refl, sym, subst}
use Rattle.room_lock.specs.declared.pass.Pass.{Pass}
use Rattle.room_lock.specs.Locks.{front, calls}
use Rattle.room_lock.specs.Passes.{IsTurn, found_by, left_by}
use Rattle.std.specs.Prelude.{Result}
use Rattle.desk_routes.specs.declared.ask.RoomAsk.{RoomAsk}
use Rattle.desk_routes.specs.declared.ask.Refusal.{Refusal}
use Rattle.shared_connections.specs.Turns.{IsAnsweredIn, at_hand}
use Rattle.shared_connections.specs.Passes.{front_in, calls_in}
use Rattle.shared_connections.proofs.turns.TurnsAnswers.answer.Goals as goal

pub returns-clause-turn : goal.returns-clause-turn
returns-clause-turn g c =
    let made = c.new-serving.ensures in
    let counts = at_hand c.new-serving.result.counts in
    let next = c.with_turn-pass.result in
    let answer = c.with_turn-pass.new.work.answer in
    let turn = c.with_turn-pass.ensures.turn in
    let pass : c.args.self.now.pass ≡ Some c.unwrap-pass.result = sym c.take.ensures.value ∙ c.unwrap-pass.ensures in record {
      same = refl;
      call = turn.0;
      turn = subst (λ (p : Option Pass). IsTurn (front_in p) (calls_in p) (front next) (calls next) turn.0) (sym pass) turn.1;
      counts = counts;
      did = λ b stands.
          subst (λ (now : ℕ). IsAnsweredIn (found_by turn.0 b (front next)) (left_by turn.0 b (front next)) c.args.read now counts answer) made.1
          (subst (λ (read : Result RoomAsk Refusal). IsAnsweredIn (found_by turn.0 b (front next)) (left_by turn.0 b (front next)) read c.new-serving.result.now counts answer) made.0 (turn.2 b stands));
    }
