-- A request in one turn, or in those of a wire.
use Rattle.std.specs.Prelude.{◌≡◌, ◌⊎◌, ℕ, List, [], ◌∷◌, Result, Ok}
use Rattle.std.proofs.Common.{refl, sym, ap, ◌∙◌, inl, inr}
use Rattle.news_io.specs.Clock.{ClockMeaning}
use Rattle.http_wire.specs.declared.request.HttpRequest.{HttpRequest}
use Rattle.desk_routes.specs.declared.ask.RoomAsk.{RoomAsk}
use Rattle.desk_routes.specs.declared.ask.WireAsk.{WireAsk}
use Rattle.desk_routes.specs.declared.ask.HttpAsked.TheVariants.{Wire}
use Rattle.desk_routes.specs.declared.ask.Refusal.{Refusal}
use Rattle.feed_http.specs.declared.answers.HttpAnswer.{HttpAnswer}
use Rattle.feed_http.specs.Outcome.{asks, IsRead}
use Rattle.feed_http.specs.Turns.{Turn, first_stop}
use Rattle.feed_http.specs.Exchanges.{Exchange, IsExchange}
use Rattle.feed_http.specs.Serving.{TakesTurn, AnswersWire, AnswersRequest}
use Rattle.feed_http.proofs.Wires.{or_none}

module _ {A C : Type 0} (turn : A → ℕ → Result RoomAsk Refusal → HttpAnswer → A → Type 0) (clock : ClockMeaning C) (room room' : A) (c c' : C) (request : HttpRequest) (answer : HttpAnswer) where
  pub in_one_turn : (read : Result RoomAsk Refusal) → IsRead request read → TakesTurn turn clock room room' c c' read answer → AnswersRequest turn clock room room' c c' request answer
  in_one_turn read is taken =
      let t : Turn = record { reading = taken.reading; read = read; answer = answer } in
      record {
        taken = taken.reading ∷ [];
        turns = t ∷ [];
        is = inl (record { turn = t; read = is; taken_is = refl; turns_are = refl; answer_is = refl });
        turned = (room', taken.turned, refl);
        clock_on = taken.clock_on;
        gave = taken.gave;
      }

  pub of_a_wire : (wire : WireAsk) → asks request ≡ Ok (Wire wire) → AnswersWire turn clock room room' c c' wire answer → AnswersRequest turn clock room room' c c' request answer
  of_a_wire wire is told = record {
    taken = told.taken;
    turns = told.turns;
    is = inr (record { wire = wire; asks_wire = is; is = told.is });
    turned = told.turned;
    clock_on = told.clock_on;
    gave = told.gave;
  }

-- the stop of an answer is the first that its turns kept
pub stop_of_turns : (x : Exchange) → IsExchange x → x.answer.stop ≡ first_stop x.turns
stop_of_turns x (inl one) = ap (λ (a : HttpAnswer). a.stop) one.answer_is ∙ or_none one.turn.answer.stop ∙ ap first_stop (sym one.turns_are)
stop_of_turns x (inr wire) = wire.is.stop
