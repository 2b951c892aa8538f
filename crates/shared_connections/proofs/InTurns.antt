-- The turns of a connection as the steps of its pass.
use Rattle.std.specs.Prelude.{map, length, Result}
use Rattle.std.proofs.Common.{◌≡◌, ℕ, List, [], ◌∷◌, ◌++◌, Option, refl, sym, ap, ◌∙◌, subst}
use Rattle.std.proofs.lemmas.List.{append-nil}
use Rattle.news_types.specs.declared.entry.Entry.{Entry}
use Rattle.news_types.specs.Books.{Book}
use Rattle.news_io.specs.Keeper.{KeeperMeaning}
use Rattle.news_io.specs.Source.{SourceMeaning}
use Rattle.news_io.specs.Sink.{SinkMeaning}
use Rattle.news_io.specs.Clock.{ClockMeaning, Gave}
use Rattle.room_lock.specs.declared.pass.Pass.{Pass}
use Rattle.room_lock.specs.declared.shared.Shared.{Shared}
use Rattle.room_lock.specs.Locks.{start_of}
use Rattle.room_lock.specs.Passes.{At, found_by, left_by, pairs}
use Rattle.room_lock.specs.Going.{calls_all, AllHold, Went}
use Rattle.room_lock.specs.Calls.{InOrder}
use Rattle.room_lock.specs.declared.view.Call.{Call}
use Rattle.room_lock.proofs.Going.{went_none, went_turn, went_on}
use Rattle.news_room.specs.Stands.{Stands}
use Rattle.news_room.specs.declared.room.Room.{Room}
use Rattle.desk_routes.specs.declared.ask.RoomAsk.{RoomAsk}
use Rattle.desk_routes.specs.declared.ask.Refusal.{Refusal}
use Rattle.http_wire.specs.Requests.{Begins}
use Rattle.feed_http.specs.declared.answers.HttpAnswer.{HttpAnswer}
use Rattle.feed_http.specs.declared.ended.Ended.{Ended}
use Rattle.feed_http.specs.Turns.{Turn, InTurns}
use Rattle.feed_http.specs.Exchanges.{Exchange, exchange_of as made_of, IsExchange, Turns, requests, readings, responses}
use Rattle.feed_http.specs.Served.{Served, IsEnd, IsWritten}
use Rattle.shared_connections.specs.Passes.{front_in, calls_in, TakesTurn}
use Rattle.shared_connections.specs.Turns.{IsAnsweredIn}
use Rattle.shared_connections.specs.Connections.{CalledTurn, turn_of, call_of, Answered, exchange_of, exchanges, answered_calls, AreAnsweredIn, answered_holds, ServedInTurns}

-- ---- the turns of one request as one step

-- a turn has its one call
abbrev turn_calls : CalledTurn → List Call
turn_calls t = t.call ∷ []

abbrev turn_holds : CalledTurn → List (At × At) → Type 0
turn_holds t found = (at : At × At) × (found ≡ at ∷ []) × IsAnsweredIn at.0 at.1 t.turn.read t.turn.reading t.counts t.turn.answer

calls_of_turns : (ts : List CalledTurn) → calls_all turn_calls ts ≡ map call_of ts
calls_of_turns [] = refl
calls_of_turns (t ∷ ts) = ap (λ (l : List Call). t.call ∷ l) (calls_of_turns ts)

turn_did : (t : CalledTurn) (found : At × At) → turn_holds t (found ∷ []) → IsAnsweredIn found.0 found.1 t.turn.read t.turn.reading t.counts t.turn.answer
turn_did t found h = let same : h.0 ≡ found = cc (h.1) in subst (λ (at : At × At). IsAnsweredIn at.0 at.1 t.turn.read t.turn.reading t.counts t.turn.answer) same h.2

turns_did : (b : Book) (seen : List Entry) (ts : List CalledTurn) → AllHold turn_calls turn_holds b seen ts → AreAnsweredIn ts (pairs b seen (map call_of ts))
turns_did b seen [] all = tt
turns_did b seen (t ∷ ts) all = (turn_did t (found_by t.call b seen, left_by t.call b seen) all.0, turns_did b seen ts all.1)

-- the calls of the one step
step_calls : (a : Answered) → calls_all turn_calls a.turns ≡ calls_all answered_calls (a ∷ [])
step_calls a = calls_of_turns a.turns ∙ sym (append-nil (map call_of a.turns))

one_step : (stands : Book → Type 0) (seen : List Entry) (calls : List Call) (seen' : List Entry) (calls' : List Call) (a : Answered) → IsExchange (exchange_of a) → Went turn_calls turn_holds stands seen calls seen' calls' a.turns
    → Went answered_calls answered_holds stands seen calls seen' calls' (a ∷ [])
one_step stands seen calls seen' calls' a is w = record {
  calls_are = w.calls_are ∙ ap (λ (l : List Call). calls ++ l) (step_calls a);
  grows = w.grows;
  order = subst (λ (l : List Call). InOrder (length seen) l (length seen')) (step_calls a) w.order;
  did = λ b stood. ((is, turns_did b seen' a.turns (w.did b stood)), tt);
}

module _ {K A : Type 0} (keeper : KeeperMeaning K) (shared_of : A → Shared (Room K)) (pass_of : A → Option Pass) where
  -- what a turn does
  abbrev pub TurnOf : A → ℕ → Result RoomAsk Refusal → HttpAnswer → A → Type 0
  TurnOf old now read answer new = TakesTurn keeper (shared_of old) (shared_of new) (pass_of old) (pass_of new) now read answer

  -- the lock stays the same
  steps_same : (old new : A) (ts : List Turn) → InTurns TurnOf old ts new → shared_of new ≡ shared_of old
  steps_same old new [] t = ap shared_of t
  steps_same old new (x ∷ ts) t = steps_same t.0 new ts t.2 ∙ t.1.same

  pub turns_same : (old new : A) (xs : List Exchange) → Turns TurnOf old xs new → shared_of new ≡ shared_of old
  turns_same old new [] t = ap shared_of t
  turns_same old new (x ∷ xs) t = turns_same t.0 new xs t.3 ∙ steps_same old t.0 x.turns t.2

  -- a pass went from one of its states to another by these turns, or by these requests
  abbrev WentTurns : Shared (Room K) → A → A → List CalledTurn → Type 0
  WentTurns shared old new called = Went turn_calls turn_holds (Stands keeper (start_of shared)) (front_in (pass_of old)) (calls_in (pass_of old)) (front_in (pass_of new)) (calls_in (pass_of new)) called

  abbrev WentFrom : Shared (Room K) → A → A → List Answered → Type 0
  WentFrom shared old new answered = Went answered_calls answered_holds (Stands keeper (start_of shared)) (front_in (pass_of old)) (calls_in (pass_of old)) (front_in (pass_of new)) (calls_in (pass_of new)) answered

  went_first : (old new : A) (x : Turn) (t : TurnOf old x.reading x.read x.answer new) → WentTurns (shared_of old) old new (record { turn = x; call = t.call; counts = t.counts } ∷ [])
  went_first old new x t =
      went_turn turn_calls turn_holds (Stands keeper (start_of (shared_of old))) (front_in (pass_of old)) (calls_in (pass_of old)) (front_in (pass_of new)) (calls_in (pass_of new)) t.call (record { turn = x; call = t.call; counts = t.counts }) refl t.turn
      (λ b stands. ((found_by t.call b (front_in (pass_of new)), left_by t.call b (front_in (pass_of new))), refl, t.did b stands))

  -- the turns with their calls
  record CalledAs (old new : A) (ts : List Turn) : Type 0 where
    called : List CalledTurn
    same : map turn_of called ≡ ts
    went : WentTurns (shared_of old) old new called

  called_as : (old new : A) (ts : List Turn) → InTurns TurnOf old ts new → CalledAs old new ts
  called_as old new [] t = record {
    called = [];
    same = refl;
    went = subst (λ (a : A). WentTurns (shared_of old) old a []) (sym t) (went_none turn_calls turn_holds (Stands keeper (start_of (shared_of old))) (front_in (pass_of old)) (calls_in (pass_of old)));
  }
  called_as old new (x ∷ ts) t =
      let mid : A = t.0 in
      let turn : TurnOf old x.reading x.read x.answer mid = t.1 in
      let rest : CalledAs mid new ts = called_as mid new ts t.2 in
      let later : WentTurns (shared_of old) mid new rest.called = subst (λ (s : Shared (Room K)). WentTurns s mid new rest.called) turn.same rest.went in
      record {
        called = record { turn = x; call = turn.call; counts = turn.counts } ∷ rest.called;
        same = ap (λ (l : List Turn). x ∷ l) rest.same;
        went = went_on turn_calls turn_holds (Stands keeper (start_of (shared_of old))) (front_in (pass_of old)) (calls_in (pass_of old)) (front_in (pass_of mid)) (calls_in (pass_of mid)) (front_in (pass_of new)) (calls_in (pass_of new))
            (record { turn = x; call = turn.call; counts = turn.counts } ∷ []) rest.called (went_first old mid x turn) later;
      }

  -- the answered requests of a connection
  pub record AnsweredAs (old new : A) (xs : List Exchange) : Type 0 where
    pub answered : List Answered
    pub same : exchanges answered ≡ xs
    pub went : WentFrom (shared_of old) old new answered

  pub answered_as : (old new : A) (xs : List Exchange) → Turns TurnOf old xs new → AnsweredAs old new xs
  answered_as old new [] t = record {
    answered = [];
    same = refl;
    went = subst (λ (a : A). WentFrom (shared_of old) old a []) (sym t) (went_none answered_calls answered_holds (Stands keeper (start_of (shared_of old))) (front_in (pass_of old)) (calls_in (pass_of old)));
  }
  answered_as old new (x ∷ xs) t =
      let mid : A = t.0 in
      let first : CalledAs old mid x.turns = called_as old mid x.turns t.2 in
      let a : Answered = record { request = x.request; taken = x.taken; turns = first.called; answer = x.answer } in
      let is_x : exchange_of a ≡ x = ap (λ (ts : List Turn). made_of x.request x.taken ts x.answer) first.same in
      let rest : AnsweredAs mid new xs = answered_as mid new xs t.3 in
      let same_lock : shared_of mid ≡ shared_of old = steps_same old mid x.turns t.2 in
      let later : WentFrom (shared_of old) mid new rest.answered = subst (λ (s : Shared (Room K)). WentFrom s mid new rest.answered) same_lock rest.went in
      let step : WentFrom (shared_of old) old mid (a ∷ []) =
      one_step (Stands keeper (start_of (shared_of old))) (front_in (pass_of old)) (calls_in (pass_of old)) (front_in (pass_of mid)) (calls_in (pass_of mid)) a (subst (λ (y : Exchange). IsExchange y) (sym is_x) t.1) first.went in
      record {
        answered = a ∷ rest.answered;
        same = ap (λ (y : Exchange). y ∷ exchanges rest.answered) is_x ∙ ap (λ (ys : List Exchange). x ∷ ys) rest.same;
        went = went_on answered_calls answered_holds (Stands keeper (start_of (shared_of old))) (front_in (pass_of old)) (calls_in (pass_of old)) (front_in (pass_of mid)) (calls_in (pass_of mid)) (front_in (pass_of new)) (calls_in (pass_of new))
            (a ∷ []) rest.answered step later;
      }

  -- ---- what the connection came to

  pub served_in_turns : {C S O : Type 0} (clock : ClockMeaning C) (source : SourceMeaning S) (sink : SinkMeaning O) (old new : A) (c c' : C) (s s' : S) (o o' : O) (ended : Ended) → Served TurnOf clock source sink old new c c' s s' o o' ended
      → ServedInTurns (Stands keeper (start_of (shared_of old))) clock source sink (front_in (pass_of old)) (calls_in (pass_of old)) (front_in (pass_of new)) (calls_in (pass_of new)) c c' s s' o o' ended
  served_in_turns clock source sink old new c c' s s' o o' ended served =
      let told : AnsweredAs old new served.exchanges = answered_as old new served.exchanges served.turns in
      record {
        answered = told.answered;
        tail = served.tail;
        left = served.left;
        went = told.went;
        clock_gave = subst (λ (xs : List Exchange). clock.tells c → Gave (clock.ahead c) (readings xs) (clock.ahead c')) (sym told.same) served.clock_gave;
        begins = subst (λ (xs : List Exchange). source.tells s → Begins (source.ahead s) (requests xs) served.left) (sym told.same) served.begins;
        ends = subst (λ (xs : List Exchange). IsEnd (source.tells s) served.left xs served.tail ended) (sym told.same) served.ends;
        wrote = subst (λ (xs : List Exchange). sink.tells o → IsWritten sink o o' (responses xs ++ served.tail) ended) (sym told.same) served.wrote;
      }
