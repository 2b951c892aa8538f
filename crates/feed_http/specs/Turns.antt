-- The turns that were taken for a request.
use Rattle.std.specs.Prelude.{◌≡◌, ℕ, List, [], ◌∷◌, Option, None, Result}
use Rattle.std.specs.Option.{option_or}
use Rattle.desk_routes.specs.declared.ask.RoomAsk.{RoomAsk}
use Rattle.desk_routes.specs.declared.ask.Refusal.{Refusal}
use Rattle.feed_http.specs.declared.answers.HttpAnswer.{HttpAnswer}

-- a turn: the reading of the clock that was taken for it, what was asked in it, or why that was refused, and the answer
pub record Turn : Type 0 where
  pub reading : ℕ
  pub read : Result RoomAsk Refusal
  pub answer : HttpAnswer

-- one after the other, each by what the turn before left
abbrev pub InTurns : {A : Type 0} → (A → ℕ → Result RoomAsk Refusal → HttpAnswer → A → Type 0) → A → List Turn → A → Type 0
InTurns turn old [] new = new ≡ old
InTurns {A} turn old (t ∷ ts) new = (mid : A) × turn old t.reading t.read t.answer mid × InTurns turn mid ts new

-- the place of the first stop that they kept
abbrev pub first_stop : List Turn → Option ℕ
first_stop [] = None
first_stop (t ∷ ts) = option_or t.answer.stop (first_stop ts)
