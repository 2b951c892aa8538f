-- A wire over HTTP: its members, each answered by itself.
use Rattle.std.specs.Prelude.{◌≡◌, ◌⊎◌, ◌==◌, ◌||◌, ℕ, Bool, true, false, List, [], ◌∷◌, ◌++◌, map, Result, Ok, Err}
use Rattle.std.specs.List.{flat_map}
use Rattle.news_types.specs.declared.story.Incoming.{Incoming}
use Rattle.news_types.specs.Members.{Each}
use Rattle.news_types.specs.Names.{Bytes}
use Rattle.wire_bodies.specs.declared.member.BodyMember.{BodyMember}
use Rattle.wire_bodies.specs.Bodies.{told_of, rows_bytes}
use Rattle.desk_routes.specs.declared.ask.HttpAsk.TheVariants.{Ingest}
use Rattle.desk_routes.specs.declared.ask.RoomAsk.TheVariants.{By}
use Rattle.desk_routes.specs.declared.ask.WireAsk.{WireAsk}
use Rattle.desk_routes.specs.declared.response.Response.{Response}
use Rattle.desk_routes.specs.declared.response.Notice.TheVariants.{NoMemory}
use Rattle.desk_routes.specs.Responses.{bare, told_as, notice_response}
use Rattle.feed_http.specs.declared.answers.HttpAnswer.{HttpAnswer}
use Rattle.feed_http.specs.Turn.{IsToldAs}
use Rattle.feed_http.specs.Turns.{Turn, first_stop}

-- ---- one member

-- it is done, or denied for what stands on the list: the statuses of a row
abbrev pub is_row : ℕ → Bool
is_row status = status == 200 || status == 409

-- the turn of a story, which is asked as an item of the provider is that the caller brings in
abbrev pub story_turn : Bytes → Bytes → ℕ → Incoming → HttpAnswer → Turn
story_turn caller provider reading incoming answer = record { reading = reading; read = Ok (By (record { caller = caller; ask = Ingest provider incoming })); answer = answer }

-- A story has a turn of its own, and the body of what it was answered is the row. What is no story has no turn, and its line is the row.
abbrev pub IsRowOf : Bytes → Bytes → ℕ → List Turn → Bytes → Result Incoming Bytes → Type 0
IsRowOf caller provider reading turns text (Ok incoming) =
    (answer : HttpAnswer) × (turns ≡ story_turn caller provider reading incoming answer ∷ []) × (is_row answer.response.status ≡ true) × (text ≡ answer.response.body)
IsRowOf caller provider reading turns text (Err line) = (turns ≡ []) × (text ≡ line)

-- a story's turn was answered otherwise
abbrev pub IsOther : Bytes → Bytes → ℕ → List Turn → Response → Result Incoming Bytes → Type 0
IsOther caller provider reading turns response (Ok incoming) =
    (answer : HttpAnswer) × (turns ≡ story_turn caller provider reading incoming answer ∷ []) × (is_row answer.response.status ≡ false) × (response ≡ answer.response)
IsOther caller provider reading turns response (Err line) = ⊥

-- a member has no row: its turn was answered otherwise, or there was no memory for it, and it had no turn
abbrev pub EndsRows : Bytes → Bytes → ℕ → List Turn → Response → Result Incoming Bytes → Type 0
EndsRows caller provider reading turns response told = IsOther caller provider reading turns response told ⊎ ((turns ≡ []) × (response ≡ notice_response NoMemory))

-- ---- rows

-- a member that has its row: the reading of the clock that was taken for it, its turn if it had one, and the row
pub record Row : Type 0 where
  pub member : BodyMember
  pub reading : ℕ
  pub turns : List Turn
  pub text : Bytes

abbrev pub IsRow : Bytes → Bytes → Row → Type 0
IsRow caller provider row = IsRowOf caller provider row.reading row.turns row.text (told_of row.reading row.member)

abbrev pub member_in : Row → BodyMember
member_in row = row.member

abbrev pub reading_in : Row → ℕ
reading_in row = row.reading

abbrev pub turns_in : Row → List Turn
turns_in row = row.turns

abbrev pub text_in : Row → Bytes
text_in row = row.text

-- the response that has these rows
abbrev pub rows_response : ℕ → List Bytes → Response
rows_response status rows = told_as status (rows_bytes rows)

-- What ended them is answered as it is where there is none, and behind some by its status with them; where there was no memory for that, by the
-- status alone.
abbrev pub IsEndedAs : List Bytes → Response → Response → Type 0
IsEndedAs [] ending response = response ≡ ending
IsEndedAs rows ending response = (response ≡ rows_response ending.status rows) ⊎ (response ≡ bare ending.status)

-- ---- all members

-- each member has its row
pub record IsWhole (wire : WireAsk) (rows : List Row) (readings : List ℕ) (turns : List Turn) (response : Response) : Type 0 where
  pub members : wire.members ≡ map member_in rows
  pub readings_are : readings ≡ map reading_in rows
  pub turns_are : turns ≡ flat_map turns_in rows
  pub told : IsToldAs (rows_response 200 (map text_in rows)) response

-- the next member has none, and nothing behind it was asked
pub record IsCut (wire : WireAsk) (rows : List Row) (readings : List ℕ) (turns : List Turn) (response : Response) : Type 0 where
  pub member : BodyMember
  pub later : List BodyMember
  pub members : wire.members ≡ map member_in rows ++ member ∷ later
  pub reading : ℕ
  pub readings_are : readings ≡ map reading_in rows ++ reading ∷ []
  pub last : List Turn
  pub turns_are : turns ≡ flat_map turns_in rows ++ last
  pub ending : Response
  pub ends : EndsRows wire.caller wire.provider reading last ending (told_of reading member)
  pub told : IsEndedAs (map text_in rows) ending response

-- A wire's members are answered one after the other, each by a reading of its own and each story in a turn of its own; its rows are what they
-- were answered.
pub record IsWire (wire : WireAsk) (readings : List ℕ) (turns : List Turn) (answer : HttpAnswer) : Type 0 where
  pub rows : List Row
  pub each : Each (IsRow wire.caller wire.provider) rows
  pub ends : IsWhole wire rows readings turns answer.response ⊎ IsCut wire rows readings turns answer.response
  pub stop : answer.stop ≡ first_stop turns
