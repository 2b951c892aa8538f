-- How the rows of a wire go on, and how they end.
use Rattle.std.specs.Prelude.{◌≡◌, ◌⊎◌, ℕ, ◌++◌, List, [], ◌∷◌, map, Option, None, Some, Result, Ok, Err}
use Rattle.std.specs.Global.{Vec}
use Rattle.std.specs.List.{flat_map}
use Rattle.std.specs.Option.{option_or}
use Rattle.std.proofs.Common.{refl, sym, ap, ◌∙◌, subst, append_assoc, inl, inr}
use Rattle.std.proofs.lemmas.List.{append-nil, map_push, flat_map_more}
use Rattle.news_types.specs.Members.{Each}
use Rattle.news_types.specs.Names.{Bytes}
use Rattle.news_io.specs.Clock.{ClockMeaning, Gave}
use Rattle.news_io.proofs.Readings.{gave_then}
use Rattle.wire_bodies.specs.declared.member.BodyMember.{BodyMember}
use Rattle.wire_bodies.specs.Bodies.{told_of}
use Rattle.desk_routes.specs.declared.ask.RoomAsk.{RoomAsk}
use Rattle.desk_routes.specs.declared.ask.WireAsk.{WireAsk}
use Rattle.desk_routes.specs.declared.ask.Refusal.{Refusal}
use Rattle.desk_routes.specs.declared.response.Response.{Response}
use Rattle.desk_routes.specs.declared.response.Notice.TheVariants.{NoMemory}
use Rattle.desk_routes.specs.Responses.{notice_response}
use Rattle.feed_http.specs.declared.answers.HttpAnswer.{HttpAnswer}
use Rattle.feed_http.specs.declared.wire.Came.{Came}
use Rattle.feed_http.specs.Turn.{IsToldAs}
use Rattle.feed_http.specs.Turns.{Turn, InTurns, first_stop}
use Rattle.feed_http.specs.Wires.{EndsRows, Row, IsRow, member_in, reading_in, turns_in, text_in, rows_response, IsEndedAs}
use Rattle.feed_http.specs.Serving.{CameTo, AnswersMember, HasRows, AnswersWire}

-- ---- turns and stops one behind the other

turns_then : {A : Type 0} (turn : A → ℕ → Result RoomAsk Refusal → HttpAnswer → A → Type 0) (old mid new : A) (xs ys : List Turn) → InTurns turn old xs mid → InTurns turn mid ys new → InTurns turn old (xs ++ ys) new
turns_then turn old mid new [] ys a b = subst (λ r. InTurns turn r ys new) a b
turns_then turn old mid new (x ∷ xs) ys a b = (a.0, a.1, turns_then turn a.0 mid new xs ys a.2 b)

or_or : (a b c : Option ℕ) → option_or a (option_or b c) ≡ option_or (option_or a b) c
or_or None b c = refl
or_or (Some x) b c = refl

pub or_none : (a : Option ℕ) → a ≡ option_or a None
or_none None = refl
or_none (Some x) = refl

stop_then : (xs ys : List Turn) → first_stop (xs ++ ys) ≡ option_or (first_stop xs) (first_stop ys)
stop_then [] ys = refl
stop_then (x ∷ xs) ys = ap (λ (s : Option ℕ). option_or x.answer.stop s) (stop_then xs ys) ∙ or_or x.answer.stop (first_stop xs) (first_stop ys)

each_push : {A : Type 0} (P : A → Type 0) (xs : List A) (x : A) → Each P xs → P x → Each P (xs ++ x ∷ [])
each_push P [] x all is = (is, tt)
each_push P (y ∷ xs) x all is = (all.0, each_push P xs x all.1 is)

module _ {A C : Type 0} (turn : A → ℕ → Result RoomAsk Refusal → HttpAnswer → A → Type 0) (clock : ClockMeaning C) where
  -- no member has its row yet
  pub has_none : (room : A) (c : C) (caller provider : Bytes) (members left : List BodyMember) (texts : List Bytes) → left ≡ members → texts ≡ [] → HasRows turn clock room room c c caller provider members left texts None
  has_none room c caller provider members left texts same none = record {
    rows = [];
    each = tt;
    members_are = sym same;
    texts_are = none;
    turned = refl;
    stop_is = refl;
    clock_on = λ h. h;
    gave = λ h k. refl;
  }

  -- the row that a member came to
  pub row_came : {mid new : A} {caller provider : Bytes} {reading : ℕ} {member : BodyMember} {came : Came} (text : Vec ℕ) → (answers : AnswersMember turn mid new caller provider reading member came) → came.row ≡ Ok text
      → IsRow caller provider (record { member = member; reading = reading; turns = answers.turns; text = text.items })
  row_came {caller = caller} {provider = provider} {reading = reading} {member = member} text answers is = subst (λ (r : Result (Vec ℕ) Response). CameTo caller provider reading answers.turns (told_of reading member) r) is answers.row

  -- what it came to in place of a row
  pub end_came : {mid new : A} {caller provider : Bytes} {reading : ℕ} {member : BodyMember} {came : Came} (ending : Response) → (answers : AnswersMember turn mid new caller provider reading member came) → came.row ≡ Err ending
      → EndsRows caller provider reading answers.turns ending (told_of reading member)
  end_came {caller = caller} {provider = provider} {reading = reading} {member = member} ending answers is = subst (λ (r : Result (Vec ℕ) Response). CameTo caller provider reading answers.turns (told_of reading member) r) is answers.row

  -- one member more has its row
  pub has_more : {room mid new : A} {c cmid c' : C} {caller provider : Bytes} {members left : List BodyMember} {texts : List Bytes} {stop : Option ℕ} (row : Row)
      → HasRows turn clock room mid c cmid caller provider members (row.member ∷ left) texts stop → IsRow caller provider row → InTurns turn mid row.turns new
      → (clock.tells cmid → clock.tells c') → (clock.tells cmid → Gave (clock.ahead cmid) (row.reading ∷ []) (clock.ahead c'))
      → HasRows turn clock room new c c' caller provider members left (texts ++ row.text ∷ []) (option_or stop (first_stop row.turns))
  has_more {room = room} {mid = mid} {new = new} {c = c} {cmid = cmid} {c' = c'} {caller = caller} {provider = provider} {left = left} row has is turned on gave = record {
    rows = has.rows ++ row ∷ [];
    each = each_push (IsRow caller provider) has.rows row has.each is;
    members_are = has.members_are ∙ sym (append_assoc (map member_in has.rows) (row.member ∷ []) left) ∙ ap (λ (l : List BodyMember). l ++ left) (sym (map_push member_in has.rows row));
    texts_are = ap (λ (l : List Bytes). l ++ row.text ∷ []) has.texts_are ∙ sym (map_push text_in has.rows row);
    turned = subst (λ (ts : List Turn). InTurns turn room ts new) (flat_map_more turns_in [] has.rows row) (turns_then turn room mid new (flat_map turns_in has.rows) row.turns has.turned turned);
    stop_is = ap (λ (s : Option ℕ). option_or s (first_stop row.turns)) has.stop_is ∙ sym (stop_then (flat_map turns_in has.rows) row.turns) ∙ ap first_stop (flat_map_more turns_in [] has.rows row);
    clock_on = λ h. on (has.clock_on h);
    gave = λ h. subst (λ (l : List ℕ). Gave (clock.ahead c) l (clock.ahead c')) (sym (map_push reading_in has.rows row)) (gave_then (clock.ahead c) (map reading_in has.rows) (clock.ahead cmid) (row.reading ∷ []) (clock.ahead c') (has.gave h) (gave (has.clock_on h)));
  }

  -- all members have their rows
  pub whole_wire : {room new : A} {c c' : C} {left : List BodyMember} {texts : List Bytes} {stop : Option ℕ} (wire : WireAsk) (response : Response)
      → HasRows turn clock room new c c' wire.caller wire.provider wire.members left texts stop → left ≡ [] → IsToldAs (rows_response 200 texts) response
      → AnswersWire turn clock room new c c' wire (record { response = response; stop = stop })
  whole_wire wire response has none told = record {
    taken = map reading_in has.rows;
    turns = flat_map turns_in has.rows;
    is = record {
      rows = has.rows;
      each = has.each;
      ends = inl (record {
        members = has.members_are ∙ ap (λ (l : List BodyMember). map member_in has.rows ++ l) none ∙ append-nil (map member_in has.rows);
        readings_are = refl;
        turns_are = refl;
        told = subst (λ (l : List Bytes). IsToldAs (rows_response 200 l) response) has.texts_are told;
      });
      stop = has.stop_is;
    };
    turned = has.turned;
    clock_on = has.clock_on;
    gave = has.gave;
  }

  -- the next member has none
  pub cut_wire : {room mid new : A} {c cmid c' : C} {member : BodyMember} {later : List BodyMember} {texts : List Bytes} {stop : Option ℕ} (wire : WireAsk) (reading : ℕ) (last : List Turn) (ending response : Response) (stop' : Option ℕ)
      → HasRows turn clock room mid c cmid wire.caller wire.provider wire.members (member ∷ later) texts stop → EndsRows wire.caller wire.provider reading last ending (told_of reading member) → InTurns turn mid last new
      → (clock.tells cmid → clock.tells c') → (clock.tells cmid → Gave (clock.ahead cmid) (reading ∷ []) (clock.ahead c'))
      → IsEndedAs texts ending response → stop' ≡ option_or stop (first_stop last)
      → AnswersWire turn clock room new c c' wire (record { response = response; stop = stop' })
  cut_wire {room = room} {mid = mid} {new = new} {c = c} {cmid = cmid} {c' = c'} {member = member} {later = later} wire reading last ending response stop' has ends turned on gave told stop_is = record {
    taken = map reading_in has.rows ++ reading ∷ [];
    turns = flat_map turns_in has.rows ++ last;
    is = record {
      rows = has.rows;
      each = has.each;
      ends = inr (record {
        member = member;
        later = later;
        members = has.members_are;
        reading = reading;
        readings_are = refl;
        last = last;
        turns_are = refl;
        ending = ending;
        ends = ends;
        told = subst (λ (l : List Bytes). IsEndedAs l ending response) has.texts_are told;
      });
      stop = stop_is ∙ ap (λ (s : Option ℕ). option_or s (first_stop last)) has.stop_is ∙ sym (stop_then (flat_map turns_in has.rows) last);
    };
    turned = turns_then turn room mid new (flat_map turns_in has.rows) last has.turned turned;
    clock_on = λ h. on (has.clock_on h);
    gave = λ h. gave_then (clock.ahead c) (map reading_in has.rows) (clock.ahead cmid) (reading ∷ []) (clock.ahead c') (has.gave h) (gave (has.clock_on h));
  }

  -- there was no memory for the next
  pub starved_wire : {room mid : A} {c cmid c' : C} {member : BodyMember} {later : List BodyMember} {texts : List Bytes} {stop : Option ℕ} (wire : WireAsk) (reading : ℕ) (ending response : Response)
      → HasRows turn clock room mid c cmid wire.caller wire.provider wire.members (member ∷ later) texts stop → EndsRows wire.caller wire.provider reading [] ending (told_of reading member)
      → (clock.tells cmid → clock.tells c') → (clock.tells cmid → Gave (clock.ahead cmid) (reading ∷ []) (clock.ahead c'))
      → IsEndedAs texts ending response
      → AnswersWire turn clock room mid c c' wire (record { response = response; stop = stop })
  starved_wire {stop = stop} wire reading ending response has ends on gave told = cut_wire wire reading [] ending response stop has ends refl on gave told (or_none stop)

  -- ---- as the rows are read from a list of what is left

  pub row_starves : (room mid : A) (c cmid c' : C) (wire : WireAsk) (rest left : List BodyMember) (member : BodyMember) (texts : List Bytes) (stop : Option ℕ) (reading : ℕ)
      → HasRows turn clock room mid c cmid wire.caller wire.provider wire.members rest texts stop → rest ≡ member ∷ left → (ending response : Response) → ending ≡ notice_response NoMemory
      → (clock.tells cmid → clock.tells c') → (clock.tells cmid → Gave (clock.ahead cmid) (reading ∷ []) (clock.ahead c')) → IsEndedAs texts ending response
      → AnswersWire turn clock room mid c c' wire (record { response = response; stop = stop })
  row_starves room mid c cmid c' wire rest left member texts stop reading has is ending response none on gave told =
      starved_wire wire reading ending response (subst (λ (l : List BodyMember). HasRows turn clock room mid c cmid wire.caller wire.provider wire.members l texts stop) is has) (inr (refl, none)) on gave told

  module _ (room mid new : A) (c cmid c' : C) (wire : WireAsk) (rest left : List BodyMember) (member : BodyMember) (texts : List Bytes) (stop stop' : Option ℕ) (reading : ℕ) (came : Came) where
    abbrev Has : Type 0
    Has = HasRows turn clock room mid c cmid wire.caller wire.provider wire.members rest texts stop

    abbrev Came_to : Type 0
    Came_to = AnswersMember turn mid new wire.caller wire.provider reading member came

    next_is : Has → rest ≡ member ∷ left → HasRows turn clock room mid c cmid wire.caller wire.provider wire.members (member ∷ left) texts stop
    next_is has is = subst (λ (l : List BodyMember). HasRows turn clock room mid c cmid wire.caller wire.provider wire.members l texts stop) is has

    pub row_put : Has → rest ≡ member ∷ left → (answers : Came_to) → (row : Vec ℕ) → came.row ≡ Ok row → (clock.tells cmid → clock.tells c') → (clock.tells cmid → Gave (clock.ahead cmid) (reading ∷ []) (clock.ahead c'))
        → (texts' : List Bytes) → texts' ≡ texts ++ row.items ∷ [] → stop' ≡ option_or stop came.stop → HasRows turn clock room new c c' wire.caller wire.provider wire.members left texts' stop'
    row_put has is answers row came_row on gave texts' texts_are stop_is =
        let r : Row = record { member = member; reading = reading; turns = answers.turns; text = row.items } in
        let more : HasRows turn clock room new c c' wire.caller wire.provider wire.members left (texts ++ row.items ∷ []) (option_or stop (first_stop answers.turns)) =
        has_more r (next_is has is) (row_came row answers came_row) answers.turned on gave in
        let same_stop : stop' ≡ option_or stop (first_stop answers.turns) = stop_is ∙ ap (λ (s : Option ℕ). option_or stop s) answers.stop in
        subst (λ (ts : List Bytes). HasRows turn clock room new c c' wire.caller wire.provider wire.members left ts stop') (sym texts_are)
        (subst (λ (s : Option ℕ). HasRows turn clock room new c c' wire.caller wire.provider wire.members left (texts ++ row.items ∷ []) s) (sym same_stop) more)

    pub row_ends : Has → rest ≡ member ∷ left → (answers : Came_to) → (ending response : Response) → came.row ≡ Err ending → (clock.tells cmid → clock.tells c') → (clock.tells cmid → Gave (clock.ahead cmid) (reading ∷ []) (clock.ahead c'))
        → IsEndedAs texts ending response → stop' ≡ option_or stop came.stop → AnswersWire turn clock room new c c' wire (record { response = response; stop = stop' })
    row_ends has is answers ending response came_row on gave told stop_is =
        cut_wire wire reading answers.turns ending response stop' (next_is has is) (end_came ending answers came_row) answers.turned on gave told (stop_is ∙ ap (λ (s : Option ℕ). option_or stop s) answers.stop)
