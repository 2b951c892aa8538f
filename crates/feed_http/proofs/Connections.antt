-- How a connection goes on, and how it ends.
use Rattle.std.specs.Prelude.{◌≡◌, ◌⊎◌, ◌<◌, ◌+◌, ℕ, ◌++◌, List, [], ◌∷◌, false, None, Result, Ok, Err, OnOk}
use Rattle.std.proofs.Common.{refl, sym, ap, ◌∙◌, subst, append_assoc, arith, ⊎_elim, inl, inr}
use Rattle.std.proofs.lemmas.List.{append-nil, flat_map_more, length_push}
use Rattle.news_io.specs.Faults.{Rose, Counts}
use Rattle.news_io.specs.declared.faults.Failed.{Failed}
use Rattle.news_io.specs.Source.{SourceMeaning}
use Rattle.news_io.specs.Sink.{SinkMeaning}
use Rattle.news_io.specs.Clock.{ClockMeaning}
use Rattle.http_wire.specs.declared.request.HttpRequest.{HttpRequest}
use Rattle.http_wire.specs.Requests.{Asks, Begins}
use Rattle.http_wire.specs.Writing.{Writes, WroteSome}
use Rattle.desk_routes.specs.declared.ask.RoomAsk.{RoomAsk}
use Rattle.desk_routes.specs.declared.ask.Refusal.{Refusal}
use Rattle.desk_routes.specs.declared.response.Notice.{Notice}
use Rattle.feed_http.specs.declared.answers.HttpAnswer.{HttpAnswer}
use Rattle.feed_http.specs.declared.ended.Ended.{Ended}
use Rattle.feed_http.specs.declared.ended.Ended.TheVariants.{Stopped, Closed, Limit, HeadFault, TooLarge, Chunked, ReadFault, WriteFault, Memory}
use Rattle.feed_http.specs.declared.exchange.Turned.{Turned}
use Rattle.feed_http.specs.Exchanges.{Exchange, exchange_of, exchange_bytes, requests, responses, Awaits, EndsIn}
use Rattle.feed_http.specs.Served.{notice_bytes, Refuses, IsEnd, WroteOrFailed, WroteAll, IsWritten, Served}
use Rattle.feed_http.specs.Serving.{IsTurned, Refused, CutShort, IsRefused, Running}
use Rattle.feed_http.proofs.Exchanges.{requests_push, readings_push, turns_push, open_push, said_more, no_tail}

module _ {O : Type 0} (sink : SinkMeaning O) where
  -- a beginning of what comes behind a text
  pub some_behind : (old mid new : O) (a b : List ℕ) → sink.taken mid ≡ sink.taken old ++ a → WroteSome sink mid new b → WroteSome sink old new (a ++ b)
  some_behind old mid new a b was w = (
    w.0,
    record {
      said = a ++ w.1.said;
      part = ap (λ (l : List ℕ). a ++ l) w.1.part ∙ sym (append_assoc a w.1.said w.0);
      wrote = w.1.wrote ∙ ap (λ (l : List ℕ). l ++ w.1.said) was ∙ append_assoc (sink.taken old) a w.1.said;
    },
  )

  -- all of it, or a beginning where the sink failed
  pub all_or_failed : (before old new : O) (text : List ℕ) (r : Result (Unit {0}) Failed) → sink.faults old ≡ sink.faults before → Counts (sink.faults old) (sink.faults new) r → Writes sink old new text r
      → (sink.taken new ≡ sink.taken old ++ text) ⊎ (Rose (sink.faults before) (sink.faults new) × WroteSome sink old new text)
  all_or_failed before old new text (Ok u) calm counts w = inl w
  all_or_failed before old new text (Err e) calm counts w = inr (subst (λ (n : ℕ). Rose n (sink.faults new)) calm counts.failed, w)

  -- the same behind what was written before
  pub behind_or_failed : (before mid new : O) (was text : List ℕ) → sink.taken mid ≡ sink.taken before ++ was → (sink.taken new ≡ sink.taken mid ++ text) ⊎ (Rose (sink.faults before) (sink.faults new) × WroteSome sink mid new text)
      → WroteOrFailed sink before new (was ++ text)
  behind_or_failed before mid new was text is w =
      ⊎_elim
      (λ (all : sink.taken new ≡ sink.taken mid ++ text). inl (all ∙ ap (λ (l : List ℕ). l ++ text) is ∙ append_assoc (sink.taken before) was text))
      (λ (some : Rose (sink.faults before) (sink.faults new) × WroteSome sink mid new text). inr (some.0, some_behind before mid new was text is some.1))
      w

  pub plain_all : (old new : O) (text : List ℕ) (e : Ended) → WroteAll sink old new text → IsWritten sink old new text e
  plain_all old new text (Stopped place) w = inl w.bytes
  plain_all old new text WriteFault w = inl w.bytes
  plain_all old new text Closed w = w
  plain_all old new text Limit w = w
  plain_all old new text HeadFault w = w
  plain_all old new text TooLarge w = w
  plain_all old new text Chunked w = w
  plain_all old new text ReadFault w = w
  plain_all old new text Memory w = w

  pub wrote_tail : (old new : O) (text : List ℕ) → WroteAll sink old new text → WroteAll sink old new (text ++ [])
  wrote_tail old new text w = record { bytes = no_tail (sink.taken old) text (sink.taken new) w.bytes; passed = w.passed }

module _ {A C S O : Type 0} (turn : A → ℕ → Result RoomAsk Refusal → HttpAnswer → A → Type 0) (clock : ClockMeaning C) (source : SourceMeaning S) (sink : SinkMeaning O) where
  -- nothing was answered yet
  abbrev pub begins_none : (room : A) (c : C) (s : S) (o : O) → Running turn clock source sink room room c c s s [] o o 0
  begins_none room c s o = record {
    exchanges = [];
    many = refl;
    open_all = tt;
    turns = refl;
    clock_on = λ t. t;
    gave = λ t k. refl;
    source_on = λ t. t;
    begins = λ t. refl;
    sink_on = λ t. t;
    wrote = λ t. record { bytes = sym (append-nil (sink.taken o)); passed = λ p. p };
  }

  abbrev pub with_last : {room mid new : A} {c cmid c' : C} {s smid : S} {kept : List ℕ} {o omid o' : O} {n : ℕ} {q : HttpRequest} {t : Turned}
      → Running turn clock source sink room mid c cmid s smid kept o omid n → IsTurned turn clock sink mid new cmid c' omid o' q t → List Exchange
  with_last {q = q} run turned = run.exchanges ++ exchange_of q turned.answered.taken turned.answered.turns turned.answer ∷ []

  -- all was written, with the last answer
  pub all_last : {room mid new : A} {c cmid c' : C} {s smid : S} {kept : List ℕ} {o omid o' : O} {n : ℕ} {q : HttpRequest} {t : Turned} (u : Unit {0})
      → (run : Running turn clock source sink room mid c cmid s smid kept o omid n) → (turned : IsTurned turn clock sink mid new cmid c' omid o' q t) → t.wrote ≡ Ok u
      → sink.tells o → WroteAll sink o o' (responses (run.exchanges ++ exchange_of q turned.answered.taken turned.answered.turns turned.answer ∷ []))
  all_last {o = o} {omid = omid} {o' = o'} {q = q} {t = t} u run turned ok h =
      let x = exchange_of q turned.answered.taken turned.answered.turns turned.answer in
      let w : sink.taken o' ≡ sink.taken omid ++ exchange_bytes x = subst (λ (r : Result (Unit {0}) Failed). Writes sink omid o' (exchange_bytes x) r) ok (turned.wrote (run.sink_on h)) in
      let p : sink.passed o' ≡ sink.taken o' = subst (λ (r : Result (Unit {0}) Failed). OnOk r (sink.passed o' ≡ sink.taken o')) ok (turned.passed (run.sink_on h)) in
      record { bytes = said_more (sink.taken o) run.exchanges x (sink.taken omid) (sink.taken o') (run.wrote h).bytes w; passed = λ was. p }

  -- the loop goes on
  pub goes_on : {room mid new : A} {c cmid c' : C} {s smid s' : S} {kept kept' : List ℕ} {o omid o' : O} {n : ℕ} {q : HttpRequest} {t : Turned} (u : Unit {0})
      → Running turn clock source sink room mid c cmid s smid kept o omid n
      → (source.tells smid → Asks (kept ++ source.ahead smid) q (kept' ++ source.ahead s')) → (source.tells smid → source.tells s')
      → IsTurned turn clock sink mid new cmid c' omid o' q t → t.stop ≡ None → t.close ≡ false → t.wrote ≡ Ok u
      → Running turn clock source sink room new c c' s s' kept' o o' (n + 1)
  goes_on {room = room} {mid = mid} {new = new} {c = c} {cmid = cmid} {c' = c'} {s = s} {smid = smid} {s' = s'} {kept = kept} {kept' = kept'} {q = q} u run asks on turned stop close wrote =
      let x = exchange_of q turned.answered.taken turned.answered.turns turned.answer in
      record {
        exchanges = run.exchanges ++ x ∷ [];
        many = length_push run.exchanges x ∙ ap (λ (k : ℕ). k + 1) run.many;
        open_all = open_push run.exchanges x run.open_all (record { close = sym turned.close ∙ close; stop = sym turned.stop ∙ stop });
        turns = turns_push turn room run.exchanges x mid new run.turns turned.answered.is turned.answered.turned;
        clock_on = λ h. turned.answered.clock_on (run.clock_on h);
        gave = λ h. readings_push (clock.ahead c) run.exchanges x (clock.ahead cmid) (clock.ahead c') (run.gave h) (turned.answered.gave (run.clock_on h));
        source_on = λ h. on (run.source_on h);
        begins = λ h. requests_push (source.ahead s) run.exchanges x (kept ++ source.ahead smid) (kept' ++ source.ahead s') (run.begins h) (asks (run.source_on h));
        sink_on = λ h. turned.sink_on (run.sink_on h);
        wrote = λ h. all_last u run turned wrote h;
      }

  -- the last exchange ends it
  pub ends_with : {room mid new : A} {c cmid c' : C} {s smid : S} {kept : List ℕ} {o omid o' : O} {n : ℕ} {q : HttpRequest} {t : Turned} (s' : S) (kept' : List ℕ) (e : Ended)
      → (run : Running turn clock source sink room mid c cmid s smid kept o omid n)
      → (source.tells smid → Asks (kept ++ source.ahead smid) q (kept' ++ source.ahead s'))
      → (turned : IsTurned turn clock sink mid new cmid c' omid o' q t)
      → IsEnd (source.tells s) (kept' ++ source.ahead s') (run.exchanges ++ exchange_of q turned.answered.taken turned.answered.turns turned.answer ∷ []) [] e
      → (sink.tells o → IsWritten sink o o' (responses (run.exchanges ++ exchange_of q turned.answered.taken turned.answered.turns turned.answer ∷ []) ++ []) e)
      → Served turn clock source sink room new c c' s s' o o' e
  ends_with {room = room} {mid = mid} {new = new} {c = c} {cmid = cmid} {c' = c'} {s = s} {smid = smid} {kept = kept} {q = q} s' kept' e run asks turned end written =
      let x = exchange_of q turned.answered.taken turned.answered.turns turned.answer in
      record {
        exchanges = run.exchanges ++ x ∷ [];
        tail = [];
        left = kept' ++ source.ahead s';
        turns = turns_push turn room run.exchanges x mid new run.turns turned.answered.is turned.answered.turned;
        clock_gave = λ h. readings_push (clock.ahead c) run.exchanges x (clock.ahead cmid) (clock.ahead c') (run.gave h) (turned.answered.gave (run.clock_on h));
        begins = λ h. requests_push (source.ahead s) run.exchanges x (kept ++ source.ahead smid) (kept' ++ source.ahead s') (run.begins h) (asks (run.source_on h));
        ends = end;
        wrote = written;
      }

  -- that exchange is the last
  pub last_of : {room mid new : A} {c cmid c' : C} {s smid : S} {kept : List ℕ} {o omid o' : O} {n : ℕ} {q : HttpRequest} {t : Turned}
      → (run : Running turn clock source sink room mid c cmid s smid kept o omid n) → (turned : IsTurned turn clock sink mid new cmid c' omid o' q t) → n < 64
      → EndsIn (run.exchanges ++ exchange_of q turned.answered.taken turned.answered.turns turned.answer ∷ []) (exchange_of q turned.answered.taken turned.answered.turns turned.answer)
  last_of run turned few = record { before = run.exchanges; are = refl; awaits = record { open_all = run.open_all; few = omega (arith, run.many, few) } }

  -- what was written with the last answer
  pub tried_last : {room mid new : A} {c cmid c' : C} {s smid : S} {kept : List ℕ} {o omid o' : O} {n : ℕ} {q : HttpRequest} {t : Turned}
      → (run : Running turn clock source sink room mid c cmid s smid kept o omid n) → (turned : IsTurned turn clock sink mid new cmid c' omid o' q t)
      → sink.faults omid ≡ sink.faults o → Counts (sink.faults omid) (sink.faults o') t.wrote
      → sink.tells o → WroteOrFailed sink o o' (responses (run.exchanges ++ exchange_of q turned.answered.taken turned.answered.turns turned.answer ∷ []) ++ [])
  tried_last {o = o} {omid = omid} {o' = o'} {q = q} {t = t} run turned calm counts h =
      let x = exchange_of q turned.answered.taken turned.answered.turns turned.answer in
      let w = behind_or_failed sink o omid o' (responses run.exchanges) (exchange_bytes x) (run.wrote h).bytes (all_or_failed sink o omid o' (exchange_bytes x) t.wrote calm counts (turned.wrote (run.sink_on h))) in
      subst (λ (l : List ℕ). WroteOrFailed sink o o' l) (flat_map_more exchange_bytes [] run.exchanges x ∙ sym (append-nil (responses (run.exchanges ++ x ∷ [])))) w

  -- the end without a further exchange
  pub ends_now : {room mid : A} {c cmid : C} {s smid : S} {kept : List ℕ} {o omid : O} {n : ℕ} (s' : S) (left : List ℕ) (o' : O) (tail : List ℕ) (e : Ended)
      → (run : Running turn clock source sink room mid c cmid s smid kept o omid n) → (source.tells s → left ≡ kept ++ source.ahead smid)
      → IsEnd (source.tells s) left run.exchanges tail e → (sink.tells o → IsWritten sink o o' (responses run.exchanges ++ tail) e)
      → Served turn clock source sink room mid c cmid s s' o o' e
  ends_now {s = s} {smid = smid} {kept = kept} s' left o' tail e run same end written =
      record {
        exchanges = run.exchanges;
        tail = tail;
        left = left;
        turns = run.turns;
        clock_gave = run.gave;
        begins = λ h. subst (λ (l : List ℕ). Begins (source.ahead s) (requests run.exchanges) l) (sym (same h)) (run.begins h);
        ends = end;
        wrote = written;
      }

  abbrev pub awaits : {room mid : A} {c cmid : C} {s smid : S} {kept : List ℕ} {o omid : O} {n : ℕ} → (run : Running turn clock source sink room mid c cmid s smid kept o omid n) → n < 64 → Awaits run.exchanges
  awaits run few = record { open_all = run.open_all; few = subst (λ (k : ℕ). k < 64) (sym run.many) few }

  -- the end with an answer of its own
  pub ends_refused : {room mid : A} {c cmid : C} {s smid : S} {kept : List ℕ} {o omid : O} {n : ℕ} (s' : S) (o' : O) (notice : Notice) (why e : Ended)
      → (run : Running turn clock source sink room mid c cmid s smid kept o omid n)
      → (refuses : Refuses (source.tells s) (kept ++ source.ahead smid) run.exchanges notice (notice_bytes notice))
      → IsEnd (source.tells s) (kept ++ source.ahead smid) run.exchanges (notice_bytes notice) why
      → sink.faults omid ≡ sink.faults o → IsRefused sink omid o' notice why e
      → Served turn clock source sink room mid c cmid s s' o o' e
  ends_refused {room = room} {mid = mid} {c = c} {cmid = cmid} {s = s} {smid = smid} {kept = kept} {o = o} {omid = omid} s' o' notice why e run refuses end calm refused =
      ⊎_elim
      (λ (all : (e ≡ why) × Refused sink omid o' notice).
      subst (Served turn clock source sink room mid c cmid s s' o o') (sym all.0)
      (ends_now s' (kept ++ source.ahead smid) o' (notice_bytes notice) why run (λ h. refl) end
      (λ h. plain_all sink o o' (responses run.exchanges ++ notice_bytes notice) why
      (record {
        bytes = all.1.bytes (run.sink_on h) ∙ ap (λ (l : List ℕ). l ++ notice_bytes notice) (run.wrote h).bytes ∙ append_assoc (sink.taken o) (responses run.exchanges) (notice_bytes notice);
        passed = λ was. all.1.passed (run.sink_on h);
      }))))
      (λ (part : (e ≡ WriteFault) × CutShort sink omid o' notice).
      subst (Served turn clock source sink room mid c cmid s s' o o') (sym part.0)
      (ends_now s' (kept ++ source.ahead smid) o' (notice_bytes notice) WriteFault run (λ h. refl) (inr (notice, refuses))
      (λ h. inr (subst (λ (n : ℕ). Rose n (sink.faults o')) calm part.1.rose, some_behind sink o omid o' (responses run.exchanges) (notice_bytes notice) (run.wrote h).bytes (part.1.some (run.sink_on h))))))
      refused
