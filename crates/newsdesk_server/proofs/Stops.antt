-- The stop with which the roles ended stands in the list.
use Rattle.std.proofs.Common.{◌≡◌, ◌⊎◌, ℕ, ◌<◌, ◌+◌, Bool, true, false, cond, Option, Some, None, List, [], ◌∷◌, ◌++◌, length, take, drop, map, nat_lt, inl, inr, refl, sym, ap, ◌∙◌, subst, append_assoc, arith}
use Rattle.std.specs.Option.{option_or}
use Rattle.std.proofs.lemmas.Bool.{ltb-true}
use Rattle.std.proofs.lemmas.List.{take-append-drop}
use mathlib.Core.List.{IsPrefix}
use Rattle.news_types.specs.declared.entry.Entry.{Entry}
use Rattle.news_types.specs.History.{History, is_stop, last_stop}
use Rattle.news_types.specs.Books.{Book, followed_by, onto}
use Rattle.news_types.specs.Members.{Each}
use Rattle.news_types.proofs.Books.{behind_more, behind_length}
use Rattle.news_types.proofs.Members.{some_is, none_some}
use Rattle.news_io.specs.Clock.{ClockMeaning}
use Rattle.news_io.specs.Link.{LinkMeaning}
use Rattle.room_lock.specs.Going.{AllHold}
use Rattle.room_lock.specs.Passes.{At, found_by, left_by, pairs}
use Rattle.room_lock.specs.declared.view.Call.{Call}
use Rattle.feed_http.specs.declared.ended.Ended.{Ended}
use Rattle.feed_http.specs.Exchanges.{Exchange}
use Rattle.feed_http.specs.Turns.{first_stop}
use Rattle.feed_http.proofs.Answering.{stop_of_turns}
use Rattle.feed_http.specs.Outcome.{stop_behind}
use Rattle.feed_http.specs.Served.{IsEnd}
use Rattle.shared_connections.specs.Connections.{CalledTurn, turn_of, call_of, Answered, exchange_of, exchanges, answered_calls, AreAnsweredIn, answered_holds}
use Rattle.shared_connections.specs.Turns.{IsAnsweredIn}
use Rattle.shared_workers.specs.Tallies.{gather}
use Rattle.shared_workers.proofs.Tallies.{gather_more}
use Rattle.server_doors.specs.Doors.{DoorMeaning}
use Rattle.server_roles.specs.Conns.{Conn, answered_in, IsServed}
use Rattle.server_roles.specs.Firsts.{First}
use Rattle.server_roles.specs.Ends.{Roles}
use Rattle.server_roles.specs.declared.first.Ending.{Ending}
use Rattle.server_roles.specs.declared.job.Job.{Job}
use Rattle.newsdesk_server.specs.Serving.{IsStopAt, HasStop}

-- ---- stops of a list

stop_more : (later : List Entry) (h : History) (place : ℕ) → IsStopAt h place → IsStopAt (followed_by later h) place
stop_more later h place s = record {
  before = s.before;
  stop = s.stop;
  later = s.later ++ later;
  list = ap (λ (l : History). followed_by later l) s.list ∙ behind_more s.later later (s.stop ∷ s.before);
  place_is = s.place_is;
  stops = s.stops;
}

-- it stays where the list goes on
stop_stays : (xs ys : List Entry) (h : History) (place : ℕ) → IsPrefix xs ys → IsStopAt (followed_by xs h) place → IsStopAt (followed_by ys h) place
stop_stays xs ys h place p s = subst (λ (l : List Entry). IsStopAt (followed_by l h) place) p.1 (subst (λ (l : History). IsStopAt l place) (behind_more xs p.0 h) (stop_more p.0 (followed_by xs h) place s))

last_by : (e : Entry) (h : History) (b : Bool) → is_stop e.act ≡ b → (0 < last_stop h → IsStopAt h (last_stop h)) → 0 < cond b (length h + 1) (last_stop h) → IsStopAt (e ∷ h) (cond b (length h + 1) (last_stop h))
last_by e h true is rest some = record { before = h; stop = e; later = []; list = refl; place_is = refl; stops = is }
last_by e h false is rest some = stop_more (e ∷ []) h (last_stop h) (rest some)

last_stops : (h : History) → 0 < last_stop h → IsStopAt h (last_stop h)
last_stops [] some = absurd (omega (arith, some))
last_stops (e ∷ h) some = last_by e h (is_stop e.act) refl (last_stops h) some

newer_by : (h : History) (b : Bool) (n : ℕ) → (n ≡ cond b (length h + 1) (last_stop h)) ⊎ (length h + 1 < n) → (n ≡ last_stop h) ⊎ (length h < n)
newer_by h true n (inl is) = inr (omega (arith, is))
newer_by h false n (inl is) = inl is
newer_by h b n (inr behind) = inr (omega (arith, behind))

longer_by : (e : Entry) (h : History) (n : ℕ) → (n ≡ last_stop (e ∷ h)) ⊎ (length (e ∷ h) < n) → (n ≡ cond (is_stop e.act) (length h + 1) (last_stop h)) ⊎ (length h + 1 < n)
longer_by e h n (inl is) = inl is
longer_by e h n (inr behind) = inr (omega (arith, behind))

-- the last stop behind more entries is the one before, or one of them
newer : (more : List Entry) (h : History) → (last_stop (followed_by more h) ≡ last_stop h) ⊎ (length h < last_stop (followed_by more h))
newer [] h = inl refl
newer (e ∷ es) h = newer_by h (is_stop e.act) (last_stop (followed_by es (e ∷ h))) (longer_by e h (last_stop (followed_by es (e ∷ h))) (newer es (e ∷ h)))

-- ---- a turn that kept a stop

kept_by : (b : Bool) (before now place : ℕ) → nat_lt before now ≡ b → Some place ≡ cond b (Some now) None → (before < now) × (place ≡ now)
kept_by true before now place less is = (ltb-true before now less, some_is place now is)
kept_by false before now place less is = absurd (none_some place (sym is))

behind_by : (n before now place : ℕ) → before < now → place ≡ now → (now ≡ before) ⊎ (n < now) → n < place
behind_by n before now place less is (inl same) = absurd (omega (arith, less, same))
behind_by n before now place less is (inr behind) = omega (arith, behind, is)

-- it stands behind the list that the turn found
turn_stops : (h : History) (more : List Entry) (place : ℕ) → Some place ≡ stop_behind (last_stop h) (last_stop (followed_by more h)) → (length h < place) × IsStopAt (followed_by more h) place
turn_stops h more place is =
    let g : History = followed_by more h in
    let kept = kept_by (nat_lt (last_stop h) (last_stop g)) (last_stop h) (last_stop g) place refl is in
    (behind_by (length h) (last_stop h) (last_stop g) place kept.0 kept.1 (newer more h), subst (λ (n : ℕ). IsStopAt g n) (sym kept.1) (last_stops g (omega (arith, kept.0))))

-- ---- the last of some things

last_of_map : {A B : Type 0} (f : A → B) (xs : List A) (ys : List B) (y : B) → map f xs ≡ ys ++ y ∷ [] → (zs : List A) × (x : A) × (xs ≡ zs ++ x ∷ []) × (f x ≡ y)
last_of_map f [] [] y is = absurd (cc is)
last_of_map f [] (z ∷ ys) y is = absurd (cc is)
last_of_map f (x ∷ []) [] y is = ([], x, refl, cc is)
last_of_map f (x ∷ w ∷ xs) [] y is = absurd (cc is)
last_of_map f (x ∷ xs) (z ∷ ys) y is = let r = last_of_map f xs ys y (cc is) in (x ∷ r.0, r.1, ap (λ l. x ∷ l) r.2, r.3)

each_last : {A : Type 0} (P : A → Type 0) (xs : List A) (x : A) → Each P (xs ++ x ∷ []) → P x
each_last P [] x all = all.0
each_last P (y ∷ xs) x all = each_last P xs x all.1

holds_last : {S : Type 0} (calls_in : S → List Call) (holds : S → List (At × At) → Type 0) (b : Book) (seen : List Entry) (ss : List S) (s : S) → AllHold calls_in holds b seen (ss ++ s ∷ []) → holds s (pairs b seen (calls_in s))
holds_last calls_in holds b seen [] s all = all.0
holds_last calls_in holds b seen (r ∷ ss) s all = holds_last calls_in holds b seen ss s all.1

-- ---- the turn that kept the stop

abbrev DidAnswer : CalledTurn → At × At → Type 0
DidAnswer t found = IsAnsweredIn found.0 found.1 t.turn.read t.turn.reading t.counts t.turn.answer

module _ (b : Book) (seen : List Entry) (place : ℕ) where
  called_stops : (t : CalledTurn) → DidAnswer t (found_by t.call b seen, left_by t.call b seen) → t.turn.answer.stop ≡ Some place → (length b.list < place) × IsStopAt (onto seen b).list place
  called_stops t turn is =
      let c = t.call in
      let g : History = followed_by (take c.from seen) b.list in
      let left : followed_by (take c.to seen) b.list ≡ followed_by turn.more g = ap (λ (l : Book). l.list) turn.book in
      let kept : Some place ≡ stop_behind (last_stop g) (last_stop (followed_by turn.more g)) = sym is ∙ (turn.stop ∙ ap (λ (l : History). stop_behind (last_stop g) (last_stop l)) left) in
      let t = turn_stops g turn.more place kept in
      let there : IsStopAt (followed_by (take c.to seen) b.list) place = subst (λ (l : History). IsStopAt l place) (sym left) t.1 in (
        omega (arith, t.0, behind_length (take c.from seen) b.list),
        stop_stays (take c.to seen) seen b.list place (drop c.to seen, take-append-drop c.to seen) there,
      )

  -- of some turns the first that kept one
  some_stops : (t : CalledTurn) (ts : List CalledTurn) (stop : Option ℕ) → t.turn.answer.stop ≡ stop → option_or stop (first_stop (map turn_of ts)) ≡ Some place
      → DidAnswer t (found_by t.call b seen, left_by t.call b seen) → (first_stop (map turn_of ts) ≡ Some place → (length b.list < place) × IsStopAt (onto seen b).list place) → (length b.list < place) × IsStopAt (onto seen b).list place
  some_stops t ts None is first turn rest = rest first
  some_stops t ts (Some other) is first turn rest = called_stops t turn (is ∙ first)

  turns_stop : (ts : List CalledTurn) → AreAnsweredIn ts (pairs b seen (map call_of ts)) → first_stop (map turn_of ts) ≡ Some place → (length b.list < place) × IsStopAt (onto seen b).list place
  turns_stop [] all is = absurd (cc is)
  turns_stop (t ∷ ts) all is = some_stops t ts t.turn.answer.stop refl is all.0 (λ later. turns_stop ts all.1 later)

  answered_stops : (a : Answered) → answered_holds a (pairs b seen (answered_calls a)) → a.answer.stop ≡ Some place → (length b.list < place) × IsStopAt (onto seen b).list place
  answered_stops a holds is = turns_stop a.turns holds.1 (sym (stop_of_turns (exchange_of a) holds.0) ∙ is)

module _ {G C : Type 0} (door : DoorMeaning G) (clock : ClockMeaning C) (stands : Book → Type 0) (old new : G) (c : C) (seen : List Entry) (calls : List Call) (place : ℕ) where
  first_stops : First door clock stands old new c [] [] seen calls (Ending.Stopped place) → (b : Book) → stands b → (length b.list < place) × IsStopAt (onto seen b).list place
  first_stops first b is =
      let ends = first.ends in
      let told : Type 0 = door.tells old in
      let s = each_last (IsServed told) ends.before ends.last (subst (λ (l : List Conn). Each (IsServed told) l) ends.are first.served) in
      let e : IsEnd told s.left (exchanges ends.last.answered) s.tail (Ended.Stopped place) = subst (λ (x : Ended). IsEnd told s.left (exchanges ends.last.answered) s.tail x) ends.stops s.ends in
      let m = last_of_map exchange_of ends.last.answered e.2.before e.1 e.2.are in
      let steps : gather answered_in first.conns ≡ (gather answered_in ends.before ++ m.0) ++ m.1 ∷ [] =
      ap (λ (l : List Conn). gather answered_in l) ends.are ∙ (gather_more answered_in ends.before ends.last ∙ (ap (λ (l : List Answered). gather answered_in ends.before ++ l) m.2 ∙ sym (append_assoc (gather answered_in ends.before) m.0 (m.1 ∷ [])))) in
      let all : AllHold answered_calls answered_holds b first.mid ((gather answered_in ends.before ++ m.0) ++ m.1 ∷ []) = subst (λ (l : List Answered). AllHold answered_calls answered_holds b first.mid l) steps (first.went.did b is) in
      let holds = holds_last answered_calls answered_holds b first.mid (gather answered_in ends.before ++ m.0) m.1 all in
      let kept = answered_stops b first.mid place m.1 holds (ap (λ (x : Exchange). x.answer.stop) m.3 ∙ e.3) in
      (kept.0, stop_stays first.mid seen b.list place first.halted.grows kept.1)

-- ---- the roles

module _ {G C L : Type 0} (door : DoorMeaning G) (clock : ClockMeaning C) (link : LinkMeaning L) (base : ℕ) (stands : Book → Type 0) (old new : G) (c : C) (jobs : List (Job C L)) (links : List L) (more : List Entry) where
  pub roles_stop : (ending : Ending) → Roles door clock link base stands old new c [] [] jobs [] links ending more → (b : Book) → stands b → base ≡ length b.list → HasStop base (onto more b).list ending
  roles_stop (Ending.Stopped place) roles b is base_is =
      let first = first_stops door clock stands old new c roles.first_front roles.first_calls place roles.first b is in
      (omega (arith, first.0, base_is), stop_stays roles.first_front more b.list place roles.first_begins first.1)
  roles_stop Ending.DoorFault roles b is base_is = tt
