-- A connection, as it is told of its door.
use Rattle.std.proofs.Common.{◌≡◌, ℕ, List, [], ◌∷◌, ◌++◌, false, refl, sym, ap, ◌∙◌, inl, inr}
use Rattle.news_types.specs.Books.{Book}
use Rattle.news_types.specs.declared.entry.Entry.{Entry}
use Rattle.news_io.specs.Clock.{ClockMeaning}
use Rattle.news_io.specs.Sink.{SinkMeaning}
use Rattle.news_io.specs.Source.{SourceMeaning}
use Rattle.room_lock.specs.declared.view.Call.{Call}
use Rattle.desk_routes.specs.declared.response.Notice.{Notice}
use Rattle.desk_routes.specs.declared.response.Notice.TheVariants as notice
use Rattle.feed_http.specs.declared.ended.Ended.{Ended}
use Rattle.feed_http.specs.Exchanges.{Exchange, responses}
use Rattle.feed_http.specs.Served as served
use Rattle.feed_http.specs.Served.{IsRefusal, Refuses, IsClosed, IsEnd, Causes}
use Rattle.shared_connections.specs.Connections.{ServedInTurns, exchanges}
use Rattle.server_doors.specs.Doors.{opened, closed}
use Rattle.server_roles.specs.Conns as told
use Rattle.server_roles.specs.Conns.{conn, IsServed, is_stopped}

-- ---- what ended it, where less is told

refusal_told : {T U : Type 0} → (U → T) → (left : List ℕ) (given : Notice) → IsRefusal T left given → IsRefusal U left given
refusal_told f left notice.Forbidden why = why
refusal_told f left notice.Full why = why
refusal_told f left notice.Fault why = why
refusal_told f left notice.NoMemory why = why
refusal_told f left notice.HeadFault why = λ u. why (f u)
refusal_told f left notice.TooLarge why = λ u. why (f u)
refusal_told f left notice.Chunked why = λ u. why (f u)

refuses_told : {T U : Type 0} → (U → T) → (left : List ℕ) (xs : List Exchange) (given : Notice) (tail : List ℕ) → Refuses T left xs given tail → Refuses U left xs given tail
refuses_told f left xs given tail r = record { why = refusal_told f left given r.why; awaits = r.awaits; tail_is = r.tail_is }

closed_told : {T U : Type 0} → (U → T) → (left : List ℕ) (xs : List Exchange) → IsClosed T left xs → IsClosed U left xs
closed_told f left xs (inl end) = inl (end.0, λ u. end.1 (f u))
closed_told f left xs (inr last) = inr last

end_told : {T U : Type 0} → (U → T) → (left : List ℕ) (xs : List Exchange) (tail : List ℕ) (e : Ended) → IsEnd T left xs tail e → IsEnd U left xs tail e
end_told f left xs tail (Ended.Stopped place) is = is
end_told f left xs tail Ended.Closed is = (is.0, closed_told f left xs is.1)
end_told f left xs tail Ended.Limit is = is
end_told f left xs tail Ended.HeadFault is = refuses_told f left xs notice.HeadFault tail is
end_told f left xs tail Ended.TooLarge is = refuses_told f left xs notice.TooLarge tail is
end_told f left xs tail Ended.Chunked is = refuses_told f left xs notice.Chunked tail is
end_told f left xs tail Ended.ReadFault is = is
end_told f left xs tail Ended.WriteFault (inl last) = inl last
end_told f left xs tail Ended.WriteFault (inr r) = inr (r.0, refuses_told f left xs r.0 tail r.1)
end_told f left xs tail Ended.Memory (inl none) = inl none
end_told f left xs tail Ended.Memory (inr r) = inr (refuses_told f left xs notice.NoMemory tail r)

-- what is no stop
pub not_stopped : (e : Ended) → ((place : ℕ) → e ≡ Ended.Stopped place → ⊥) → is_stopped e ≡ false
not_stopped (Ended.Stopped place) other = absurd (other place refl)
not_stopped Ended.Closed other = refl
not_stopped Ended.Limit other = refl
not_stopped Ended.HeadFault other = refl
not_stopped Ended.TooLarge other = refl
not_stopped Ended.Chunked other = refl
not_stopped Ended.ReadFault other = refl
not_stopped Ended.WriteFault other = refl
not_stopped Ended.Memory other = refl

-- ---- what was written to an output that had nothing

none_before : (front rest : List ℕ) → [] ≡ front ++ rest → front ≡ []
none_before [] rest is = refl
none_before (x ∷ front) rest is = absurd (cc is)

module _ {In Out : Type 0} (source : SourceMeaning In) (sink : SinkMeaning Out) (i i' : In) (o o' : Out) where
  module _ (text : List ℕ) (fresh : sink.taken o ≡ []) (tells : sink.tells o) where
    some_out : served.WroteOrFailed sink o o' text → told.WroteOrFailed (opened source sink i o) (closed source sink i' o') text
    some_out (inl all) = inl (all ∙ ap (λ (l : List ℕ). l ++ text) fresh)
    some_out (inr some) =
        let w = some.1.1 in
        inr (some.0, (some.1.0, w.part ∙ ap (λ (l : List ℕ). l ++ some.1.0) (sym (w.wrote ∙ ap (λ (l : List ℕ). l ++ w.said) fresh))))

    nothing_passed : sink.passed o ≡ []
    nothing_passed = let p = sink.in_order o tells in none_before (sink.passed o) p.0 (sym fresh ∙ p.1)

    all_out : served.WroteAll sink o o' text → told.WroteAll (opened source sink i o) (closed source sink i' o') text
    all_out w = record { bytes = w.bytes ∙ ap (λ (l : List ℕ). l ++ text) fresh; passed = w.passed (nothing_passed ∙ sym fresh) }

    written_out : (e : Ended) → served.IsWritten sink o o' text e → told.IsWritten (opened source sink i o) (closed source sink i' o') text e
    written_out (Ended.Stopped place) w = some_out w
    written_out Ended.Closed w = all_out w
    written_out Ended.Limit w = all_out w
    written_out Ended.HeadFault w = all_out w
    written_out Ended.TooLarge w = all_out w
    written_out Ended.Chunked w = all_out w
    written_out Ended.ReadFault w = all_out w
    written_out Ended.WriteFault w = some_out w
    written_out Ended.Memory w = all_out w

  -- a connection to an output that had nothing, where the door tells
  pub is_served : {C : Type 0} (tells : Type 0) (stands : Book → Type 0) (clock : ClockMeaning C) (xs : List Entry) (ks : List Call) (ys : List Entry) (ls : List Call) (c c' : C) (ended : Ended)
      → (tells → source.tells i × sink.tells o × (sink.taken o ≡ []))
      → (s : ServedInTurns stands clock source sink xs ks ys ls c c' i i' o o' ended)
      → Causes (source.faults i) (source.faults i') (sink.faults o) (sink.faults o') ended
      → IsServed tells (conn (opened source sink i o) s.answered ended (closed source sink i' o'))
  is_served tells stands clock xs ks ys ls c c' ended fresh s causes = record {
    tail = s.tail;
    left = s.left;
    begins = λ t. s.begins (fresh t).0;
    ends = end_told (λ t. (fresh t).0) s.left (exchanges s.answered) s.tail ended s.ends;
    wrote = λ t. written_out (responses (exchanges s.answered) ++ s.tail) (fresh t).2 (fresh t).1 ended (s.wrote (fresh t).1);
    causes = causes;
  }
