use Rattle.std.proofs.Common.{◌≡◌, ◌+◌, ◌-◌, ◌∙◌, ap, sym, subst, arith, length, get_or, List, None}
use Rattle.news_types.specs.Names.{Bytes}
use Rattle.news_io.specs.declared.record.Record.{Record}
use Rattle.news_journal.specs.Log.{records}
use Rattle.news_journal.specs.Opened.{payloads}
use Rattle.news_pair.specs.Pair.{Joined}
use Rattle.news_pair.specs.Opened.{MeetsOrEmpty, places_of}
use Rattle.news_pair.proofs.Rows.{length-payloads}
use Rattle.news_pair.proofs.WereRead.{gathered, meets_joined, meets_room}
use Rattle.std.proofs.lemmas.Result.{err_from_is_err_and}
use Rattle.std.specs.Prelude.{[], slice_get, Some, unwrap_or}
use Rattle.news_journal.specs.Opened.{places}
use Rattle.news_pair.specs.Damage.{first_of, no_entry, on_log, meeting_damage, IsPairDamage}
use Rattle.news_pair.proofs.Rows.{get_there}
use Rattle.news_pair.proofs.Judging.{list_first, list_second, list_third, list_whole}
use Rattle.news_pair.proofs.Sizes.{all_few, side_ends}
use Rattle.news_pair.proofs.Placed.{placed_both}
use Rattle.news_pair.proofs.reading.gather.Goals as goal

pub returns-clause-gathered : goal.returns-clause-gathered
returns-clause-gathered c =
    let base = c.args.head.now.base in
    let side = c.in_ok-end.side.items in
    let log = c.args.log.items in
    let entries = c.in_ok-end.ensures.entries in
    let skip : c.saturating_sub-skip.result ≡ length side - c.args.head.now.base = omega (arith, c.saturating_sub-skip.ensures, c.len-packed.ensures) in
    let all = gathered base c.saturating_sub-skip.result side log c.in_ok-records.records.items c.in_ok-records.ensures skip in
    let h = payloads c.in_ok-records.records.items in
    let meets : MeetsOrEmpty base (payloads side) (payloads log) =
    subst (λ (l : List Record). MeetsOrEmpty c.args.head.now.base (payloads l) (payloads c.args.log.items)) c.deref-2.ensures.value
    (subst (λ (l : List Record). MeetsOrEmpty c.args.head.now.base (payloads c.deref-2.result.now) (payloads l)) c.deref-3.ensures.value c.in_ok-meet.ensures.meets) in
    let joined : Joined base (payloads side) (payloads log) h = subst (Joined base (payloads side) (payloads log)) (sym all) (meets_joined base (payloads side) (payloads log) meets) in
    record {
      are = c.in_ok-end.ensures.are;
      bare = c.in_ok-end.ensures.bare;
      joined = subst (λ (l : List Bytes). Joined c.args.head.now.base l (payloads c.args.log.items) (payloads c.in_ok-records.records.items)) entries joined;
      packed_is = omega (arith, c.len-packed.ensures, length-payloads side, ap length entries);
      end_is = c.in_ok-end.ensures.end;
      used_is = c.in_ok-used.ensures.size ∙ ap (λ (l : List Record). 65 + length (records (payloads l))) c.deref-4.ensures.value;
    }

pub returns-clause-room : goal.returns-clause-room
returns-clause-room c =
    let base = c.args.head.now.base in
    let side = c.in_ok-end.side.items in
    let log = c.args.log.items in
    let skip : c.saturating_sub-skip.result ≡ length side - c.args.head.now.base = omega (arith, c.saturating_sub-skip.ensures, c.len-packed.ensures) in
    let all = gathered base c.saturating_sub-skip.result side log c.in_ok-records.records.items c.in_ok-records.ensures skip in
    let meets : MeetsOrEmpty base (payloads side) (payloads log) =
    subst (λ (l : List Record). MeetsOrEmpty c.args.head.now.base (payloads l) (payloads c.args.log.items)) c.deref-2.ensures.value
    (subst (λ (l : List Record). MeetsOrEmpty c.args.head.now.base (payloads c.deref-2.result.now) (payloads l)) c.deref-3.ensures.value c.in_ok-meet.ensures.meets) in
    let used = c.in_ok-used.ensures.size ∙ ap (λ (l : List Record). 65 + length (records (payloads l))) c.deref-4.ensures.value in
    omega (arith, used, ap (λ (l : List Bytes). length (records l)) all, meets_room base (payloads side) (payloads log) meets)

pub returns-in_err-end-clause-judged : goal.returns-in_err-end-clause-judged
returns-in_err-end-clause-judged c =
    let e = err_from_is_err_and c.from_residual.result c.from_residual.ensures.1 in
    rw (e.1, e.2) (list_first c.args.head.now.base (slice_get c.args.head.now.bytes 10) (places c.args.log.items) c.args.found _ c.in_err-end.ensures.judged)

pub returns-in_err-check_entries-clause-judged : goal.returns-in_err-check_entries-clause-judged
returns-in_err-check_entries-clause-judged c =
    let e = err_from_is_err_and c.from_residual-in_err-check_entries.result c.from_residual-in_err-check_entries.ensures.1 in
    rw (e.1, e.2)
    (list_second c.args.head.now.base (slice_get c.args.head.now.bytes 10) (places c.args.log.items) c.args.found _ c.in_ok-end.ensures.judged
    (subst (λ (l : List Record). IsPairDamage (on_log (first_of no_entry (places l))) c.in_err-check_entries.field-0.0) c.deref.ensures.value c.in_err-check_entries.ensures.judged))

pub returns-in_err-meet-clause-judged : goal.returns-in_err-meet-clause-judged
returns-in_err-meet-clause-judged c =
    let e = err_from_is_err_and c.from_residual-in_err-meet.result c.from_residual-in_err-meet.ensures.1 in
    let byte = get_there c.args.head.now.bytes 10 (omega arith) in
    let none = subst (λ (l : List Record). on_log (first_of no_entry (places l)) ≡ None) c.deref.ensures.value c.in_ok-check_entries.ensures.judged in
    rw (e.1, e.2)
    (list_third c.args.head.now.base (slice_get c.args.head.now.bytes 10) (places c.args.log.items) c.args.found (payloads c.in_ok-end.side.items) _ c.in_ok-end.ensures.entries c.in_ok-end.ensures.judged none
    (subst (λ o. IsPairDamage (meeting_damage c.args.head.now.base o (payloads c.in_ok-end.side.items) (places c.args.log.items)) c.in_err-meet.field-0.0) (sym byte)
    (subst (λ (l : List Record). IsPairDamage (meeting_damage c.args.head.now.base (Some (get_or c.args.head.now.bytes 10 0)) (payloads l) (places c.args.log.items)) c.in_err-meet.field-0.0) c.deref-2.ensures.value
    (subst (λ (l : List Record). IsPairDamage (meeting_damage c.args.head.now.base (Some (get_or c.args.head.now.bytes 10 0)) (payloads c.deref-2.result.now) (places l)) c.in_err-meet.field-0.0) c.deref-3.ensures.value c.in_err-meet.ensures.judged))))

pub returns-clause-judged : goal.returns-clause-judged
returns-clause-judged c =
    let byte = get_there c.args.head.now.bytes 10 (omega arith) in
    let none = subst (λ (l : List Record). on_log (first_of no_entry (places l)) ≡ None) c.deref.ensures.value c.in_ok-check_entries.ensures.judged in
    list_whole c.args.head.now.base (slice_get c.args.head.now.bytes 10) (places c.args.log.items) c.args.found (payloads c.in_ok-end.side.items) c.in_ok-end.ensures.entries c.in_ok-end.ensures.judged none
    (subst (λ o. meeting_damage c.args.head.now.base o (payloads c.in_ok-end.side.items) (places c.args.log.items) ≡ None) (sym byte)
    (subst (λ (l : List Record). meeting_damage c.args.head.now.base (Some (get_or c.args.head.now.bytes 10 0)) (payloads l) (places c.args.log.items) ≡ None) c.deref-2.ensures.value
    (subst (λ (l : List Record). meeting_damage c.args.head.now.base (Some (get_or c.args.head.now.bytes 10 0)) (payloads c.deref-2.result.now) (places l) ≡ None) c.deref-3.ensures.value c.in_ok-meet.ensures.judged)))

pub returns-clause-few : goal.returns-clause-few
returns-clause-few c =
    let ends = side_ends c.args.found c.requires.place c.requires.near in
    omega (arith, c.len-packed.ensures, c.in_ok-end.ensures.few, c.in_ok-end.ensures.end, ends.0)

pub returns-clause-near : goal.returns-clause-near
returns-clause-near c = let ends = side_ends c.args.found c.requires.place c.requires.near in omega (arith, c.in_ok-end.ensures.end, ends.1)

pub returns-clause-all_few : goal.returns-clause-all_few
returns-clause-all_few c =
    all_few c.in_ok-end.side.items c.args.log.items c.saturating_sub-skip.result c.in_ok-records.records.items c.in_ok-records.ensures (omega (arith, c.in_ok-end.ensures.few, c.requires.size)) c.requires.size_log c.in_ok-end.ensures.at c.requires.few_log

pub returns-clause-placed : goal.returns-clause-placed
returns-clause-placed c = λ of_log.
    let skip : c.saturating_sub-skip.result ≡ length c.in_ok-end.side.items - c.args.head.now.base = omega (arith, c.saturating_sub-skip.ensures, c.len-packed.ensures) in
    placed_both c.args.head.now.base c.saturating_sub-skip.result c.in_ok-end.side.items c.args.log.items c.in_ok-records.records.items (unwrap_or (places_of c.args.found) []) of_log c.in_ok-end.ensures.placed c.in_ok-records.ensures skip
