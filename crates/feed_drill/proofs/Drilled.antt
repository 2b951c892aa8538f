-- A drill, from its parts.
use Rattle.std.proofs.Common.{◌≡◌, ℕ, true, List, [], ◌++◌, length, map, take, drop, sym, ap, ◌∙◌, subst}
use Rattle.std.proofs.lemmas.List.{take-append-drop}
use Rattle.news_types.specs.declared.query.QueueRow.{QueueRow}
use Rattle.news_types.specs.Names.{Bytes, is_in}
use Rattle.news_types.specs.History.{History, moment_at}
use Rattle.news_types.specs.Books.{Book, followed_by}
use Rattle.news_types.specs.Answers.{in_order, queue_rows}
use Rattle.news_types.specs.Delivery.{acked, tries}
use Rattle.news_io.specs.Faults.{Rose}
use Rattle.news_io.specs.Sink.{SinkMeaning}
use Rattle.news_io.specs.declared.memory_keeper.MemoryKeeper.{MemoryKeeper}
use Rattle.news_room.specs.declared.room.Room.{Room}
use Rattle.feed_links.specs.declared.memory_link.MemoryLink.{MemoryLink}
use Rattle.drill_plan.specs.declared.planned.Planned.{Planned}
use Rattle.drill_plan.specs.Plan.{plan}
use Rattle.publish_workers.specs.Completeness.{NoneReady}
use Rattle.publish_workers.specs.InMemory.{names_of, HoldsAll}
use Rattle.feed_drill.specs.Requests.{given, with_list}
use Rattle.feed_drill.specs.Report.{subscribers_of, entries_line, row_lines, drill_report}
use Rattle.feed_drill.specs.Delivery.{empty, IsDelivered}
use Rattle.feed_drill.specs.Drill.{reading_of, IsDrill, PrintsFirst}
use Rattle.feed_drill.proofs.Asked.{untried_given, nothing_tried}
use Rattle.feed_drill.proofs.Empty.{keeps_pace}
use Rattle.feed_drill.proofs.Reported.{same_subscribers, rows_are, lines_are}

abbrev Untried : History → Bytes → Type 0
Untried h s = (acked h s ≡ 0) × (tries h s ≡ 0)

module _ (n seed : ℕ) (b : Book) (planned : List Planned) (rows : List QueueRow) (room : Room MemoryKeeper) (link later : MemoryLink MemoryKeeper) (reading : ℕ) (at : reading ≡ reading_of n) (first : b.list ≡ []) (are : planned ≡ plan n seed)
    (queued : rows ≡ queue_rows (given b.list planned) (subscribers_of (given b.list planned))) (named : names_of link ≡ map (λ (row : QueueRow). row.subscriber) rows)
    (done : IsDelivered reading (with_list (given b.list planned) b) (map empty (names_of link)) room link later) where
  abbrev list : History
  list = followed_by done.more (given b.list planned)

  given_is : given b.list planned ≡ given [] (plan n seed)
  given_is = ap (λ (h : History). given h planned) first ∙ ap (λ (l : List Planned). given [] l) are

  -- the link's names are the subscribers
  names_are : names_of link ≡ subscribers_of list
  names_are =
      named ∙ ap (map (λ (row : QueueRow). row.subscriber)) queued ∙ rows_are (given b.list planned) (subscribers_of (given b.list planned)) ∙ ap in_order (sym (same_subscribers done.more (given b.list planned) done.only))

  pub is_drill : IsDrill n seed list done.later
  is_drill = record {
    delivered = done.more;
    list = ap (followed_by done.more) given_is;
    only = done.only;
    legal = done.stands.kept.legal;
    rests = subst (λ (names : List Bytes). NoneReady list names (moment_at list (reading_of n))) names_are (subst (λ (r : ℕ). NoneReady list (names_of link) (moment_at list r)) at done.rests);
    equal = λ s there.
        let untried = subst (λ (h : History). Untried h s) (sym given_is) ((untried_given (plan n seed) [] nothing_tried).acked_is s, (untried_given (plan n seed) [] nothing_tried).tries_is s) in
        let one : is_in s (names_of link) ≡ true = ap (λ (names : List Bytes). is_in s names) names_are ∙ there in
        subst (λ (names : List Bytes). HoldsAll list names done.later s) names_are
        (done.each s (keeps_pace (given b.list planned) (names_of link) s one untried.0) untried.1);
  }

  -- its report
  pub reported : (entries : ℕ) (again : List QueueRow) (bytes : Bytes) → entries ≡ length list → again ≡ queue_rows list (subscribers_of list) → bytes ≡ entries_line entries ++ row_lines (names_of later) done.later again
      → bytes ≡ drill_report list done.later
  reported entries again bytes count rows_is is =
      is ∙ ap (λ (e : ℕ). entries_line e ++ row_lines (names_of later) done.later again) count
      ∙ ap (λ (names : List Bytes). entries_line (length list) ++ row_lines names done.later again) (done.names ∙ names_are)
      ∙ ap (λ (l : List QueueRow). entries_line (length list) ++ row_lines (subscribers_of list) done.later l) rows_is
      ∙ ap (λ (l : Bytes). entries_line (length list) ++ l) (lines_are list (subscribers_of list) done.later (subscribers_of list))

-- the first bytes of a report
pub prints_first : {O : Type 0} (sink : SinkMeaning O) (old new : O) (bytes report : Bytes) (n : ℕ) → bytes ≡ report → Rose (sink.faults old) (sink.faults new) → (sink.tells old → sink.tells new) → (sink.tells old → sink.taken new ≡ sink.taken old ++ take n bytes)
    → PrintsFirst sink old new report
prints_first sink old new bytes report n same rose told taken = record { rose = rose; told = told; front = take n bytes; first = (drop n bytes, sym same ∙ sym (take-append-drop n bytes)); taken = taken }
