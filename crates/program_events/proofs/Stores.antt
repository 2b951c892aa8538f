-- Files that open to one list, before and behind a call that keeps it.
use Rattle.std.proofs.Common.{◌≡◌, ◌⊎◌, inl, inr, ℕ, ◌≤◌, ◌<◌, ◌^◌, List, [], ◌∷◌, ◌++◌, length, Option, Some, None, refl, sym, ap, ◌∙◌, subst, arith, append-nil, length-append}
use Rattle.std.specs.Prelude.{replicate}
use Rattle.news_types.specs.Doubt.{payloads}
use Rattle.news_types.specs.Names.{Bytes}
use Rattle.news_types.specs.History.{History}
use Rattle.entry_codec.specs.Spelling.{entry_bytes}
use Rattle.news_io.specs.Disk.{DiskMeaning}
use Rattle.news_io.specs.Link.{LinkMeaning}
use Rattle.news_io.specs.Sink.{SinkMeaning}
use Rattle.news_journal.specs.Log.{room_head, header_bytes, opened}
use Rattle.news_journal.specs.Read.{opened_closed}
use Rattle.news_journal.specs.Opened.{Still}
use Rattle.news_journal.specs.Stands.{listed}
use Rattle.news_journal.specs.declared.header.Header.TheVariants as header
use Rattle.news_pair.specs.Law.{opens_one, finds_one, opened_long, opens_beside}
use Rattle.news_pair.specs.Pair.{base_bytes, edition_of, side_head, packed_by, packed_in, PairOpens, PairFinds}
use Rattle.news_pair.specs.Stands.{log_disk, side_disk}
use Rattle.news_pair.specs.Steps.{Stays}
use Rattle.news_pair.specs.Steps.Stays.{as_they_are, side_written, log_written}
use Rattle.news_pair.specs.declared.pair.Pair.{Pair}
use Rattle.news_pair.proofs.Finding.{pair_found}
use Rattle.news_pair.proofs.WereRead.{one_store, six_zeros}
use Rattle.news_room.specs.declared.room.Room.{Room}
use Rattle.news_room.proofs.Lists.{same_list}
use Rattle.store_files.specs.Files.{Files, OpenTo, OpenAlike, MayLeave, LeftSince}
use Rattle.store_files.specs.Store.{IsRefused, IsOpenRoom}
use Rattle.store_files.specs.declared.trouble.Trouble.{Trouble}
use Rattle.store_files.proofs.Holding.{stays_keeps, room_holds}
use Rattle.newsdesk_cli.specs.Command.{IsInit}
use Rattle.newsdesk_cli.specs.Standby.{ShipsBy, ShipsOver}
use Rattle.standby_files.specs.Shipping.{IsShip}
use Rattle.program_events.specs.Chains.{LeftWithin, NewStoresAreEmpty}

-- files open to one list, of one store
pub one_history : (store store' : Bytes) → length store ≡ 16 → length store' ≡ 16 → (files : Files) (h g : History) → OpenTo store files h → OpenTo store' files g → (store ≡ store') × (h ≡ g)
one_history store store' long long' files h g a b =
    let same = one_store files.0 store store' a.pair.tail b.pair.tail long long' a.pair.log_is b.pair.log_is in
    let there = subst (λ (s : Bytes). PairOpens s files.0 files.1 (payloads entry_bytes g)) (sym same) b.pair in
    (same, same_list h g a.kept.formed b.kept.formed (opens_one store files.0 files.1 (payloads entry_bytes h) (payloads entry_bytes g) a.pair there))

-- files that open alike open to the same list
pub alike : (store : Bytes) (files others : Files) (h : History) → OpenTo store files h → OpenAlike store files others → OpenTo store others h
alike store files others h o same =
    let is = finds_one store files.0 files.1 (payloads entry_bytes h) same.0 o.pair same.1 in
    record { pair = subst (PairFinds store others.0 others.1) is same.2; kept = o.kept }

pub to_both : (store : Bytes) → length store ≡ 16 → (files others : Files) (h : History) (store' : Bytes) → length store' ≡ 16 → (g : History) → OpenTo store files h → OpenTo store' files g → OpenTo store' others g → OpenAlike store files others
to_both store long files others h store' long' g a b c =
    let same = one_history store store' long long' files h g a b in
    let there = subst (λ (l : History). OpenTo store others l) (sym same.1) (subst (λ (s : Bytes). OpenTo s others g) (sym same.0) c) in
    (Some (payloads entry_bytes h), a.pair, there.pair)

module _ {D : Type 0} (disk : DiskMeaning D) where
  -- a crash now is one since an earlier moment
  pub counts_since : (log log' : D) → disk.moment log ≤ disk.moment log' → (side' : D) (files : Files) → MayLeave disk log' side' files → LeftSince disk log' side' (disk.moment log) files
  counts_since log log' later side' files may = (disk.counts_now log' (disk.moment log) files.0 later may.0, may.1)

  -- the files open as some that a crash could leave before
  abbrev pub IsAsBefore : Bytes → D → D → Files → Type 0
  IsAsBefore store log side files = (others : Files) × MayLeave disk log side others × OpenAlike store others files

  as_they_were : (store : Bytes) (log side : D) (files : Files) → MayLeave disk log side files → IsAsBefore store log side files
  as_they_were store log side files may = let f = pair_found store files.0 files.1 in (files, may, (f.0, f.1, f.1))

  module _ (store : Bytes) (long : length store ≡ 16) (log side : D) (h : History) (tells : disk.tells log) (tells' : disk.tells side) (opens : OpenTo store (disk.seen log, disk.seen side) h) where
    as_seen : (files : Files) (store' : Bytes) → length store' ≡ 16 → (g : History) → OpenTo store' (disk.seen log, disk.seen side) g → OpenTo store' files g → IsAsBefore store log side files
    as_seen files store' long' g was now =
        ((disk.seen log, disk.seen side), (disk.leaves_seen log tells, disk.leaves_seen side tells'), to_both store long (disk.seen log, disk.seen side) files h store' long' g opens was now)

    -- files that did not serve
    pub refused_keeps : (log' side' : D) (t : Trouble) → IsRefused disk log side log' side' t → (files : Files) → LeftSince disk log' side' (disk.moment log) files → IsAsBefore store log side files
    refused_keeps log' side' t r files left = by ((r.crash tells tells').nothing_else (disk.moment log) files.0 (omega arith) left.0)
      where
        by : disk.left_since log (disk.moment log) files.0 ⊎ (disk.may_leave log files.0 ⊎ ((s : List ℕ) → disk.may_leave side' s → (owner : Bytes) → length owner ≡ 16 → (l : List Bytes) → PairOpens owner (disk.seen log) (disk.seen side) l → PairOpens owner files.0 s l)) → IsAsBefore store log side files
        by (inl was) = as_they_were store log side files (disk.only_now log files.0 was, (r.still tells').crash files.1 left.1)
        by (inr (inl may)) = as_they_were store log side files (may, (r.still tells').crash files.1 left.1)
        by (inr (inr still)) = as_seen files store long h opens (record { pair = still files.1 left.1 store long (payloads entry_bytes h) opens.pair; kept = opens.kept })

    -- files that were looked at
    pub looked_at : (log' side' : D) → Still disk log log' → Still disk side side' → (files : Files) → LeftSince disk log' side' (disk.moment log) files → IsAsBefore store log side files
    looked_at log' side' still still' files left = by (still.time.nothing_else (disk.moment log) files.0 (omega arith) left.0)
      where
        by : disk.left_since log (disk.moment log) files.0 ⊎ disk.may_leave log files.0 → IsAsBefore store log side files
        by (inl was) = as_they_were store log side files (disk.only_now log files.0 was, still'.crash files.1 left.1)
        by (inr may) = as_they_were store log side files (may, still'.crash files.1 left.1)

    -- and they are not empty
    pub never_empty : disk.seen log ≡ [] → ⊥
    never_empty none = omega (arith, opened_long (room_head (edition_of (disk.seen log)) (base_bytes (disk.seen log)) store) (disk.seen log) opens.pair.tail opens.pair.log_is, ap length none)

    -- files that hold a list are never made a store anew
    pub init_keeps : {O : Type 0} (sink : SinkMeaning O) (owner : Bytes) (log' side' : D) (o o' : O) (status : ℕ) → IsInit disk sink owner log log' side side' o o' status → (files : Files) → LeftSince disk log' side' (disk.moment log) files → IsAsBefore store log side files
    init_keeps sink owner log' side' o o' status (inl taken) files left = looked_at log' side' taken.still taken.still_side files left
    init_keeps sink owner log' side' o o' status (inr (inl unmade)) files left = elim (unmade.crash tells) [
      | inl still ↦ looked_at log' side' still unmade.still_side files left
      | inr made ↦ absurd (never_empty made.0)
    ]
    init_keeps sink owner log' side' o o' status (inr (inr made)) files left = absurd (never_empty (made.empty tells))

    -- and time goes on
    pub init_time : {O : Type 0} (sink : SinkMeaning O) (owner : Bytes) (log' side' : D) (o o' : O) (status : ℕ) → IsInit disk sink owner log log' side side' o o' status → disk.moment log ≤ disk.moment log'
    init_time sink owner log' side' o o' status (inl taken) = taken.still.time.later
    init_time sink owner log' side' o o' status (inr (inl unmade)) = elim (unmade.crash tells) [
      | inl still ↦ still.time.later
      | inr made ↦ absurd (never_empty made.0)
    ]
    init_time sink owner log' side' o o' status (inr (inr made)) = absurd (never_empty (made.empty tells))

    -- a room's files while they were opened
    pub opened_keeps : (room : Room (Pair D)) (o : IsOpenRoom disk log side room) (files : Files) → LeftSince disk (log_disk room.keeper) (side_disk room.keeper) (disk.moment log) files → IsAsBefore store log side files
    opened_keeps room o files left = by ((o.crash tells tells').nothing_else (disk.moment log) files.0 (omega arith) left.0)
      where
        by : disk.left_since log (disk.moment log) files.0 ⊎ (disk.may_leave log files.0 ⊎ ((s : List ℕ) → disk.may_leave (side_disk room.keeper) s → OpenTo o.store (files.0, s) o.history)) → IsAsBefore store log side files
        by (inl was) = as_they_were store log side files (disk.only_now log files.0 was, (o.still tells').crash files.1 left.1)
        by (inr (inl may)) = as_they_were store log side files (may, (o.still tells').crash files.1 left.1)
        by (inr (inr now)) = as_seen files o.store o.long o.history (o.bytes tells tells') (now files.1 left.1)

    -- ---- files whose list was shipped

    module _ {O L : Type 0} (sink : SinkMeaning O) (link : LinkMeaning L) (name : Bytes) (log' side' : D) (o o' : O) (status : ℕ) where
      -- files that nobody touched
      same_keeps : log' ≡ log → side' ≡ side → (files : Files) → LeftSince disk log' side' (disk.moment log) files → IsAsBefore store log side files
      same_keeps same same' files left =
          as_they_were store log side files (disk.only_now log files.0 (subst (λ (d : D). disk.left_since d (disk.moment log) files.0) same left.0), subst (λ (d : D). disk.may_leave d files.1) same' left.1)

      same_time : log' ≡ log → disk.moment log ≤ disk.moment log'
      same_time same = omega (arith, ap disk.moment same)

      shipped_keeps : (l l' : L) → IsShip disk sink link name log log' side side' o o' l l' status → (files : Files) → LeftSince disk log' side' (disk.moment log) files → IsAsBefore store log side files
      shipped_keeps l l' (inl not) files left = refused_keeps log' side' not.why not.refused files left
      shipped_keeps l l' (inr did) files left = by ((did.crash tells tells').nothing_else (disk.moment log) files.0 (omega arith) left.0)
        where
          by : disk.left_since log (disk.moment log) files.0 ⊎ (disk.may_leave log files.0 ⊎ ((s : List ℕ) → disk.may_leave side' s → OpenTo did.opened.store (files.0, s) did.opened.history)) → IsAsBefore store log side files
          by (inl was) = as_they_were store log side files (disk.only_now log files.0 was, (did.still tells').crash files.1 left.1)
          by (inr (inl may)) = as_they_were store log side files (may, (did.still tells').crash files.1 left.1)
          by (inr (inr now)) = as_seen files did.opened.store did.opened.long did.opened.history (did.opened.bytes tells tells') (now files.1 left.1)

      shipped_time : (l l' : L) → IsShip disk sink link name log log' side side' o o' l l' status → disk.moment log ≤ disk.moment log'
      shipped_time l l' (inl not) = (not.refused.crash tells tells').later
      shipped_time l l' (inr did) = (did.crash tells tells').later

      by_keeps : (l l' : L) → ShipsBy disk sink name log log' side side' o o' status link l l' → (files : Files) → LeftSince disk log' side' (disk.moment log) files → IsAsBefore store log side files
      by_keeps l l' (inl none) files left = same_keeps none.refused.same none.refused.same_side files left
      by_keeps l l' (inr ships) files left = shipped_keeps l l' ships files left

      by_time : (l l' : L) → ShipsBy disk sink name log log' side side' o o' status link l l' → disk.moment log ≤ disk.moment log'
      by_time l l' (inl none) = same_time none.refused.same
      by_time l l' (inr ships) = shipped_time l l' ships

      pub ship_keeps : (l l' : List L) → ShipsOver disk sink name log log' side side' o o' status link l l' → (files : Files) → LeftSince disk log' side' (disk.moment log) files → IsAsBefore store log side files
      ship_keeps [] l' none files left = same_keeps none.1.same none.1.same_side files left
      ship_keeps (l ∷ others) l' ships files left = by_keeps l ships.0 ships.2 files left

      -- and time goes on
      pub ship_time : (l l' : List L) → ShipsOver disk sink name log log' side side' o o' status link l l' → disk.moment log ≤ disk.moment log'
      ship_time [] l' none = same_time none.1.same
      ship_time (l ∷ others) l' ships = by_time l ships.0 ships.2

  -- ---- calls that keep a list

  module _ (store : Bytes) (l : List Bytes) (log side : D) (keeps : (c s : List ℕ) → disk.may_leave log c → disk.may_leave side s → PairOpens store c s l) where
    is_list : (c s : List ℕ) (found : Option (List Bytes)) → PairFinds store c s found → found ≡ Some l → PairOpens store c s l
    is_list c s found finds is = subst (PairFinds store c s) is finds

    within_list : {log' side' : D} (stays : Stays disk store l log side log' side') (files : Files) → LeftWithin disk store l log side stays files → PairOpens store files.0 files.1 l
    within_list as_they_are files may = keeps files.0 files.1 may.0 may.1
    within_list (side_written {log' = log'} {side' = side'} {next = next} before step) files (inl was) = within_list before files was
    within_list (side_written {log' = log'} {side' = side'} {next = next} before step) files (inr left) =
        let f = pair_found store files.0 files.1 in
        is_list files.0 files.1 f.0 f.1
        (elim (step.nothing_else (disk.moment side') f.0 (omega arith) (files.1, left.1, (files.0, left.0, f.1))) [
          | inl was ↦ finds_one store was.2.0 was.0 l f.0 (stays_keeps disk store l log side log' side' keeps before was.2.0 was.0 was.2.1 (disk.only_now side' was.0 was.1)) was.2.2
          | inr same ↦ same
        ])
    within_list (log_written {log' = log'} {side' = side'} {next = next} before step) files (inl was) = within_list before files was
    within_list (log_written {log' = log'} {side' = side'} {next = next} before step) files (inr left) =
        let f = pair_found store files.0 files.1 in
        is_list files.0 files.1 f.0 f.1
        (elim (step.nothing_else (disk.moment log') f.0 (omega arith) (files.0, left.0, (files.1, left.1, f.1))) [
          | inl was ↦ finds_one store was.0 was.2.0 l f.0 (stays_keeps disk store l log side log' side' keeps before was.0 was.2.0 (disk.only_now log' was.0 was.1) was.2.1) was.2.2
          | inr same ↦ same
        ])

  -- a list while it was packed
  pub packed_within : (store : Bytes) → length store ≡ 16 → (log side : D) (h : History) → disk.tells log → disk.tells side → OpenTo store (disk.seen log, disk.seen side) h → (room : Room (Pair D)) (o : IsOpenRoom disk log side room) (log' side' : D)
      (stays : Stays disk o.store (payloads entry_bytes o.history) (log_disk room.keeper) (side_disk room.keeper) log' side') (files : Files)
      → LeftWithin disk o.store (payloads entry_bytes o.history) (log_disk room.keeper) (side_disk room.keeper) stays files → IsAsBefore store log side files
  packed_within store long log side h tells tells' opens room o log' side' stays files left =
      let was = o.bytes tells tells' in
      as_seen store long log side h tells tells' opens files o.store o.long o.history was
      (record {
        pair = within_list o.store (payloads entry_bytes o.history) (log_disk room.keeper) (side_disk room.keeper) (λ c s may may'. let open_now = room_holds disk log side room o tells tells' (c, s) (inr may, inr may') in open_now.pair) stays files left;
        kept = was.kept;
      })

-- ---- a new store

head_small : (store : Bytes) → length store ≡ 16 → length (room_head 2 (replicate 6 0) store) < 2 ^ 30
unfolding room_head
head_small store long = omega (arith, length-append (replicate 6 0) (store ++ replicate 32 0), length-append store (replicate 32 0), long)

new_opens : (store : Bytes) → length store ≡ 16 → opened (room_head 2 (replicate 6 0) store) (room_head 2 (replicate 6 0) store ++ 0 ∷ []) ≡ Some []
new_opens store long =
    let head : List ℕ = room_head 2 (replicate 6 0) store in
    ap (λ (l : List ℕ). opened head (l ++ 0 ∷ [])) (sym (append-nil head))
    ∙ opened_closed head [] 0 [] tt (omega (arith, head_small store long, ap length (append-nil head))) (λ no. absurd (cc no))

empty_side : (store : Bytes) → packed_in store [] ≡ []
empty_side store = by (opened (side_head store) []) refl
  where
    by : (found : Option (List Bytes)) → opened (side_head store) [] ≡ found → packed_by (listed found) ≡ []
    by None is = refl
    by (Some ps) is = absurd (omega (arith, opened_long (side_head store) [] ps is))

new_store : (store : Bytes) → length store ≡ 16 → OpenTo store (header_bytes (header.Room store) ++ 0 ∷ [], []) []
new_store store long = record {
  pair = opens_beside store (room_head 2 (replicate 6 0) store) (room_head 2 (replicate 6 0) store ++ 0 ∷ []) 0 []
      (record { edition = 2; is_edition = inr refl; is = ap (λ (b : List ℕ). room_head 2 b store) (sym six_zeros); small = omega arith; store_is = long })
      (new_opens store long) [] [] (inl (inl (omega arith))) (λ bare. refl) (sym (empty_side store));
  kept = record { legal = tt; formed = tt };
}

no_bytes : (l : List ℕ) → length l ≤ 0 → l ≡ []
no_bytes [] le = refl
no_bytes (b ∷ l) le = absurd (omega (arith, le))

pub new_stores : {D O : Type 0} (disk : DiskMeaning D) (sink : SinkMeaning O) → NewStoresAreEmpty disk sink
new_stores disk sink = λ store log log' side side' o o' status long made tells tells' files may.
    let log_is : files.0 ≡ header_bytes (header.Room store) ++ 0 ∷ [] = made.durable tells files.0 may.0 in
    let short = disk.no_longer side files.1 tells' (made.still_side.crash files.1 may.1) in
    let side_is : files.1 ≡ [] = no_bytes files.1 (omega (arith, short, ap length (made.empty_side tells'))) in
    let there = subst (λ (c : List ℕ). OpenTo store (c, []) []) (sym log_is) (new_store store long) in
    subst (λ (s : List ℕ). OpenTo store (files.0, s) []) (sym side_is) there
