-- The frames that the bytes of a log hold.
use Rattle.std.proofs.Common.{◌≡◌, inl, inr, ℕ, zero, suc, ◌+◌, ◌-◌, ◌<◌, List, [], ◌∷◌, ◌++◌, length, take, drop, map, Bool, true, false, Option, Some, None, refl, sym, ◌∙◌, ap, subst, arith, length-append, length-take}
use Rattle.std.specs.Prelude.{slice_index, if◌then◌else◌, ◌==◌, ◌&&◌, nat_lt, nat_le, IsTrue, MatchBool, replicate}
use Rattle.std.specs.List.{list_all}
use Rattle.std.specs.Cmp.{first_so, second_so}
use Rattle.std.specs.Int.{w32, to_be_bytes}
use Rattle.std.proofs.lemmas.Bool.Decides.{nat_tests}
use Rattle.std.proofs.lemmas.List.{take_at}
use Rattle.news_types.specs.Names.{Bytes, same, is_name_byte, is_name}
use Rattle.news_types.specs.Frames.{Frame}
use Rattle.news_types.proofs.Members.{same_is, same_self}
use Rattle.news_io.specs.declared.record.Record.{Record}
use Rattle.news_journal.specs.declared.header.Header.{Header}
use Rattle.news_journal.specs.declared.header.Header.TheVariants as header
use Rattle.news_journal.specs.Log.{Holding, room_head, receiver_head, IsHead, owner_in, starts_with, opened, records}
use Rattle.news_journal.specs.Damage.{misfit, header_damage, damage}
use Rattle.news_journal.specs.Opened.{IsLog, places}
use Rattle.news_journal.specs.Read.{length-be}
use Rattle.news_journal.proofs.Opens.{OpensAs, opens_log, log_opens, length-head}
use Rattle.feed_receiver.specs.Spelling.{frame_bytes}
use Rattle.feed_receiver.specs.Feed.{IsNumber, AreNumber, InOrder, payloads, HasBadFrame}
use Rattle.feed_receiver.proofs.Numbered.{order_more}
use Rattle.frame_run.specs.Answers.{record_bytes}
use Rattle.receiver_files.specs.Log.{Opens, Gives, OpenTo, IsOther, HasBadRecord, Cause, IsNotOfBytes, MayBeMine}
use Rattle.receiver_files.specs.declared.refusal.Refusal.{Refusal}
use Rattle.receiver_files.specs.declared.refusal.Refusal.TheVariants as refusal

-- ---- frames in order

pub order_front : (name : Bytes) (k : ℕ) (frames more : List Frame) → InOrder name k (frames ++ more) → InOrder name k frames
order_front name k [] more o = tt
order_front name k (f ∷ frames) more o = (o.0, order_front name (k + 1) frames more o.1)

-- behind the frames from 1 on
pub order_next : (name : Bytes) (frames : List Frame) (f : Frame) → InOrder name 1 frames → IsNumber name (length frames + 1) f → InOrder name 1 (frames ++ f ∷ [])
order_next name frames f o n = let at : length frames + 1 ≡ 1 + length frames = omega arith in order_more name 1 frames f o (subst (λ (i : ℕ). IsNumber name i f) at n)

-- ---- bytes in use

pub sizes_are : (frames : List Frame) → length (records (map frame_bytes frames)) ≡ record_bytes frames
sizes_are [] = refl
sizes_are (f ∷ frames) =
    let rest = sizes_are frames in
    let bytes = to_be_bytes w32 (length (frame_bytes f)) in
    omega (
      arith,
      rest,
      length-be (length (frame_bytes f)),
      length-append bytes (frame_bytes f ++ records (map frame_bytes frames)),
      length-append (frame_bytes f) (records (map frame_bytes frames)),
    )

pub placed_payloads : (rs : List Record) → map (λ (r : ℕ × Bytes). r.1) (places rs) ≡ payloads rs
placed_payloads [] = refl
placed_payloads (r ∷ rs) = ap (λ (l : List Bytes). r.bytes ∷ l) (placed_payloads rs)

-- ---- a header and the list behind it

-- a header whose log it is by its bytes
own_head : (name head : List ℕ) → IsHead (header.Receiver name) head → owner_in head ≡ head
unfolding receiver_head
own_head name head is =
    let nine : slice_index head 9 ≡ 2 = ap (λ (l : List ℕ). slice_index l 9) is.2 in
    ap (λ (n : ℕ). if n == 1 then take 16 (drop 16 head) else head) nine

-- it is told from every other one by its label
pub same_head : (name head other : List ℕ) → IsTrue (is_name name) → IsHead (header.Receiver name) head → owner_in other ≡ owner_in head → other ≡ head
same_head name head other form is same = by_kind (slice_index other 9 == 1) refl
  where
    by_kind : (b : Bool) → (slice_index other 9 == 1) ≡ b → other ≡ head
    by_kind true room =
        let short : take 16 (drop 16 other) ≡ head = sym (ap (λ (t : Bool). if t then take 16 (drop 16 other) else other) room) ∙ same ∙ own_head name head is in
        absurd (omega (arith, ap length short, length-take 16 (drop 16 other), length-head (header.Receiver name) head form is))
    by_kind false not = sym (ap (λ (t : Bool). if t then take 16 (drop 16 other) else other) not) ∙ same ∙ own_head name head is

-- what opens under a header begins with it
starts_so : (head file : List ℕ) → starts_with head file ≡ true → (rest : List ℕ) × (file ≡ head ++ rest)
starts_so [] file is = (file, refl)
starts_so (x ∷ head) [] is = absurd (cc is)
starts_so (x ∷ head) (y ∷ file) is =
    let same = equal x y (first_so (x == y) (starts_with head file) is) in
    let more = starts_so head file (second_so (x == y) (starts_with head file) is) in
    (more.0, ap (λ (b : ℕ). b ∷ file) (sym same) ∙ ap (λ (l : List ℕ). x ∷ l) more.1)
  where
    equal : (a b : ℕ) → (a == b) ≡ true → a ≡ b
    equal a b is = grind (arith, nat_tests)

begins_so : (head file : List ℕ) (ps : List Bytes) → length head ≡ 64 → opened head file ≡ Some ps → take 64 file ≡ head
unfolding opened
begins_so head file ps long is = by_start (starts_with head file) refl
  where
    by_start : (b : Bool) → starts_with head file ≡ b → take 64 file ≡ head
    by_start true same = let s = starts_so head file same in ap (take 64) s.1 ∙ take_at head s.0 64 long
    by_start false other = absurd (cc (rw other at is))

module _ (name head : List ℕ) where
  -- what opens under it to the payloads of these frames
  pub open_to : IsTrue (is_name name) → IsHead (header.Receiver name) head → (file : List ℕ) (frames : List Frame) → InOrder name 1 frames → opened head file ≡ Some (map frame_bytes frames) → OpenTo head name file frames
  open_to form is file frames order opens =
      let log : OpensAs (header.Receiver name) (map frame_bytes frames) file = opens_log (header.Receiver name) head (map frame_bytes frames) file form is opens in
      record {
        begins = begins_so head file (map frame_bytes frames) (length-head (header.Receiver name) head form is) opens;
        opens = record { records = log.rs; log_is = log.log; order = order; are = log.payloads };
      }

  pub opened_to : (file : List ℕ) (frames : List Frame) → OpenTo head name file frames → opened head file ≡ Some (map frame_bytes frames)
  opened_to file frames o =
      ap (λ (l : List ℕ). opened l file) (sym o.begins) ∙ log_opens (header.Receiver name) o.opens.records file o.opens.log_is ∙ ap (λ (l : List Bytes). Some l) o.opens.are

-- ---- whose a header is

no_zero_name : (b : ℕ) → is_name_byte b ≡ true → 0 < b
no_zero_name b is = grind (arith, nat_tests)

all_name : (name : Bytes) → IsTrue (is_name name) → list_all is_name_byte name ≡ true
all_name name form = second_so (nat_lt 0 (length name) && nat_le (length name) 32) (list_all is_name_byte name) form

-- bytes of names, with zeros behind them
one_name : (a b : Bytes) (m n : ℕ) → list_all is_name_byte a ≡ true → list_all is_name_byte b ≡ true → a ++ replicate m 0 ≡ b ++ replicate n 0 → a ≡ b
one_name [] [] m n form form' same = refl
one_name [] (y ∷ b) zero n form form' same = absurd (cc same)
one_name [] (y ∷ b) (suc m) n form form' same =
    let first : 0 ≡ y = cc same in
    let some : 0 < y = no_zero_name y (first_so (is_name_byte y) (list_all is_name_byte b) form') in
    absurd (omega (arith, first, some))
one_name (x ∷ a) [] m zero form form' same = absurd (cc same)
one_name (x ∷ a) [] m (suc n) form form' same =
    let first : x ≡ 0 = cc same in
    let some : 0 < x = no_zero_name x (first_so (is_name_byte x) (list_all is_name_byte a) form) in
    absurd (omega (arith, first, some))
one_name (x ∷ a) (y ∷ b) m n form form' same =
    let first : x ≡ y = cc same in
    let rest : a ≡ b = one_name a b m n (second_so (is_name_byte x) (list_all is_name_byte a) form) (second_so (is_name_byte y) (list_all is_name_byte b) form') (cc same) in
    (λ i. first i ∷ rest i)

behind_zeros : (edition : ℕ) (name : Bytes) → drop 32 (receiver_head edition name) ≡ name ++ replicate (32 - length name) 0
unfolding receiver_head
behind_zeros edition name = refl

-- a header is of one receiver
pub one_receiver : (a b head : Bytes) → IsTrue (is_name a) → IsTrue (is_name b) → IsHead (header.Receiver a) head → IsHead (header.Receiver b) head → a ≡ b
one_receiver a b head form form' is is' =
    one_name a b (32 - length a) (32 - length b) (all_name a form) (all_name b form') (sym (behind_zeros is.0 a) ∙ ap (drop 32) (sym is.2 ∙ is'.2) ∙ behind_zeros is'.0 b)

-- and of no newsroom
pub other_kind : (name store head : Bytes) → IsHead (header.Room store) head → IsHead (header.Receiver name) head → ⊥
unfolding room_head receiver_head
other_kind name store head room is = let nine : 2 ≡ 1 = ap (λ (l : List ℕ). slice_index l 9) (sym is.2 ∙ room.4) in omega (arith, nine)

-- a header of the other receiver, whose name was compared with this one
pub compared_head : (other name bytes head : Bytes) → IsTrue (is_name other) → IsTrue (is_name name) → bytes ≡ other → (b : Bool) → b ≡ same bytes name → IsHead (header.Receiver other) head
    → MatchBool b (IsHead (header.Receiver name) head) (IsHead (header.Receiver name) head → ⊥)
compared_head other name bytes head form form' bytes_are true asked is = subst (λ (n : Bytes). IsHead (header.Receiver n) head) (sym bytes_are ∙ same_is bytes name (sym asked)) is
compared_head other name bytes head form form' bytes_are false asked is =
    λ mine.
    let one : other ≡ name = one_receiver other name head form form' is mine in
    let so : same bytes name ≡ true = ap (λ (n : Bytes). same n name) (bytes_are ∙ one) ∙ same_self name in
    absurd (cc (asked ∙ so))

-- ---- a log that serves

no_header_damage : (file : List ℕ) → damage file ≡ None → header_damage (take 64 file) ≡ None
unfolding damage
no_header_damage file none = by_header (header_damage (take 64 file)) refl
  where
    by_header : (d : Option (ℕ × Option ℕ)) → header_damage (take 64 file) ≡ d → header_damage (take 64 file) ≡ None
    by_header None is = is
    by_header (Some found) is = absurd (cc (rw is at none))

nothing_damaged : header_damage [] ≡ Some (0, None)
unfolding header_damage misfit
nothing_damaged = refl

-- an empty file is nobody's
pub empty_is_none : (name log : List ℕ) → log ≡ [] → IsOther name log → ⊥
empty_is_none name log none other = absurd (cc (sym (ap (λ (l : List ℕ). header_damage (take 64 l)) none ∙ nothing_damaged) ∙ other.0))

-- a log has one list of records
one_reading : (a b : List (ℕ × List ℕ)) → Holding a ≡ Holding b → a ≡ b
one_reading a b is = cc

-- the record behind the first ones is a frame too
numbered : (name : Bytes) (k : ℕ) (front : List Record) (r : Record) (rest : List Record) (frames : List Frame) → InOrder name k frames → payloads (front ++ r ∷ rest) ≡ map frame_bytes frames → AreNumber name (k + length front) r.bytes
numbered name k [] r rest [] order are = absurd (cc are)
numbered name k (q ∷ front) r rest [] order are = absurd (cc are)
numbered name k [] r rest (f ∷ frames) order are =
    let here : k + 0 ≡ k = omega arith in
    subst (λ (n : ℕ). AreNumber name n r.bytes) (sym here) (record { frame = f; numbered = order.0; is = cc are })
numbered name k (q ∷ front) r rest (f ∷ frames) order are =
    let on : k + 1 + length front ≡ k + suc (length front) = omega arith in
    subst (λ (n : ℕ). AreNumber name n r.bytes) on (numbered name (k + 1) front r rest frames order.1 (cc are))

pub none_bad : (name : Bytes) (records : List Record) (frames : List Frame) (at : ℕ) → InOrder name 1 frames → payloads records ≡ map frame_bytes frames → HasBadFrame name records at → ⊥
none_bad name records frames at order are bad =
    let place : 1 + length bad.front ≡ length bad.front + 1 = omega arith in
    bad.here (subst (λ (n : ℕ). AreNumber name n bad.bad.bytes) place (numbered name 1 bad.front bad.bad bad.rest frames order (ap payloads (sym bad.is) ∙ are)))

module _ (name : Bytes) (log : List ℕ) (frames : List Frame) (o : Opens log name frames) where
  no_bad_record : (at : ℕ) (found : Option ℕ) → HasBadRecord name log at found → ⊥
  no_bad_record at found bad =
      let same : places bad.records ≡ o.records = one_reading (places bad.records) o.records (sym bad.log_is.reads ∙ o.log_is.reads) in
      let are : payloads bad.records ≡ map frame_bytes frames = sym (placed_payloads bad.records) ∙ ap (λ (l : List (ℕ × Bytes)). map (λ (r : ℕ × Bytes). r.1) l) same ∙ o.are in
      none_bad name bad.records frames at o.order are bad.bad

  opens_serves : (why : Refusal) → Cause name log why → IsNotOfBytes why
  opens_serves refusal.WrongStore cause = absurd (cause.1 o.log_is.head)
  opens_serves refusal.Store cause = tt
  opens_serves (refusal.Damaged at found) cause = elim cause.shown [
    | inl damaged ↦ absurd (cc (sym damaged ∙ o.log_is.whole))
    | inr bad ↦ absurd (no_bad_record at found bad)
  ]
  opens_serves refusal.Memory cause = tt

empty_serves : (name : Bytes) (log : List ℕ) → log ≡ [] → (why : Refusal) → Cause name log why → IsNotOfBytes why
empty_serves name log none refusal.WrongStore cause = absurd (empty_is_none name log none cause)
empty_serves name log none refusal.Store cause = tt
empty_serves name log none (refusal.Damaged at found) cause = absurd (cause.some none)
empty_serves name log none refusal.Memory cause = tt

-- what is left is the disk, or memory
pub serves_bytes : (name : Bytes) (log : List ℕ) (frames : List Frame) → Gives name log frames → (why : Refusal) → Cause name log why → IsNotOfBytes why
serves_bytes name log frames (inl none) why cause = empty_serves name log none.0 why cause
serves_bytes name log frames (inr o) why cause = opens_serves name log frames o why cause

-- ---- a log by its header

-- a log that may be this receiver's, and is one, is this receiver's
pub mine_log : (name : Bytes) (log : List ℕ) (h : Header) (rs : List (ℕ × Bytes)) → MayBeMine name log → IsLog h rs log → IsLog (header.Receiver name) rs log
mine_log name log h rs mine is = record { whole = is.whole; head = mine.mine (no_header_damage log is.whole); reads = is.reads }

pub not_other : (name : Bytes) (log : List ℕ) → MayBeMine name log → IsOther name log → ⊥
not_other name log mine other = other.1 (mine.mine other.0)
