-- What opening finds of a pair that stands for a list.
use Rattle.std.proofs.Common.{◌≡◌, ◌⊎◌, inl, inr, ℕ, zero, suc, ◌≤◌, ◌<◌, ◌/◌, ◌%◌, ◌^◌, List, [], ◌∷◌, ◌++◌, length, take, drop, get_or, Bool, true, false, eqb, Option, Some, None, refl, sym, ◌∙◌, ap, subst, arith, append_assoc, length-append, length-take, take-append-drop}
use Rattle.std.specs.Cmp.{first_so, second_so}
use Rattle.std.specs.Prelude.{replicate}
use Rattle.std.specs.Int.{w64, byte_at, bytes_high_first, from_be_bytes}
use Rattle.std.proofs.lemmas.Nat.{from_be_bytes-to_be_bytes_8}
use Rattle.std.proofs.lemmas.List.{take_at, take-take, take_all, take-append-le, drop-append-le}
use Rattle.std.proofs.lemmas.Bool.Decides.{nat_tests}
use Rattle.news_types.specs.Names.{Bytes}
use Rattle.news_io.specs.Disk.{DiskMeaning}
use Rattle.news_io.specs.Keeper.{Leaves}
use Rattle.news_journal.specs.Log.{payloads_of, reading, starts_with, opened, room_head, IsEdition}
use Rattle.news_journal.specs.Read.{opened_at, opened_closed}
use Rattle.news_journal.specs.Stands.{Doubts, list_of}
use Rattle.news_journal.specs.Law.{outcome_opens}
use Rattle.news_pair.specs.Pair.{side_head, edition_of, base_bytes, base_of, number, six, IsBare, packed_in, IsSideFile, Follows, Joined, PairOpens, PairFinds}
use Rattle.news_pair.specs.Stands.{IsRoomHead, HasSegments, SideStands, pair_list, Pairs, pair_since}
use Rattle.news_pair.specs.declared.pair.Pair.{Pair}

-- ---- headers

-- what opens under a header begins with it
pub begins_so : (head file : List ℕ) → starts_with head file ≡ true → (rest : List ℕ) × (file ≡ head ++ rest)
begins_so [] file is = (file, refl)
begins_so (x ∷ head) [] is = absurd (cc is)
begins_so (x ∷ head) (y ∷ file) is =
    let same = equal x y (first_so (eqb x y) (starts_with head file) is) in
    let more = begins_so head file (second_so (eqb x y) (starts_with head file) is) in
    (more.0, ap (λ (b : ℕ). b ∷ file) (sym same) ∙ ap (λ (l : List ℕ). x ∷ l) more.1)
  where
    equal : (a b : ℕ) → eqb a b ≡ true → a ≡ b
    equal a b is = grind (arith, nat_tests)

pub opened_begins : (head file : List ℕ) (ps : List Bytes) → opened head file ≡ Some ps → (rest : List ℕ) × (file ≡ head ++ rest)
unfolding opened
opened_begins head file ps is = by_start (starts_with head file) refl
  where
    by_start : (b : Bool) → starts_with head file ≡ b → (rest : List ℕ) × (file ≡ head ++ rest)
    by_start true same = begins_so head file same
    by_start false other = absurd (cc (rw other at is))

pub length-six : (n : ℕ) → length (six n) ≡ 6
unfolding six
length-six n = refl

-- the two highest bytes of such a number are zero
seventh : (n : ℕ) → n < 2 ^ 48 → byte_at 6 n ≡ 0
seventh n small = let q : n / 281474976710656 ≡ 0 = omega arith in ap (λ (k : ℕ). k % 256) q

eighth : (n : ℕ) → n < 2 ^ 48 → byte_at 7 n ≡ 0
eighth n small = let q : n / 72057594037927936 ≡ 0 = omega arith in ap (λ (k : ℕ). k % 256) q

pub number_six : (n : ℕ) → n < 2 ^ 48 → number (six n) ≡ n
unfolding number six
number_six n small =
    ap (λ (x : ℕ). from_be_bytes w64 (0 ∷ x ∷ bytes_high_first 6 n)) (sym (seventh n small))
    ∙ ap (λ (x : ℕ). from_be_bytes w64 (x ∷ byte_at 6 n ∷ bytes_high_first 6 n)) (sym (eighth n small))
    ∙ from_be_bytes-to_be_bytes_8 n (omega arith)

-- the edition stands at place 8, and the base at place 10
pub edition_there : (edition : ℕ) (base store rest : List ℕ) → edition_of (room_head edition base store ++ rest) ≡ edition
unfolding room_head
edition_there edition base store rest = refl

pub base_there : (edition : ℕ) (base : List ℕ) (store rest : List ℕ) → length base ≡ 6 → base_bytes (room_head edition base store ++ rest) ≡ base
unfolding room_head
base_there edition base store rest long = ap (take 6) (append_assoc base (store ++ replicate 32 0) rest) ∙ take_at base ((store ++ replicate 32 0) ++ rest) 6 long

-- ---- the side

nothing_read : (n at : ℕ) → payloads_of (reading n at []) ≡ None
unfolding reading
nothing_read zero at = refl
nothing_read (suc n) at = refl

-- what opens has a byte behind the header
pub opened_long : (head file : List ℕ) (ps : List Bytes) → opened head file ≡ Some ps → length head < length file
opened_long head file ps is = let b = opened_begins head file ps is in by_rest b.0 b.1
  where
    by_rest : (rest : List ℕ) → file ≡ head ++ rest → length head < length file
    by_rest [] same =
        let none : opened head file ≡ None = ap (opened head) same ∙ opened_at head [] ∙ nothing_read (length (head ++ [])) (length head) in
        absurd (cc (none, is))
    by_rest (g ∷ rest) same = omega (arith, ap length same, length-append head (g ∷ rest))

pub length-side : (store : Bytes) → length store ≡ 16 → length (side_head store) ≡ 64
unfolding side_head
length-side store long = omega (arith, length-append store (replicate 32 0), long)

pub not_bare : (store side : List ℕ) (ps : List Bytes) → length store ≡ 16 → opened (side_head store) side ≡ Some ps → IsBare side → ⊥
unfolding side_head
not_bare store side ps long is (inl short) = omega (arith, opened_long (side_head store) side ps is, length-side store long, short)
not_bare store side ps long is (inr other) = other (ap (λ (l : List ℕ). get_or l 0 0) (opened_begins (side_head store) side ps is).1)

-- a file of segments opens to them
pub segments_open : (store seen : List ℕ) (m : List ℕ → Type 0) (end : ℕ) (segments : List Bytes) → HasSegments store seen m end segments → opened (side_head store) seen ≡ Some segments
segments_open store seen m end segments has =
    let from = has.shut.each seen (inl refl) in
    ap (opened (side_head store)) from.1 ∙ opened_closed (side_head store) segments has.shut.gate from.0 has.fit (omega (arith, has.place, has.small)) has.shut.closed

pub side_so : (store seen : List ℕ) (m : List ℕ → Type 0) (end : ℕ) → SideStands store seen m end → IsBare seen ⊎ IsSideFile store seen
side_so store seen m end (inl bare) = inl bare.1
side_so store seen m end (inr has) = inr (record { segments = has.0; is = segments_open store seen m end has.0 has.1; are = has.1.are })

pub bare_end : (store seen : List ℕ) (m : List ℕ → Type 0) (end : ℕ) → length store ≡ 16 → SideStands store seen m end → IsBare seen → end ≡ 0
bare_end store seen m end long (inl bare) b = bare.0
bare_end store seen m end long (inr has) b = absurd (not_bare store seen has.0 long (segments_open store seen m end has.0 has.1) b)

-- ---- the list

pub follows_joined : (b : ℕ) (g p h : List Bytes) → Follows b g p h → Joined b g p h
follows_joined b g [] h f = sym (take_all (length g) h (omega (arith, f.count, f.within))) ∙ f.front
follows_joined b g (x ∷ p) h f = f

pub follows_list : (b : ℕ) (g p h : List Bytes) → Follows b g p h → h ≡ take b g ++ p
follows_list b g p h f =
    sym (take-append-drop b h)
    ∙ ap (λ (l : List Bytes). l ++ drop b h) (sym (take-take b (length g) h f.within) ∙ ap (take b) f.front)
    ∙ ap (λ (l : List Bytes). take b g ++ l) f.behind

pub joined_one : (b : ℕ) (g p h h' : List Bytes) → Joined b g p h → Joined b g p h' → h ≡ h'
joined_one b g [] h h' j j' = j ∙ sym j'
joined_one b g (x ∷ p) h h' j j' = follows_list b g (x ∷ p) h j ∙ sym (follows_list b g (x ∷ p) h' j')

front_long : (b : ℕ) (g p h : List Bytes) → Follows b g p h → length g ≤ length h
front_long b g p h f = omega (arith, ap length f.front, length-take (length g) h)

pub follows_push : (b : ℕ) (g p h : List Bytes) (x : Bytes) → Follows b g p h → Follows b g (p ++ x ∷ []) (h ++ x ∷ [])
follows_push b g p h x f = record {
  within = f.within;
  front = take-append-le (length g) h (x ∷ []) (front_long b g p h f) ∙ f.front;
  count = omega (arith, f.count, length-append h (x ∷ []), length-append p (x ∷ []));
  behind = drop-append-le b h (x ∷ []) (omega (arith, f.count)) ∙ ap (λ (l : List Bytes). l ++ x ∷ []) f.behind;
}

-- files open to one list
pub opens_one : (store c s : List ℕ) (h h' : List Bytes) → PairOpens store c s h → PairOpens store c s h' → h ≡ h'
opens_one store c s h h' o o' =
    let same : o.tail ≡ o'.tail = cc (sym o.log_is ∙ o'.log_is) in
    joined_one (base_of c) (packed_in store s) o.tail h h' o.joined (subst (λ (t : List Bytes). Joined (base_of c) (packed_in store s) t h') (sym same) o'.joined)

pub finds_one : (store c s : List ℕ) (h : List Bytes) (found : Option (List Bytes)) → PairOpens store c s h → PairFinds store c s found → found ≡ Some h
finds_one store c s h (Some h') o finds = ap (λ (l : List Bytes). Some l) (opens_one store c s h' h finds o)
finds_one store c s h None o finds = absurd (finds h o)

-- a log that opens under this header, beside a side
module _ (store head c : List ℕ) (base : ℕ) (tail : List Bytes) (room : IsRoomHead head store base) (is : opened head c ≡ Some tail) where
  begins : (rest : List ℕ) × (c ≡ room_head room.edition (six base) store ++ rest)
  begins = let b = opened_begins head c tail is in (b.0, b.1 ∙ ap (λ (l : List ℕ). l ++ b.0) room.is)

  pub edition_is : edition_of c ≡ room.edition
  edition_is = ap edition_of begins.1 ∙ edition_there room.edition (six base) store begins.0

  pub bytes_are : base_bytes c ≡ six base
  bytes_are = ap base_bytes begins.1 ∙ base_there room.edition (six base) store begins.0 (length-six base)

  pub base_is : base_of c ≡ base
  base_is = ap number bytes_are ∙ number_six base room.small

  pub opens_so : opened (room_head (edition_of c) (base_bytes c) store) c ≡ Some tail
  opens_so =
      ap (λ (e : ℕ). opened (room_head e (base_bytes c) store) c) edition_is
      ∙ ap (λ (l : List ℕ). opened (room_head room.edition l store) c) bytes_are
      ∙ ap (λ (l : List ℕ). opened l c) (sym room.is)
      ∙ is

  pub opens_beside : (s : List ℕ) (h : List Bytes) → IsBare s ⊎ IsSideFile store s → (IsBare s → base ≡ 0) → Joined base (packed_in store s) tail h → PairOpens store c s h
  opens_beside s h side bare joined = record {
    side_is = side;
    bare = λ b. base_is ∙ bare b;
    edition = subst IsEdition (sym edition_is) room.is_edition;
    tail = tail;
    log_is = opens_so;
    joined = subst (λ (n : ℕ). Joined n (packed_in store s) tail h) (sym base_is) joined;
  }

  -- beside a side that stands for these entries
  pub opens_as : (s seen : List ℕ) (m : List ℕ → Type 0) (end : ℕ) (h : List Bytes) → SideStands store seen m end → (end ≡ 0 → base ≡ 0) → s ≡ seen → Follows base (packed_in store seen) tail h → PairOpens store c s h
  opens_as s seen m end h stands bare same follows =
      opens_beside s h
      (subst (λ (l : List ℕ). IsBare l ⊎ IsSideFile store l) (sym same) (side_so store seen m end stands))
      (λ b. bare (bare_end store seen m end room.store_is stands (subst IsBare same b)))
      (subst (λ (l : List ℕ). Joined base (packed_in store l) tail h) (sym same) (follows_joined base (packed_in store seen) tail h follows))

module _ {D : Type 0} (disk : DiskMeaning D) (p : Pair D) (h : List Bytes) (pairs : Pairs disk p h) where
  pub list_is : pair_list disk p ≡ h
  list_is = sym (follows_list p.base (packed_in p.store (disk.seen p.side)) (list_of disk p.log) h pairs.follows)

  pub pair_opens : (c s : List ℕ) (tail h' : List Bytes) → s ≡ disk.seen p.side → opened p.log.head c ≡ Some tail → Follows p.base (packed_in p.store (disk.seen p.side)) tail h' → PairOpens p.store c s h'
  pair_opens c s tail h' same is follows = opens_as p.store p.log.head c p.base tail pairs.head is s (disk.seen p.side) (disk.may_leave p.side) p.end h' pairs.side_is pairs.bare same follows

  -- what the log leaves behind the side, the pair leaves
  pub pair_leaves : (X : List ℕ → Type 0) (tail h' : List Bytes) → Follows p.base (packed_in p.store (disk.seen p.side)) tail h' → (c s : List ℕ) → disk.may_leave p.side s → Leaves tail X (opened p.log.head c)
      → (found : Option (List Bytes)) → PairFinds p.store c s found → Leaves h' X found
  pair_leaves X tail h' follows c s left leaves found finds = elim leaves [
    | inl is ↦ inl (finds_one p.store c s h' found (pair_opens c s tail h' (pairs.synced s left) is follows) finds)
    | inr more ↦ inr (more.0, more.1, finds_one p.store c s (h' ++ more.0 ∷ []) found (pair_opens c s (tail ++ more.0 ∷ []) (h' ++ more.0 ∷ []) (pairs.synced s left) more.2 (follows_push p.base (packed_in p.store (disk.seen p.side)) tail h' more.0 follows)) finds)
  ]

-- a crash now
pub pair_leaves_now : {D : Type 0} (disk : DiskMeaning D) (p : Pair D) (found : Option (List Bytes)) → Pairs disk p (pair_list disk p) → pair_since disk p.store p.log.disk p.side (disk.moment p.log.disk) found
    → Leaves (pair_list disk p) (Doubts disk p.log (list_of disk p.log)) found
pair_leaves_now disk p found pairs left =
    pair_leaves disk p (pair_list disk p) pairs (Doubts disk p.log (list_of disk p.log)) (list_of disk p.log) (pair_list disk p) pairs.follows left.0 left.2.0 left.2.1
    (outcome_opens disk p.log (list_of disk p.log) pairs.log_is left.0 (inr (disk.only_now p.log.disk left.0 left.1)))
    found left.2.2
