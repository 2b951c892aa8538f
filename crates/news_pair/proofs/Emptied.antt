-- A log that is emptied: its first gate is closed, and then its base is written.
use Rattle.std.proofs.Common.{◌≡◌, ◌≢◌, ◌⊎◌, inl, inr, ℕ, ◌+◌, ◌≤◌, ◌<◌, ◌^◌, List, [], ◌∷◌, ◌++◌, length, take, drop, get_or, Option, Some, None, refl, sym, ◌∙◌, ap, subst, arith, append_assoc, length-append, length-take, length-drop, take-append-drop}
use Rattle.std.specs.Prelude.{replicate}
use Rattle.std.specs.Int.{w32, to_be_bytes}
use Rattle.std.proofs.lemmas.List.{take_at, drop_at, take_all, drop-drop, append-nil}
use Rattle.std.proofs.lemmas.Bool.{cases_eq}
use Rattle.news_types.specs.Names.{Bytes}
use Rattle.news_io.specs.Disk.{Holds, Torn, Only}
use Rattle.news_journal.specs.Log.{room_head, IsEdition, opened, records, AllFit}
use Rattle.news_journal.specs.Read.{opened_closed}
use Rattle.news_journal.specs.Stands.{IsShut, listed}
use Rattle.news_pair.specs.Pair.{side_head, edition_of, base_bytes, six, IsBare, packed_by, packed_in, IsSideFile, Follows, PairOpens, HasNoRecord}
use Rattle.news_pair.specs.Law.{length-six, edition_there, base_there, not_bare}
use Rattle.news_pair.proofs.Journals.{torn_gate, only_outcome}

pub length-room : (edition : ℕ) (base : List ℕ) (store : Bytes) → length base ≡ 6 → length store ≡ 16 → length (room_head edition base store) ≡ 64
unfolding room_head
length-room edition base store b s = omega (arith, length-append base (store ++ replicate 32 0), length-append store (replicate 32 0), b, s)

-- ---- a log without a record

-- it opens to nothing
module _ (store : Bytes) (c : List ℕ) (long : length store ≡ 16) (none : HasNoRecord store c) where
  none_edition : edition_of c ≡ none.edition
  none_edition = ap edition_of none.is ∙ edition_there none.edition none.base store (none.gate ∷ none.rest)

  none_base : base_bytes c ≡ none.base
  none_base = ap base_bytes none.is ∙ base_there none.edition none.base store (none.gate ∷ none.rest) none.six_long

  pub no_record_opens : opened (room_head (edition_of c) (base_bytes c) store) c ≡ Some []
  no_record_opens =
      let head = room_head none.edition none.base store in
      let size = length-room none.edition none.base store none.six_long long in
      ap (λ (e : ℕ). opened (room_head e (base_bytes c) store) c) none_edition
      ∙ ap (λ (l : List ℕ). opened (room_head none.edition l store) c) none_base
      ∙ ap (opened head) (none.is ∙ ap (λ (l : List ℕ). l ++ none.gate ∷ none.rest) (sym (append-nil head)))
      ∙ opened_closed head [] none.gate none.rest tt (omega (arith, size, length-append head [])) none.closed

  -- beside a side with all entries it leaves the list as it was
  pub no_record_list : (s : List ℕ) (h : List Bytes) → IsBare s ⊎ IsSideFile store s → (IsBare s → ⊥) → packed_in store s ≡ h → PairOpens store c s h
  no_record_list s h side file is = record {
    side_is = side;
    bare = λ b. absurd (file b);
    edition = subst IsEdition (sym none_edition) none.is_edition;
    tail = [];
    log_is = no_record_opens;
    joined = sym is;
  }

pub bare_packed : (store side : List ℕ) → length store ≡ 16 → IsBare side → packed_in store side ≡ []
bare_packed store side long bare = by_list (opened (side_head store) side) refl
  where
    by_list : (o : Option (List Bytes)) → opened (side_head store) side ≡ o → packed_in store side ≡ []
    by_list None is = ap (λ (o : Option (List Bytes)). packed_by (listed o)) is
    by_list (Some ps) is = absurd (not_bare store side ps long is bare)

-- the list is the side's, where that has as many entries
pub all_packed : (b : ℕ) (g p h : List Bytes) → Follows b g p h → length h ≡ length g → h ≡ g
all_packed b g p h f same = sym (take_all (length g) h (omega (arith, same))) ∙ f.front

-- ---- the first gate is closed

-- the log with its first gate
pub split_first : (head : List ℕ) (x : Bytes) (q : List Bytes) (g : ℕ) (rest : List ℕ) → (head ++ records (x ∷ q)) ++ g ∷ rest ≡ head ++ 1 ∷ ((to_be_bytes w32 (length x) ++ (x ++ records q)) ++ g ∷ rest)
split_first head x q g rest = append_assoc head (records (x ∷ q)) (g ∷ rest)

module _ (edition : ℕ) (base : List ℕ) (store : Bytes) (base_long : length base ≡ 6) (store_long : length store ≡ 16) where
  pub first_gate : (x : Bytes) (q : List Bytes) (seen : List ℕ) (m : List ℕ → Type 0) → IsEdition edition → AllFit (x ∷ q) → length (room_head edition base store ++ records (x ∷ q)) < 2 ^ 30 → IsShut (room_head edition base store ++ records (x ∷ q)) seen m
      → (c : List ℕ) → ((d : List ℕ) × m d × Torn 64 1 d c) → (opened (room_head edition base store) c ≡ Some (x ∷ q)) ⊎ HasNoRecord store c
  first_gate x q seen m is_edition fit small shut c step =
      let head = room_head edition base store in
      let from = shut.each step.0 (inr step.1) in
      let tail = (to_be_bytes w32 (length x) ++ (x ++ records q)) ++ shut.gate ∷ from.0 in
      let was : step.0 ≡ head ++ 1 ∷ tail = from.1 ∙ split_first head x q shut.gate from.0 in
      let now = torn_gate head step.0 tail c 64 1 (sym (length-room edition base store base_long store_long)) was step.2 in
      elim (cases_eq (get_or c 64 0) 1) [
        | inl same ↦ inl (ap (opened head) (now ∙ ap (λ (n : ℕ). head ++ n ∷ tail) same ∙ sym (split_first head x q shut.gate from.0)) ∙ opened_closed head (x ∷ q) shut.gate from.0 fit small shut.closed)
        | inr shuts ↦ inr (record { edition = edition; is_edition = is_edition; base = base; six_long = base_long; gate = get_or c 64 0; closed = shuts; rest = tail; is = now })
      ]

  pub gate_closed : (seen seen' tail : List ℕ) (g b : ℕ) → seen ≡ room_head edition base store ++ g ∷ tail → Holds seen 64 (b ∷ []) seen' → seen' ≡ room_head edition base store ++ b ∷ tail
  gate_closed seen seen' tail g b was holds =
      let head = room_head edition base store in
      let size = length-room edition base store base_long store_long in
      let front : take 64 seen ≡ head = ap (take 64) was ∙ take_at head (g ∷ tail) 64 size in
      let back : drop 65 seen ≡ tail = ap (drop 65) (was ∙ sym (append_assoc head (g ∷ []) tail)) ∙ drop_at (head ++ g ∷ []) tail 65 (omega (arith, size, length-append head (g ∷ []))) in
      holds ∙ ap (λ (l : List ℕ). l ++ (b ∷ []) ++ drop 65 seen) front ∙ append_assoc head (b ∷ []) (drop 65 seen) ∙ ap (λ (l : List ℕ). head ++ b ∷ l) back

  -- ---- the base is written

  behind_base : (tail : List ℕ) → drop 16 (room_head edition base store ++ tail) ≡ (store ++ replicate 32 0) ++ tail
  unfolding room_head
  behind_base tail = ap (drop 6) (append_assoc base (store ++ replicate 32 0) tail) ∙ drop_at base ((store ++ replicate 32 0) ++ tail) 6 base_long

  pub store_there : (tail : List ℕ) → take 16 (drop 16 (room_head edition base store ++ tail)) ≡ store
  store_there tail = ap (take 16) (behind_base tail ∙ append_assoc store (replicate 32 0) tail) ∙ take_at store (replicate 32 0 ++ tail) 16 store_long

  other_base : (n tail : List ℕ) → take 10 (room_head edition base store ++ tail) ++ (n ++ ((store ++ replicate 32 0) ++ tail)) ≡ room_head edition n store ++ tail
  unfolding room_head
  other_base n tail = ap (λ (l : List ℕ). 78 ∷ 69 ∷ 87 ∷ 83 ∷ 68 ∷ 69 ∷ 83 ∷ 75 ∷ edition ∷ 1 ∷ l) (sym (append_assoc n (store ++ replicate 32 0) tail))

  pub base_torn : (seen c tail : List ℕ) (g : ℕ) → IsEdition edition → seen ≡ room_head edition base store ++ g ∷ tail → g ≢ 1 → Torn 10 6 seen c → HasNoRecord store c
  base_torn seen c tail g is_edition was shut torn = record { edition = edition; is_edition = is_edition; base = now; six_long = now_long; gate = g; closed = shut; rest = tail; is = all }
    where
      now : List ℕ
      now = take 6 (drop 10 c)

      long : 65 ≤ length seen
      long = omega (arith, ap length was, length-append (room_head edition base store) (g ∷ tail), length-room edition base store base_long store_long)

      now_long : length (take 6 (drop 10 c)) ≡ 6
      now_long = omega (arith, length-take 6 (drop 10 c), length-drop 10 c, long, torn.no_shorter)

      all : c ≡ room_head edition (take 6 (drop 10 c)) store ++ g ∷ tail
      all =
          let n = take 6 (drop 10 c) in
          let front : take 10 c ≡ take 10 (room_head edition base store ++ g ∷ tail) = torn.before 10 (omega arith) (omega (arith, long)) ∙ ap (take 10) was in
          let back : drop 6 (drop 10 c) ≡ (store ++ replicate 32 0) ++ g ∷ tail = drop-drop 6 10 c ∙ torn.after ∙ ap (drop 16) was ∙ behind_base (g ∷ tail) in
          sym (take-append-drop 10 c)
          ∙ ap (λ (l : List ℕ). l ++ drop 10 c) front
          ∙ ap (λ (l : List ℕ). take 10 (room_head edition base store ++ g ∷ tail) ++ l) (sym (take-append-drop 6 (drop 10 c)) ∙ ap (λ (l : List ℕ). n ++ l) back)
          ∙ other_base n (g ∷ tail)

  pub base_written : (seen seen' tail : List ℕ) (g n : ℕ) → seen ≡ room_head edition base store ++ g ∷ tail → Holds seen 10 (six n) seen' → seen' ≡ room_head edition (six n) store ++ g ∷ tail
  base_written seen seen' tail g n was holds =
      let size = length-six n in
      let back : drop (10 + length (six n)) seen ≡ (store ++ replicate 32 0) ++ g ∷ tail = ap (λ (k : ℕ). drop (10 + k) seen) size ∙ ap (drop 16) was ∙ behind_base (g ∷ tail) in
      holds
      ∙ ap (λ (l : List ℕ). take 10 l ++ six n ++ drop (10 + length (six n)) seen) was
      ∙ ap (λ (l : List ℕ). take 10 (room_head edition base store ++ g ∷ tail) ++ six n ++ l) back
      ∙ append_assoc (take 10 (room_head edition base store ++ g ∷ tail)) (six n) ((store ++ replicate 32 0) ++ g ∷ tail)
      ∙ other_base (six n) (g ∷ tail)

pub emptied_shut : (head seen tail : List ℕ) (g : ℕ) (m : List ℕ → Type 0) → seen ≡ head ++ g ∷ tail → g ≢ 1 → Only seen m → IsShut (head ++ records []) seen m
emptied_shut head seen tail g m is shut only = record {
  gate = g;
  closed = shut;
  each = λ c out. (tail, only_outcome seen m only c out ∙ is ∙ ap (λ (l : List ℕ). l ++ g ∷ tail) (sym (append-nil head)));
}

-- a header with another base
pub head_with : (edition : ℕ) (base store now head : List ℕ) → length base ≡ 6 → head ≡ room_head edition base store → take 10 head ++ (now ++ drop 6 (drop 10 head)) ≡ room_head edition now store
unfolding room_head
head_with edition base store now head long is =
    ap (λ (h : List ℕ). take 10 h ++ (now ++ drop 6 (drop 10 h))) is
    ∙ ap (λ (l : List ℕ). 78 ∷ 69 ∷ 87 ∷ 83 ∷ 68 ∷ 69 ∷ 83 ∷ 75 ∷ edition ∷ 1 ∷ (now ++ l)) (drop_at base (store ++ replicate 32 0) 6 long)
