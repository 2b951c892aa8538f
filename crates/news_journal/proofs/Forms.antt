-- The two forms of a header.
use Rattle.std.proofs.Common.{◌≡◌, ◌≢◌, ◌⊎◌, inl, inr, ℕ, zero, suc, ◌+◌, ◌-◌, ◌≤◌, ◌<◌, List, [], ◌∷◌, ◌++◌, length, take, drop, None, true, false, ◌&&◌, ◌||◌, eqb, ltb, refl, sym, ◌∙◌, ap, arith, length-append}
use Rattle.std.specs.Prelude.{replicate, slice_index, nat_lt, nat_le, ◌==◌, codes}
use Rattle.std.specs.List.{list_all}
use Rattle.std.specs.Cmp.{first_so, second_so}
use Rattle.std.proofs.lemmas.Bool.{cases_lt, cases_eq}
use Rattle.std.proofs.lemmas.Bool.Decides.{nat_tests}
use Rattle.std.proofs.lemmas.List.{take_at, drop_at, take_all, nil_from_length, length-replicate, length-drop}
use Rattle.news_types.specs.Names.{is_name_byte}
use Rattle.news_journal.specs.Log.{room_head, receiver_head, IsEdition, IsHead}
use Rattle.news_journal.specs.Damage.{may_stand, misfit, header_damage}
use Rattle.news_journal.specs.Opened.{IsFilled}
use Rattle.news_journal.specs.declared.header.Header.TheVariants.{Room, Receiver}
use Rattle.news_journal.proofs.Headings.{Peeled, peel, zeros, some, letters, all_true, begun, no_zero_name}

exact : (b c : ℕ) → (b == c) ≡ true → b ≡ c
exact b c is = grind (arith, nat_tests)

-- places 10 to 31 of a receiver
no_store : (kind place before b : ℕ) → kind ≢ 1 → 10 ≤ place → place < 32 → may_stand kind place before b ≡ true → b ≡ 0
no_store kind place before b other from to stands = exact b 0 (computed ∙ stands)
  where
    computed : (b == 0) ≡ may_stand kind place before b
    computed =
        let a : ltb place 8 ≡ false = grind (arith, nat_tests) in
        let c : ltb place 10 ≡ false = grind (arith, nat_tests) in
        let e : ltb place 32 ≡ true = grind (arith, nat_tests) in
        let f : eqb kind 1 ≡ false = grind (arith, nat_tests) in
        rw (a, c, e, f) refl

-- places 32 to 63 of a room
no_name : (kind place before b : ℕ) → kind ≡ 1 → 32 ≤ place → may_stand kind place before b ≡ true → b ≡ 0
no_name kind place before b room from stands = exact b 0 (computed ∙ stands)
  where
    computed : (b == 0) ≡ may_stand kind place before b
    computed =
        let a : ltb place 8 ≡ false = grind (arith, nat_tests) in
        let c : ltb place 10 ≡ false = grind (arith, nat_tests) in
        let e : ltb place 32 ≡ false = grind (arith, nat_tests) in
        let f : eqb kind 1 ≡ true = grind (arith, nat_tests) in
        rw (a, c, e, f) refl

first_letter : (kind before b : ℕ) → kind ≢ 1 → may_stand kind 32 before b ≡ true → is_name_byte b ≡ true
first_letter kind before b other stands = computed ∙ stands
  where
    computed : is_name_byte b ≡ may_stand kind 32 before b
    computed = let f : eqb kind 1 ≡ false = grind (arith, nat_tests) in rw f refl

either : (b : ℕ) → ((b == 1) || (b == 2)) ≡ true → b ≢ 1 → b ≡ 2
either b is other = grind (arith, nat_tests)

one_or_two : (b : ℕ) → ((b == 1) || (b == 2)) ≡ true → IsEdition b
one_or_two b is = elim (cases_eq b 1) [
  | inl same ↦ inl same
  | inr other ↦ inr (either b is other)
]

-- the parts of a room's header
pub behind_base : (edition : ℕ) (base store : List ℕ) → length base ≡ 6 → drop 16 (room_head edition base store) ≡ store ++ replicate 32 0
unfolding room_head
behind_base edition base store six = drop_at base (store ++ replicate 32 0) 6 six

pub store_there : (edition : ℕ) (base store : List ℕ) → length base ≡ 6 → length store ≡ 16 → take 16 (drop 16 (room_head edition base store)) ≡ store
store_there edition base store six long = ap (take 16) (behind_base edition base store six) ∙ take_at store (replicate 32 0) 16 long

pub record RoomForm (bytes : List ℕ) : Type 0 where
  pub edition : ℕ
  pub known : IsEdition edition
  pub base : List ℕ
  pub six : length base ≡ 6
  pub store : List ℕ
  pub long : length store ≡ 16
  pub is : bytes ≡ room_head edition base store

pub record ReceiverForm (bytes : List ℕ) : Type 0 where
  pub edition : ℕ
  pub known : IsEdition edition
  pub name : List ℕ
  pub form : list_all is_name_byte name ≡ true
  pub some : 0 < length name
  pub few : length name ≤ 32
  pub is : bytes ≡ receiver_head edition name

-- the first ten bytes, and what fits behind them
record Ten (kind : ℕ) (bytes : List ℕ) : Type 0 where
  edition : ℕ
  byte : ℕ
  rest : List ℕ
  is : bytes ≡ codes "NEWSDESK" ++ edition ∷ byte ∷ rest
  editions : ((edition == 1) || (edition == 2)) ≡ true
  kinds : ((byte == 1) || (byte == 2)) ≡ true
  left : misfit kind 10 byte 54 rest ≡ None

fixed : {kind place before n : ℕ} {l rest : List ℕ} (p : Peeled kind place before n l) (b : ℕ) → (p.byte == b) ≡ true → p.rest ≡ rest → l ≡ b ∷ rest
fixed p b stands more = p.is ∙ ap (λ (c : ℕ). c ∷ p.rest) (exact p.byte b stands) ∙ ap (λ (l : List ℕ). b ∷ l) more

ten : (k : ℕ) (bytes : List ℕ) → misfit k 0 0 64 bytes ≡ None → Ten k bytes
ten k bytes fits =
    let p0 = peel k 0 0 63 bytes fits in
    let p1 = peel k 1 p0.byte 62 p0.rest p0.left in
    let p2 = peel k 2 p1.byte 61 p1.rest p1.left in
    let p3 = peel k 3 p2.byte 60 p2.rest p2.left in
    let p4 = peel k 4 p3.byte 59 p3.rest p3.left in
    let p5 = peel k 5 p4.byte 58 p4.rest p4.left in
    let p6 = peel k 6 p5.byte 57 p5.rest p5.left in
    let p7 = peel k 7 p6.byte 56 p6.rest p6.left in
    let p8 = peel k 8 p7.byte 55 p7.rest p7.left in
    let p9 = peel k 9 p8.byte 54 p8.rest p8.left in
    record {
      edition = p8.byte;
      byte = p9.byte;
      rest = p9.rest;
      is = fixed p0 78 p0.stands (fixed p1 69 p1.stands (fixed p2 87 p2.stands (fixed p3 83 p3.stands (fixed p4 68 p4.stands (fixed p5 69 p5.stands (fixed p6 83 p6.stands (fixed p7 75 p7.stands (p8.is ∙ ap (λ (l : List ℕ). p8.byte ∷ l) p9.is))))))));
      editions = p8.stands;
      kinds = p9.stands;
      left = p9.left;
    }

module _ (bytes : List ℕ) (fits : header_damage bytes ≡ None) where
  first_ten : Ten (slice_index bytes 9) bytes
  first_ten = ten (slice_index bytes 9) bytes (sym (begun (slice_index bytes 9) bytes refl) ∙ fits)

  kind_is : slice_index bytes 9 ≡ first_ten.byte
  kind_is = ap (λ (l : List ℕ). slice_index l 9) first_ten.is

  pub room_form : length bytes ≡ 64 → slice_index bytes 9 ≡ 1 → RoomForm bytes
  unfolding room_head
  room_form long room =
      let k = slice_index bytes 9 in
      let e = first_ten.edition in
      let base = some k 6 48 54 10 16 first_ten.byte first_ten.rest refl refl first_ten.left in
      let store = some k 16 32 48 16 32 base.part.before base.part.rest refl refl base.part.left in
      let name = zeros k 32 0 32 32 64 store.part.before store.part.rest refl refl (λ p b c from to stands. no_name k p b c room from stands) store.part.left in
      let front = first_ten.is ∙ ap (λ (b : ℕ). codes "NEWSDESK" ++ e ∷ b ∷ first_ten.rest) (sym kind_is ∙ room) ∙ ap (λ (l : List ℕ). codes "NEWSDESK" ++ e ∷ 1 ∷ l) base.part.is in
      let all = front ∙ ap (λ (l : List ℕ). codes "NEWSDESK" ++ e ∷ 1 ∷ (base.front ++ l)) (store.part.is ∙ ap (λ (l : List ℕ). store.front ++ l) name.is) in
      let nothing : name.rest ≡ [] = nil_from_length name.rest (omega (arith, long, ap length all, length-append base.front (store.front ++ (replicate 32 0 ++ name.rest)), length-append store.front (replicate 32 0 ++ name.rest), length-append (replicate 32 0) name.rest, length-replicate {A = ℕ} 32 0, base.long, store.long)) in
      record {
        edition = e;
        known = one_or_two e first_ten.editions;
        base = base.front;
        six = base.long;
        store = store.front;
        long = store.long;
        is = all ∙ ap (λ (l : List ℕ). codes "NEWSDESK" ++ e ∷ 1 ∷ (base.front ++ (store.front ++ (replicate 32 0 ++ l)))) nothing;
      }

  pub receiver_form : length bytes ≡ 64 → slice_index bytes 9 ≢ 1 → ReceiverForm bytes
  unfolding receiver_head
  receiver_form long other =
      let k = slice_index bytes 9 in
      let e = first_ten.edition in
      let two : first_ten.byte ≡ 2 = either first_ten.byte first_ten.kinds (λ one. other (kind_is ∙ one)) in
      let store = zeros k 22 32 54 10 32 first_ten.byte first_ten.rest refl refl (λ p b c from to stands. no_store k p b c other from to stands) first_ten.left in
      let q = peel k 32 store.before 31 store.rest store.left in
      let front = first_ten.is ∙ ap (λ (b : ℕ). codes "NEWSDESK" ++ e ∷ b ∷ first_ten.rest) two ∙ ap (λ (l : List ℕ). codes "NEWSDESK" ++ e ∷ 2 ∷ l) store.is in
      let size : length q.rest ≡ 31 = omega (arith, long, ap length front, ap length q.is) in
      let first = first_letter k store.before q.byte other q.stands in
      let l = letters k 31 33 q.byte q.rest other (omega arith) size q.left in
      let left : 31 - length l.name ≡ 32 - length (q.byte ∷ l.name) = omega arith in
      let name_is : store.rest ≡ (q.byte ∷ l.name) ++ replicate (32 - length (q.byte ∷ l.name)) 0 = q.is ∙ ap (λ (r : List ℕ). q.byte ∷ r) (l.is ∙ ap (λ (n : ℕ). l.name ++ replicate n 0) left) in
      record {
        edition = e;
        known = one_or_two e first_ten.editions;
        name = q.byte ∷ l.name;
        form = all_true (is_name_byte q.byte) (list_all is_name_byte l.name) first l.form;
        some = omega arith;
        few = omega (arith, l.short);
        is = front ∙ ap (λ (r : List ℕ). codes "NEWSDESK" ++ e ∷ 2 ∷ (replicate 22 0 ++ r)) name_is;
      }

-- a header is whole
long_enough : (kind place before n : ℕ) (bytes : List ℕ) → misfit kind place before n bytes ≡ None → n ≤ length bytes
long_enough kind place before zero bytes fits = omega arith
long_enough kind place before (suc n) bytes fits =
    let p = peel kind place before n bytes fits in
    let more = long_enough kind (place + 1) p.byte n p.rest p.left in
    omega (arith, more, ap length p.is)

pub whole : (bytes : List ℕ) → header_damage bytes ≡ None → 64 ≤ length bytes
whole bytes fits = long_enough (slice_index bytes 9) 0 0 64 bytes (sym (begun (slice_index bytes 9) bytes refl) ∙ fits)

-- the name before the zeros
letter_at : (name rest : List ℕ) (k : ℕ) → list_all is_name_byte name ≡ true → k < length name → 0 < slice_index (name ++ rest) k
letter_at [] rest k form within = absurd (omega arith)
letter_at (b ∷ name) rest zero form within = no_zero_name b (first_so (is_name_byte b) (list_all is_name_byte name) form)
letter_at (b ∷ name) rest (suc k) form within = letter_at name rest k (second_so (is_name_byte b) (list_all is_name_byte name) form) (omega arith)

zero_behind : (name : List ℕ) (m : ℕ) → slice_index (name ++ replicate m 0) (length name) ≡ 0
zero_behind [] zero = refl
zero_behind [] (suc m) = refl
zero_behind (b ∷ name) m = zero_behind name m

pub name_before_zero : (name bytes : List ℕ) (n : ℕ) → list_all is_name_byte name ≡ true → bytes ≡ name ++ replicate (32 - length name) 0 → n ≤ length bytes → ((k : ℕ) → k < n → slice_index bytes k ≢ 0) → (n < length bytes → slice_index bytes n ≡ 0) → take n bytes ≡ name
name_before_zero name bytes n form is within before zero_there =
    elim (cases_lt n (length name)) [
      | inl less ↦ absurd (omega (arith, letter_at name (replicate (32 - length name) 0) n form less, sym (ap (λ (l : List ℕ). slice_index l n) is) ∙ zero_there (omega (arith, less, ap length is, length-append name (replicate (32 - length name) 0)))))
      | inr enough ↦ by_more (cases_lt (length name) n) enough
    ]
  where
    by_more : (length name < n) ⊎ (n ≤ length name) → length name ≤ n → take n bytes ≡ name
    by_more (inl more) enough = absurd (before (length name) more (ap (λ (l : List ℕ). slice_index l (length name)) is ∙ zero_behind name (32 - length name)))
    by_more (inr at_most) enough = ap (take n) is ∙ take_at name (replicate (32 - length name) 0) n (omega arith)

-- the header that is read
pub room_is : (bytes store : List ℕ) → header_damage bytes ≡ None → length bytes ≡ 64 → slice_index bytes 9 ≡ 1 → store ≡ take 16 (drop 16 bytes) → IsHead (Room store) bytes
room_is bytes store fits long room is =
    let f = room_form bytes fits long room in
    let same : store ≡ f.store = is ∙ ap (λ (l : List ℕ). take 16 (drop 16 l)) f.is ∙ store_there f.edition f.base f.store f.six f.long in
    (f.edition, f.base, f.known, f.six, f.is ∙ ap (λ (s : List ℕ). room_head f.edition f.base s) (sym same))

behind_store : (bytes : List ℕ) (edition : ℕ) (name : List ℕ) → bytes ≡ receiver_head edition name → drop 32 bytes ≡ name ++ replicate (32 - length name) 0
unfolding receiver_head
behind_store bytes edition name is = ap (λ (l : List ℕ). drop 32 l) is

tail_whole : (bytes : List ℕ) → length bytes ≡ 64 → take (length bytes - 32) (drop 32 bytes) ≡ drop 32 bytes
tail_whole bytes long = take_all (length bytes - 32) (drop 32 bytes) (omega (arith, length-drop 32 bytes))

pub filled : (bytes : List ℕ) → header_damage bytes ≡ None → length bytes ≡ 64 → slice_index bytes 9 ≢ 1 → IsFilled (take (length bytes - 32) (drop 32 bytes))
filled bytes fits long other =
    let f = receiver_form bytes fits long other in
    record {
      name = f.name;
      form = all_true (nat_lt 0 (length f.name) && nat_le (length f.name) 32) (list_all is_name_byte f.name) (sizes (length f.name) f.some f.few) f.form;
      is = tail_whole bytes long ∙ behind_store bytes f.edition f.name f.is;
    }
  where
    sizes : (n : ℕ) → 0 < n → n ≤ 32 → (nat_lt 0 n && nat_le n 32) ≡ true
    sizes n some few = grind (arith, nat_tests)

other_name : (edition : ℕ) (name name' : List ℕ) → name' ++ replicate (32 - length name') 0 ≡ name ++ replicate (32 - length name) 0 → receiver_head edition name' ≡ receiver_head edition name
unfolding receiver_head
other_name edition name name' same = ap (λ (l : List ℕ). codes "NEWSDESK" ++ edition ∷ 2 ∷ (replicate 22 0 ++ l)) same

pub receiver_is : (bytes name : List ℕ) → header_damage bytes ≡ None → length bytes ≡ 64 → slice_index bytes 9 ≢ 1 → take (length bytes - 32) (drop 32 bytes) ≡ name ++ replicate (32 - length name) 0 → IsHead (Receiver name) bytes
receiver_is bytes name fits long other is =
    let f = receiver_form bytes fits long other in
    let same : f.name ++ replicate (32 - length f.name) 0 ≡ name ++ replicate (32 - length name) 0 = sym (behind_store bytes f.edition f.name f.is) ∙ sym (tail_whole bytes long) ∙ is in
    (f.edition, f.known, f.is ∙ other_name f.edition name f.name same)

pub named : (bytes : List ℕ) (n : ℕ) (f : IsFilled bytes) → n ≤ length bytes → ((k : ℕ) → k < n → slice_index bytes k ≢ 0) → (n < length bytes → slice_index bytes n ≡ 0) → take n bytes ≡ f.name
named bytes n f within before zero_there = name_before_zero f.name bytes n (second_so (nat_lt 0 (length f.name) && nat_le (length f.name) 32) (list_all is_name_byte f.name) f.form) f.is within before zero_there

pub begins : (bytes : List ℕ) → header_damage bytes ≡ None → slice_index bytes 0 ≡ 78
begins bytes fits = ap (λ (l : List ℕ). slice_index l 0) (first_ten bytes fits).is
