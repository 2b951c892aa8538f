-- The header of a room's log.
use Rattle.std.proofs.Common.{◌≡◌, ℕ, zero, suc, ◌≤◌, ◌<◌, ◌^◌, List, [], ◌∷◌, ◌++◌, length, get_or, take, drop, Some, None, Ok, Err, refl, sym, ◌∙◌, ap, arith, length-append}
use Rattle.std.specs.Prelude.{replicate, slice_index}
use Rattle.std.specs.Option.{option_or}
use Rattle.std.proofs.lemmas.List.{append-nil}
use Rattle.news_journal.specs.Log.{room_head, receiver_head}
use Rattle.news_journal.specs.Damage.{header_damage}
use Rattle.news_journal.specs.Opened.{HeaderAs}
use Rattle.news_journal.specs.declared.header.Header.TheVariants.{Room, Receiver}
use Rattle.news_journal.specs.declared.log.OpenFault.{OpenFault}
use Rattle.news_journal.specs.declared.log.OpenFault.TheVariants as log
use Rattle.news_pair.specs.Pair.{base_bytes, six}
use Rattle.news_pair.specs.Stands.{IsRoomHead}
use Rattle.news_pair.specs.Law.{base_there}
use Rattle.news_pair.specs.Damage.{other_kind}
use Rattle.news_pair.specs.Faults.{fault_of}
use Rattle.news_pair.specs.Opened.{RoomHeadAs}
use Rattle.news_pair.proofs.Rows.{drop_first}

pub six_at : (l : List ℕ) → 16 ≤ length l → take 6 (drop 10 l) ≡ get_or l 10 0 ∷ get_or l 11 0 ∷ get_or l 12 0 ∷ get_or l 13 0 ∷ get_or l 14 0 ∷ get_or l 15 0 ∷ []
six_at l long =
    ap (take 6) (drop_first 10 l (omega arith))
    ∙ ap (λ (t : List ℕ). get_or l 10 0 ∷ take 5 t) (drop_first 11 l (omega arith))
    ∙ ap (λ (t : List ℕ). get_or l 10 0 ∷ get_or l 11 0 ∷ take 4 t) (drop_first 12 l (omega arith))
    ∙ ap (λ (t : List ℕ). get_or l 10 0 ∷ get_or l 11 0 ∷ get_or l 12 0 ∷ take 3 t) (drop_first 13 l (omega arith))
    ∙ ap (λ (t : List ℕ). get_or l 10 0 ∷ get_or l 11 0 ∷ get_or l 12 0 ∷ get_or l 13 0 ∷ take 2 t) (drop_first 14 l (omega arith))
    ∙ ap (λ (t : List ℕ). get_or l 10 0 ∷ get_or l 11 0 ∷ get_or l 12 0 ∷ get_or l 13 0 ∷ get_or l 14 0 ∷ take 1 t) (drop_first 15 l (omega arith))

pub all_small : (a b c d e f : ℕ) → a < 256 → b < 256 → c < 256 → d < 256 → e < 256 → f < 256 → (i : ℕ) → get_or (0 ∷ 0 ∷ a ∷ b ∷ c ∷ d ∷ e ∷ f ∷ []) i 0 < 256
all_small a b c d e f sa sb sc sd se sf zero = omega arith
all_small a b c d e f sa sb sc sd se sf (suc zero) = omega arith
all_small a b c d e f sa sb sc sd se sf (suc (suc zero)) = sa
all_small a b c d e f sa sb sc sd se sf (suc (suc (suc zero))) = sb
all_small a b c d e f sa sb sc sd se sf (suc (suc (suc (suc zero)))) = sc
all_small a b c d e f sa sb sc sd se sf (suc (suc (suc (suc (suc zero))))) = sd
all_small a b c d e f sa sb sc sd se sf (suc (suc (suc (suc (suc (suc zero)))))) = se
all_small a b c d e f sa sb sc sd se sf (suc (suc (suc (suc (suc (suc (suc zero))))))) = sf
all_small a b c d e f sa sb sc sd se sf (suc (suc (suc (suc (suc (suc (suc (suc i)))))))) = omega arith

pub head_err : (bytes : List ℕ) (e : OpenFault) → HeaderAs bytes (Err e) → RoomHeadAs bytes (Err (fault_of e))
head_err bytes (log.Damaged at found) is = ap (λ o. option_or o (other_kind (slice_index bytes 9))) is
head_err bytes log.DiskFault is = absurd is
head_err bytes log.Memory is = absurd is

kind_of_room : (edition : ℕ) (base store : List ℕ) → slice_index (room_head edition base store) 9 ≡ 1
unfolding room_head
kind_of_room edition base store = refl

kind_of_receiver : (edition : ℕ) (name : List ℕ) → slice_index (receiver_head edition name) 9 ≡ 2
unfolding receiver_head
kind_of_receiver edition name = refl

-- a receiver's log
pub head_receiver : (bytes head : List ℕ) (name : List ℕ) → HeaderAs bytes (Ok (head, Receiver name)) → option_or (header_damage bytes) (other_kind (slice_index bytes 9)) ≡ Some (9, Some (slice_index head 9))
head_receiver bytes head name is =
    let kind : slice_index bytes 9 ≡ 2 = ap (λ (l : List ℕ). slice_index l 9) is.2.2 ∙ kind_of_receiver is.2.0 name in
    ap (λ o. option_or o (other_kind (slice_index bytes 9))) is.0
    ∙ ap other_kind kind
    ∙ ap (λ (n : ℕ). Some (9, Some n)) (sym kind ∙ ap (λ (l : List ℕ). slice_index l 9) (sym is.1))

room_size : (edition : ℕ) (base store : List ℕ) → length base ≡ 6 → length (room_head edition base store) ≡ 64 → length store ≡ 16
unfolding room_head
room_size edition base store b long = omega (arith, long, b, length-append base (store ++ replicate 32 0), length-append store (replicate 32 0))

-- a room's log
pub head_room : (bytes head : List ℕ) (store : List ℕ) (base : ℕ) → length head ≡ 64 → HeaderAs bytes (Ok (head, Room store)) → six base ≡ take 6 (drop 10 head) → base < 2 ^ 48
    → (option_or (header_damage bytes) (other_kind (slice_index bytes 9)) ≡ None) × (head ≡ bytes) × IsRoomHead head store base
head_room bytes head store base long is six_is small = (whole, is.1, room)
  where
    edition : ℕ
    edition = is.2.0

    six_long : length is.2.1 ≡ 6
    six_long = is.2.3

    bytes_are : bytes ≡ room_head is.2.0 is.2.1 store
    bytes_are = is.2.4

    whole : option_or (header_damage bytes) (other_kind (slice_index bytes 9)) ≡ None
    whole = ap (λ o. option_or o (other_kind (slice_index bytes 9))) is.0 ∙ ap other_kind (ap (λ (l : List ℕ). slice_index l 9) is.2.4 ∙ kind_of_room is.2.0 is.2.1 store)

    base_is : is.2.1 ≡ six base
    base_is = sym (base_there is.2.0 is.2.1 store [] is.2.3) ∙ ap base_bytes (append-nil (room_head is.2.0 is.2.1 store) ∙ sym is.2.4 ∙ sym is.1) ∙ sym six_is

    room : IsRoomHead head store base
    room = record {
      edition = is.2.0;
      is_edition = is.2.2;
      is = is.1 ∙ is.2.4 ∙ ap (λ (b : List ℕ). room_head is.2.0 b store) base_is;
      small = small;
      store_is = room_size is.2.0 is.2.1 store is.2.3 (ap length (sym is.2.4) ∙ ap length (sym is.1) ∙ long);
    }
