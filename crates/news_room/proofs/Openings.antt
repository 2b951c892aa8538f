-- What the records tell, one after the other.
use Rattle.std.proofs.Common.{◌≡◌, ℕ, suc, ◌<◌, ◌≤◌, ◌+◌, List, [], ◌∷◌, ◌++◌, length, take, drop, get_or, map, slice_get, Option, Some, Bool, true, false, Ok, Err, inl, inr, refl, sym, ap, subst, ◌∙◌, arith, drop-cons}
use Rattle.std.specs.Prelude.{Result}
use Rattle.std.proofs.lemmas.List.{map-append, length-map, length-take-le, take_more, take_all, take-append-drop}
use Rattle.news_types.specs.declared.entry.Entry.{Entry}
use Rattle.news_types.specs.Names.{Bytes}
use Rattle.news_types.specs.History.{History}
use Rattle.news_types.specs.declared.entry.Reply.{Reply}
use Rattle.news_types.specs.declared.entry.Act.{Act}
use Rattle.news_types.specs.declared.entry.Act.TheVariants as act
use Rattle.news_types.specs.Legal.{IsLegal}
use Rattle.news_types.specs.Outcome.{reply_to}
use Rattle.news_io.specs.declared.record.Record.{Record}
use Rattle.byte_formats.specs.Faults.{IsFaultAt}
use Rattle.entry_codec.specs.Spelling.{entry_bytes}
use Rattle.entry_codec.specs.Formed.{IsEntry}
use Rattle.newsroom.specs.declared.newsroom.Newsroom.{Newsroom}
use Rattle.newsroom.specs.Stands.{store_of}
use Rattle.newsroom.specs.Acts.{IsSmall}
use Rattle.news_types.specs.Doubt.{payloads}
use Rattle.news_room.specs.Log.{IsStored}
use Rattle.news_room.specs.Stands.{Tells}
use Rattle.news_room.specs.Opening.{bytes_of, damaged_in, IsDamage, IsFault, HasRead, HasTaken, Takes, IsRefused, Keeps, IsOpened, replies_plainly}
use Rattle.news_room.specs.declared.answers.RoomFault.{RoomFault}
use Rattle.news_room.specs.declared.room.Room.{Room}
use Rattle.news_room.proofs.Lists.{counted}
use Rattle.news_io.specs.Keeper.{KeeperMeaning}

-- ---- one record

-- a fault is told of the file that the record is of
damage_told : (n : Newsroom) (h : History) (r : Record) (at : ℕ) (found : Option ℕ) → IsDamage h r at found → Takes n h r (Err (damaged_in r.side at found))
damage_told n h r at found is = by_file r.side refl
  where
    by_file : (side : Bool) → r.side ≡ side → Takes n h r (Err (damaged_in side at found))
    by_file true same = (same, is)
    by_file false same = (same, is)

pub no_entry_told : (n : Newsroom) (h : History) (r : Record) (payload : Bytes) (place : ℕ) (fault : RoomFault) → payload ≡ r.bytes → IsFaultAt entry_bytes IsEntry payload place
    → fault ≡ damaged_in r.side (r.at + 5 + place) (slice_get r.bytes place) → Takes n h r (Err fault)
no_entry_told n h r payload place fault same wrong is =
    subst (λ (f : RoomFault). Takes n h r (Err f)) (sym is) (damage_told n h r (r.at + 5 + place) (slice_get r.bytes place) (inl (record {
      place = place;
      fault = subst (λ (b : Bytes). IsFaultAt entry_bytes IsEntry b place) same wrong;
      at_is = refl;
      found_is = refl;
    })))

pub unlawful_told : (n : Newsroom) (h : History) (r : Record) (e : Entry) (fault : RoomFault) → (IsLegal (e ∷ h) → ⊥) → fault ≡ damaged_in r.side r.at (Some 1) → Keeps n h r e (Err fault)
unlawful_told n h r e fault not is = subst (λ (f : RoomFault). Keeps n h r e (Err f)) (sym is) (by_file r.side refl)
  where
    refused : IsRefused h r e r.at (Some 1)
    refused = record { unlawful = not; at_is = refl; found_is = refl }

    by_file : (side : Bool) → r.side ≡ side → Keeps n h r e (Err (damaged_in side r.at (Some 1)))
    by_file true same = (same, refused)
    by_file false same = (same, refused)

refused_told : (h : History) (r : Record) (e : Entry) (at : ℕ) (found : Option ℕ) → r.bytes ≡ entry_bytes e → IsEntry e → IsRefused h r e at found → IsDamage h r at found
refused_told h r e at found is entry told = inr (record {
  next = e;
  is = is;
  entry = entry;
  unlawful = λ kept. told.unlawful kept.legal;
  at_is = told.at_is;
  found_is = told.found_is;
})

pub entry_told : (n : Newsroom) (h : History) (r : Record) (payload : Bytes) (e : Entry) (kept : Result Reply RoomFault) → payload ≡ r.bytes → IsEntry e → payload ≡ entry_bytes e
    → IsStored h → Keeps n h r e kept → Takes n h r kept
entry_told n h r payload e (Ok reply) same entry is before told = record {
  entry = e;
  is = sym same ∙ is;
  kept = record { legal = told.legal; formed = (entry, before.formed) };
  stands = told.stands;
  reply_is = told.reply_is;
}
entry_told n h r payload e (Err (RoomFault.Damaged at found)) same entry is before told = (told.0, refused_told h r e at found (sym same ∙ is) entry told.1)
entry_told n h r payload e (Err (RoomFault.DamagedSide at found)) same entry is before told = (told.0, refused_told h r e at found (sym same ∙ is) entry told.1)
entry_told n h r payload e (Err RoomFault.Memory) same entry is before told = tt

-- the reply to one of the server's own acts
pub small_reply : (h : History) (m : ℕ) (a : Act) → IsSmall a → reply_to h m a ≡ replies_plainly (length h + 1)
small_reply h m act.Advance is = refl
small_reply h m (act.Attempt s k) is = refl
small_reply h m (act.Receipt s n) is = refl
small_reply h m act.Halt is = refl
small_reply h m (act.Ingest name come) is = absurd is
small_reply h m (act.Request caller number command) is = absurd is

-- ---- the records so far

module _ (records : List Record) (i : ℕ) where
  -- those before a place
  abbrev pub before : List Bytes
  before = map bytes_of (take i records)

  -- as many entries as records
  pub as_many : (n : Newsroom) (h : History) → i ≤ length records → HasRead n before h → length h ≡ i
  as_many n h le read =
      sym (counted h) ∙ ap length (sym read.opens.is) ∙ length-map (take i records) bytes_of ∙ length-take-le i records le

  module _ (r : Record) (lt : i < length records) (is : r ≡ get_or records i r) where
    one_more : map bytes_of (take (i + 1) records) ≡ before ++ r.bytes ∷ []
    one_more =
        ap (map bytes_of) (take_more records i r lt ∙ ap (λ (x : Record). take i records ++ x ∷ []) (sym is)) ∙ map-append bytes_of (take i records) (r ∷ [])

    pub read_on : (n n' : Newsroom) (h : History) (reply : Reply) → HasRead n before h → (told : HasTaken n' h r reply)
        → HasRead n' (map bytes_of (take (i + 1) records)) (told.entry ∷ h)
    read_on n n' h reply read told =
        let e = told.entry in
        let next : before ++ r.bytes ∷ [] ≡ payloads entry_bytes h ++ entry_bytes e ∷ [] = ap (λ (l : List Bytes). l ++ r.bytes ∷ []) read.opens.is ∙ ap (λ (b : Bytes). payloads entry_bytes h ++ b ∷ []) told.is in
        record { opens = record { is = one_more ∙ next; kept = told.kept }; stands = told.stands }

    here : records ≡ take i records ++ r ∷ drop (suc i) records
    here = sym (take-append-drop i records) ∙ ap (λ (l : List Record). take i records ++ l) (drop-cons records i r lt ∙ ap (λ (x : Record). x ∷ drop (suc i) records) (sym is))

    pub damaged_here : (n n' : Newsroom) (h : History) (fault : RoomFault) → HasRead n before h → Takes n' h r (Err fault) → IsFault records fault
    damaged_here n n' h (RoomFault.Damaged at found) read told =
        record { before = take i records; here = r; after = drop (suc i) records; are = here; list = h; opens = read.opens; file_is = told.0; damage = told.1 }
    damaged_here n n' h (RoomFault.DamagedSide at found) read told =
        record { before = take i records; here = r; after = drop (suc i) records; are = here; list = h; opens = read.opens; file_is = told.0; damage = told.1 }
    damaged_here n n' h RoomFault.Memory read told = tt

pub read_all : (records : List Record) (i : ℕ) (n : Newsroom) (h : History) → length records ≤ i → HasRead n (map bytes_of (take i records)) h → HasRead n (map bytes_of records) h
read_all records i n h past read = subst (λ (l : List Record). HasRead n (map bytes_of l) h) (take_all i records past) read

-- ---- the room

module _ {K : Type 0} (keeper : KeeperMeaning K) where
  pub opened : (k : K) (store : Bytes) (records : List Record) (r : Room K) (h : History) → r.keeper ≡ k → store_of r.machine ≡ store → length records < 2147483648
      → HasRead r.machine (map bytes_of records) h → IsOpened keeper k store records r
  opened k store records r h same stored few read = record {
    keeper_is = same;
    history = h;
    opens = read.opens;
    stands = λ told tells_it. record {
      store_is = stored;
      machine_for = read.stands;
      kept = read.opens.kept;
      few = omega (arith, few, counted h, ap length read.opens.is, length-map records bytes_of);
      told = λ t. subst (λ (x : K). Tells keeper x store h) (sym same) (tells_it t);
    };
  }
