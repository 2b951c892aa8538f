-- What the records of a standby open to as a room.
use Rattle.std.proofs.Common.{◌≡◌, ◌⊎◌, inl, inr, ℕ, true, List, [], ◌∷◌, ◌++◌, map, Option, Ok, Err, refl, sym, ap, subst, ◌∙◌, append_assoc}
use Rattle.std.specs.Prelude.{Result}
use Rattle.std.proofs.lemmas.List.{map-append}
use Rattle.news_types.specs.declared.entry.Entry.{Entry}
use Rattle.news_types.specs.Names.{Bytes}
use Rattle.news_types.specs.History.{History}
use Rattle.news_types.specs.Legal.{IsLegal}
use Rattle.news_types.specs.Members.{Each}
use Rattle.news_types.specs.Server.{Server}
use Rattle.news_types.specs.Doubt.{payloads}
use Rattle.news_types.proofs.Doubt.{place_in}
use Rattle.news_types.proofs.Members.{each_get}
use Rattle.news_io.specs.declared.record.Record.{Record}
use Rattle.news_io.specs.Keeper.{KeeperMeaning}
use Rattle.entry_codec.specs.Spelling.{entry_bytes}
use Rattle.entry_codec.specs.Formed.{IsEntry}
use Rattle.news_room.specs.Log.{IsStored, OpensTo}
use Rattle.news_room.specs.Opening.{IsDamage, HasBadRecord, IsFault, IsOpened, Opened}
use Rattle.news_room.specs.Stands.{Tells, Stands}
use Rattle.news_room.specs.declared.answers.RoomFault.{RoomFault}
use Rattle.news_room.specs.declared.room.Room.{Room}
use Rattle.news_room.proofs.Lists.{last_is, same_entry, same_list}
use Rattle.room_standby.specs.declared.standby.Standby.{Standby}
use Rattle.room_standby.specs.Holds.{bytes_of, AreOf, Followed, Holds}
use Rattle.standby_laws.proofs.Following.{following_holds}
use Rattle.room_standby.specs.Promotes.{MayTell, Promoted, IsOfStore, FollowerPromoted}

-- ---- a list by its records

never_empty : (xs : List Bytes) (x : Bytes) (rest : List Bytes) → [] ≡ xs ++ x ∷ rest → ⊥
never_empty [] x rest is = cc
never_empty (y ∷ xs) x rest is = cc

-- none, or some and a last one
last_of : (xs : List Bytes) → (xs ≡ []) ⊎ ((front : List Bytes) × (x : Bytes) × (xs ≡ front ++ x ∷ []))
last_of [] = inl refl
last_of (x ∷ xs) =
    elim (last_of xs) [
      | inl none ↦ inr ([], x, ap (λ (l : List Bytes). x ∷ l) none)
      | inr some ↦ inr (x ∷ some.0, some.1, ap (λ (l : List Bytes). x ∷ l) some.2)
    ]

-- the list up to an entry, which has this payload
record IsUpTo (h : History) (front : List Bytes) (x : Bytes) : Type 0 where
  more : History
  entry : Entry
  before : History
  is : h ≡ more ++ entry ∷ before
  payloads_are : payloads entry_bytes before ≡ front
  payload_is : entry_bytes entry ≡ x

up_to : (h : History) (front : List Bytes) (x : Bytes) (rest : List Bytes) → payloads entry_bytes h ≡ front ++ x ∷ rest → IsUpTo h front x
up_to [] front x rest is = absurd (never_empty front x rest is)
up_to (e ∷ h) front x rest is =
    elim (last_of rest) [
      | inl none ↦
          let both = last_is (payloads entry_bytes h) front (entry_bytes e) x (is ∙ ap (λ (l : List Bytes). front ++ x ∷ l) none) in
          record { more = []; entry = e; before = h; is = refl; payloads_are = both.0; payload_is = both.1 }
      | inr some ↦
          let moved : front ++ x ∷ rest ≡ (front ++ x ∷ some.0) ++ some.1 ∷ [] =
          ap (λ (l : List Bytes). front ++ x ∷ l) some.2 ∙ sym (append_assoc front (x ∷ some.0) (some.1 ∷ [])) in
          let both = last_is (payloads entry_bytes h) (front ++ x ∷ some.0) (entry_bytes e) some.1 (is ∙ moved) in
          let found = up_to h front x some.0 both.0 in
          record {
            more = e ∷ found.more;
            entry = found.entry;
            before = found.before;
            is = ap (λ (l : History). e ∷ l) found.is;
            payloads_are = found.payloads_are;
            payload_is = found.payload_is;
          }
    ]

front_legal : (more front : History) → IsLegal (more ++ front) → IsLegal front
front_legal [] front legal = legal
front_legal (x ∷ more) front legal = front_legal more front legal.0

front_each : (P : Entry → Type 0) (more front : History) → Each P (more ++ front) → Each P front
front_each P [] front all = all
front_each P (x ∷ more) front all = front_each P more front all.1

-- ---- no damage

-- each front of the list is one that a room can stand for
stored_up_to : (h : History) (front : List Bytes) (x : Bytes) → IsLegal h → Each IsEntry h → (u : IsUpTo h front x) → IsStored (u.entry ∷ u.before)
stored_up_to h front x legal entries u = record {
  legal = front_legal u.more (u.entry ∷ u.before) (subst IsLegal u.is legal);
  formed = front_each IsEntry u.more (u.entry ∷ u.before) (subst (Each IsEntry) u.is entries);
}

no_damage : (h : History) (before : List Record) (here : Record) (at : ℕ) (found : Option ℕ) (list : History) → IsLegal h → Each IsEntry h → IsUpTo h (map bytes_of before) here.bytes
    → OpensTo (map bytes_of before) list → IsDamage list here at found → ⊥
no_damage h before here at found list legal entries u opens (inl none) =
    none.fault.none u.entry (stored_up_to h (map bytes_of before) here.bytes legal entries u).formed.0 u.payload_is
no_damage h before here at found list legal entries u opens (inr wrong) =
    let stored = stored_up_to h (map bytes_of before) here.bytes legal entries u in
    let list_is : u.before ≡ list = same_list u.before list stored.formed.1 opens.kept.formed (u.payloads_are ∙ opens.is) in
    let next_is : u.entry ≡ wrong.next = same_entry u.entry wrong.next stored.formed.0 wrong.entry (u.payload_is ∙ wrong.is) in
    wrong.unlawful (subst (λ (l : History). IsStored (wrong.next ∷ l)) list_is (subst (λ (e : Entry). IsStored (e ∷ u.before)) next_is stored))

none_bad : (records : List Record) (h : History) → AreOf records h → IsLegal h → (side : _) (at : ℕ) (found : Option ℕ) → HasBadRecord records side at found → ⊥
none_bad records h a legal side at found bad =
    let split : payloads entry_bytes h ≡ map bytes_of bad.before ++ bad.here.bytes ∷ map bytes_of bad.after =
    sym a.are ∙ ap (map bytes_of) bad.are ∙ map-append bytes_of bad.before (bad.here ∷ bad.after) in
    no_damage h bad.before bad.here at found bad.list legal a.entries (up_to h (map bytes_of bad.before) bad.here.bytes (map bytes_of bad.after) split) bad.opens bad.damage

memory_alone : (records : List Record) (h : History) → AreOf records h → IsLegal h → (fault : RoomFault) → IsFault records fault → fault ≡ RoomFault.Memory
memory_alone records h a legal (RoomFault.Damaged at found) bad = absurd (none_bad records h a legal _ at found bad)
memory_alone records h a legal (RoomFault.DamagedSide at found) bad = absurd (none_bad records h a legal _ at found bad)
memory_alone records h a legal RoomFault.Memory bad = refl

-- ---- the room

module _ {K : Type 0} (keeper : KeeperMeaning K) (store : Bytes) (s : Standby K) (b : Followed) (h : Holds keeper s b) (legal : IsLegal b.standby.list) where
  tells : b.told ≡ true → MayTell keeper store s b → Tells keeper s.keeper store b.standby.list
  tells told may =
      let kept = h.kept told in
      record {
        tells_it = kept.told;
        label_is = may.label;
        list_is = kept.is;
        follow = λ payload there.
            let place = place_in entry_bytes b.standby.doubt payload (kept.doubts payload there) in
            let follows = each_get (λ e. IsLegal (e ∷ b.standby.list)) b.standby.doubt place.0 place.1 may.follow place.2 in
            let formed = each_get IsEntry b.standby.doubt place.0 place.1 h.doubtful place.2 in
            (place.1, place.3, record { legal = follows; formed = (formed, h.records.entries) });
      }

  stands : (r : Room K) → IsOpened keeper s.keeper store s.records.items r → (b.told ≡ true → MayTell keeper store s b) → Stands keeper r (record { store = store; told = b.told; list = b.standby.list })
  stands r o may =
      let same : o.history ≡ b.standby.list = same_list o.history b.standby.list o.opens.kept.formed h.records.entries (sym o.opens.is ∙ h.records.are) in
      subst (λ (l : History). Stands keeper r (record { store = store; told = b.told; list = l })) same
      (o.stands b.told (λ told. subst (Tells keeper s.keeper store) (sym same) (tells told (may told))))

  pub promoted : (result : Result (Room K) (K × RoomFault)) → Opened keeper s.keeper store s.records.items result → Promoted keeper store s b result
  promoted (Ok r) o = stands r o
  promoted (Err given) o = (o.0, memory_alone s.records.items b.standby.list h.records legal given.1 o.1)

  of_store : (result : Result (Room K) (K × RoomFault)) → Each (λ e. IsLegal (e ∷ b.standby.list)) b.standby.doubt
      → Promoted keeper store s b result → IsOfStore keeper store s b.told b.standby.list result
  of_store (Ok r) follow p = λ label. p (λ t. record { label = label t; follow = follow })
  of_store (Err given) follow p = p

-- behind the events of a primary and its standby
pub follower : {K : Type 0} (keeper : KeeperMeaning K) (store : Bytes) (s : Standby K) (b : Followed) → Holds keeper s b → (result : Result (Room K) (K × RoomFault))
    → Opened keeper s.keeper store s.records.items result → FollowerPromoted keeper store s b result
follower keeper store s b h result o events may is =
    let f = following_holds events may in
    let legal : IsLegal b.standby.list = subst (λ (x : Server). IsLegal x.list) is f.now.legal in
    let follow : Each (λ e. IsLegal (e ∷ b.standby.list)) b.standby.doubt = subst (λ (x : Server). Each (λ e. IsLegal (e ∷ x.list)) x.doubt) is f.follow in
    subst (λ (l : History). IsOfStore keeper store s b.told l result) (sym (ap (λ (x : Server). x.list) is))
    (of_store keeper store s b h legal result follow (promoted keeper store s b h legal result o))
