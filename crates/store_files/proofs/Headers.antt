-- What a log is for, and whether a side is another's.
use Rattle.std.proofs.Common.{◌≡◌, inl, inr, ℕ, zero, suc, ◌<◌, ◌≤◌, List, [], ◌∷◌, ◌++◌, length, take, drop, Option, Some, None, Bool, true, false, refl, sym, ◌∙◌, ap, subst, arith, eqb, ◌&&◌, get_or, length-take, length-drop}
use Rattle.std.specs.Prelude.{slice_index, replicate, IsTrue, not}
use Rattle.std.specs.Cmp.Lexicographic.{pointwise}
use Rattle.std.proofs.lemmas.Bool.{eqb-true, eq-eqb}
use Rattle.std.proofs.lemmas.List.{append_cancel_right, take_at, drop_at}
use Rattle.news_types.specs.Names.{Bytes}
use Rattle.news_journal.specs.Log.{room_head, receiver_head, IsHead}
use Rattle.news_journal.specs.Opened.{IsHeaderOf}
use Rattle.news_journal.specs.declared.header.Header.{Header}
use Rattle.news_journal.specs.declared.header.Header.TheVariants as header
use Rattle.store_files.specs.declared.kinds.LogKind.{LogKind}
use Rattle.store_files.specs.declared.kinds.LogKind.TheVariants.{Unknown}
use Rattle.store_files.specs.Kinds.{IsOfStore, IsOtherLog, kind_of, IsKind, side_form, IsOtherSide, IsOther}

-- a file that was asked whether it is empty
pub some_bytes : (now bytes : List ℕ) (none : Bool) → now ≡ bytes → none ≡ false → (IsTrue none → bytes ≡ []) × (bytes ≡ [] → IsTrue none) → now ≡ [] → ⊥
some_bytes now bytes none same some asked empty = absurd (cc (sym some ∙ asked.1 (sym same ∙ empty)))

-- ---- the log

-- the two kinds of headers differ in their byte 9
pub other_kind : (name store bytes : Bytes) → IsHead (header.Receiver name) bytes → IsHead (header.Room store) bytes → ⊥
unfolding room_head receiver_head
other_kind name store bytes r room = let nine : 2 ≡ 1 = ap (λ (l : List ℕ). slice_index l 9) (sym r.2 ∙ room.4) in omega (arith, nine)

-- what a header that was read says of its log
module _ (log : List ℕ) where
  header_kind : (h : Header) → (log ≡ [] → ⊥) → IsHeaderOf (take 64 log) (Some h) → IsKind log (kind_of h)
  header_kind (header.Receiver name) full is = inr (name, is.0, is.1)
  header_kind (header.Room store) full is = (λ other. elim other [ inl none ↦ full none | inr r ↦ other_kind r.0 store (take 64 log) r.2 is.1 ], (is.0, is.1))

  pub kind_read : (o : Option Header) (h : Header) (kind : LogKind) → o ≡ Some h → kind ≡ kind_of h → (log ≡ [] → ⊥) → IsHeaderOf (take 64 log) o → IsKind log kind
  kind_read o h kind some same full is = subst (IsKind log) (sym same) (header_kind h full (subst (IsHeaderOf (take 64 log)) some is))

  pub kind_unknown : (o : Option Header) → o ≡ None → (log ≡ [] → ⊥) → IsHeaderOf (take 64 log) o → IsKind log Unknown
  kind_unknown o none full is =
      let faulty : IsHeaderOf (take 64 log) None = subst (IsHeaderOf (take 64 log)) none is in
      (λ other. elim other [ inl empty ↦ full empty | inr r ↦ absurd (cc (sym faulty.1 ∙ r.1)) ], λ store of. absurd (cc (sym faulty.1 ∙ of.0)))

-- a log is of one store
behind_base : (edition : ℕ) (base store : List ℕ) → length base ≡ 6 → drop 16 (room_head edition base store) ≡ store ++ replicate 32 0
unfolding room_head
behind_base edition base store long = drop_at base (store ++ replicate 32 0) 6 long

pub same_store : (store other log : Bytes) → IsOfStore store log → IsOfStore other log → store ≡ other
same_store store other log of of' =
    let a = of.1 in
    let b = of'.1 in
    append_cancel_right store other (replicate 32 0) (sym (behind_base a.0 a.1 store a.3) ∙ ap (drop 16) (sym a.4 ∙ b.4) ∙ behind_base b.0 b.1 other b.3)

-- ---- the side

pub owner_there : (kind : ℕ) (owner : Bytes) → length owner ≡ 16 → take 16 (drop 16 (side_form kind owner)) ≡ owner
owner_there kind owner long = take_at owner (replicate 32 0) 16 long

both_so : (a b : Bool) → (a && b) ≡ true → (a ≡ true) × (b ≡ true)
both_so true true is = (refl, refl)
both_so true false is = absurd (cc is)
both_so false b is = absurd (cc is)

same_bytes : (a b : List ℕ) → pointwise eqb a b ≡ true → a ≡ b
same_bytes [] [] same = refl
same_bytes [] (y ∷ b) same = absurd (cc same)
same_bytes (x ∷ a) [] same = absurd (cc same)
same_bytes (x ∷ a) (y ∷ b) same =
    let both = both_so (eqb x y) (pointwise eqb a b) same in
    let first = eqb-true x y both.0 in
    let rest = same_bytes a b both.1 in
    (λ i. first i ∷ rest i)

bytes_same : (a : List ℕ) → pointwise eqb a a ≡ true
bytes_same [] = refl
bytes_same (x ∷ a) = ap (λ (t : Bool). t && pointwise eqb a a) (eq-eqb x x refl) ∙ bytes_same a

not_so : (t : Bool) → not t ≡ false → t ≡ true
not_so true is = refl
not_so false is = absurd (cc is)

-- 64 bytes that were compared with those of the form that have their kind and their identifier
module _ (store bytes form : List ℕ) (ne : Bool) (long : 65 ≤ length bytes)
    (form_is : form ≡ side_form (get_or (take 64 bytes) 9 0) (take 16 (drop 16 (take 64 bytes)))) (asked : ne ≡ not (pointwise eqb (take 64 bytes) form)) where
  module _ (o : IsOtherSide store bytes) where
    kind_is : get_or (take 64 bytes) 9 0 ≡ o.kind
    kind_is = ap (λ (l : List ℕ). get_or l 9 0) o.head

    owner_is : take 16 (drop 16 (take 64 bytes)) ≡ o.owner
    owner_is = ap (λ (l : List ℕ). take 16 (drop 16 l)) o.head ∙ owner_there o.kind o.owner o.long

    in_form : take 64 bytes ≡ form
    in_form = o.head ∙ sym (form_is ∙ (λ i. side_form (kind_is i) (owner_is i)))

  pub no_side : ne ≡ true → IsOtherSide store bytes → ⊥
  no_side differs o =
      let same : pointwise eqb (take 64 bytes) form ≡ true = subst (λ (l : List ℕ). pointwise eqb (take 64 bytes) l ≡ true) (in_form o) (bytes_same (take 64 bytes)) in
      absurd (cc (sym differs ∙ asked ∙ ap not same))

  pub is_side : (t : Bool) → ne ≡ false → (IsTrue t → get_or (take 64 bytes) 9 0 ≡ 3 → take 16 (drop 16 (take 64 bytes)) ≡ store → ⊥) × ((get_or (take 64 bytes) 9 0 ≡ 3 → take 16 (drop 16 (take 64 bytes)) ≡ store → ⊥) → IsTrue t)
      → (IsTrue t → IsOtherSide store bytes) × (IsOtherSide store bytes → IsTrue t)
  is_side t same other = (
    λ is. record {
      some = long;
      kind = get_or (take 64 bytes) 9 0;
      owner = take 16 (drop 16 (take 64 bytes));
      long = omega (arith, long, length-take 16 (drop 16 (take 64 bytes)), length-drop 16 (take 64 bytes), length-take 64 bytes);
      head = same_bytes (take 64 bytes) form (not_so (pointwise eqb (take 64 bytes) form) (sym asked ∙ same)) ∙ form_is;
      other = other.0 is;
    },
    λ o. other.1 (λ kind owner. o.other (sym (kind_is o) ∙ kind) (sym (owner_is o) ∙ owner)),
  )

-- the first 65 bytes show it
take_take : (m n : ℕ) (xs : List ℕ) → m ≤ n → take m (take n xs) ≡ take m xs
take_take zero n xs le = refl
take_take (suc m) zero xs le = absurd (omega (arith, le))
take_take (suc m) (suc n) [] le = refl
take_take (suc m) (suc n) (x ∷ xs) le = ap (λ (l : List ℕ). x ∷ l) (take_take m n xs (omega (arith, le)))

pub other_front : (store file : List ℕ) → IsOtherSide store (take 65 file) → IsOtherSide store file
other_front store file o = record {
  some = omega (arith, o.some, length-take 65 file);
  kind = o.kind;
  owner = o.owner;
  long = o.long;
  head = sym (take_take 64 65 file (omega arith)) ∙ o.head;
  other = o.other;
}

pub other_whole : (store file : List ℕ) → IsOtherSide store file → IsOtherSide store (take 65 file)
other_whole store file o = record {
  some = omega (arith, o.some, length-take 65 file);
  kind = o.kind;
  owner = o.owner;
  long = o.long;
  head = take_take 64 65 file (omega arith) ∙ o.head;
  other = o.other;
}

-- a short one is not another's
pub short_is_none : (store file : List ℕ) → length file < 65 → IsOtherSide store file → ⊥
short_is_none store file short o = let long = o.some in omega (arith, short, long)

-- ---- both

pub not_other : (log side store : List ℕ) → (IsOtherLog log → ⊥) × IsOfStore store log → (IsOtherSide store side → ⊥) → IsOther log side → ⊥
not_other log side store kind same other = elim other [
  | inl is ↦ kind.0 is
  | inr found ↦ same (subst (λ (s : Bytes). IsOtherSide s side) (same_store found.0 store log found.1 kind.1) found.2)
]

pub not_known : (log side : List ℕ) → (IsOtherLog log → ⊥) × ((store : Bytes) → IsOfStore store log → ⊥) → IsOther log side → ⊥
not_known log side kind other = elim other [
  | inl is ↦ kind.0 is
  | inr found ↦ kind.1 found.0 found.1
]
