-- Whose files they are, by their lengths and the log's header.
use Rattle.std.proofs.Common.{◌≡◌, ℕ, inl, inr, Bool, true, false, List, [], ◌∷◌, ◌++◌, length, map, take, Option, Some, None, refl, sym, ◌∙◌, ap, subst, arith}
use Rattle.std.specs.Prelude.{Result, Ok, Err, IfOk, All}
use Rattle.std.proofs.Math.Seq.{get_or-append_seam}
use Rattle.std.proofs.lemmas.List.{map-append, length-append}
use Rattle.std.proofs.lemmas.List.Elements.{All-append, All-cons, All-nil}
use Rattle.news_types.specs.History.{History}
use Rattle.news_types.specs.Members.{Each}
use Rattle.news_types.specs.Doubt.{payloads}
use Rattle.entry_codec.specs.Spelling.{entry_bytes}
use Rattle.entry_codec.specs.Formed.{IsEntry}
use Rattle.news_io.specs.declared.record.Record.{Record}
use Rattle.room_standby.specs.Holds.{bytes_of, AreOf, IsOfEntry, HasNoEntry, IsFault}
use Rattle.room_standby.specs.declared.standby.StandbyFault.{StandbyFault}
use Rattle.room_standby.specs.declared.standby.StandbyFault.TheVariants as standby
use Rattle.store_files.specs.declared.trouble.Trouble.TheVariants as trouble
use Rattle.news_types.specs.Names.{Bytes}
use Rattle.news_io.specs.declared.faults.Failed.{Failed}
use Rattle.news_journal.specs.Opened.{IsHeaderOf}
use Rattle.news_journal.specs.declared.header.Header.{Header}
use Rattle.news_journal.specs.declared.header.Header.TheVariants as header
use Rattle.store_files.proofs.Headers.{other_kind, same_store}
use Rattle.standby_files.specs.Kinds.{OtherHeader, BesideEmpty, ByHeader, IsKind, trouble_of_standby}
use Rattle.standby_files.specs.Opening.{IsOtherStore}
use Rattle.standby_files.specs.declared.opening.Kind.{Kind}
use Rattle.standby_files.specs.declared.opening.Kind.TheVariants.{Empty, Other, Own}

module _ (store log : List ℕ) where
  pub other_so : (o : Option Header) (h : Header) (b : Bool) → o ≡ Some h → b ≡ true → OtherHeader h store b → IsHeaderOf (take 64 log) o → IsOtherStore store log
  other_so o h b some so other is = by_header h (subst (OtherHeader h store) so other) (subst (IsHeaderOf (take 64 log)) some is)
    where
      by_header : (h : Header) → OtherHeader h store true → IsHeaderOf (take 64 log) (Some h) → IsOtherStore store log
      by_header (header.Room owner) other is = record { owner = owner; of = is; other = other.0 refl }
      by_header (header.Receiver name) other is = absurd (cc other)

  pub own_so : (o : Option Header) (h : Header) (b : Bool) → o ≡ Some h → b ≡ false → OtherHeader h store b → IsHeaderOf (take 64 log) o → IsOtherStore store log → ⊥
  own_so o h b some so own is = by_header h (subst (OtherHeader h store) so own) (subst (IsHeaderOf (take 64 log)) some is)
    where
      by_header : (h : Header) → OtherHeader h store false → IsHeaderOf (take 64 log) (Some h) → IsOtherStore store log → ⊥
      by_header (header.Room owner) own is other = absurd (cc (own.1 (λ same. other.other (same_store other.owner owner log other.of is ∙ same))))
      by_header (header.Receiver name) own is other = let of = other.of in other_kind name other.owner (take 64 log) is.1 of.1

  pub none_so : (o : Option Header) → o ≡ None → IsHeaderOf (take 64 log) o → IsOtherStore store log → ⊥
  none_so o none is other =
      let faulty : IsHeaderOf (take 64 log) None = subst (IsHeaderOf (take 64 log)) none is in
      let of = other.of in
      absurd (cc (sym of.0 ∙ faulty.1))

-- an empty log, and one that is not
module _ (store log side : List ℕ) where
  pub kind_empty : log ≡ [] → (r : Result Kind Failed) → IfOk r (BesideEmpty side) → IfOk r (IsKind store log side)
  kind_empty none (Ok Empty) k = (none, k)
  kind_empty none (Ok Other) k = inr (none, k)
  kind_empty none (Ok Own) k = absurd k
  kind_empty none (Err e) k = tt

  pub kind_header : (log ≡ [] → ⊥) → (r : Result Kind Failed) → IfOk r (ByHeader store log) → IfOk r (IsKind store log side)
  kind_header some (Ok Empty) k = absurd k
  kind_header some (Ok Other) k = inl k
  kind_header some (Ok Own) k = (some, k)
  kind_header some (Err e) k = tt

-- ---- records that are of entries open to a standby, or memory is wanting

payloads_fit : (h : History) → Each IsEntry h → All IsOfEntry (payloads entry_bytes h)
payloads_fit [] each = λ k d within. absurd (omega (arith, within))
payloads_fit (e ∷ h) each = All-append IsOfEntry (payloads entry_bytes h) (entry_bytes e ∷ []) (payloads_fit h each.1) (All-cons IsOfEntry (entry_bytes e) [] (e, each.0, refl) (All-nil IsOfEntry))

none_without : (rs : List Record) (h : History) (at : ℕ) (found : Option ℕ) → AreOf rs h → HasNoEntry rs at found → ⊥
none_without rs h at found a bad =
    let xs : List Bytes = map bytes_of bad.front in
    let split : payloads entry_bytes h ≡ xs ++ bad.bad.bytes ∷ map bytes_of bad.rest = sym a.are ∙ ap (λ (l : List Record). map bytes_of l) bad.is ∙ map-append bytes_of bad.front (bad.bad ∷ bad.rest) in
    let all = subst (λ (l : List Bytes). All IsOfEntry l) split (payloads_fit h a.entries) in
    bad.here (subst IsOfEntry (get_or-append_seam xs bad.bad.bytes (map bytes_of bad.rest) []) (all (length xs) [] (omega (arith, length-append xs (bad.bad.bytes ∷ map bytes_of bad.rest)))))

pub only_memory : (rs : List Record) (h : History) (f : StandbyFault) → AreOf rs h → IsFault rs f → trouble_of_standby f ≡ trouble.Memory
only_memory rs h (standby.Damaged at found) a bad = absurd (none_without rs h at found a bad)
only_memory rs h standby.Memory a bad = refl
