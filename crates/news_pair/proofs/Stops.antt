-- Where a payload is no entry.
use Rattle.std.proofs.Common.{◌≡◌, inl, inr, ℕ, ◌+◌, ◌-◌, ◌≤◌, List, ◌++◌, length, take, drop, Result, Ok, Err, refl, sym, ◌∙◌, ap, arith, append_assoc, take-append-drop}
use Rattle.std.proofs.lemmas.List.{take-take}
use Rattle.std.proofs.lemmas.Bool.{cases_lt}
use Rattle.news_types.specs.declared.entry.Entry.{Entry}
use Rattle.byte_formats.specs.Gives.{all_of}
use Rattle.byte_formats.specs.Lawful.{Begins}
use Rattle.byte_formats.specs.Faults.{IsFaultAt}
use Rattle.byte_formats.proofs.Laws.{IsBytes}
use Rattle.byte_formats.proofs.Whole.{all_takes, all_fault, all_within}
use Rattle.entry_codec.specs.Spelling.{entry_bytes}
use Rattle.entry_codec.specs.Formed.{IsEntry}
use Rattle.entry_codec.specs.Commands.{entry}
use Rattle.entry_codec.proofs.EntryLaws.{entry_lawful}

-- the bytes before what begins a spelling begin it too
begins_front : (bytes : List ℕ) (a b : ℕ) → a ≤ b → Begins entry_bytes IsEntry (take b bytes) → Begins entry_bytes IsEntry (take a bytes)
begins_front bytes a b le begins = record {
  value = begins.value;
  fits = begins.fits;
  more = drop a (take b bytes) ++ begins.more;
  is =
      begins.is
      ∙ ap (λ (l : List ℕ). l ++ begins.more) (sym (take-append-drop a (take b bytes)))
      ∙ append_assoc (take a (take b bytes)) (drop a (take b bytes)) begins.more
      ∙ ap (λ (l : List ℕ). l ++ (drop a (take b bytes) ++ begins.more)) (take-take a b bytes le);
}

-- there is one such place
pub one_fault : (bytes : List ℕ) (a b : ℕ) → IsFaultAt entry_bytes IsEntry bytes a → IsFaultAt entry_bytes IsEntry bytes b → a ≡ b
one_fault bytes a b f g = elim (cases_lt a b) [
  | inl less ↦ absurd (f.here (omega (arith, less, g.within)) (begins_front bytes (a + 1) b (omega (arith, less)) g.before))
  | inr ge ↦ elim (cases_lt b a) [
    | inl less ↦ absurd (g.here (omega (arith, less, f.within)) (begins_front bytes (b + 1) a (omega (arith, less)) f.before))
    | inr le ↦ omega (arith, ge, le)
  ]
]

-- it is the place where reading stops
pub stops_there : (bytes : List ℕ) (at : ℕ) → IsBytes bytes → IsFaultAt entry_bytes IsEntry bytes at → all_of entry bytes ≡ Err (length bytes - at)
stops_there bytes at ib fault = by_read (all_of entry bytes) refl
  where
    by_read : (r : Result Entry ℕ) → all_of entry bytes ≡ r → all_of entry bytes ≡ Err (length bytes - at)
    by_read (Ok e) is = let t = all_takes entry IsEntry entry_lawful bytes e ib is in absurd (fault.none e t.0 (sym t.1))
    by_read (Err left) is =
        let same = one_fault bytes at (length bytes - left) fault (all_fault entry IsEntry entry_lawful bytes left ib is) in
        let within = all_within entry IsEntry entry_lawful bytes left ib is in
        is ∙ ap (λ (n : ℕ). Err n) (let e : left ≡ length bytes - at = omega (arith, same, within) in e)
