-- The record lines of an input, from what stands first in its bytes.
use Rattle.std.proofs.Common.{◌≡◌, inl, inr, ⊎_elim, ℕ, ◌+◌, ◌<◌, ◌≤◌, List, [], ◌∷◌, ◌++◌, length, take, drop, refl, sym, ◌∙◌, ap, subst, arith, append_assoc}
use Rattle.std.proofs.lemmas.Bool.{cases_lt}
use Rattle.std.proofs.lemmas.List.{append-nil, length-append, length-take, take_all, take_at, take-take, take-append-le, take-append-drop}
use Rattle.std.proofs.lemmas.List.Concat.{flat_map-append}
use Rattle.std.specs.List.{flat_map}
use Rattle.news_types.specs.Names.{Bytes}
use Rattle.record_lines.specs.Spelling.{Numbered}
use Rattle.byte_formats.specs.Lawful.{Begins}
use Rattle.byte_formats.proofs.Laws.{ok_is}
use Rattle.record_lines.specs.declared.record.FirstRecord.{FirstRecord}
use Rattle.record_lines.specs.declared.record.FirstRecord.TheVariants.{Whole, Bad, Cut}
use Rattle.record_lines.specs.Spelling.{record_bytes, IsRecord}
use Rattle.record_lines.specs.Formats.{record_line}
use Rattle.record_lines.specs.Reads.{IsFirst}
use Rattle.record_lines.proofs.Written.{record_lawful}
use Rattle.record_lines.specs.declared.record.FirstRecord.TheVariants.{Whole, Bad, Cut}
use Rattle.room_standby.specs.Holds.{IsOfEntry}
use Rattle.standby_files.specs.Input.{AllFit, AreRecords, NoneIsWhole, HasBegun, IsBadAt, IsNoEntryAt}
use Rattle.standby_files.specs.Status.{AllEntries}
use Rattle.standby_files.specs.Run.{IsBadByte, IsNext, IsStrayAt}

-- ---- records behind records

fit_then : (xs ys : List Numbered) → AllFit xs → AllFit ys → AllFit (xs ++ ys)
fit_then [] ys a b = b
fit_then (f ∷ xs) ys a b = (a.0, fit_then xs ys a.1 b)

pub records_none : (bytes : Bytes) → AreRecords bytes [] bytes
records_none bytes = record { is = refl; fit = tt }

pub records_one : (rest more : Bytes) (f : Numbered) → IsRecord f → rest ≡ record_bytes f ++ more → AreRecords rest (f ∷ []) more
records_one rest more f form is = record { is = is ∙ ap (λ (l : Bytes). l ++ more) (sym (append-nil (record_bytes f))); fit = (form, tt) }

pub records_then : (bytes mid rest : Bytes) (xs ys : List Numbered) → AreRecords bytes xs mid → AreRecords mid ys rest → AreRecords bytes (xs ++ ys) rest
records_then bytes mid rest xs ys a b = record {
  is = a.is ∙ ap (λ (l : Bytes). flat_map record_bytes xs ++ l) b.is ∙ sym (append_assoc (flat_map record_bytes xs) (flat_map record_bytes ys) rest)
      ∙ ap (λ (l : Bytes). l ++ rest) (sym (flat_map-append record_bytes xs ys));
  fit = fit_then xs ys a.fit b.fit;
}

pub records_on : (bytes rest more : Bytes) (records : List Numbered) → AreRecords bytes records rest → AreRecords (bytes ++ more) records (rest ++ more)
records_on bytes rest more records a = record { is = ap (λ (l : Bytes). l ++ more) a.is ∙ append_assoc (flat_map record_bytes records) rest more; fit = a.fit }

-- ---- what stands first

pub record_some : (f : Numbered) → 0 < length (record_bytes f)
record_some f = omega arith

pub begun_none : HasBegun []
begun_none = record {
  begins = record { value = record_lawful.some; fits = record_lawful.some_fits; more = record_bytes record_lawful.some; is = refl };
  none = λ f more form is. absurd (omega (arith, record_some f, ap length is, length-append (record_bytes f) more));
}

-- the first bytes of a record line begin it
begins : (bytes more : Bytes) (n : ℕ) (f : Numbered) → IsRecord f → bytes ≡ record_bytes f ++ more → n ≤ length (record_bytes f) → Begins record_bytes IsRecord (take n bytes)
begins bytes more n f form is le = record {
  value = f;
  fits = form;
  more = drop n (record_bytes f);
  is = sym (take-append-drop n (record_bytes f)) ∙ ap (λ (l : Bytes). l ++ drop n (record_bytes f)) (sym (take-append-le n (record_bytes f) more le) ∙ ap (λ (l : Bytes). take n l) (sym is));
}

-- a record line at the front of the first bytes, or past them
front_of : (bytes more : Bytes) (n : ℕ) (f : Numbered) → n ≤ length bytes → bytes ≡ record_bytes f ++ more → length (record_bytes f) ≤ n → (rest : Bytes) × (take n bytes ≡ record_bytes f ++ rest)
front_of bytes more n f within is le =
    let long : length (record_bytes f) ≤ length (take n bytes) = omega (arith, le, within, length-take n bytes) in
    let front : take (length (record_bytes f)) (take n bytes) ≡ record_bytes f =
    take-take (length (record_bytes f)) n bytes le ∙ ap (λ (l : Bytes). take (length (record_bytes f)) l) is ∙ take_at (record_bytes f) more (length (record_bytes f)) refl in
    (drop (length (record_bytes f)) (take n bytes), sym (take-append-drop (length (record_bytes f)) (take n bytes)) ∙ ap (λ (l : Bytes). l ++ drop (length (record_bytes f)) (take n bytes)) front)

-- without a whole record line before the place there is none
none_whole : (bytes : Bytes) (at : ℕ) → at < length bytes → NoneIsWhole (take at bytes) → (Begins record_bytes IsRecord (take (at + 1) bytes) → ⊥) → NoneIsWhole bytes
none_whole bytes at within none here f more form is =
    ⊎_elim
    (λ (lt : at < length (record_bytes f)). here (begins bytes more (at + 1) f form is (omega (arith, lt))))
    (λ (le : length (record_bytes f) ≤ at). let front = front_of bytes more at f (omega (arith, within)) is le in none f front.0 form front.1)
    (cases_lt at (length (record_bytes f)))

pub first_next : (bytes : Bytes) (first : FirstRecord) → IsFirst bytes first → IsNext bytes first
first_next bytes (Whole size) first = (first.3, (first.0, record { form = first.1; is = first.2 }))
first_next bytes (Bad at) first = record { within = first.0; before = first.1; here = first.2; none = first.3 }
first_next bytes Cut first = record { begins = first.0; none = first.1 }

-- ---- a rest that is no record line

-- what follows mends no byte
bad_on : (rest more : Bytes) (at : ℕ) → IsBadByte rest at → IsBadByte (rest ++ more) at
bad_on rest more at bad =
    let within : at < length (rest ++ more) = omega (arith, bad.within, length-append rest more) in
    let front : take at (rest ++ more) ≡ take at rest = take-append-le at rest more (omega (arith, bad.within)) in
    let one : take (at + 1) (rest ++ more) ≡ take (at + 1) rest = take-append-le (at + 1) rest more (omega (arith, bad.within)) in
    let here : Begins record_bytes IsRecord (take (at + 1) (rest ++ more)) → ⊥ = λ b. bad.here (subst (Begins record_bytes IsRecord) one b) in
    let none : NoneIsWhole (take at (rest ++ more)) = λ f m form is. bad.none f (m ++ drop at rest) form
    (sym (take-append-drop at rest) ∙ ap (λ (l : Bytes). l ++ drop at rest) (sym front ∙ is) ∙ append_assoc (record_bytes f) m (drop at rest)) in
    record { within = within; before = subst (Begins record_bytes IsRecord) (sym front) bad.before; here = here; none = none_whole (rest ++ more) at within none here }

no_record : (rest : Bytes) → NoneIsWhole rest → (f : Numbered) → IsRecord f → record_bytes f ≡ rest → ⊥
no_record rest none f form is = none f [] form (sym is ∙ sym (append-nil (record_bytes f)))

-- a byte shows it, whatever follows
pub bad_at_byte : (bytes more rest : Bytes) (records : List Numbered) (within at : ℕ) → AreRecords bytes records rest → IsBadByte rest within → at + length rest ≡ length bytes + within → IsBadAt (bytes ++ more) records at
bad_at_byte bytes more rest records within at a bad place =
    let on = bad_on rest more within bad in
    record {
      rest = rest ++ more;
      are = records_on bytes rest more records a;
      some = omega (arith, on.within);
      none = on.none;
      within = within;
      fault = record { within = omega (arith, on.within); before = on.before; here = λ lt. on.here; none = no_record (rest ++ more) on.none };
      place = omega (arith, place, length-append rest more, length-append bytes more);
    }

-- the end shows it
pub bad_at_end : (bytes rest : Bytes) (records : List Numbered) → AreRecords bytes records rest → HasBegun rest → 0 < length rest → IsBadAt bytes records (length bytes)
bad_at_end bytes rest records a begun some = record {
  rest = rest;
  are = a;
  some = some;
  none = begun.none;
  within = length rest;
  fault = record {
    within = omega arith;
    before = subst (Begins record_bytes IsRecord) (sym (take_all (length rest) rest (omega arith))) begun.begins;
    here = λ lt. absurd (omega (arith, lt));
    none = no_record rest begun.none;
  };
  place = refl;
}

-- ---- an input is records in one way

one_front : (f g : Numbered) (x y : Bytes) → IsRecord f → IsRecord g → record_bytes f ++ x ≡ record_bytes g ++ y → x ≡ y
one_front f g x y p q is = ap (λ (z : Numbered × Bytes). z.1) (ok_is (f, x) (g, y) (sym (record_lawful.again f x p) ∙ ap record_line.read is ∙ record_lawful.again g y q))

first_front : (f g : Numbered) (x y : Bytes) → IsRecord f → IsRecord g → record_bytes f ++ x ≡ record_bytes g ++ y → f ≡ g
first_front f g x y p q is = ap (λ (z : Numbered × Bytes). z.0) (ok_is (f, x) (g, y) (sym (record_lawful.again f x p) ∙ ap record_line.read is ∙ record_lawful.again g y q))

no_rest : (xs ys : List Numbered) (rest : Bytes) → AllFit xs → AllFit ys → flat_map record_bytes xs ++ rest ≡ flat_map record_bytes ys ++ [] → NoneIsWhole rest → rest ≡ []
no_rest [] [] rest a b is none = is
no_rest [] (g ∷ ys) rest a b is none = absurd (none g (flat_map record_bytes ys ++ []) b.0 (is ∙ append_assoc (record_bytes g) (flat_map record_bytes ys) []))
no_rest (f ∷ xs) [] rest a b is none =
    absurd (omega (arith, record_some f, ap length (sym (append_assoc (record_bytes f) (flat_map record_bytes xs) rest) ∙ is), length-append (record_bytes f) (flat_map record_bytes xs ++ rest)))
no_rest (f ∷ xs) (g ∷ ys) rest a b is none =
    no_rest xs ys rest a.1 b.1
    (one_front f g (flat_map record_bytes xs ++ rest) (flat_map record_bytes ys ++ []) a.0 b.0
    (sym (append_assoc (record_bytes f) (flat_map record_bytes xs) rest) ∙ is ∙ append_assoc (record_bytes g) (flat_map record_bytes ys) []))
    none

-- an input of whole records goes on with no bad one
never_bad : (bytes : Bytes) (xs ys : List Numbered) (at : ℕ) → AreRecords bytes ys [] → IsBadAt bytes xs at → ⊥
never_bad bytes xs ys at a bad = omega (arith, bad.some, ap length (no_rest xs ys bad.rest bad.are.fit a.fit (sym bad.are.is ∙ a.is) bad.none))

-- what stands in front of it is a front of its record lines
front_of_all : (xs ys : List Numbered) (rest : Bytes) → AllFit xs → AllFit ys → flat_map record_bytes xs ++ rest ≡ flat_map record_bytes ys ++ [] → (more : List Numbered) × (ys ≡ xs ++ more)
front_of_all [] ys rest a b is = (ys, refl)
front_of_all (f ∷ xs) [] rest a b is =
    absurd (omega (arith, record_some f, ap length (sym (append_assoc (record_bytes f) (flat_map record_bytes xs) rest) ∙ is), length-append (record_bytes f) (flat_map record_bytes xs ++ rest)))
front_of_all (f ∷ xs) (g ∷ ys) rest a b is =
    let both = sym (append_assoc (record_bytes f) (flat_map record_bytes xs) rest) ∙ is ∙ append_assoc (record_bytes g) (flat_map record_bytes ys) [] in
    let more = front_of_all xs ys rest a.1 b.1 (one_front f g (flat_map record_bytes xs ++ rest) (flat_map record_bytes ys ++ []) a.0 b.0 both) in
    let first = first_front f g (flat_map record_bytes xs ++ rest) (flat_map record_bytes ys ++ []) a.0 b.0 both in
    (more.0, ap (λ (l : List Numbered). g ∷ l) more.1 ∙ ap (λ (r : Numbered). r ∷ (xs ++ more.0)) (sym first))

entry_there : (xs : List Numbered) (r : Numbered) (more : List Numbered) → AllEntries (xs ++ r ∷ more) → IsOfEntry r.payload
entry_there [] r more all = all.0
entry_there (x ∷ xs) r more all = entry_there xs r more all.1

never_without_entry : (bytes : Bytes) (xs ys : List Numbered) (count at : ℕ) → AreRecords bytes ys [] → AllEntries ys → IsNoEntryAt bytes xs count at → ⊥
never_without_entry bytes xs ys count at a fits bad =
    let more = front_of_all (xs ++ bad.line ∷ []) ys bad.rest bad.are.fit a.fit (sym bad.are.is ∙ a.is) in
    let there : ys ≡ xs ++ bad.line ∷ more.0 = more.1 ∙ append_assoc xs (bad.line ∷ []) more.0 in
    let e = entry_there xs bad.line more.0 (subst AllEntries there fits) in
    bad.bad.fault.none e.0 e.1 (sym e.2)

pub never_stray : (held : List Bytes) (most : ℕ) (bytes : Bytes) (xs ys : List Numbered) (at : ℕ) → AreRecords bytes ys [] → AllEntries ys → IsStrayAt held bytes xs at most → ⊥
never_stray held most bytes xs ys at a fits stray = elim stray [
  | inl bad ↦ never_bad bytes xs ys at a bad.1
  | inr none ↦ never_without_entry bytes xs ys (length held) at a fits none.1
]
