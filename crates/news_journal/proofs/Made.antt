-- What a crash leaves of a log in the making.
use Rattle.std.proofs.Common.{◌≡◌, ◌≢◌, inl, inr, ℕ, suc, ◌+◌, ◌≤◌, ◌<◌, List, [], ◌∷◌, ◌++◌, length, get_or, take, drop, Some, None, Option, refl, sym, ◌∙◌, ap, subst, arith, length-append}
use Rattle.std.proofs.lemmas.List.{take_at, drop_at, drop_all, append-nil, length-take, nil_from_length}
use Rattle.std.specs.Prelude.{replicate}
use Rattle.std.proofs.lemmas.Bool.{cases_eq}
use Rattle.news_io.specs.Disk.{Holds, Torn, Only, DiskMeaning}
use Rattle.news_journal.specs.Log.{Holding, IsHead, header_bytes, records, reading}
use Rattle.news_journal.specs.Read.{closed}
use Rattle.news_journal.specs.Damage.{header_damage, damage}
use Rattle.news_journal.specs.Created.{IsDamaged, IsInTheMaking}
use Rattle.news_journal.specs.Opened.{IsLog}
use Rattle.news_journal.specs.Stands.{Outcome, IsShut}
use Rattle.news_journal.specs.declared.header.Header.{Header}
use Rattle.news_journal.specs.declared.header.Header.TheVariants.{Room, Receiver}
use Rattle.news_journal.proofs.Forms.{whole, begins}

header_decides : (file : List ℕ) (found : ℕ × Option ℕ) → header_damage (take 64 file) ≡ Some found → damage file ≡ Some found
unfolding damage
header_decides file found is = rw is refl

damaged_unless : (file : List ℕ) → (header_damage (take 64 file) ≡ None → ⊥) → IsDamaged file
damaged_unless file bad = by_header (header_damage (take 64 file)) refl
  where
    by_header : (d : Option (ℕ × Option ℕ)) → header_damage (take 64 file) ≡ d → IsDamaged file
    by_header None is = absurd (bad is)
    by_header (Some found) is = (found, header_decides file found is)

short_damaged : (file : List ℕ) → length file < 64 → IsDamaged file
short_damaged file less = damaged_unless file (λ good. absurd (omega (arith, whole (take 64 file) good, length-take 64 file)))

first_kept : (file : List ℕ) → get_or (take 64 file) 0 0 ≡ get_or file 0 0
first_kept [] = refl
first_kept (b ∷ file) = refl

other_damaged : (file : List ℕ) → get_or file 0 0 ≢ 78 → IsDamaged file
other_damaged file other = damaged_unless file (λ good. other (sym (first_kept file) ∙ begins (take 64 file) good))

first_of : (x y : ℕ) (c d : List ℕ) → take 1 c ≡ take 1 (x ∷ d) → get_or c 0 y ≡ x
first_of x y [] d same = absurd (cc same)
first_of x y (z ∷ zs) d same = cc same

pub new_head : (header : Header) → IsHead header (header_bytes header)
new_head (Room store) = (2, replicate 6 0, inr refl, refl, refl)
new_head (Receiver name) = (2, inr refl, refl)

module _ (header : Header) (rest : List ℕ) (is : 78 ∷ rest ≡ header_bytes header ++ 0 ∷ []) (size : length rest ≡ 64) (form : header_damage (header_bytes header) ≡ None) where
  pub length-header : length (header_bytes header) ≡ 64
  length-header = omega (arith, ap length is, length-append (header_bytes header) (0 ∷ []), size)

  made : IsLog header [] (header_bytes header ++ 0 ∷ []) × (take 64 (header_bytes header ++ 0 ∷ []) ≡ header_bytes header)
  unfolding damage
  made =
      let file = header_bytes header ++ 0 ∷ [] in
      let head : take 64 file ≡ header_bytes header = take_at (header_bytes header) (0 ∷ []) 64 length-header in
      let tail : drop 64 file ≡ 0 ∷ [] = drop_at (header_bytes header) (0 ∷ []) 64 length-header in
      let long : length file ≡ suc 64 = omega (arith, length-append (header_bytes header) (0 ∷ []), length-header) in
      let reads : reading (length file) 64 (drop 64 file) ≡ Holding [] = ap (λ (n : ℕ). reading n 64 (drop 64 file)) long ∙ ap (λ (l : List ℕ). reading (suc 64) 64 l) tail ∙ closed 64 64 0 [] (omega arith) in
      (record { whole = rw (head, form, reads) refl; head = subst (IsHead header) (sym head) (new_head header); reads = reads }, head)

  -- the first write
  pub first_crash : (c : List ℕ) → Torn 0 1 [] c → IsInTheMaking header c
  first_crash c torn = inr (inl (short_damaged c (omega (arith, torn.no_longer))))

  -- the second, behind a first byte that is none of a log
  pub second_crash : (c : List ℕ) (n : ℕ) → Torn 1 n (0 ∷ []) c → IsInTheMaking header c
  second_crash c n torn =
      let first = first_of 0 0 c [] (torn.before 1 (omega arith) (omega arith)) in
      inr (inl (other_damaged c (λ same. absurd (omega (arith, first, same)))))

  -- the third, of the first byte
  pub third_crash : (c : List ℕ) → Torn 0 1 (0 ∷ rest) c → IsInTheMaking header c
  third_crash [] torn = inl refl
  third_crash (g ∷ c) torn = elim (cases_eq g 78) [
    | inl same ↦ inr (inr (subst (λ (l : List ℕ). IsLog header [] l × (take 64 l ≡ header_bytes header)) (sym ((λ i. same i ∷ torn.after i) ∙ is)) made))
    | inr other ↦ inr (inl (other_damaged (g ∷ c) other))
  ]

pub empty_making : (header : Header) (c seen : List ℕ) → seen ≡ [] → length c ≤ length seen → IsInTheMaking header c
empty_making header c seen empty le = inl (nil_from_length c (omega (arith, le, ap length empty)))

-- an empty file is empty in each outcome
pub bare_file : {D : Type 0} (disk : DiskMeaning D) (d : D) → disk.tells d → disk.seen d ≡ [] → (c : List ℕ) → Outcome (disk.seen d) (disk.may_leave d) c → c ≡ []
bare_file disk d told empty c out = elim out [
  | inl same ↦ same ∙ empty
  | inr may ↦ nil_from_length c (let le : length c ≤ length (disk.seen d) = disk.no_longer d c told may in omega (arith, le, ap length empty))
]

pub made_shut : (head seen : List ℕ) (m : List ℕ → Type 0) → seen ≡ head ++ 0 ∷ [] → Only seen m → IsShut (head ++ records []) seen m
made_shut head seen m is only = record {
  gate = 0;
  closed = λ open_gate. absurd (cc open_gate);
  each = λ c out. ([], outcome c out ∙ is ∙ ap (λ (l : List ℕ). l ++ 0 ∷ []) (sym (append-nil head)));
}
  where
    outcome : (c : List ℕ) → Outcome seen m c → c ≡ seen
    outcome c (inl now) = now
    outcome c (inr left) = only c left

pub made_first : (old new : List ℕ) → old ≡ [] → Holds old 0 (0 ∷ []) new → new ≡ 0 ∷ []
made_first old new empty holds = holds ∙ ap (λ (l : List ℕ). take 0 l ++ (0 ∷ []) ++ drop 1 l) empty

pub made_second : (old behind new : List ℕ) → old ≡ 0 ∷ [] → Holds old 1 behind new → new ≡ 0 ∷ behind
made_second old behind new is holds =
    holds ∙ ap (λ (l : List ℕ). take 1 l ++ behind ++ drop (1 + length behind) l) is
    ∙ ap (λ (l : List ℕ). (0 ∷ []) ++ behind ++ l) (drop_all (1 + length behind) (0 ∷ []) (omega arith)) ∙ append-nil ((0 ∷ []) ++ behind)

pub made_third : (old behind new : List ℕ) → old ≡ 0 ∷ behind → Holds old 0 (78 ∷ []) new → new ≡ 78 ∷ behind
made_third old behind new is holds = holds ∙ ap (λ (l : List ℕ). take 0 l ++ (78 ∷ []) ++ drop 1 l) is
