-- The records that were read so far.
use Rattle.std.proofs.Common.{◌≡◌, ◌≢◌, ⊎_elim, ℕ, suc, ◌+◌, ◌-◌, ◌≤◌, ◌<◌, ◌^◌, List, [], ◌∷◌, ◌++◌, length, take, drop, None, Option, Err, refl, sym, ◌∙◌, ap, subst, arith, append_assoc, length-append, take-append-drop, zero-add}
use Rattle.std.proofs.lemmas.List.{drop_at, drop-drop, length-take, length-drop, map-append}
use Rattle.news_io.specs.Disk.{Only}
use Rattle.news_journal.specs.Stands.{IsShut}
use Rattle.std.specs.Int.{w32, to_be_bytes}
use Rattle.news_journal.specs.Log.{Reading, Holding, Broken, with_first, reading, records, AllFit}
use Rattle.news_journal.specs.Read.{one_record, closed, records_push, AllFit-push, length-be}
use Rattle.news_journal.specs.Opened.{payloads, places, HoldsRecords, ReadsAs, RecordsAs, HeaderAs, IsDamage, IsHeaderOf}
use Rattle.news_journal.specs.Damage.{header_damage, damage}
use Rattle.news_journal.proofs.Forms.{whole}
use Rattle.news_journal.specs.declared.log.OpenFault.{OpenFault}
use Rattle.news_journal.specs.declared.log.OpenFault.TheVariants.{DiskFault, Damaged, Memory}
use Rattle.news_io.specs.declared.record.Record.{Record}

abbrev pub with_all : List (ℕ × List ℕ) → Reading → Reading
with_all [] r = r
with_all (x ∷ xs) r = with_first x (with_all xs r)

with_all_push : (xs : List (ℕ × List ℕ)) (x : ℕ × List ℕ) (r : Reading) → with_all (xs ++ x ∷ []) r ≡ with_all xs (with_first x r)
with_all_push [] x r = refl
with_all_push (y ∷ xs) x r = ap (with_first y) (with_all_push xs x r)

with_all_broken : (xs : List (ℕ × List ℕ)) (at : ℕ) (found : Option ℕ) → with_all xs (Broken at found) ≡ Broken at found
with_all_broken [] at found = refl
with_all_broken (x ∷ xs) at found = ap (with_first x) (with_all_broken xs at found)

with_all_ended : (xs : List (ℕ × List ℕ)) → with_all xs (Holding []) ≡ Holding xs
with_all_ended [] = refl
with_all_ended (x ∷ xs) = ap (with_first x) (with_all_ended xs)

pub record SoFar (file : List ℕ) (gate : ℕ) (rs : List Record) : Type 0 where
  pub fit : AllFit (payloads rs)
  pub place : gate ≡ 64 + length (records (payloads rs))
  pub split : drop 64 file ≡ records (payloads rs) ++ drop gate file
  pub within : gate ≤ length file
  pub count : length rs + 64 ≤ gate
  pub reads : (n : ℕ) → reading (length rs + n) 64 (drop 64 file) ≡ with_all (places rs) (reading n gate (drop gate file))

pub begins : (file : List ℕ) → 64 ≤ length file → SoFar file 64 []
begins file long = record { fit = tt; place = refl; split = refl; within = long; count = omega arith; reads = λ n. ap (λ (k : ℕ). reading k 64 (drop 64 file)) (zero-add n) }

module _ (file : List ℕ) (gate : ℕ) (rs : List Record) (so_far : SoFar file gate rs) where
  fuel : (n : ℕ) → length file ≡ length rs + n → reading (length file) 64 (drop 64 file) ≡ with_all (places rs) (reading n gate (drop gate file))
  fuel n is = ap (λ (k : ℕ). reading k 64 (drop 64 file)) is ∙ so_far.reads n

  pub ended : (g : ℕ) (rest : List ℕ) → g ≢ 1 → drop gate file ≡ g ∷ rest → HoldsRecords file gate rs
  ended g rest shut is = record {
    reads = fuel (suc (length file - length rs - 1)) (omega (arith, so_far.count, so_far.within))
        ∙ ap (λ (l : List ℕ). with_all (places rs) (reading (suc (length file - length rs - 1)) gate l)) is
        ∙ ap (with_all (places rs)) (closed (length file - length rs - 1) gate g rest shut)
        ∙ with_all_ended (places rs);
    fit = so_far.fit;
    place = so_far.place;
    byte = g;
    rest = rest;
    closed = shut;
    split = so_far.split ∙ ap (λ (l : List ℕ). records (payloads rs) ++ l) is;
  }

  pub damaged : (place : ℕ) (found : Option ℕ) → ((n : ℕ) → reading (suc n) gate (drop gate file) ≡ Broken place found) → reading (length file) 64 (drop 64 file) ≡ Broken place found
  damaged place found fails =
      fuel (suc (length file - length rs - 1)) (omega (arith, so_far.count, so_far.within))
      ∙ ap (with_all (places rs)) (fails (length file - length rs - 1))
      ∙ with_all_broken (places rs) place found

  pub one_further : (v : Record) (rest : List ℕ) (next : ℕ) → v.at ≡ gate → drop gate file ≡ 1 ∷ to_be_bytes w32 (length v.bytes) ++ (v.bytes ++ rest) → 0 < length rest → length v.bytes ≤ 4194304 → gate + 5 + length v.bytes < 2 ^ 30
      → next ≡ gate + 5 + length v.bytes → SoFar file next (rs ++ v ∷ [])
  one_further v rest next at is more fits small next_is = record {
    fit = subst AllFit (sym pushed) (AllFit-push (payloads rs) v.bytes so_far.fit fits);
    place = omega (arith, next_is, so_far.place, ap (λ ps. length (records ps)) pushed, ap length (records_push (payloads rs) v.bytes), length-append (records (payloads rs)) (1 ∷ to_be_bytes w32 (length v.bytes) ++ v.bytes), length-append (to_be_bytes w32 (length v.bytes)) v.bytes, length-be (length v.bytes));
    split =
        so_far.split ∙ ap (λ (l : List ℕ). records (payloads rs) ++ l) (is ∙ sym (append_assoc (1 ∷ to_be_bytes w32 (length v.bytes)) v.bytes rest))
        ∙ sym (append_assoc (records (payloads rs)) (1 ∷ to_be_bytes w32 (length v.bytes) ++ v.bytes) rest)
        ∙ ap (λ (l : List ℕ). l ++ rest) (sym (records_push (payloads rs) v.bytes) ∙ ap records (sym pushed))
        ∙ ap (λ (l : List ℕ). records (payloads (rs ++ v ∷ [])) ++ l) rest_is;
    within = omega (arith, next_is, sizes, length-drop gate file, so_far.within);
    count = omega (arith, next_is, so_far.count, length-append rs (v ∷ []));
    reads = λ n.
        let one : length (rs ++ v ∷ []) + n ≡ length rs + suc n = omega (arith, length-append rs (v ∷ [])) in
        ap (λ (k : ℕ). reading k 64 (drop 64 file)) one
        ∙ so_far.reads (suc n)
        ∙ ap (λ (l : List ℕ). with_all (places rs) (reading (suc n) gate l)) is
        ∙ ap (with_all (places rs)) (one_record n gate v.bytes rest fits more small)
        ∙ sym (with_all_push (places rs) (gate, v.bytes) (reading n (gate + 5 + length v.bytes) rest))
        ∙ ap (λ (a : ℕ). with_all (places rs ++ (a, v.bytes) ∷ []) (reading n (gate + 5 + length v.bytes) rest)) (sym at)
        ∙ ap (λ (l : List (ℕ × List ℕ)). with_all l (reading n (gate + 5 + length v.bytes) rest)) (sym (map-append (λ (r : Record). (r.at, r.bytes)) rs (v ∷ [])))
        ∙ ap (λ (k : ℕ). with_all (places (rs ++ v ∷ [])) (reading n k rest)) (sym next_is)
        ∙ ap (λ (l : List ℕ). with_all (places (rs ++ v ∷ [])) (reading n next l)) rest_is;
  }
    where
      pushed : payloads (rs ++ v ∷ []) ≡ payloads rs ++ v.bytes ∷ []
      pushed = map-append (λ (r : Record). r.bytes) rs (v ∷ [])

      sizes : length (drop gate file) ≡ 5 + length v.bytes + length rest
      sizes = ap length is ∙ omega (arith, length-append (to_be_bytes w32 (length v.bytes)) (v.bytes ++ rest), length-append v.bytes rest, length-be (length v.bytes))

      rest_is : rest ≡ drop next file
      rest_is =
          sym (ap (λ (k : ℕ). drop k file) (next_is ∙ omega arith)
          ∙ sym (drop-drop (5 + length v.bytes) gate file)
          ∙ ap (λ (l : List ℕ). drop (5 + length v.bytes) l) (is ∙ sym (append_assoc (1 ∷ to_be_bytes w32 (length v.bytes)) v.bytes rest))
          ∙ drop_at (1 ∷ to_be_bytes w32 (length v.bytes) ++ v.bytes) rest (5 + length v.bytes) (omega (arith, length-append (to_be_bytes w32 (length v.bytes)) v.bytes, length-be (length v.bytes))))

pub fault_reads : (file : List ℕ) (gate : ℕ) (rs : List Record) → SoFar file gate rs → (e : OpenFault) → ReadsAs gate (drop gate file) (Err e) → RecordsAs file (Err e)
fault_reads file gate rs so_far (Damaged place found) reads = damaged file gate rs so_far place found reads
fault_reads file gate rs so_far DiskFault reads = tt
fault_reads file gate rs so_far Memory reads = tt

module _ (head file : List ℕ) (gate : ℕ) (rs : List Record) (is : take 64 file ≡ head) (holds : HoldsRecords file gate rs) where
  pub file_is : file ≡ (head ++ records (payloads rs)) ++ holds.byte ∷ holds.rest
  file_is = sym (take-append-drop 64 file) ∙ ap (λ (l : List ℕ). l ++ drop 64 file) is ∙ ap (λ (l : List ℕ). head ++ l) holds.split ∙ sym (append_assoc head (records (payloads rs)) (holds.byte ∷ holds.rest))

  long : length file ≡ 64 + (length (records (payloads rs)) + (length holds.rest + 1))
  long = omega (arith, ap length holds.split, length-drop 64 file, length-append (records (payloads rs)) (holds.byte ∷ holds.rest))

  pub opened_gate : gate ≡ length (head ++ records (payloads rs))
  opened_gate = omega (arith, holds.place, long, length-append head (records (payloads rs)), ap length is, length-take 64 file)

module _ (head file seen : List ℕ) (m : List ℕ → Type 0) (gate : ℕ) (rs : List Record) (is : take 64 file ≡ head) (holds : HoldsRecords file gate rs) where
  pub opened_shut : seen ≡ file → Only seen m → IsShut (head ++ records (payloads rs)) seen m
  opened_shut same only = record {
    gate = holds.byte;
    closed = holds.closed;
    each = λ c out. (holds.rest, ⊎_elim (λ now. now) (λ left. only c left) out ∙ same ∙ file_is head file gate rs is holds);
  }

-- what is wrong with the file
pub header_fault : (file : List ℕ) (e : OpenFault) → HeaderAs (take 64 file) (Err e) → IsDamage (damage file) e
unfolding damage
header_fault file (Damaged at found) is = rw is refl
header_fault file DiskFault is = tt
header_fault file Memory is = tt

pub record_fault : (file : List ℕ) (e : OpenFault) → header_damage (take 64 file) ≡ None → RecordsAs file (Err e) → IsDamage (damage file) e
unfolding damage
record_fault file (Damaged at found) header is = rw (header, is) refl
record_fault file DiskFault header is = tt
record_fault file Memory header is = tt

pub no_fault : (file : List ℕ) (gate : ℕ) (rs : List Record) → header_damage (take 64 file) ≡ None → HoldsRecords file gate rs → damage file ≡ None
unfolding damage
no_fault file gate rs header holds = rw (header, holds.reads) refl

-- behind a header that is of the form
pub enough_for_header : (file : List ℕ) → header_damage (take 64 file) ≡ None → 64 ≤ length file
enough_for_header file header = let all = whole (take 64 file) header in omega (arith, all, length-take 64 file)

-- one record more is five bytes and its payload more
pub records_longer : (ps : List (List ℕ)) (p : List ℕ) → length (records (ps ++ p ∷ [])) ≡ length (records ps) + (5 + length p)
records_longer ps p =
    omega (arith, ap length (records_push ps p), length-append (records ps) (1 ∷ to_be_bytes w32 (length p) ++ p), length-append (to_be_bytes w32 (length p)) p, length-be (length p))

pub payloads_more : (rs : List Record) (r : Record) → payloads (rs ++ r ∷ []) ≡ payloads rs ++ r.bytes ∷ []
payloads_more [] r = refl
payloads_more (q ∷ rs) r = ap (λ (l : List (List ℕ)). q.bytes ∷ l) (payloads_more rs r)

pub one_longer : (gate next : ℕ) (rs rs' : List Record) (r : Record) (count : ℕ) → rs' ≡ rs ++ r ∷ [] → gate ≡ 64 + length (records (payloads rs)) → next ≡ gate + (5 + count) → count ≡ length r.bytes → next ≡ 64 + length (records (payloads rs'))
one_longer gate next rs rs' r count is place more size =
    let sum : length (records (payloads rs')) ≡ length (records (payloads rs)) + (5 + length r.bytes) = ap (λ (l : List Record). length (records (payloads l))) is ∙ ap (λ (l : List (List ℕ)). length (records l)) (payloads_more rs r) ∙ records_longer (payloads rs) r.bytes in
    omega (arith, place, more, size, sum)

-- none is read where the bytes are not of the form
pub no_header : (bytes : List ℕ) (e : OpenFault) → HeaderAs bytes (Err e) → IsHeaderOf bytes None
no_header bytes (Damaged at found) is = ((at, found), is)
no_header bytes DiskFault is = absurd is
no_header bytes Memory is = absurd is
