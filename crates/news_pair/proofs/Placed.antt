-- Where the records of a pair's list stand.
use Rattle.std.proofs.Common.{◌≡◌, ℕ, suc, ◌+◌, ◌-◌, ◌<◌, List, [], ◌∷◌, ◌++◌, length, get_or, take, drop, map, Option, Some, false, refl, sym, ◌∙◌, ap, arith, append_assoc, append-nil}
use Rattle.std.specs.Prelude.{All, unwrap_or}
use Rattle.std.proofs.lemmas.List.Elements.{All-nil}
use Rattle.news_types.specs.Names.{Bytes}
use Rattle.news_io.specs.declared.record.Record.{Record}
use Rattle.news_journal.specs.Opened.{IsOfLog, places}
use Rattle.news_pair.specs.Segments.{segment_in}
use Rattle.news_pair.specs.Pair.{base_of, entries_of}
use Rattle.news_pair.specs.Damage.{Framed, records_in, beside}
use Rattle.news_pair.specs.Placed.{packed_record, segment_records, side_records, log_record, behind, all_records, pair_records}
use Rattle.news_pair.proofs.Rows.{take_one_more}

side_push : (rs : List Framed) (r : Framed) → side_records (rs ++ r ∷ []) ≡ side_records rs ++ segment_records r
side_push [] r = append-nil (segment_records r)
side_push (x ∷ rs) r = ap (λ (l : List Record). segment_records x ++ l) (side_push rs r) ∙ sym (append_assoc (segment_records x) (side_records rs) (segment_records r))

places_push : (rs : List Record) (r : Record) → places (rs ++ r ∷ []) ≡ places rs ++ (r.at, r.bytes) ∷ []
places_push [] r = refl
places_push (x ∷ rs) r = ap (λ (l : List Framed). (x.at, x.bytes) ∷ l) (places_push rs r)

places_one_more : (rs : List Record) (i : ℕ) (r : Record) → i < length rs → r ≡ get_or rs i r → places (take (i + 1) rs) ≡ places (take i rs) ++ (r.at, r.bytes) ∷ []
places_one_more rs i r less is = ap (λ (l : List Record). places l) (take_one_more rs i r less ∙ ap (λ (x : Record). take i rs ++ x ∷ []) (sym is)) ∙ places_push (take i rs) r

-- the entries of one segment more
pub side_more : (rs : List Record) (i : ℕ) (r : Record) (n : ℕ) (es : List Bytes) (old new : List Record) → i < length rs → r ≡ get_or rs i r → segment_in r.bytes ≡ Some (n, es)
    → old ≡ side_records (places (take i rs)) → new ≡ old ++ map (packed_record r.at) es → new ≡ side_records (places (take (i + 1) rs))
side_more rs i r n es old new less is found so_far more =
    more ∙ ap (λ (l : List Record). l ++ map (packed_record r.at) es) so_far
    ∙ ap (λ (o : Option (ℕ × List Bytes)). side_records (places (take i rs)) ++ map (packed_record r.at) (entries_of o)) (sym found)
    ∙ sym (side_push (places (take i rs)) (r.at, r.bytes))
    ∙ ap side_records (sym (places_one_more rs i r less is))

first_of_log : (r : Record) → IsOfLog r → log_record (r.at, r.bytes) ≡ r
first_of_log r of_log = λ i. record { at = r.at; side = sym of_log i; bytes = r.bytes }

-- the records of a log are told by their places
pub of_places : (rs : List Record) → All IsOfLog rs → map log_record (places rs) ≡ rs
of_places [] all = refl
of_places (r ∷ rs) all = λ i. first_of_log r (all 0 r (omega arith)) i ∷ of_places rs (λ k d less. all (suc k) d (omega (arith, less))) i

-- those of both files
pub placed_both : (base skip : ℕ) (side log all : List Record) (rs : List Framed) → All IsOfLog log → side ≡ side_records rs → all ≡ side ++ drop skip log → skip ≡ length side - base → all ≡ behind base (places log) (side_records rs)
placed_both base skip side log all rs of_log side_is are skip_is =
    are ∙ ap (λ (n : ℕ). side ++ drop n log) skip_is
    ∙ ap (λ (l : List Record). side ++ drop (length side - base) l) (sym (of_places log of_log))
    ∙ ap (λ (l : List Record). behind base (places log) l) side_is

-- those that were read
pub placed_pair : (log side : List ℕ) (base : ℕ) (rs : List Framed) (found : Option (List Framed)) (h : List Record) → base_of log ≡ base → records_in log ≡ rs → beside side ≡ found → h ≡ all_records base rs found → h ≡ pair_records log side
unfolding pair_records
placed_pair log side base rs found h base_is rs_are found_is is = is ∙ sym (λ i. all_records (base_is i) (rs_are i) (found_is i))
