-- Where a log that was read cannot be packed.
use Rattle.std.proofs.Common.{◌≡◌, ℕ, List, [], ◌∷◌, Option, Some, None, refl, sym, ◌∙◌, ap, subst}
use Rattle.std.specs.Option.{option_or}
use Rattle.news_io.specs.declared.record.Record.{Record}
use Rattle.news_types.specs.Names.{Bytes}
use Rattle.news_journal.specs.Opened.{payloads, places}
use Rattle.news_pair.specs.Damage.{Place, log_damage, records_in, payloads_in, on_log, IsPairDamage}
use Rattle.news_pair.specs.Packing.{out_of_order, pack_damage, IsPackDamage}
use Rattle.news_pair.specs.PackFaults.{met_in_reading}
use Rattle.news_pair.specs.declared.fault.PairFault.{PairFault}
use Rattle.news_pair.specs.declared.fault.PairFault.TheVariants.{DiskFault, Damaged, DamagedSide, Memory}
use Rattle.news_pair.specs.declared.pack_fault.PackFault.{PackFault}
use Rattle.news_pair.proofs.Judging.{or_next, log_none}

log_is : (found : Option Place) (at : ℕ) (byte : Option ℕ) → on_log found ≡ Some (Damaged at byte) → found ≡ Some (at, byte)
log_is None at byte is = absurd (cc is)
log_is (Some p) at byte is =
    let a : p.0 ≡ at = cc in
    let b : p.1 ≡ byte = cc in
    ap (λ (n : ℕ). Some (n, p.1)) a ∙ ap (λ (o : Option ℕ). Some (at, o)) b

no_side : (found : Option Place) (at : ℕ) (byte : Option ℕ) → on_log found ≡ Some (DamagedSide at byte) → ⊥
no_side None at byte is = absurd (cc is)
no_side (Some p) at byte is = absurd (cc is)

-- the log is none
pub pack_first : (log : List ℕ) (e : PairFault) → IsPairDamage (on_log (log_damage log)) e → IsPackDamage (pack_damage log) (met_in_reading e)
unfolding pack_damage
pack_first log (Damaged at byte) is = ap (λ (o : Option Place). option_or o (out_of_order 0 (records_in log))) (log_is (log_damage log) at byte is)
pack_first log (DamagedSide at byte) is = absurd (no_side (log_damage log) at byte is)
pack_first log DiskFault is = tt
pack_first log Memory is = tt

-- or its records tell
module _ (log : List ℕ) (rs : List Record) (none : on_log (log_damage log) ≡ None) (are : records_in log ≡ places rs) where
  pub pack_rest : pack_damage log ≡ out_of_order 0 (places rs)
  unfolding pack_damage
  pack_rest = or_next (log_damage log) (out_of_order 0 (records_in log)) (log_none (log_damage log) none) ∙ ap (out_of_order 0) are

  pub pack_later : (e : PackFault) → IsPackDamage (out_of_order 0 (places rs)) e → IsPackDamage (pack_damage log) e
  pack_later e is = subst (λ (o : Option Place). IsPackDamage o e) (sym pack_rest) is

payloads_placed : (rs : List Record) → payloads_in (places rs) ≡ payloads rs
payloads_placed [] = refl
payloads_placed (r ∷ rs) = ap (λ (l : List Bytes). r.bytes ∷ l) (payloads_placed rs)

pub payloads_are : (log : List ℕ) (rs : List Record) → records_in log ≡ places rs → payloads rs ≡ payloads_in (records_in log)
payloads_are log rs are = sym (payloads_placed rs) ∙ ap payloads_in (sym are)
