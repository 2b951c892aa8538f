-- What a journal stands for whose gate is closed.
use Rattle.std.proofs.Common.{◌≡◌, ◌<◌, ◌^◌, ℕ, List, ◌++◌, length, take, false, sym, ◌∙◌, ap, subst}
use Rattle.news_io.specs.Disk.{Only, DiskMeaning}
use Rattle.news_io.specs.declared.record.Record.{Record}
use Rattle.news_journal.specs.Log.{records, AllFit}
use Rattle.news_journal.specs.Stands.{IsShut, Logs}
use Rattle.news_journal.specs.Opened.{HoldsRecords, payloads}
use Rattle.news_journal.specs.declared.log.Journal.{Journal}
use Rattle.news_journal.proofs.Progress.{opened_shut, opened_gate}

module _ {D : Type 0} (disk : DiskMeaning D) (j : Journal D) (d : D) (head : List ℕ) (gate : ℕ)
    (disk_is : j.disk ≡ d) (head_is : j.head ≡ head) (gate_is : j.gate ≡ gate) (ajar_is : j.ajar ≡ false) where
  pub closed_logs : (ps : List (List ℕ)) → disk.tells d → AllFit ps → gate ≡ length (head ++ records ps) → gate < 2 ^ 30 → IsShut (head ++ records ps) (disk.seen d) (disk.may_leave d) → Logs disk j ps
  closed_logs ps told fit place small shut = record {
    told = subst disk.tells (sym disk_is) told;
    fit = fit;
    gate = gate_is ∙ place ∙ ap (λ (h : List ℕ). length (h ++ records ps)) (sym head_is);
    small = subst (λ (g : ℕ). g < 2 ^ 30) (sym gate_is) small;
    shut = λ is.
        subst (λ (h : List ℕ). IsShut (h ++ records ps) (disk.seen j.disk) (disk.may_leave j.disk)) (sym head_is)
        (subst (λ (x : D). IsShut (head ++ records ps) (disk.seen x) (disk.may_leave x)) (sym disk_is) shut);
    ajar = λ is. absurd (cc (is, ajar_is));
  }

  pub opened_logs : (file : List ℕ) (rs : List Record) → disk.tells d → take 64 file ≡ head → HoldsRecords file gate rs → disk.seen d ≡ file → Only (disk.seen d) (disk.may_leave d) → gate < 2 ^ 30 → Logs disk j (payloads rs)
  opened_logs file rs told begins holds same only small =
      closed_logs (payloads rs) told holds.fit (opened_gate head file gate rs begins holds) small (opened_shut head file (disk.seen d) (disk.may_leave d) gate rs begins holds same only)
