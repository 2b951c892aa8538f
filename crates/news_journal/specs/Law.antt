-- What a crash leaves of a journal that stands for a list.
use Rattle.std.proofs.Common.{◌≡◌, ◌⊎◌, inl, inr, ℕ, ◌+◌, ◌≤◌, ◌<◌, ◌^◌, List, [], ◌∷◌, ◌++◌, length, take, Bool, true, false, Option, Some, refl, sym, ◌∙◌, ap, subst, arith}
use Rattle.std.proofs.lemmas.List.{take_at}
use Rattle.std.proofs.lemmas.Bool.{cases_eq}
use Rattle.news_io.specs.Keeper.{Leaves}
use Rattle.news_journal.specs.Log.{opened, records, AllFit}
use Rattle.news_journal.specs.Read.{record_then, opened_closed, opened_behind}
use Rattle.news_journal.specs.Stands.{Outcome, base_of, Doubts, Logs, listed, list_of, opened_since}
use Rattle.news_journal.specs.declared.log.Journal.{Journal}
use Rattle.news_io.specs.Disk.{DiskMeaning}

-- each outcome with a record behind some gate opens to the list, or to the list with that record
pub ajar_opens : (head : List ℕ) (ps : List (List ℕ)) (g : ℕ) (p tail : List ℕ) → AllFit ps → length p ≤ 4194304 → length (head ++ records ps) + 5 + length p < 2 ^ 30
    → (opened head ((head ++ records ps) ++ g ∷ record_then p tail) ≡ Some ps) ⊎ (opened head ((head ++ records ps) ++ g ∷ record_then p tail) ≡ Some (ps ++ p ∷ []))
ajar_opens head ps g p tail fit fits small = elim (cases_eq g 1) [
  | inl is ↦ inr (ap (λ (n : ℕ). opened head ((head ++ records ps) ++ n ∷ record_then p tail)) is ∙ opened_behind head ps p tail fit fits small)
  | inr shut ↦ inl (opened_closed head ps g (record_then p tail) fit (omega arith) shut)
]

module _ {D : Type 0} (disk : DiskMeaning D) (j : Journal D) (ps : List (List ℕ)) (logs : Logs disk j ps) where
  -- each outcome opens to the list, or to the list with a payload in doubt
  pub outcome_opens : (c : List ℕ) → Outcome (disk.seen j.disk) (disk.may_leave j.disk) c → Leaves ps (Doubts disk j ps) (opened j.head c)
  outcome_opens c out = by_ajar j.ajar refl
    where
      by_ajar : (b : Bool) → j.ajar ≡ b → Leaves ps (Doubts disk j ps) (opened j.head c)
      by_ajar false is =
          let from = (logs.shut is).each c out in
          inl (ap (opened j.head) from.1 ∙ opened_closed j.head ps (logs.shut is).gate from.0 logs.fit (omega (arith, logs.gate, logs.small)) (logs.shut is).closed)
      by_ajar true is =
          let d = logs.ajar is in
          let a = d.1.behind_gate in
          let from = a.each c out in
          elim (ajar_opens j.head ps from.0 d.0 a.tail logs.fit a.fits a.small) [
            | inl same ↦ inl (ap (opened j.head) from.1 ∙ same)
            | inr more ↦ inr (d.0, d.1, ap (opened j.head) from.1 ∙ more)
          ]

  -- what a read gives begins with the records
  pub front : take j.gate (disk.seen j.disk) ≡ base_of j ps
  front = by_ajar j.ajar refl
    where
      by_ajar : (b : Bool) → j.ajar ≡ b → take j.gate (disk.seen j.disk) ≡ base_of j ps
      by_ajar false is =
          let from = (logs.shut is).each (disk.seen j.disk) (inl refl) in
          ap (λ (l : List ℕ). take j.gate l) from.1 ∙ take_at (base_of j ps) ((logs.shut is).gate ∷ from.0) j.gate (sym logs.gate)
      by_ajar true is =
          let a = (logs.ajar is).1.behind_gate in
          let from = a.each (disk.seen j.disk) (inl refl) in
          ap (λ (l : List ℕ). take j.gate l) from.1 ∙ take_at (base_of j ps) (from.0 ∷ record_then (logs.ajar is).0 a.tail) j.gate (sym logs.gate)

  pub list_is : list_of disk j ≡ ps
  list_is =
      ap (λ (l : List ℕ). listed (opened j.head (l ++ 0 ∷ []))) front
      ∙ ap listed (opened_closed j.head ps 0 [] logs.fit (omega (arith, logs.gate, logs.small)) (omega arith))

-- a crash now
pub leaves_now : {D : Type 0} (disk : DiskMeaning D) (j : Journal D) (found : Option (List (List ℕ))) → Logs disk j (list_of disk j) → opened_since disk j.head j.disk (disk.moment j.disk) found
    → Leaves (list_of disk j) (Doubts disk j (list_of disk j)) found
leaves_now disk j found logs left =
    subst (Leaves (list_of disk j) (Doubts disk j (list_of disk j))) (sym left.2)
    (outcome_opens disk j (list_of disk j) logs left.0 (inr (disk.only_now j.disk left.0 left.1)))
