-- The statuses of the commands: those that are never told of files that hold a list, and those that come where nothing failed.
use Rattle.std.proofs.Common.{◌≡◌, inl, inr, ℕ, List, [], length, refl, sym, ◌∙◌, ap, subst, arith}
use Rattle.std.specs.Prelude.{Result, Ok, Err, Some, None, take}
use Rattle.news_types.specs.Doubt.{payloads}
use Rattle.entry_codec.specs.Spelling.{entry_bytes}
use Rattle.news_journal.specs.Damage.{misfit, header_damage}
use Rattle.news_pair.specs.Pair.{PairOpens}
use Rattle.run_status.specs.declared.status.Status.{Status}
use Rattle.run_status.specs.declared.status.Status.TheVariants as status
use Rattle.news_types.specs.Names.{Bytes}
use Rattle.news_types.specs.History.{History}
use Rattle.news_io.specs.Faults.{Rose}
use Rattle.news_io.specs.Sink.{SinkMeaning}
use Rattle.run_status.specs.Status.{number_of}
use Rattle.frame_run.specs.Run.{Ends}
use Rattle.frame_run.specs.Status.{status_of}
use Rattle.frame_run.specs.declared.ending.Ending.{Ending}
use Rattle.frame_run.specs.declared.ending.Ending.TheVariants as end
use Rattle.store_files.specs.Store.{Opens, IsNotOfBytes, TroubleCounts}
use Rattle.store_files.specs.Store as files
use Rattle.store_files.specs.Trouble as told
use Rattle.store_files.specs.declared.trouble.Trouble.{Trouble}
use Rattle.store_files.specs.declared.trouble.Trouble.TheVariants as trouble
use Rattle.store_files.proofs.Headers.{same_store}
use Rattle.store_files.proofs.Serving.{served}
use Rattle.room_standby.specs.declared.outcome.Ship.{Ship}
use Rattle.room_standby.specs.declared.outcome.Ship.TheVariants.{Level, LinkFault, NoKept, Memory}
use Rattle.standby_files.specs.Opening.{Gives, Cause}
use Rattle.standby_files.specs.Shipping.{TellsShip}
use Rattle.standby_files.specs.Telling.{IsTold, IsServed}
use Rattle.standby_files.proofs.Own.{opens_of}
use Rattle.standby_files.proofs.Openings.{no_log}

-- any other number
others : (before now n status : ℕ) → (n ≡ 3 → ⊥) → (n ≡ 7 → ⊥) → (n ≡ 6 → Rose before now) → status ≡ n → IsServed before now status
others before now n status own whole failed is = record { own = λ s. own (sym is ∙ s); whole = λ s. whole (sym is ∙ s); failed = λ s. failed (sym is ∙ s) }

-- ---- files that were refused

pub trouble_served : (before now status : ℕ) (t : Trouble) → IsNotOfBytes t → TroubleCounts before now t → status ≡ number_of (told.status_of t) → IsServed before now status
trouble_served before now status trouble.Store none count is = others before now 6 status (λ s. absurd (omega (arith, s))) (λ s. absurd (omega (arith, s))) (λ s. count) is
trouble_served before now status trouble.Memory none count is = others before now 9 status (λ s. absurd (omega (arith, s))) (λ s. absurd (omega (arith, s))) (λ s. absurd (omega (arith, s))) is
trouble_served before now status trouble.WrongStore none count is = absurd none
trouble_served before now status (trouble.Damaged at found) none count is = absurd none
trouble_served before now status (trouble.DamagedSide at found) none count is = absurd none
trouble_served before now status trouble.Full none count is = absurd none

nothing_damaged : header_damage [] ≡ Some (0, None)
unfolding header_damage misfit
nothing_damaged = refl

no_header : (log : List ℕ) → log ≡ [] → header_damage (take 64 log) ≡ None → ⊥
no_header log none whole = absurd (cc (sym (ap (λ (l : List ℕ). header_damage (take 64 l)) none ∙ nothing_damaged) ∙ whole))

module _ (store log side : List ℕ) (long : length store ≡ 16) where
  list_none : (h : History) → Opens log side store h → (t : Trouble) → files.Cause log side t → IsNotOfBytes t
  list_none h o t cause = served log side store h long o t cause

  by_list : (h : History) → Opens log side store h → (log ≡ [] → ⊥) → (t : Trouble) → Cause store log side t → IsNotOfBytes t
  by_list h o some trouble.WrongStore (inl other) = other.other (same_store other.owner store log other.of (opens_of log side store h long o))
  by_list h o some trouble.WrongStore (inr (inl empty)) = some empty.0
  by_list h o some trouble.WrongStore (inr (inr other)) = list_none h o trouble.WrongStore other.1
  by_list h o some trouble.Store cause = tt
  by_list h o some (trouble.Damaged at found) cause = list_none h o (trouble.Damaged at found) cause.2
  by_list h o some (trouble.DamagedSide at found) cause = list_none h o (trouble.DamagedSide at found) cause.2
  by_list h o some trouble.Full cause = list_none h o trouble.Full cause.2
  by_list h o some trouble.Memory cause = tt

  by_none : log ≡ [] → side ≡ [] → (t : Trouble) → Cause store log side t → IsNotOfBytes t
  by_none none none' trouble.WrongStore (inl other) = absurd (no_header log none other.of.0)
  by_none none none' trouble.WrongStore (inr (inl empty)) = empty.1 none'
  by_none none none' trouble.WrongStore (inr (inr other)) = other.0 none
  by_none none none' trouble.Store cause = tt
  by_none none none' (trouble.Damaged at found) cause = absurd (cause.0 none)
  by_none none none' (trouble.DamagedSide at found) cause = absurd (cause.0 none)
  by_none none none' trouble.Full cause = absurd (cause.0 none)
  by_none none none' trouble.Memory cause = tt

  list_some : (h : History) → Opens log side store h → log ≡ [] → ⊥
  list_some h o none =
      let pair = o.pair in
      no_log side store (payloads entry_bytes h) (subst (λ (l : List ℕ). PairOpens store l side (payloads entry_bytes h)) none pair)

  -- files that give payloads show no cause
  pub gives_none : (held : List Bytes) → Gives store log side held → (t : Trouble) → Cause store log side t → IsNotOfBytes t
  gives_none held (inl empty) t cause = by_none empty.0 empty.1 t cause
  gives_none held (inr list) t cause = by_list list.0 list.1 (list_some list.0 list.1) t cause

-- ---- runs

pub run_served : (i i' k k' o o' before now status : ℕ) (r : Result (Unit {0}) Ending) → Ends i i' k k' o o' r → (Rose k k' → Rose before now) → status ≡ number_of (status_of r) → IsServed before now status
run_served i i' k k' o o' before now status (Ok u) ends rose is = others before now 0 status (λ s. absurd (omega (arith, s))) (λ s. absurd (omega (arith, s))) (λ s. absurd (omega (arith, s))) is
run_served i i' k k' o o' before now status (Err end.Read) ends rose is = others before now 4 status (λ s. absurd (omega (arith, s))) (λ s. absurd (omega (arith, s))) (λ s. absurd (omega (arith, s))) is
run_served i i' k k' o o' before now status (Err end.Write) ends rose is = others before now 5 status (λ s. absurd (omega (arith, s))) (λ s. absurd (omega (arith, s))) (λ s. absurd (omega (arith, s))) is
run_served i i' k k' o o' before now status (Err end.Store) ends rose is = others before now 6 status (λ s. absurd (omega (arith, s))) (λ s. absurd (omega (arith, s))) (λ s. rose ends.1.0) is
run_served i i' k k' o o' before now status (Err end.Full) ends rose is = others before now 8 status (λ s. absurd (omega (arith, s))) (λ s. absurd (omega (arith, s))) (λ s. absurd (omega (arith, s))) is
run_served i i' k k' o o' before now status (Err end.Memory) ends rose is = others before now 9 status (λ s. absurd (omega (arith, s))) (λ s. absurd (omega (arith, s))) (λ s. absurd (omega (arith, s))) is
run_served i i' k k' o o' before now status (Err end.TooLong) ends rose is = others before now 12 status (λ s. absurd (omega (arith, s))) (λ s. absurd (omega (arith, s))) (λ s. absurd (omega (arith, s))) is
run_served i i' k k' o o' before now status (Err (end.BadFrame at)) ends rose is = others before now 13 status (λ s. absurd (omega (arith, s))) (λ s. absurd (omega (arith, s))) (λ s. absurd (omega (arith, s))) is

-- ---- what was told of shipping

module _ {O : Type 0} (sink : SinkMeaning O) (o o' : O) (before now code : ℕ) where
  told_served : (line : List ℕ) (s : Status) → (number_of s ≡ 3 → ⊥) → (number_of s ≡ 7 → ⊥) → (number_of s ≡ 6 → ⊥) → IsTold sink line s o o' code → IsServed before now code
  told_served line s own whole failed (inl all) = others before now (number_of s) code own whole (λ six. absurd (failed six)) all.status_is
  told_served line s own whole failed (inr cut) = others before now 5 code (λ s. absurd (omega (arith, s))) (λ s. absurd (omega (arith, s))) (λ s. absurd (omega (arith, s))) cut.0

  pub ship_served : (answer : Ship) → TellsShip sink answer o o' code → IsServed before now code
  ship_served (Level count) t = told_served _ status.Done (λ s. absurd (omega (arith, s))) (λ s. absurd (omega (arith, s))) (λ s. absurd (omega (arith, s))) t
  ship_served (LinkFault n) t = told_served _ status.Link (λ s. absurd (omega (arith, s))) (λ s. absurd (omega (arith, s))) (λ s. absurd (omega (arith, s))) t
  ship_served (NoKept n reply) t = told_served _ status.NoReceipt (λ s. absurd (omega (arith, s))) (λ s. absurd (omega (arith, s))) (λ s. absurd (omega (arith, s))) t
  ship_served Memory t = others before now 9 code (λ s. absurd (omega (arith, s))) (λ s. absurd (omega (arith, s))) (λ s. absurd (omega (arith, s))) t.status_is
