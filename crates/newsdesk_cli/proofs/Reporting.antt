-- What a report leaves in the two files of a store, and with which statuses it ends.
use Rattle.std.proofs.Common.{◌≡◌, ◌⊎◌, inl, inr, ℕ, true, false, refl, sym, ◌∙◌, arith}
use Rattle.news_types.specs.Books.{Book}
use Rattle.news_types.specs.Names.{Bytes}
use Rattle.news_types.specs.History.{History}
use Rattle.news_io.specs.Clock.{ClockMeaning}
use Rattle.news_io.specs.Disk.{DiskMeaning}
use Rattle.news_io.specs.Sink.{SinkMeaning}
use Rattle.news_pair.specs.Keeper.{pair_of}
use Rattle.news_pair.specs.declared.pair.Pair.{Pair}
use Rattle.news_room.specs.Said.{said_tick, is_failure}
use Rattle.news_room.specs.Stands.{Stands}
use Rattle.news_room.specs.declared.answers.Ticked.{Ticked}
use Rattle.news_room.specs.declared.room.Room.{Room}
use Rattle.room_reports.specs.Reports.{IsReported, IsReport}
use Rattle.room_reports.specs.Written.{IsWrittenOut}
use Rattle.store_files.specs.Store.{IsOpenRoom}
use Rattle.newsdesk_cli.specs.FilesLeft.{FilesLeft}
use Rattle.newsdesk_cli.proofs.FilesLeft.{step_left}

-- ---- statuses

module _ {O : Type 0} (sink : SinkMeaning O) (report : Bytes) (o o' : O) (status : ℕ) where
  written_else : (n : ℕ) → (n ≡ 0 → ⊥) → (n ≡ 5 → ⊥) → (n ≡ 9 → ⊥) → IsWrittenOut sink report o o' status → status ≡ n → ⊥
  written_else n done cut starved (inl w) is = done (sym is ∙ w.0)
  written_else n done cut starved (inr (inl w)) is = cut (sym is ∙ w.0)
  written_else n done cut starved (inr (inr w)) is = starved (sym is ∙ w.0)

  -- neither 3 nor 7
  pub reported_else : (n : ℕ) → (n ≡ 3) ⊎ (n ≡ 7) → (t : Ticked) → IsReported sink report o o' status t → status ≡ n → ⊥
  reported_else n which (Ticked.Kept place) r is = written_else n (λ e. absurd (omega (arith, which, e))) (λ e. absurd (omega (arith, which, e))) (λ e. absurd (omega (arith, which, e))) r is
  reported_else n which Ticked.Still r is = written_else n (λ e. absurd (omega (arith, which, e))) (λ e. absurd (omega (arith, which, e))) (λ e. absurd (omega (arith, which, e))) r is
  reported_else n which Ticked.Fault r is = omega (arith, which, is, r.status_is)
  reported_else n which (Ticked.Full size count) r is = omega (arith, which, is, r.status_is)

  -- a keeper that failed is told by status 6
  no_failure : (t : Ticked) → IsReported sink report o o' status t → (status ≡ 6 → ⊥) → is_failure (said_tick t) ≡ false
  no_failure (Ticked.Kept place) r other = refl
  no_failure Ticked.Still r other = refl
  no_failure Ticked.Fault r other = absurd (other r.status_is)
  no_failure (Ticked.Full size count) r other = refl

-- ---- the files

module _ {D C O : Type 0} (disk : DiskMeaning D) (clock : ClockMeaning C) (sink : SinkMeaning O) (report : History → Bytes)
    (log side : D) (r r' : Room (Pair D)) (c c' : C) (o o' : O) (status : ℕ) (opened : IsOpenRoom disk log side r) (tells : disk.tells log) (tells' : disk.tells side) where
  pub report_left : IsReport (pair_of disk) clock sink report r r' c c' o o' status → FilesLeft disk log side opened.store r r' opened.history status
  report_left a =
      let here : Book = record { store = opened.store; told = true; list = opened.history } in
      let stands : Stands (pair_of disk) r here = (opened.holds true (λ is. (tells, tells'))).stands in
      let happened = a.release.happens here stands in
      step_left disk log side r r' status opened tells tells' _ a.release.more (is_failure (said_tick a.release.ticked))
      (no_failure sink _ o o' status a.release.ticked (a.reported here stands)) happened.stands (happened.told refl)
