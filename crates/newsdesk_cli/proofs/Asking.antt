-- A store that holds a list is served by what tells of it, and by what asks at a place of it.
use Rattle.std.proofs.Common.{◌≡◌, ◌∙◌, inl, inr, ℕ, List, length, sym, ap, subst, arith}
use Rattle.news_types.specs.Names.{Bytes}
use Rattle.news_types.specs.Doubt.{payloads}
use Rattle.news_types.specs.History.{History}
use Rattle.entry_codec.specs.Spelling.{entry_bytes}
use Rattle.news_io.specs.Disk.{DiskMeaning}
use Rattle.news_io.specs.Faults.{Rose}
use Rattle.news_io.specs.Keeper.{KeeperMeaning}
use Rattle.news_io.specs.Sink.{SinkMeaning}
use Rattle.news_io.specs.Source.{SourceMeaning}
use Rattle.news_pair.specs.Keeper.{pair_of}
use Rattle.news_pair.specs.Law.{opens_one}
use Rattle.news_pair.specs.Pair.{PairOpens}
use Rattle.news_pair.proofs.WereRead.{one_store}
use Rattle.news_room.proofs.Lists.{counted}
use Rattle.line_run.specs.Run.{Ends}
use Rattle.room_reports.specs.Written.{IsWrittenOut}
use Rattle.store_files.specs.Store.{Opens}
use Rattle.list_runs.specs.Life.{PastAnswered}
use Rattle.list_runs.specs.Lists.{first_entries}
use Rattle.list_marks.specs.Digest.{IsDigest, digest_line}
use Rattle.newsdesk_cli.specs.Command.{IsServed, IsAskServed}
use Rattle.newsdesk_cli.specs.Lists.{AsksAt, IsAsk}
use Rattle.newsdesk_cli.specs.Opened.{IsLook}
use Rattle.newsdesk_cli.proofs.Statuses.{others, by_run}

-- files open to lists of one length
pub one_length : (log side : List ℕ) (store store' : Bytes) (h g : History) → length store ≡ 16 → length store' ≡ 16 → Opens log side store h → Opens log side store' g → length g ≡ length h
one_length log side store store' h g long long' a b =
    let same = one_store log store' store b.pair.tail a.pair.tail long' long b.pair.log_is a.pair.log_is in
    let there = subst (λ (s : Bytes). PairOpens s log side (payloads entry_bytes g)) same b.pair in
    sym (counted g) ∙ ap length (opens_one store log side (payloads entry_bytes g) (payloads entry_bytes h) there a.pair) ∙ counted h

-- nothing has risen that stays at 0
pub never_rose : Rose 0 0 → ⊥
never_rose (inl more) = omega (arith, more)
never_rose (inr most) = omega (arith, most)

module _ {O : Type 0} (sink : SinkMeaning O) (text : Bytes) (o o' : O) (before now status : ℕ) where
  pub written_served : IsWrittenOut sink text o o' status → IsServed before now status
  written_served (inl whole) = others before now 0 status (λ s. absurd (omega (arith, s))) (λ s. absurd (omega (arith, s))) (λ s. absurd (omega (arith, s))) whole.0
  written_served (inr (inl cut)) = others before now 5 status (λ s. absurd (omega (arith, s))) (λ s. absurd (omega (arith, s))) (λ s. absurd (omega (arith, s))) cut.0
  written_served (inr (inr part)) = others before now 9 status (λ s. absurd (omega (arith, s))) (λ s. absurd (omega (arith, s))) (λ s. absurd (omega (arith, s))) part.0

module _ {K S O : Type 0} (keeper : KeeperMeaning K) (source : SourceMeaning S) (sink : SinkMeaning O) (entries : ℕ) (i i' : S) (o o' : O) (status : ℕ) where
  past_served : (g : History) (before now : ℕ) → PastAnswered keeper source sink g i i' o o' status → IsServed before now status
  past_served g before now (inl did) =
      by_run did.run.result before now status
      (λ is. absurd (never_rose (subst (Ends (source.faults i) (source.faults i') 0 0 (sink.faults o) (sink.faults did.run.mid)) is did.run.ends).1.0))
      did.run.status_is
  past_served g before now (inr none) = others before now 9 status (λ s. absurd (omega (arith, s))) (λ s. absurd (omega (arith, s))) (λ s. absurd (omega (arith, s))) none.stopped.status_is

  -- on files that hold a list, of which the one that was opened has the length
  pub asked_served_at : (h g : History) → length g ≡ length h → (before now : ℕ) → AsksAt keeper source sink entries i i' o o' status g → IsAskServed before now entries h status
  asked_served_at h g long before now (inl fewer) = record {
    own = λ is. omega (arith, long, fewer.fewer);
    whole = λ is. absurd (omega (arith, is, fewer.stopped.status_is));
    failed = λ is. absurd (omega (arith, is, fewer.stopped.status_is));
  }
  asked_served_at h g long before now (inr asked) =
      let s = past_served (first_entries entries g) before now asked.answered in
      record { own = λ is. absurd (s.own is); whole = s.whole; failed = s.failed }

module _ {O : Type 0} (sink : SinkMeaning O) (entries : ℕ) (o o' : O) (status : ℕ) where
  -- so it is with a digest
  pub digest_served_at : (h g : History) → length g ≡ length h → (before now : ℕ) → IsDigest sink entries g o o' status → IsAskServed before now entries h status
  digest_served_at h g long before now (inl fewer) = record {
    own = λ is. omega (arith, long, fewer.fewer);
    whole = λ is. absurd (omega (arith, is, fewer.stopped.status_is));
    failed = λ is. absurd (omega (arith, is, fewer.stopped.status_is));
  }
  digest_served_at h g long before now (inr told) =
      let s = written_served sink (digest_line entries g) o o' before now status told.told in
      record { own = λ is. absurd (s.own is); whole = s.whole; failed = s.failed }

-- what asks has looked at its store, if that was opened
module _ {D S O : Type 0} (disk : DiskMeaning D) (source : SourceMeaning S) (sink : SinkMeaning O) (entries : ℕ) (log log' side side' : D) (i i' : S) (o o' : O) (status : ℕ) where
  pub asked_looks : IsAsk disk source sink entries log log' side side' i i' o o' status → IsLook disk sink log log' side side' o o' status (λ store h. AsksAt (pair_of disk) source sink entries i i' o o' status h)
  asked_looks (inl not) = inl not.why
  asked_looks (inr did) = inr did
