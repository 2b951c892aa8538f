-- What the words of a command do, by what was said of it before.
use Rattle.std.proofs.Common.{◌≡◌, inl, inr, ℕ, ◌+◌, [], Option, Some, None, subst}
use Rattle.news_types.specs.declared.query.Query.TheVariants as query
use Rattle.news_types.specs.History.{History}
use Rattle.news_types.specs.Names.{Bytes}
use Rattle.news_io.specs.Outside.{Meanings, Outside}
use Rattle.news_room.specs.Log.{sizes}
use Rattle.command_words.specs.declared.words.Job.{Job}
use Rattle.command_words.specs.declared.words.Job.TheVariants.{Init, Batch, Ingest, Import, Package, Feed, Queue, Archive, Contents, Audit, Ask, Digest, Limits, Why, Drain, Receive, Ship, StandIn, Drill, Check, Pack}
use Rattle.newsdesk_cli.specs.Archive as archive
use Rattle.newsdesk_cli.specs.Command as old
use Rattle.newsdesk_cli.specs.Telling as telling
use Rattle.list_runs.specs.Why.{why_line}
use Rattle.list_marks.specs.Digest.{IsDigest}
use Rattle.list_marks.specs.Limits.{limits_lines}
use Rattle.package_rules.specs.Report.{contents_report}
use Rattle.room_reports.specs.Texts.{feed_report_at, queue_report_at}
use Rattle.room_reports.specs.Written.{IsWrittenOut}
use Rattle.store_files.specs.declared.trouble.Trouble.TheVariants as trouble
use Rattle.told_entries.specs.Entries.{audit}
use Rattle.program_run.specs.Does.{Finds, Digests, Does, UsesLinks}
use Rattle.program_run.specs.Inputs.{newsroom_formats}
use Rattle.program_run.specs.Opens.{size_of}
use Rattle.program_run.specs.Telling.{IsAnswered, Unread}
use Rattle.program_run.proofs.Asking.{is_asked}
use Rattle.program_run.proofs.Drilled.{is_drilled}
use Rattle.program_run.proofs.Importing.{import_is}
use Rattle.program_run.proofs.InputArms.{batch_answers, ingest_answers}
use Rattle.program_run.proofs.Looked.{looked}
use Rattle.program_run.proofs.Made.{is_made}
use Rattle.program_run.proofs.Packaging.{package_is}
use Rattle.program_run.proofs.Packed.{is_packed}
use Rattle.program_run.proofs.Pushing.{drain_does}
use Rattle.program_run.proofs.Received.{is_received}
use Rattle.program_run.proofs.Reporting.{report_is}
use Rattle.program_run.proofs.Shipped.{is_shipped}
use Rattle.program_run.proofs.Sizes.{size_same}
use Rattle.program_run.proofs.StoodIn.{is_stood_in}
use Rattle.program_run.proofs.Telling.{is_told, is_stopped, is_answered}

module _ {D S O C L : Type 0} (m : Meanings D S O C L) (before after : Outside D S O C L) (number : ℕ) where
  -- what was said before
  abbrev pub Did : Option Job → Type 0
  Did job = old.Does m.disk m.clock m.source m.sink m.link before.log after.log before.side after.side before.input after.input before.output after.output before.clock after.clock before.links after.links number job

  unread : old.Unread m.disk m.clock m.source m.sink m.link before.log after.log before.side after.side before.input after.input before.output after.output before.clock after.clock before.links after.links number
      → after.links ≡ before.links → Unread before after
  unread same links = record { input = same.input_same; clock = same.clock_same; links = links }

  -- an answer's line
  line_told : (line : Bytes) → telling.IsAnswered m.sink line before.output after.output number → IsAnswered m.sink line before.output after.output number
  line_told line told = is_answered m.sink line before.output after.output number told

  -- what a query of the archive finds
  finds : (page : ℕ) (asked : Bytes) (list : History) → archive.IsAsked m.sink list page asked before.output after.output number → Finds newsroom_formats m before after page asked list number
  finds page asked list (inl told) = inl (told.0, told.1, is_told m.sink told.0 before.output after.output number told.2)
  finds page asked list (inr none) = inr (is_stopped m.sink [] before.output after.output number trouble.Memory none)

  -- the digest of a list's first entries
  digests : (entries : ℕ) (list : History) → IsDigest m.sink entries list before.output after.output number → Digests newsroom_formats m before after entries list number
  digests entries list (inl fewer) = inl (fewer.fewer, fewer.stopped)
  digests entries list (inr told) = inr (told.enough, told.told)

  -- only `drain` and `ship` change the links
  pub does : (job : Option Job) → Did job → ((UsesLinks job → ⊥) → after.links ≡ before.links) → Does newsroom_formats m before after job number
  does None did links = record {
    log = did.1.same;
    side = did.1.same_side;
    unread = unread did.0 (links (λ uses. uses));
    told = record { status_is = did.1.refused.status_is; line = did.1.refused.line };
  }
  does (Some (Init store)) did links = is_made m before after number store (unread did.0 (links (λ uses. uses))) did.1
  does (Some Batch) did links = batch_answers m before after number (links (λ uses. uses)) did
  does (Some (Ingest format provider)) did links = ingest_answers m before after number (links (λ uses. uses)) format provider did
  does (Some (Import caller)) did links = import_is m before after number caller (links (λ uses. uses)) did
  does (Some (Package caller request)) did links = package_is m before after number caller request (links (λ uses. uses)) did
  does (Some (Feed subscriber first)) did links = report_is m before after number (query.Feed subscriber first) (feed_report_at subscriber first) did.0 (links (λ uses. uses)) did.1
  does (Some Queue) did links = report_is m before after number query.Queue queue_report_at did.0 (links (λ uses. uses)) did.1
  does (Some (Archive page asked)) did links =
      looked m before after number (unread did.0 (links (λ uses. uses))) (λ store list. archive.IsAsked m.sink list page asked before.output after.output number) (λ store list. Finds newsroom_formats m before after page asked list number)
      (λ store list told. finds page asked list told) did.1
  does (Some (Contents publication)) did links =
      looked m before after number (unread did.0 (links (λ uses. uses))) (λ store list. telling.IsAnswered m.sink (contents_report list store publication) before.output after.output number)
      (λ store list. IsAnswered m.sink (contents_report list store publication) before.output after.output number) (λ store list told. line_told (contents_report list store publication) told) did.1
  does (Some (Audit first)) did links =
      looked m before after number (unread did.0 (links (λ uses. uses))) (λ store list. IsWrittenOut m.sink (audit first list) before.output after.output number) (λ store list. IsWrittenOut m.sink (audit first list) before.output after.output number)
      (λ store list told. told) did.1
  does (Some (Ask entries)) did links = is_asked m before after number entries did.0 (links (λ uses. uses)) did.1
  does (Some (Digest entries)) did links =
      looked m before after number (unread did.0 (links (λ uses. uses))) (λ store list. IsDigest m.sink entries list before.output after.output number) (λ store list. Digests newsroom_formats m before after entries list number)
      (λ store list told. digests entries list told) did.1
  does (Some Limits) did links =
      looked m before after number (unread did.0 (links (λ uses. uses))) (λ store list. IsWrittenOut m.sink (limits_lines list (65 + sizes list)) before.output after.output number)
      (λ store list. IsWrittenOut m.sink (limits_lines list (size_of list)) before.output after.output number)
      (λ store list told. subst (λ (n : ℕ). IsWrittenOut m.sink (limits_lines list n) before.output after.output number) (size_same list) told) did.1
  does (Some (Why publication subscriber)) did links =
      looked m before after number (unread did.0 (links (λ uses. uses))) (λ store list. IsWrittenOut m.sink (why_line list publication subscriber) before.output after.output number)
      (λ store list. IsWrittenOut m.sink (why_line list publication subscriber) before.output after.output number) (λ store list told. told) did.1
  does (Some Drain) did links = drain_does m before after number did.0 did.1
  does (Some (Receive name)) did links = is_received m before after number name did.1 did.0 (links (λ uses. uses)) did.2
  does (Some (Ship name)) did links = is_shipped m before after number name did.0.input_same did.0.clock_same did.1
  does (Some (StandIn store)) did links = is_stood_in m before after number store did.0 (links (λ uses. uses)) did.1
  does (Some (Drill stories seed)) did links = is_drilled m before after number stories seed did.0 did.1 did.2 (links (λ uses. uses)) did.3
  does (Some Check) did links =
      looked m before after number (unread did.0 (links (λ uses. uses))) (λ store list. telling.IsAnswered m.sink (old.check_line list) before.output after.output number)
      (λ store list. IsAnswered m.sink (old.check_line list) before.output after.output number) (λ store list told. line_told (old.check_line list) told) did.1
  does (Some Pack) did links = is_packed m before after number (unread did.0 (links (λ uses. uses))) did.1
