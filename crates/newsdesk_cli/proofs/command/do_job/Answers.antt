use Rattle.std.proofs.Common.{refl, subst}
use Rattle.news_types.specs.Names.{Bytes}
use Rattle.newsdesk_cli.specs.Archive.{IsArchive}
use Rattle.newsdesk_cli.proofs.command.do_job.Goals as goal

pub returns-in-Init-clause-does : goal.returns-in-Init-clause-does
returns-in-Init-clause-does g c = rw c.in-Init.is (record { input_same = refl; clock_same = refl }, c.init.ensures)

pub returns-in-Init-clause-receives : goal.returns-in-Init-clause-receives
returns-in-Init-clause-receives g c told = rw c.in-Init.is tt

pub returns-in-Init-clause-links : goal.returns-in-Init-clause-links
returns-in-Init-clause-links g c other = refl

pub returns-in-Batch-clause-does : goal.returns-in-Batch-clause-does
returns-in-Batch-clause-does g c = rw c.in-Batch.is c.batch.ensures

pub returns-in-Batch-clause-receives : goal.returns-in-Batch-clause-receives
returns-in-Batch-clause-receives g c told = rw c.in-Batch.is tt

pub returns-in-Batch-clause-links : goal.returns-in-Batch-clause-links
returns-in-Batch-clause-links g c other = refl

pub returns-in-Ingest-clause-does : goal.returns-in-Ingest-clause-does
returns-in-Ingest-clause-does g c = rw c.in-Ingest.is c.ingest.ensures

pub returns-in-Ingest-clause-receives : goal.returns-in-Ingest-clause-receives
returns-in-Ingest-clause-receives g c told = rw c.in-Ingest.is tt

pub returns-in-Ingest-clause-links : goal.returns-in-Ingest-clause-links
returns-in-Ingest-clause-links g c other = refl

pub returns-in-Feed-clause-does : goal.returns-in-Feed-clause-does
returns-in-Feed-clause-does g c = rw c.in-Feed.is (refl, c.feed.ensures)

pub returns-in-Feed-clause-receives : goal.returns-in-Feed-clause-receives
returns-in-Feed-clause-receives g c told = rw c.in-Feed.is tt

pub returns-in-Feed-clause-links : goal.returns-in-Feed-clause-links
returns-in-Feed-clause-links g c other = refl

pub returns-in-Queue-clause-does : goal.returns-in-Queue-clause-does
returns-in-Queue-clause-does g c = rw c.in-Queue.is (refl, c.queue.ensures)

pub returns-in-Queue-clause-receives : goal.returns-in-Queue-clause-receives
returns-in-Queue-clause-receives g c told = rw c.in-Queue.is tt

pub returns-in-Queue-clause-links : goal.returns-in-Queue-clause-links
returns-in-Queue-clause-links g c other = refl

pub returns-in-Drain-clause-does : goal.returns-in-Drain-clause-does
returns-in-Drain-clause-does g c = rw c.in-Drain.is (refl, c.drain.ensures)

pub returns-in-Drain-clause-receives : goal.returns-in-Drain-clause-receives
returns-in-Drain-clause-receives g c told = rw c.in-Drain.is tt

pub returns-in-Drain-clause-links : goal.returns-in-Drain-clause-links
returns-in-Drain-clause-links g c other = absurd (other (rw c.in-Drain.is tt))

pub returns-in-Receive-clause-does : goal.returns-in-Receive-clause-does
returns-in-Receive-clause-does g c = rw c.in-Receive.is (refl, c.receive.ensures.side, c.receive.ensures.received)

pub returns-in-Receive-clause-links : goal.returns-in-Receive-clause-links
returns-in-Receive-clause-links g c other = refl

pub returns-in-Receive-clause-receives : goal.returns-in-Receive-clause-receives
returns-in-Receive-clause-receives g c told = rw c.in-Receive.is (λ frames gives. c.receive.ensures.serves told frames gives)

pub returns-in-Drill-clause-does : goal.returns-in-Drill-clause-does
returns-in-Drill-clause-does g c = rw c.in-Drill.is (refl, c.drill.ensures.files.0, c.drill.ensures.files.1, c.drill.ensures.drilled)

pub returns-in-Drill-clause-links : goal.returns-in-Drill-clause-links
returns-in-Drill-clause-links g c other = refl

pub returns-in-Drill-clause-receives : goal.returns-in-Drill-clause-receives
returns-in-Drill-clause-receives g c told = rw c.in-Drill.is tt

pub returns-in-Check-clause-does : goal.returns-in-Check-clause-does
returns-in-Check-clause-does g c = rw c.in-Check.is (record { input_same = refl; clock_same = refl }, c.check.ensures)

pub returns-in-Check-clause-receives : goal.returns-in-Check-clause-receives
returns-in-Check-clause-receives g c told = rw c.in-Check.is tt

pub returns-in-Check-clause-links : goal.returns-in-Check-clause-links
returns-in-Check-clause-links g c other = refl

pub returns-in-Pack-clause-does : goal.returns-in-Pack-clause-does
returns-in-Pack-clause-does g c = rw c.in-Pack.is (record { input_same = refl; clock_same = refl }, c.pack.ensures)

pub returns-in-Pack-clause-receives : goal.returns-in-Pack-clause-receives
returns-in-Pack-clause-receives g c told = rw c.in-Pack.is tt

pub returns-in-Pack-clause-links : goal.returns-in-Pack-clause-links
returns-in-Pack-clause-links g c other = refl

pub returns-in-Import-clause-does : goal.returns-in-Import-clause-does
returns-in-Import-clause-does g c = rw c.in-Import.is c.take_table.ensures

pub returns-in-Import-clause-receives : goal.returns-in-Import-clause-receives
returns-in-Import-clause-receives g c told = rw c.in-Import.is tt

pub returns-in-Import-clause-links : goal.returns-in-Import-clause-links
returns-in-Import-clause-links g c other = refl

pub returns-in-Package-clause-does : goal.returns-in-Package-clause-does
returns-in-Package-clause-does g c = rw c.in-Package.is c.take_package.ensures

pub returns-in-Package-clause-receives : goal.returns-in-Package-clause-receives
returns-in-Package-clause-receives g c told = rw c.in-Package.is tt

pub returns-in-Package-clause-links : goal.returns-in-Package-clause-links
returns-in-Package-clause-links g c other = refl

pub returns-in-Archive-clause-does : goal.returns-in-Archive-clause-does
returns-in-Archive-clause-does g c =
    rw c.in-Archive.is (
      record { input_same = refl; clock_same = refl },
      subst (λ (q : Bytes). IsArchive g.D.Disk.disk g.O.Sink.sink c.in-Archive.page q c.args.log c.ask_archive.result.1 c.args.side c.ask_archive.result.2 c.args.output.now c.ask_archive.new.output c.ask_archive.result.0) c.as_str.ensures c.ask_archive.ensures,
    )

pub returns-in-Archive-clause-receives : goal.returns-in-Archive-clause-receives
returns-in-Archive-clause-receives g c told = rw c.in-Archive.is tt

pub returns-in-Archive-clause-links : goal.returns-in-Archive-clause-links
returns-in-Archive-clause-links g c other = refl

pub returns-in-Contents-clause-does : goal.returns-in-Contents-clause-does
returns-in-Contents-clause-does g c = rw c.in-Contents.is (record { input_same = refl; clock_same = refl }, c.list_contents.ensures)

pub returns-in-Contents-clause-receives : goal.returns-in-Contents-clause-receives
returns-in-Contents-clause-receives g c told = rw c.in-Contents.is tt

pub returns-in-Contents-clause-links : goal.returns-in-Contents-clause-links
returns-in-Contents-clause-links g c other = refl

pub returns-in-Init-clause-stands_in : goal.returns-in-Init-clause-stands_in
returns-in-Init-clause-stands_in g c told told' = rw c.in-Init.is tt

pub returns-in-Batch-clause-stands_in : goal.returns-in-Batch-clause-stands_in
returns-in-Batch-clause-stands_in g c told told' = rw c.in-Batch.is tt

pub returns-in-Ingest-clause-stands_in : goal.returns-in-Ingest-clause-stands_in
returns-in-Ingest-clause-stands_in g c told told' = rw c.in-Ingest.is tt

pub returns-in-Feed-clause-stands_in : goal.returns-in-Feed-clause-stands_in
returns-in-Feed-clause-stands_in g c told told' = rw c.in-Feed.is tt

pub returns-in-Queue-clause-stands_in : goal.returns-in-Queue-clause-stands_in
returns-in-Queue-clause-stands_in g c told told' = rw c.in-Queue.is tt

pub returns-in-Drain-clause-stands_in : goal.returns-in-Drain-clause-stands_in
returns-in-Drain-clause-stands_in g c told told' = rw c.in-Drain.is tt

pub returns-in-Receive-clause-stands_in : goal.returns-in-Receive-clause-stands_in
returns-in-Receive-clause-stands_in g c told told' = rw c.in-Receive.is tt

pub returns-in-Drill-clause-stands_in : goal.returns-in-Drill-clause-stands_in
returns-in-Drill-clause-stands_in g c told told' = rw c.in-Drill.is tt

pub returns-in-Check-clause-stands_in : goal.returns-in-Check-clause-stands_in
returns-in-Check-clause-stands_in g c told told' = rw c.in-Check.is tt

pub returns-in-Pack-clause-stands_in : goal.returns-in-Pack-clause-stands_in
returns-in-Pack-clause-stands_in g c told told' = rw c.in-Pack.is tt

pub returns-in-Import-clause-stands_in : goal.returns-in-Import-clause-stands_in
returns-in-Import-clause-stands_in g c told told' = rw c.in-Import.is tt

pub returns-in-Package-clause-stands_in : goal.returns-in-Package-clause-stands_in
returns-in-Package-clause-stands_in g c told told' = rw c.in-Package.is tt

pub returns-in-Archive-clause-stands_in : goal.returns-in-Archive-clause-stands_in
returns-in-Archive-clause-stands_in g c told told' = rw c.in-Archive.is tt

pub returns-in-Contents-clause-stands_in : goal.returns-in-Contents-clause-stands_in
returns-in-Contents-clause-stands_in g c told told' = rw c.in-Contents.is tt

pub returns-in-Ship-clause-does : goal.returns-in-Ship-clause-does
returns-in-Ship-clause-does g c = rw c.in-Ship.is (record { input_same = refl; clock_same = refl }, c.ship_list.ensures)

pub returns-in-Ship-clause-receives : goal.returns-in-Ship-clause-receives
returns-in-Ship-clause-receives g c told = rw c.in-Ship.is tt

pub returns-in-Ship-clause-stands_in : goal.returns-in-Ship-clause-stands_in
returns-in-Ship-clause-stands_in g c told told' = rw c.in-Ship.is tt

pub returns-in-Ship-clause-links : goal.returns-in-Ship-clause-links
returns-in-Ship-clause-links g c other = absurd (other (rw c.in-Ship.is tt))

pub returns-in-StandIn-clause-does : goal.returns-in-StandIn-clause-does
returns-in-StandIn-clause-does g c = rw c.in-StandIn.is (refl, c.stand_in.ensures.stands)

pub returns-in-StandIn-clause-receives : goal.returns-in-StandIn-clause-receives
returns-in-StandIn-clause-receives g c told = rw c.in-StandIn.is tt

pub returns-in-StandIn-clause-stands_in : goal.returns-in-StandIn-clause-stands_in
returns-in-StandIn-clause-stands_in g c told told' = rw c.in-StandIn.is (λ held gives. c.stand_in.ensures.serves told told' held gives)

pub returns-in-StandIn-clause-links : goal.returns-in-StandIn-clause-links
returns-in-StandIn-clause-links g c other = refl

pub returns-in-Audit-clause-does : goal.returns-in-Audit-clause-does
returns-in-Audit-clause-does g c = rw c.in-Audit.is (record { input_same = refl; clock_same = refl }, c.audit_list.ensures)

pub returns-in-Audit-clause-receives : goal.returns-in-Audit-clause-receives
returns-in-Audit-clause-receives g c told = rw c.in-Audit.is tt

pub returns-in-Audit-clause-stands_in : goal.returns-in-Audit-clause-stands_in
returns-in-Audit-clause-stands_in g c told told' = rw c.in-Audit.is tt

pub returns-in-Audit-clause-links : goal.returns-in-Audit-clause-links
returns-in-Audit-clause-links g c other = refl

pub returns-in-Ask-clause-does : goal.returns-in-Ask-clause-does
returns-in-Ask-clause-does g c = rw c.in-Ask.is (refl, c.ask_past.ensures)

pub returns-in-Ask-clause-receives : goal.returns-in-Ask-clause-receives
returns-in-Ask-clause-receives g c told = rw c.in-Ask.is tt

pub returns-in-Ask-clause-stands_in : goal.returns-in-Ask-clause-stands_in
returns-in-Ask-clause-stands_in g c told told' = rw c.in-Ask.is tt

pub returns-in-Ask-clause-links : goal.returns-in-Ask-clause-links
returns-in-Ask-clause-links g c other = refl

pub returns-in-Why-clause-does : goal.returns-in-Why-clause-does
returns-in-Why-clause-does g c = rw c.in-Why.is (record { input_same = refl; clock_same = refl }, c.explain.ensures)

pub returns-in-Why-clause-receives : goal.returns-in-Why-clause-receives
returns-in-Why-clause-receives g c told = rw c.in-Why.is tt

pub returns-in-Why-clause-stands_in : goal.returns-in-Why-clause-stands_in
returns-in-Why-clause-stands_in g c told told' = rw c.in-Why.is tt

pub returns-in-Why-clause-links : goal.returns-in-Why-clause-links
returns-in-Why-clause-links g c other = refl

pub returns-in-Digest-clause-does : goal.returns-in-Digest-clause-does
returns-in-Digest-clause-does g c = rw c.in-Digest.is (record { input_same = refl; clock_same = refl }, c.digest_list.ensures)

pub returns-in-Digest-clause-receives : goal.returns-in-Digest-clause-receives
returns-in-Digest-clause-receives g c told = rw c.in-Digest.is tt

pub returns-in-Digest-clause-stands_in : goal.returns-in-Digest-clause-stands_in
returns-in-Digest-clause-stands_in g c told told' = rw c.in-Digest.is tt

pub returns-in-Digest-clause-links : goal.returns-in-Digest-clause-links
returns-in-Digest-clause-links g c other = refl

pub returns-in-Limits-clause-does : goal.returns-in-Limits-clause-does
returns-in-Limits-clause-does g c = rw c.in-Limits.is (record { input_same = refl; clock_same = refl }, c.list_limits.ensures)

pub returns-in-Limits-clause-receives : goal.returns-in-Limits-clause-receives
returns-in-Limits-clause-receives g c told = rw c.in-Limits.is tt

pub returns-in-Limits-clause-stands_in : goal.returns-in-Limits-clause-stands_in
returns-in-Limits-clause-stands_in g c told told' = rw c.in-Limits.is tt

pub returns-in-Limits-clause-links : goal.returns-in-Limits-clause-links
returns-in-Limits-clause-links g c other = refl
