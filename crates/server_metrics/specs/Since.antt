-- The metrics of what a server counted since its start. A counter has no sample before its first time.
use Rattle.std.specs.Prelude.{ℕ, ◌==◌, ◌&&◌, List, [], ◌++◌, codes, decimal, if◌then◌else◌}
use Rattle.news_types.specs.Names.{Bytes}
use Rattle.server_counts.specs.Tally.{Tally}
use Rattle.server_counts.specs.declared.counts.StatusCount.{StatusCount}
use Rattle.server_counts.specs.declared.counts.ProviderCount.{ProviderCount}
use Rattle.server_counts.specs.declared.counts.Attempts as code
use Rattle.server_metrics.specs.declared.family.Family.{Family}
use Rattle.server_metrics.specs.declared.family.Family.TheVariants.{Requests, Attempts, LogFaults, Ingests, IngestMoment}
use Rattle.server_metrics.specs.Text.{family, heading, labelled, plain}

-- ---- responses

abbrev pub request_sample : StatusCount → Bytes
request_sample c = labelled Requests (codes "status") (decimal c.status) c.count

abbrev pub requests_text : List StatusCount → Bytes
requests_text requests = family Requests request_sample requests

-- ---- attempts to deliver

-- an outcome, from its first time on
abbrev pub risen : Bytes → ℕ → Bytes
risen outcome n = if n == 0 then [] else labelled Attempts (codes "outcome") outcome n

abbrev pub attempts_text : code.Attempts → Bytes
attempts_text a =
    if a.delivered == 0 && a.link_faults == 0 && a.no_receipts == 0
    then []
    else
    heading Attempts ++ risen (codes "delivered") a.delivered ++ risen (codes "link_fault") a.link_faults
    ++ risen (codes "no_receipt") a.no_receipts

-- ---- failures of the log

abbrev pub log_faults_text : ℕ → Bytes
log_faults_text n = if n == 0 then [] else plain LogFaults n

-- ---- what providers sent

abbrev pub provider_sample : Family → ProviderCount → ℕ → Bytes
provider_sample f c n = labelled f (codes "provider") c.provider n

abbrev pub ingest_sample : ProviderCount → Bytes
ingest_sample c = provider_sample Ingests c c.count

abbrev pub ingests_text : List ProviderCount → Bytes
ingests_text ingests = family Ingests ingest_sample ingests

abbrev pub ingest_moment_sample : ProviderCount → Bytes
ingest_moment_sample c = provider_sample IngestMoment c c.last

abbrev pub ingest_moments_text : List ProviderCount → Bytes
ingest_moments_text ingests = family IngestMoment ingest_moment_sample ingests

-- ---- all of it

-- each family is left out where nothing of it was counted
abbrev pub counts_text : Tally → Bytes
counts_text t =
    requests_text t.requests ++ attempts_text t.attempts ++ log_faults_text t.log_faults
    ++ ingests_text t.ingests ++ ingest_moments_text t.ingests
