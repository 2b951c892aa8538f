-- What a server has counted.
use Rattle.std.specs.Prelude.{ℕ, ◌+◌, ◌-◌, ◌^◌, min, List, []}
use Rattle.server_counts.specs.declared.counts.StatusCount.{StatusCount}
use Rattle.server_counts.specs.declared.counts.ProviderCount.{ProviderCount}
use Rattle.server_counts.specs.declared.counts.Attempts.{Attempts}
use Rattle.server_counts.specs.declared.counts.Outcome.{Outcome}
use Rattle.server_counts.specs.declared.counts.Outcome.TheVariants.{Delivered, LinkFault, NoReceipt}

-- attempts to deliver, failures of the log, responses by status, and what each provider sent
pub record Tally : Type 0 where
  pub attempts : Attempts
  pub log_faults : ℕ
  pub requests : List StatusCount
  pub ingests : List ProviderCount

-- at the start of a server
abbrev pub nothing : Tally
nothing = record { attempts = record { delivered = 0; link_faults = 0; no_receipts = 0 }; log_faults = 0; requests = []; ingests = [] }

-- a counter stays at its greatest value
abbrev pub one_more : ℕ → ℕ
one_more n = min (n + 1) (2 ^ 64 - 1)

abbrev pub attempts_with : Outcome → Attempts → Attempts
attempts_with Delivered a = record a { delivered = one_more a.delivered }
attempts_with LinkFault a = record a { link_faults = one_more a.link_faults }
attempts_with NoReceipt a = record a { no_receipts = one_more a.no_receipts }

-- with one more attempt of this outcome
abbrev pub with_attempt : Outcome → Tally → Tally
with_attempt outcome t = record t { attempts = attempts_with outcome t.attempts }

-- with one more failure of the log
abbrev pub with_log_fault : Tally → Tally
with_log_fault t = record t { log_faults = one_more t.log_faults }
