-- The families of metrics, in Prometheus' words.
use Rattle.std.specs.Prelude.{codes}
use Rattle.news_types.specs.Names.{Bytes}
use Rattle.server_metrics.specs.declared.family.Family.{Family}
use Rattle.server_metrics.specs.declared.family.Family.TheVariants.{Entries, Moment, LogBytes, LogLimit, Items, ItemsLimit, Publications, FeedLength, FeedAcked, FeedTries, FeedPaused, FeedOldest, Requests, Attempts, LogFaults, Ingests, IngestMoment}

abbrev pub family_name : Family → Bytes
family_name Entries = codes "newsdesk_entries"
family_name Moment = codes "newsdesk_moment_seconds"
family_name LogBytes = codes "newsdesk_log_bytes"
family_name LogLimit = codes "newsdesk_log_limit_bytes"
family_name Items = codes "newsdesk_items"
family_name ItemsLimit = codes "newsdesk_items_limit"
family_name Publications = codes "newsdesk_publications"
family_name FeedLength = codes "newsdesk_feed_length"
family_name FeedAcked = codes "newsdesk_feed_acked"
family_name FeedTries = codes "newsdesk_feed_tries"
family_name FeedPaused = codes "newsdesk_feed_paused"
family_name FeedOldest = codes "newsdesk_feed_oldest_seconds"
family_name Requests = codes "newsdesk_requests_total"
family_name Attempts = codes "newsdesk_attempts_total"
family_name LogFaults = codes "newsdesk_log_faults_total"
family_name Ingests = codes "newsdesk_ingests_total"
family_name IngestMoment = codes "newsdesk_ingest_seconds"

abbrev pub family_help : Family → Bytes
family_help Entries = codes "Entries of the list."
family_help Moment = codes "Moment of the last entry, in seconds of Unix time."
family_help LogBytes = codes "Bytes of the log in use."
family_help LogLimit = codes "Bytes of the log that requests may use."
family_help Items = codes "Items made so far."
family_help ItemsLimit = codes "Items that can be made."
family_help Publications = codes "Publications made so far."
family_help FeedLength = codes "Entries of the feed."
family_help FeedAcked = codes "Entries of the feed that the subscriber acknowledged."
family_help FeedTries = codes "Attempts to deliver the next entry of the feed."
family_help FeedPaused = codes "Whether the feed is paused."
family_help FeedOldest = codes "Seconds since the release of the oldest entry that is not acknowledged."
family_help Requests = codes "Responses since the start, by status."
family_help Attempts = codes "Attempts to deliver since the start, by outcome."
family_help LogFaults = codes "Failures of the log since the start."
family_help Ingests = codes "Stories taken from the provider since the start."
family_help IngestMoment = codes "Moment of the last story from the provider, in seconds of Unix time."

-- a counter only rises, from the start of a server
abbrev pub family_kind : Family → Bytes
family_kind Requests = codes "counter"
family_kind Attempts = codes "counter"
family_kind LogFaults = codes "counter"
family_kind Ingests = codes "counter"
family_kind _ = codes "gauge"
