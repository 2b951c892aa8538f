-- Which words are a command of the program.
use Rattle.std.specs.Prelude.{ℕ, ◌+◌, Bool, true, false, not, ◌==◌, ◌&&◌, ◌||◌, nat_eq, nat_le, nat_lt, List, [], ◌∷◌, length, slice_index, codes, if◌then◌else◌, Option, Some, None}
use Rattle.std.specs.Char.{is_ascii_digit}
use Rattle.std.specs.List.{list_all, starts_with}
use Rattle.std.specs.Str.Parse.{digits_value}
use Rattle.std.specs.Option.{is_some, option_map}
use Rattle.uuid.specs.Text.{parsed}
use Rattle.news_types.specs.Names.{Bytes, same, is_name}
use Rattle.command_words.specs.declared.words.IngestFormat.{IngestFormat}
use Rattle.command_words.specs.declared.words.IngestFormat.TheVariants.{Wire, Item, AgencyWire, AgencyItems}
use Rattle.command_words.specs.declared.words.Job.{Job}
use Rattle.command_words.specs.declared.words.Job.TheVariants.{Init, Batch, Ingest, Import, Package, Feed, Queue, Archive, Contents, Audit, Ask, Digest, Limits, Why, Drain, Receive, Ship, StandIn, Drill, Check, Pack}
use Rattle.command_words.specs.declared.options.Options.{Options}
use Rattle.command_words.specs.declared.serving.Serving.{Serving}

-- a word that begins as an option does: no store and no address
abbrev pub is_option : Bytes → Bool
is_option word = starts_with nat_eq word (codes "--")

-- of two words
abbrev pub short_job : Bytes → Option Job
short_job verb =
    if same verb (codes "batch") then Some Batch
    else (if same verb (codes "queue") then Some Queue
    else (if same verb (codes "check") then Some Check
    else (if same verb (codes "pack") then Some Pack
    else (if same verb (codes "limits") then Some Limits
    else None))))

-- the name that a word is
abbrev pub name_of : Bytes → Option Bytes
name_of word = if is_name word then Some word else None

-- the format of what comes in
abbrev pub format_of : Bytes → Option IngestFormat
format_of word =
    if same word (codes "7901") then Some Wire
    else (if same word (codes "ninjs") then Some Item
    else (if same word (codes "7901-any") then Some AgencyWire
    else (if same word (codes "ninjs-any") then Some AgencyItems
    else None)))

-- to take in what comes in this format from this provider
abbrev pub ingest_of : Option IngestFormat → Option Bytes → Option Job
ingest_of (Some format) (Some provider) = Some (Ingest format provider)
ingest_of format provider = None

-- a 0 with more behind it
abbrev pub leads_with_zero : Bytes → Bool
leads_with_zero word = nat_lt 1 (length word) && slice_index word 0 == 48

-- digits, of which the first is 0 only where it stands alone
abbrev pub is_decimal : Bytes → Bool
is_decimal word = list_all is_ascii_digit word && not (leads_with_zero word)

-- the number that a word is, in decimal: below 4294967296
abbrev pub number_of : Bytes → Option ℕ
number_of word = if is_decimal word && (nat_lt 0 (length word) && nat_lt (digits_value 10 word) 4294967296) then Some (digits_value 10 word) else None

-- so it is below 2^64
abbrev pub seed_of : Bytes → Option ℕ
seed_of word = if is_decimal word && (nat_lt 0 (length word) && nat_lt (digits_value 10 word) 18446744073709551616) then Some (digits_value 10 word) else None

-- of these numbers, one of entries: below 2^48
abbrev pub place_of : Option ℕ → Option ℕ
place_of (Some n) = if nat_lt n 281474976710656 then Some n else None
place_of None = None

-- of three words
abbrev pub long_job : Bytes → Bytes → Option Job
long_job verb word =
    if same verb (codes "init") then option_map Init (parsed word)
    else (if same verb (codes "receive") then option_map Receive (name_of word)
    else (if same verb (codes "import") then option_map Import (name_of word)
    else (if same verb (codes "contents") then option_map Contents (number_of word)
    else (if same verb (codes "audit") then option_map Audit (place_of (seed_of word))
    else (if same verb (codes "ask") then option_map Ask (place_of (seed_of word))
    else (if same verb (codes "digest") then option_map Digest (place_of (seed_of word))
    else (if same verb (codes "stand-in") then option_map StandIn (parsed word)
    else None)))))))

-- to report a subscriber's feed behind its first entries, so many
abbrev pub feed_of : Option Bytes → Option ℕ → Option Job
feed_of (Some subscriber) (Some after) = Some (Feed subscriber after)
feed_of subscriber after = None

-- to publish a package as this caller's request of this number
abbrev pub package_of : Option Bytes → Option ℕ → Option Job
package_of (Some caller) (Some number) = Some (Package caller number)
package_of caller number = None

-- to tell what a query finds behind so many pages; a query is any word
abbrev pub archive_of : Option ℕ → Bytes → Option Job
archive_of (Some page) query = Some (Archive page query)
archive_of None query = None

-- to tell why a publication is due to a subscriber or not
abbrev pub why_of : Option ℕ → Option Bytes → Option Job
why_of (Some publication) (Some subscriber) = Some (Why publication subscriber)
why_of publication subscriber = None

-- to ship what a store holds to the standby of this name, which is at an address
abbrev pub ship_of : Option Bytes → Bytes → Option Job
ship_of (Some name) address = if is_option address then None else Some (Ship name)
ship_of None address = None

-- of four words
abbrev pub wide_job : Bytes → Bytes → Bytes → Option Job
wide_job verb first second =
    if same verb (codes "ingest") then ingest_of (format_of first) (name_of second)
    else (if same verb (codes "package") then package_of (name_of first) (seed_of second)
    else (if same verb (codes "feed") then feed_of (name_of first) (number_of second)
    else (if same verb (codes "archive") then archive_of (number_of first) second
    else (if same verb (codes "why") then why_of (number_of first) (name_of second)
    else (if same verb (codes "ship") then ship_of (name_of first) second
    else None)))))

-- one of these pairs has this name
abbrev pub names : List Bytes → Bytes → Bool
names (other ∷ address ∷ pairs) name = same other name || names pairs name
names words name = false

-- names and addresses by turns, no name twice
abbrev pub are_pairs : List Bytes → Bool
are_pairs [] = true
are_pairs (name ∷ []) = false
are_pairs (name ∷ address ∷ pairs) = is_name name && (not (is_option address) && (not (names pairs name) && are_pairs pairs))

-- to push what is due to the receivers that these words name
abbrev pub drain_job : List Bytes → Option Job
drain_job pairs = if are_pairs pairs then Some Drain else None

-- to drill so many stories with a seed: from 1 to 100000
abbrev pub drill_of : Option ℕ → Option ℕ → Option Job
drill_of (Some stories) (Some seed) = if nat_lt 0 stories && nat_le stories 100000 then Some (Drill stories seed) else None
drill_of stories seed = None

abbrev pub drill_job : Bytes → List Bytes → Option Job
drill_job stories (seed ∷ []) = drill_of (number_of stories) (seed_of seed)
drill_job stories words = None

-- of a verb and the words behind the store
abbrev pub job_by : Bytes → List Bytes → Option Job
job_by verb [] = short_job verb
job_by verb (word ∷ []) = long_job verb word
job_by verb (first ∷ second ∷ []) = wide_job verb first second
job_by verb words = None

-- `init STORE UUID`, `batch STORE`, `ingest STORE FORMAT PROVIDER`, `import STORE CALLER`, `package STORE CALLER NUMBER`,
-- `feed STORE SUBSCRIBER AFTER`, `queue STORE`, `archive STORE PAGE QUERY`, `contents STORE PUBLICATION`, `audit STORE AFTER`, `ask STORE ENTRIES`,
-- `digest STORE ENTRIES`, `limits STORE`, `why STORE PUBLICATION SUBSCRIBER`, `drain STORE` with pairs of a NAME and an ADDRESS, `receive STORE NAME`, `ship STORE NAME ADDRESS`,
-- `stand-in STORE UUID`, `check STORE`, `pack STORE` and `drill N SEED`; a store and an address are any words but an option
abbrev pub job_of : List Bytes → Option Job
job_of (verb ∷ first ∷ words) =
    if is_option first then None
    else (if same verb (codes "drain") then drain_job words
    else (if same verb (codes "drill") then drill_job first words
    else job_by verb words))
job_of words = None

abbrev pub no_options : Options
no_options = record { waits = false; beside = false; key = None; every = None }

-- how many words an option and its value are, where it is given
abbrev pub pair_count : Option ℕ → ℕ
pair_count (Some value) = 2
pair_count None = 0

-- how many words they are
abbrev pub options_count : Options → ℕ
options_count found = (if found.waits then 1 else 0) + (if found.beside then 1 else 0) + pair_count found.key + pair_count found.every

-- these, and `--key` and its FILE behind them: the command's name is word 0, and the options follow it
abbrev pub with_key : Options → Options
with_key found = record { waits = found.waits; beside = found.beside; key = Some (options_count found + 2); every = found.every }

-- these, and `--every` and its SECONDS behind them
abbrev pub with_every : Options → Option ℕ → Options
with_every found seconds = record { waits = found.waits; beside = found.beside; key = found.key; every = seconds }

-- from 1 to 86400 seconds
abbrev pub seconds_of : Option ℕ → Option ℕ
seconds_of (Some seconds) = if nat_lt 0 seconds && nat_le seconds 86400 then Some seconds else None
seconds_of None = None

-- what the next word may be: an option; or the value of the one before it
pub data Next : Type 0 where
  Any : Next
  File : Next
  Seconds : Next

-- the options at the front of these words, behind those that were found: each at most once. Behind `--key` the first word is its FILE: any
-- word but an option. Behind `--every` it is its SECONDS
abbrev pub options_behind : Options → Next → List Bytes → Option Options
options_behind found Any [] = Some found
options_behind found File [] = None
options_behind found Seconds [] = None
options_behind found File (file ∷ words) = if is_option file then None else options_behind (with_key found) Any words
options_behind found Seconds (word ∷ words) = if is_some (seconds_of (number_of word)) then options_behind (with_every found (seconds_of (number_of word))) Any words else None
options_behind found Any (word ∷ words) =
    if same word (codes "--wait") then (if found.waits then None else options_behind (record { waits = true; beside = found.beside; key = found.key; every = found.every }) Any words)
    else (if same word (codes "--beside") then (if found.beside then None else options_behind (record { waits = found.waits; beside = true; key = found.key; every = found.every }) Any words)
    else (if same word (codes "--key") then (if is_some found.key then None else options_behind found File words)
    else (if same word (codes "--every") then (if is_some found.every then None else options_behind found Seconds words)
    else Some found)))

-- the options of a command: they stand directly behind its name
abbrev pub options_of : List Bytes → Option Options
options_of (verb ∷ words) = options_behind no_options Any words
options_of [] = None

-- what a server is to do: where it listens, how many workers push the feeds, and the names and addresses of the receivers by turns
pub record Service : Type 0 where
  pub address : Bytes
  pub workers : ℕ
  pub receivers : List Bytes

-- the service that the program's own value asks for
abbrev pub service_of : Serving → Service
service_of serving = record { address = serving.address.now; workers = serving.workers; receivers = serving.receivers.now }

-- from 1 to 16 workers
abbrev pub workers_of : Option ℕ → Option ℕ
workers_of (Some workers) = if nat_lt 0 workers && nat_le workers 16 then Some workers else None
workers_of None = None

-- to serve at this address, by so many workers, for the receivers that these words name
abbrev pub service_by : Bytes → Option ℕ → List Bytes → Option Service
service_by address (Some workers) receivers = if are_pairs receivers then Some (record { address = address; workers = workers; receivers = receivers }) else None
service_by address None receivers = None

-- this word, a store, an address, a number of workers and these words
abbrev pub serving_by : Bytes → Bytes → Bytes → List Bytes → Option Service
serving_by verb address workers receivers = if same verb (codes "serve") then service_by address (workers_of (number_of workers)) receivers else None

-- `serve STORE ADDRESS WORKERS` with pairs of a NAME and an ADDRESS; a store and an address are any words but an option
abbrev pub serving_of : List Bytes → Option Service
serving_of (verb ∷ store ∷ address ∷ workers ∷ receivers) = if is_option store || is_option address then None else serving_by verb address workers receivers
serving_of words = None
