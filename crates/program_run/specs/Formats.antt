-- How a newsroom's values are bytes: the formats that a command speaks in.
use Rattle.std.specs.Prelude.{ℕ, List, Option, Result}
use Rattle.news_types.specs.declared.command.Command.{Command}
use Rattle.news_types.specs.declared.story.Story.{Story}
use Rattle.news_types.specs.Names.{Bytes}
use Rattle.news_types.specs.History.{History}
use Rattle.news_types.specs.Frames.{Writer}
use Rattle.news_types.specs.Outcome.{Answered}
use Rattle.feed_reports.specs.declared.attempts.Attempted.{Attempted}
use Rattle.package_members.specs.declared.member.Member.{Member}
use Rattle.subscriber_import.specs.declared.line.Line.{Line}
use Rattle.command_words.specs.declared.words.IngestFormat.{IngestFormat}
use Rattle.program_run.specs.Damage.{Finders}
use Rattle.program_run.specs.Members.{Input}

-- an input with the type of its members
pub record Kind : Type 1 where
  pub Member : Type 0
  pub input : Input Member

-- a subscriber that a record of a table asks for: its name, and the command that adds it
pub record Wanted : Type 0 where
  pub subscriber : Bytes
  pub command : Command

-- a story about some members
pub record Package : Type 0 where
  pub story : Story
  pub members : List Member

pub record Formats : Type 1 where
  -- the lines of a desk; and what a provider sends, in each format
  pub lines : Kind
  pub ingest : IngestFormat → Bytes → Kind
  -- what finds the damage in the payloads of files
  pub finders : Finders
  -- how publications are written in frames, for a store
  pub writer : Bytes → Writer
  -- the reports on a list, and the line of an attempt
  pub feed_report : Bytes → ℕ → History → Bytes
  pub queue_report : History → Bytes
  pub check_line : History → Bytes
  pub attempt_line : Bytes → ℕ → Attempted → Bytes
  -- what is told of a page of what a query finds in the archive of a list, or of a text that is no query
  pub archive_answer : ℕ → Bytes → History → Bytes → Type 0
  -- of a store: what a publication of a list holds
  pub contents_report : Bytes → ℕ → History → Bytes
  -- of a list: a line for each entry behind the first so many, and the line that says why a publication is due to a
  -- subscriber or not
  pub audit : ℕ → History → Bytes
  pub why_line : ℕ → Bytes → History → Bytes
  -- of a list: the digest of its first entries, so many, and a line for each limit
  pub digest_line : ℕ → History → Bytes
  pub limits : History → Bytes
  -- what a line of a desk is answered at a list, where it may only ask
  pub question_answer : History → lines.Member → Bytes
  -- the records of a table behind its head, if it has one: what each asks for, if it is of its form; and the lines in
  -- which is told what became of each
  pub table : Bytes → Option (List (Option Wanted))
  pub import_report : List Line → Bytes
  -- the package that an object describes, or what is told of one that describes none
  pub package_of : Bytes → Result Package Bytes
  -- how a request is answered, and that nobody has every member of a package, on a list of so many entries
  pub answer_line : Answered → Bytes
  pub no_readers_line : ℕ → Bytes
  -- the list of the requests of a drill of so many stories with a seed, how many they are, and the report
  pub drill_list : ℕ → ℕ → History
  pub drill_requests : ℕ → ℕ → ℕ
  pub drill_report : History → Bytes
