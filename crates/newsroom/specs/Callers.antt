-- What is remembered of each caller: the last request, and its reply.
use Rattle.std.specs.Prelude.{◌≡◌, Option, Some, None, option_map}
use Rattle.std.specs.HashMap.{HashMap, get}
use Rattle.news_types.specs.declared.entry.Reply.{Reply}
use Rattle.news_types.specs.Names.{Bytes, same}
use Rattle.news_types.specs.History.{Asked}
use Rattle.news_types.specs.Outcome.{no_entry}
use Rattle.newsroom.specs.declared.callers.Last.{Last}

-- the request
abbrev pub asked_of : Last → Asked
asked_of l = record { number = l.number; command = l.command }

-- the reply, or that of none
abbrev pub reply_of : Option Last → Reply
reply_of None = no_entry 0
reply_of (Some l) = l.reply

-- the table has the last request of each caller, and the reply that it was given
pub record Remembers {S : Type 0} (table : HashMap Bytes Last S) (last : Bytes → Option Asked) (reply : Bytes → Reply) : Type 0 where
  pub asked : (name : Bytes) → option_map asked_of (get same table name) ≡ last name
  pub replied : (name : Bytes) → reply_of (get same table name) ≡ reply name
