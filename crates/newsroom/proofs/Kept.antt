-- The newsroom behind an entry, and with memory taken.
use Rattle.std.proofs.Common.{◌≡◌, ℕ, ◌+◌, Bool, cond, Option, Some, ◌∷◌, length, refl, ap, ◌∙◌, subst}
use Rattle.std.specs.Option.{option_map}
use Rattle.std.specs.HashMap.{HashMap, get}
use Rattle.news_types.specs.declared.entry.Act.TheVariants.{Request, Ingest}
use Rattle.news_types.specs.declared.command.Command.{Command}
use Rattle.news_types.specs.Names.{Bytes, same}
use Rattle.news_types.specs.History.{History, Asked, last, last_stop, is_stop_command}
use Rattle.news_types.specs.declared.entry.Reply.{Reply}
use Rattle.news_types.specs.Outcome.{last_reply, reply_to, entry_of}
use Rattle.rule_tables.specs.Keeps.{KeepsRules}
use Rattle.story_tables.specs.Keeps.{KeepsStories}
use Rattle.desk_records.specs.Dues.{KeepsDues}
use Rattle.desk_records.specs.Wires.{KeepsWires}
use Rattle.newsroom.specs.declared.newsroom.Newsroom.{Newsroom}
use Rattle.newsroom.specs.declared.callers.Last.{Last}
use Rattle.newsroom.specs.Callers.{asked_of, reply_of, Remembers}
use Rattle.newsroom.specs.Stands.{StandsFor}
use Rattle.newsroom.specs.Changes.{IsForAct, IsForRequest, IsForIngest}
use Rattle.newsroom.specs.declared.change.RequestChange.{RequestChange}
use Rattle.newsroom.specs.declared.change.IngestChange.{IngestChange}
use Rattle.newsroom.specs.declared.change.Change.TheVariants as change
use Rattle.news_types.specs.declared.entry.Act.{Act}
use Rattle.news_types.specs.declared.story.Incoming.{Incoming}

-- a table of callers in which each has what it had
pub callers_kept : {S : Type 0} (old new : HashMap Bytes Last S) (asked : Bytes → Option Asked) (replied : Bytes → Reply) → ((name : Bytes) → get same new name ≡ get same old name) → Remembers old asked replied → Remembers new asked replied
callers_kept old new asked replied alike holds = record {
  asked = λ name. ap (option_map asked_of) (alike name) ∙ holds.asked name;
  replied = λ name. ap reply_of (alike name) ∙ holds.replied name;
}

-- the same with other tables
pub stands_with : (n r : Newsroom) (h : History) → StandsFor n h → r.entries ≡ n.entries → r.moment ≡ n.moment → r.last_stop ≡ n.last_stop → Remembers r.callers (last h) (last_reply h) → KeepsRules r.rules h → KeepsStories r.stories h → KeepsDues r.dues h → KeepsWires r.wires h → StandsFor r h
stands_with n r h stands entries at stop callers rules stories dues wires = record {
  legal = stands.legal;
  entries = entries ∙ stands.entries;
  at = at ∙ stands.at;
  stop = stop ∙ stands.stop;
  callers = callers;
  rules = rules;
  stories = stories;
  dues = dues;
  wires = wires;
}

-- what is remembered of the caller
pub remembered : {S : Type 0} (table : HashMap Bytes Last S) (h : History) (m : ℕ) (caller name : Bytes) (number : ℕ) (command : Command) (l : Last) → name ≡ caller
    → l ≡ record { number = number; command = command; reply = reply_to h m (Request caller number command) }
    → Remembers table (λ other. cond (same name other) (Some (asked_of l)) (last h other)) (λ other. cond (same name other) l.reply (last_reply h other))
    → Remembers table (last (entry_of m (Request caller number command) ∷ h)) (last_reply (entry_of m (Request caller number command) ∷ h))
remembered table h m caller name number command l who is holds =
    subst (λ (x : Last). Remembers table (λ other. cond (same caller other) (Some (asked_of x)) (last h other)) (λ other. cond (same caller other) x.reply (last_reply h other))) is
    (subst (λ (n : Bytes). Remembers table (λ other. cond (same n other) (Some (asked_of l)) (last h other)) (λ other. cond (same n other) l.reply (last_reply h other))) who holds)

-- the last stop behind an entry
pub stopped : (h : History) (command : Command) (b : Bool) (place before : ℕ) → b ≡ is_stop_command command → place ≡ length h + 1 → before ≡ last_stop h → cond b place before ≡ cond (is_stop_command command) (length h + 1) (last_stop h)
stopped h command b place before one two three = λ i. cond (one i) (two i) (three i)

abbrev last_of : ℕ → Command → Reply → Last
last_of number command reply = record { number = number; command = command; reply = reply }

pub last_is : (number : ℕ) (copy command : Command) (given reply : Reply) → copy ≡ command → given ≡ reply → last_of number copy given ≡ last_of number command reply
last_is number copy command given reply one two = λ i. last_of number (one i) (two i)

-- the request or the ingest that a change is for
pub request_by : (c : RequestChange) (m : ℕ) (act : Act) (h : History) → IsForAct (change.Request c) m act h
    → (caller : Bytes) × (number : ℕ) × (command : Command) × (act ≡ Request caller number command) × IsForRequest c m caller number command h
request_by c m (Request caller number command) h is = (caller, number, command, refl, is)
request_by c m _ h is = absurd is

pub ingest_by : (c : IngestChange) (m : ℕ) (act : Act) (h : History) → IsForAct (change.Ingest c) m act h → (name : Bytes) × (come : Incoming) × (act ≡ Ingest name come) × IsForIngest c m name come h
ingest_by c m (Ingest name come) h is = (name, come, refl, is)
ingest_by c m _ h is = absurd is
