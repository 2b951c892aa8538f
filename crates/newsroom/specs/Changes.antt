-- What is prepared, and when a change is ready to be kept.
use Rattle.std.specs.Prelude.{◌≡◌, ℕ, ◌<◌, ◌∷◌, Option, Some, None}
use Rattle.std.specs.HashMap.{spare}
use Rattle.news_types.specs.declared.entry.Entry.{Entry}
use Rattle.news_types.specs.declared.entry.Act.{Act}
use Rattle.news_types.specs.declared.entry.Act.TheVariants.{Request, Ingest}
use Rattle.news_types.specs.declared.command.Command.{Command}
use Rattle.news_types.specs.declared.story.Incoming.{Incoming}
use Rattle.news_types.specs.Names.{Bytes}
use Rattle.news_types.specs.History.{History, is_stop_command}
use Rattle.news_types.specs.Items.{Effect, New, NewAt, Replaces, Cancels, Settled}
use Rattle.news_types.specs.Publications.{effect}
use Rattle.news_types.specs.Legal.{IsLegal}
use Rattle.news_types.specs.Outcome.{Outcome, Answered, Done, Repeat, kept, refused, reply_to, entry_of, request_at, ingest_at}
use Rattle.desk_rules.specs.Steps.{HasRoom as HasDeskRoom, IsMaking}
use Rattle.rule_tables.specs.declared.ingest.PlaceChange.{PlaceChange}
use Rattle.rule_tables.specs.declared.rules.Rules.{Rules}
use Rattle.rule_tables.specs.Steps.{HasRoom as HasRuleRoom, IsFor as IsForRules}
use Rattle.story_tables.specs.Parts.{HasRoom as HasPartRoom, IsFor as IsForParts}
use Rattle.desk_records.specs.DueSteps.{HasDueRoom, IsForDues}
use Rattle.desk_records.specs.Wires.{HasWireRoom, IsForWires}
use Rattle.newsroom.specs.declared.newsroom.Newsroom.{Newsroom}
use Rattle.newsroom.specs.declared.change.StoryChange.{StoryChange}
use Rattle.newsroom.specs.declared.change.RequestChange.{RequestChange}
use Rattle.newsroom.specs.declared.change.IngestChange.{IngestChange}
use Rattle.newsroom.specs.declared.change.Change.{Change}
use Rattle.newsroom.specs.declared.change.Change.TheVariants as change
use Rattle.newsroom.specs.declared.change.Prepared.{Prepared}
use Rattle.newsroom.specs.declared.change.Prepared.TheVariants as prepared

-- ---- items, publications and feeds, and what is due

pub record HasStoryRoom (n : Newsroom) (c : StoryChange) : Type 0 where
  pub parts : HasPartRoom n.stories c.parts
  pub dues : HasDueRoom n.dues c.dues

-- the change is that of the act at the moment, behind the list
pub record IsForStory (c : StoryChange) (m : ℕ) (act : Act) (h : History) : Type 0 where
  pub parts : IsForParts c.parts m act h
  pub dues : IsForDues c.dues h (entry_of m act ∷ h)

-- ---- requests

pub record HasRequestRoom (n : Newsroom) (c : RequestChange) : Type 0 where
  pub parts : HasPartRoom n.stories c.parts
  pub dues : HasDueRoom n.dues c.dues
  pub rules : HasRuleRoom n.rules c.rules
  pub caller : 0 < spare n.callers

-- the change is that of the request, which may follow the list
pub record IsForRequest (c : RequestChange) (m : ℕ) (caller : Bytes) (number : ℕ) (command : Command) (h : History) : Type 0 where
  pub legal : IsLegal (entry_of m (Request caller number command) ∷ h)
  pub parts : IsForParts c.parts m (Request caller number command) h
  pub dues : IsForDues c.dues h (entry_of m (Request caller number command) ∷ h)
  pub rules : IsForRules c.rules caller command h
  pub stops : c.stops ≡ is_stop_command command
  pub who : c.caller ≡ caller
  pub last : c.last ≡ record { number = number; command = command; reply = reply_to h m (Request caller number command) }

-- ---- ingests

abbrev pub HasPlaceRoom : Rules → Option PlaceChange → Type 0
HasPlaceRoom r None = Unit {0}
HasPlaceRoom r (Some c) = HasDeskRoom r.desks c.desks

pub record HasIngestRoom (n : Newsroom) (c : IngestChange) : Type 0 where
  pub parts : HasPartRoom n.stories c.parts
  pub dues : HasDueRoom n.dues c.dues
  pub wires : HasWireRoom n.wires c.wires
  pub place : HasPlaceRoom n.rules c.place

-- it makes the item that the effect makes, at its place or at none
abbrev pub IsForPlace : Option PlaceChange → History → Effect → Type 0
IsForPlace (Some c) h New = IsMaking c.desks None h
IsForPlace (Some c) h (NewAt place published) = IsMaking c.desks (Some place) h
IsForPlace None h (Replaces i) = Unit {0}
IsForPlace None h (Cancels i) = Unit {0}
IsForPlace None h (Settled i) = Unit {0}
IsForPlace _ h _ = ⊥

-- the change is that of the ingest, which may follow the list
pub record IsForIngest (c : IngestChange) (m : ℕ) (name : Bytes) (come : Incoming) (h : History) : Type 0 where
  pub legal : IsLegal (entry_of m (Ingest name come) ∷ h)
  pub parts : IsForParts c.parts m (Ingest name come) h
  pub dues : IsForDues c.dues h (entry_of m (Ingest name come) ∷ h)
  pub wires : IsForWires c.wires h (entry_of m (Ingest name come) ∷ h)
  pub place : IsForPlace c.place h (effect h name come m)

-- ---- any act

abbrev pub HasMemoryFor : Newsroom → Change → Type 0
HasMemoryFor n (change.Request c) = HasRequestRoom n c
HasMemoryFor n (change.Ingest c) = HasIngestRoom n c

-- the memory for the change is there
pub record HasMemory (n : Newsroom) (c : Change) : Type 0 where
  pub room : HasMemoryFor n c

abbrev pub IsForAct : Change → ℕ → Act → History → Type 0
IsForAct (change.Request c) m (Request caller number command) h = IsForRequest c m caller number command h
IsForAct (change.Ingest c) m (Ingest name come) h = IsForIngest c m name come h
IsForAct _ m _ h = ⊥

-- the change is that of the entry, which may follow the list
pub record IsFor (c : Change) (e : Entry) (h : History) : Type 0 where
  pub act : IsForAct c e.moment e.act h

-- what is said of a change, if there is one
abbrev pub IfChange : Prepared → (Change → Type 0) → Type 0
IfChange (prepared.Change c) P = P c
IfChange _ P = Unit {0}

-- the answer is the outcome's: want of memory may come in place of any
abbrev pub Decides : Outcome Answered → Outcome Answered → Prepared → Type 0
Decides outcome done (prepared.Change c) = outcome ≡ done
Decides outcome done (prepared.Repeat reply) = outcome ≡ record { answer = Repeat reply; more = None }
Decides outcome done (prepared.Denied denial) = outcome ≡ refused denial
Decides outcome done (prepared.Settled reply) = outcome ≡ record { answer = Done reply; more = None }
Decides outcome done prepared.Memory = Unit {0}

-- what is prepared for an act at a moment is its outcome
abbrev pub Prepares : History → ℕ → Act → Prepared → Type 0
Prepares h m (Request caller number command) result = Decides (request_at h caller number command m) (kept h m (Request caller number command)) result
Prepares h m (Ingest name come) result = Decides (ingest_at h name come m) (kept h m (Ingest name come)) result
Prepares h m _ result = ⊥
