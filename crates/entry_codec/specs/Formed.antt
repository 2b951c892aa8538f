-- What every entry of a program is, whatever its size: names are names, texts are UTF-8, and numbers have their width.
use Rattle.std.specs.Prelude.{◌<◌, ◌^◌, All, IsUtf8}
use Rattle.news_types.specs.declared.story.Story.{Story}
use Rattle.news_types.specs.declared.story.Incoming.{Incoming}
use Rattle.news_types.specs.declared.rules.Statement.{Statement}
use Rattle.news_types.specs.declared.rules.Place.{Place}
use Rattle.news_types.specs.declared.rules.Rule.{Rule}
use Rattle.news_types.specs.declared.command.Command.{Command}
use Rattle.news_types.specs.declared.command.Command.TheVariants.{AddUser, SetUser, AddDesk, AddStage, SetMember, AddCondition, AddFilter, SetFilter, SetBlock, AddProduct, SetProduct, AddSubscriber, SetSubscriber, Resume, AddScheme, AddProvider, Create, Flash, Lock, Unlock, BreakLock, Edit, MoveTo, Spike, Unspike, Fetch, Publish, Correct, Kill, Recall, Deschedule, Stop}
use Rattle.news_types.specs.declared.entry.Act.{Act}
use Rattle.news_types.specs.declared.entry.Act.TheVariants.{Advance, Attempt, Receipt, Halt, Ingest, Request}
use Rattle.news_types.specs.declared.entry.Entry.{Entry}
use Rattle.byte_formats.specs.Spelling.{IsName, IsOption}
use Rattle.entry_codec.specs.Fits.{Fits}

pub record IsFormedPlain (s : Story) : Type 0 where
  pub slugline : IsUtf8 s.slugline
  pub headline : IsUtf8 s.headline
  pub byline : IsUtf8 s.byline
  pub language : IsUtf8 s.language
  pub category : IsUtf8 s.category
  pub body : IsUtf8 s.body

pub record IsFormedStory (s : Story) : Type 0 where
  pub plain : IsFormedPlain s
  pub copyright : IsUtf8 s.copyright

pub record IsFormedIncoming (i : Incoming) : Type 0 where
  pub identity : IsUtf8 i.identity
  pub story : IsFormedStory i.story

pub record IsFormedStatement (s : Statement) : Type 0 where
  pub conditions : All IsName s.conditions
  pub filters : All IsName s.filters

pub record IsFormedPlace (p : Place) : Type 0 where
  pub desk : IsName p.desk
  pub stage : IsName p.stage

pub record IsFormedRule (r : Rule) : Type 0 where
  pub filter : IsOption IsName r.filter
  pub from : r.from < 2 ^ 32
  pub to : r.to < 2 ^ 32
  pub zone : IsUtf8 r.zone
  pub fetch : IsOption IsFormedPlace r.fetch

abbrev pub IsFormedCommand : Command → Type 0
IsFormedCommand (AddUser user privileges) = IsName user
IsFormedCommand (SetUser user privileges) = IsName user
IsFormedCommand (AddDesk desk) = IsName desk
IsFormedCommand (AddStage desk stage) = IsName desk × IsName stage
IsFormedCommand (SetMember desk user member) = IsName desk × IsName user
IsFormedCommand (AddCondition condition field op values) = IsName condition × All IsUtf8 values
IsFormedCommand (AddFilter filter statements) = IsName filter × All IsFormedStatement statements
IsFormedCommand (SetFilter filter statements) = IsName filter × All IsFormedStatement statements
IsFormedCommand (SetBlock filter on) = IsName filter
IsFormedCommand (AddProduct product how filter) = IsName product × IsOption IsName filter
IsFormedCommand (SetProduct product how filter) = IsName product × IsOption IsName filter
IsFormedCommand (AddSubscriber subscriber format products lag) = IsName subscriber × All IsName products
IsFormedCommand (SetSubscriber subscriber active products off lag) = IsName subscriber × All IsName products × All IsName off
IsFormedCommand (Resume subscriber) = IsName subscriber
IsFormedCommand (AddScheme scheme rules) = IsName scheme × All IsFormedRule rules
IsFormedCommand (AddProvider provider scheme) = IsName provider × IsOption IsName scheme
IsFormedCommand (Create desk told) = IsName desk × IsFormedStory told
IsFormedCommand (Flash told targets) = IsFormedStory told × All IsName targets
IsFormedCommand (Lock item session) = (item < 2 ^ 32) × IsName session
IsFormedCommand (Unlock item session) = (item < 2 ^ 32) × IsName session
IsFormedCommand (BreakLock item) = item < 2 ^ 32
IsFormedCommand (Edit item session told) = (item < 2 ^ 32) × IsName session × IsFormedStory told
IsFormedCommand (MoveTo item desk stage) = (item < 2 ^ 32) × IsName desk × IsName stage
IsFormedCommand (Spike item) = item < 2 ^ 32
IsFormedCommand (Unspike item desk) = (item < 2 ^ 32) × IsName desk
IsFormedCommand (Fetch item desk) = (item < 2 ^ 32) × IsName desk
IsFormedCommand (Publish item session schedule embargo targets) = (item < 2 ^ 32) × IsName session × All IsName targets
IsFormedCommand (Correct item session told) = (item < 2 ^ 32) × IsName session × IsFormedStory told
IsFormedCommand (Kill item session note) = (item < 2 ^ 32) × IsName session × IsUtf8 note
IsFormedCommand (Recall item session note) = (item < 2 ^ 32) × IsName session × IsUtf8 note
IsFormedCommand (Deschedule item) = item < 2 ^ 32
IsFormedCommand Stop = Unit {0}

abbrev pub IsFormedAct : Act → Type 0
IsFormedAct Advance = Unit {0}
IsFormedAct (Attempt subscriber k) = IsName subscriber × (k < 2 ^ 32)
IsFormedAct (Receipt subscriber n) = IsName subscriber × (n < 2 ^ 32)
IsFormedAct Halt = Unit {0}
IsFormedAct (Ingest provider brought) = IsName provider × IsFormedIncoming brought
IsFormedAct (Request caller number asked) = IsName caller × (number < 2 ^ 64) × IsFormedCommand asked

-- an entry that a program can hold, within the limits
pub record IsEntry (e : Entry) : Type 0 where
  pub fits : Fits e
  pub formed : IsFormedAct e.act
