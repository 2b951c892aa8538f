-- Which schemes and providers the table keeps, and what changes do to them.
use Rattle.std.specs.Prelude.{◌≡◌, ◌<◌, ℕ, Bool, true, false, List, Option, Some, None, option_map}
use Rattle.std.specs.HashMap.{get, hash_map_len, spare}
use Rattle.news_types.specs.Names.{Bytes, same}
use Rattle.news_types.specs.History.{History}
use Rattle.news_types.specs.declared.rules.Rule.{Rule}
use Rattle.news_types.specs.declared.command.Command.{Command}
use Rattle.news_types.specs.declared.command.Command.TheVariants as command
use Rattle.news_types.specs.Routing.{Provider, scheme, scheme_count, provider, provider_count}
use Rattle.rule_tables.specs.declared.sources.Source.{Source}
use Rattle.rule_tables.specs.declared.sources.Sources.{Sources}
use Rattle.rule_tables.specs.declared.sources.Step.{Step}
use Rattle.rule_tables.specs.declared.sources.Step.TheVariants.{AddScheme, AddProvider, Nothing}
use Rattle.rule_tables.specs.declared.sources.SourceChange.{SourceChange}

abbrev pub source_of : Source → Provider
source_of s = record { scheme = s.scheme }

-- the table keeps these schemes and these providers, of each so many
pub record Keeps (t : Sources) (scheme : Bytes → Option (List Rule)) (schemes : ℕ) (provider : Bytes → Option Provider) (providers : ℕ) : Type 0 where
  pub scheme_of : (name : Bytes) → get same t.schemes name ≡ scheme name
  pub scheme_number : hash_map_len t.schemes ≡ schemes
  pub provider_of : (name : Bytes) → option_map source_of (get same t.providers name) ≡ provider name
  pub provider_number : hash_map_len t.providers ≡ providers

-- those of the list
abbrev pub KeepsFacts : Sources → History → Type 0
KeepsFacts t h = Keeps t (scheme h) (scheme_count h) (provider h) (provider_count h)

-- the command adds a scheme or a provider
abbrev pub is_source_command : Command → Bool
is_source_command (command.AddScheme name rules) = true
is_source_command (command.AddProvider name given) = true
is_source_command _ = false

-- the step is that of the command
abbrev pub IsStep : Step → Command → Type 0
IsStep (AddScheme name routes) given = given ≡ command.AddScheme name routes
IsStep (AddProvider name source) given = given ≡ command.AddProvider name source.scheme
IsStep Nothing given = is_source_command given ≡ false

-- what it adds is not there
abbrev pub IsNew : Command → (Bytes → Option (List Rule)) → (Bytes → Option Provider) → Type 0
IsNew (command.AddScheme name rules) scheme provider = scheme name ≡ None
IsNew (command.AddProvider name given) scheme provider = provider name ≡ None
IsNew _ scheme provider = Unit {0}

-- the change is that of the command, which these facts allow
pub record IsFor (change : SourceChange) (given : Command) (scheme : Bytes → Option (List Rule)) (provider : Bytes → Option Provider) : Type 0 where
  pub step : IsStep change.step given
  pub new : IsNew given scheme provider

-- the tables keep the same
pub record IsAlike (t r : Sources) : Type 0 where
  pub schemes : (name : Bytes) → get same r.schemes name ≡ get same t.schemes name
  pub scheme_number : hash_map_len r.schemes ≡ hash_map_len t.schemes
  pub providers : (name : Bytes) → get same r.providers name ≡ get same t.providers name
  pub provider_number : hash_map_len r.providers ≡ hash_map_len t.providers

-- the table has the memory for the step
abbrev pub HasRoomFor : Sources → Step → Type 0
HasRoomFor t (AddScheme name routes) = 0 < spare t.schemes
HasRoomFor t (AddProvider name source) = 0 < spare t.providers
HasRoomFor t Nothing = Unit {0}

-- the table has the memory for the change
pub record HasRoom (t : Sources) (change : SourceChange) : Type 0 where
  pub room : HasRoomFor t change.step
