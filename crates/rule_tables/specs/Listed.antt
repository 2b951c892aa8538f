-- Things of the newsroom that are told by their names.
use Rattle.std.specs.Prelude.{Option}
use Rattle.news_types.specs.Names.{Bytes}
use Rattle.news_types.specs.Routing.{Provider}

-- a provider with this scheme, or with none
abbrev pub provider_of : Option Bytes → Provider
provider_of scheme = record { scheme = scheme }
