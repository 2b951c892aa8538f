-- The zones of rules, once they were read.
use Rattle.std.specs.Prelude.{◌≡◌, ℤ, List, Some}
use Rattle.std.specs.List.{AllZip}
use Rattle.jiff.specs.declared.tz.timezone.TimeZone.{TimeZone}
use Rattle.jiff.specs.ZoneView.{plain_zone}
use Rattle.jiff_tz.specs.Zone.{offset_at}
use Rattle.news_types.specs.declared.rules.Rule.{Rule}
use Rattle.news_types.specs.Clock.{zone_offset}
use Rattle.news_types.specs.Names.{Bytes}

-- the text names the zone: at every instant the zone has the offset that the text says
pub record NamesZone (text : Bytes) (zone : TimeZone) : Type 0 where
  pub offset : (n : ℤ) → zone_offset text n ≡ Some (offset_at (plain_zone zone) n)

-- beside each rule stands the zone that it names
abbrev pub AreZonesOf : List Rule → List TimeZone → Type 0
AreZonesOf rules zones = AllZip (λ rule zone. NamesZone rule.zone zone) rules zones
