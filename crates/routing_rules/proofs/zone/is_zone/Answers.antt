use Rattle.std.specs.Prelude.{pos}
use Rattle.std.proofs.Common.{◌∙◌}
use Rattle.jiff_tz.specs.PosixReader.{read_whole}
use Rattle.news_types.specs.Clock.{fixed_of}
use Rattle.routing_rules.proofs.ZoneRules.{zone_there}
use Rattle.routing_rules.proofs.zone.is_zone.Goals as goal

pub returns : goal.returns
returns c =
    c.is_some.ensures
    ∙ zone_there c.read_zone.result (fixed_of c.args.text.now) (read_whole c.args.text.now) (pos 0) _ (c.read_zone.ensures (pos 0))
