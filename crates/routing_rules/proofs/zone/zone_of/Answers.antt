use Rattle.std.specs.Prelude.{pos}
use Rattle.std.proofs.Common.{sym, ap, ◌∙◌, is_some}
use Rattle.std.proofs.lemmas.Bool.{false≢true}
use Rattle.jiff_tz.specs.PosixReader.{read_whole}
use Rattle.news_types.specs.Clock.{fixed_of}
use Rattle.routing_rules.proofs.ZoneRules.{zone_there}
use Rattle.routing_rules.proofs.zone.zone_of.Goals as goal

pub unreachable-requires : goal.unreachable-requires
unreachable-requires c =
    let there = zone_there c.read_zone.result (fixed_of c.args.text.now) (read_whole c.args.text.now) (pos 0) _ (c.read_zone.ensures (pos 0)) in
    false≢true (sym (ap is_some c.in-None.is) ∙ there ∙ c.requires)
