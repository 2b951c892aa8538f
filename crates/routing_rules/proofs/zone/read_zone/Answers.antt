use Rattle.std.proofs.Common.{ap, ◌∙◌, option_map}
use Rattle.jiff.specs.ZoneView.{plain_zone}
use Rattle.jiff_tz.specs.Zone.{offset_at}
use Rattle.jiff_tz.specs.PosixReader.{read_whole}
use Rattle.news_types.specs.Clock.{or_rule, fixed_of}
use Rattle.routing_rules.proofs.ZoneRules.{posix_offset}
use Rattle.routing_rules.proofs.zone.read_zone.Goals as goal

pub returns-in-None : goal.returns-in-None
returns-in-None c n =
    ap (option_map (λ zone. offset_at (plain_zone zone) n)) c.ok.ensures.value
    ∙ posix_offset c.posix.result c.args.text.now n c.posix.ensures.succeeds c.posix.ensures.value
    ∙ ap (λ o. or_rule o (read_whole c.args.text.now) n) (c.in-None.ensures.value ∙ ap fixed_of c.as_bytes.ensures.value)
