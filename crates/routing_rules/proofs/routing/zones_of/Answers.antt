use Rattle.std.proofs.Common.{◌≡◌, ◌+◌, ◌++◌, ◌∷◌, [], take, true, sym, ap, ◌∙◌}
use Rattle.std.proofs.lemmas.Bool.{and_parts}
use Rattle.std.proofs.lemmas.List.{take_more}
use Rattle.std.proofs.lemmas.List.Sums.{AllPass-from_list_all}
use Rattle.std.proofs.lemmas.Slice.Zip.{all_zipped_more}
use Rattle.news_types.specs.Routing as said
use Rattle.routing_rules.proofs.routing.zones_of.Goals as goal

pub zone_of-zone-requires : goal.zone_of-zone-requires
zone_of-zone-requires c =
    let good : said.is_rule c.rule-item.result ≡ true =
    ap said.is_rule c.rule-item.is ∙ AllPass-from_list_all said.is_rule c.args.rules.now c.requires c.loop-rule.rule-index c.rule-item.result c.loop-rule-test.true in
    rw c.as_str.ensures (and_parts _ _ good).1

pub loop-rule-preserved : goal.loop-rule-preserved
loop-rule-preserved c =
    let front = take c.loop-rule.rule-index c.args.rules.now in
    let more : take (c.loop-rule.rule-index + 1) c.args.rules.now ≡ front ++ c.rule-item.result ∷ [] =
    take_more c.args.rules.now c.loop-rule.rule-index c.rule-item.result c.loop-rule-test.true ∙ ap (λ rule. front ++ rule ∷ []) (sym c.rule-item.is) in
    rw (more, c.in_ok-push.ensures.items) (all_zipped_more _ _ _ c.rule-item.result c.zone_of-zone.result c.loop-rule.invariant (rw c.as_str.ensures at c.zone_of-zone.ensures))
