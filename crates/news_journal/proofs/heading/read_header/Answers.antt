use Rattle.std.proofs.Common.{◌≡◌, sym, ◌∙◌, arith, None}
use Rattle.news_journal.specs.Damage.{header_damage}
use Rattle.news_journal.proofs.Forms.{whole}
use Rattle.news_journal.proofs.heading.read_header.Goals as goal

pub whole-requires : goal.whole-requires
whole-requires c =
    let fits : header_damage c.args.bytes.now ≡ None = sym c.damage_of_header.ensures ∙ c.in_default.is in
    let enough = whole c.args.bytes.now fits in
    omega (arith, enough, c.requires)

pub header_in-requires-clause-size : goal.header_in-requires-clause-size
header_in-requires-clause-size c =
    let fits : header_damage c.args.bytes.now ≡ None = sym c.damage_of_header.ensures ∙ c.in_default.is in
    let enough = whole c.args.bytes.now fits in
    omega (arith, enough, c.requires)
