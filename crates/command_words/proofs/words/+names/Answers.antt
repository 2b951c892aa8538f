use Rattle.std.proofs.Common.{◌≡◌, ◌∙◌, false, sym, subst}
use Rattle.news_types.specs.Names.{Bytes, same}
use Rattle.command_words.proofs.Identifiers.{names_on}
use Rattle.command_words.proofs.words.+names.Goals as goal

pub returns-else-eq : goal.returns-else-eq
returns-else-eq t c =
    let other = subst (λ (o : Bytes). same o c.args.name.now ≡ false) c.as_str.ensures (subst (λ (n : Bytes). same c.as_str.result.now n ≡ false) c.as_str-in-len2-up.ensures (sym c.eq.ensures ∙ c.if-eq.false)) in
    c.names.ensures ∙ names_on c.args.pairs.now c.args.name.now c.other-item.result c.in-len2-up.len_at_least c.other-item.is other
