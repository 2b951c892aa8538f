use Rattle.std.proofs.Common.{◌≡◌, ◌++◌, ◌-◌, sym, ◌∙◌, ap, subst, List, ℕ, length}
use Rattle.std.specs.Prelude.{replicate, IsTrue}
use Rattle.news_types.specs.Names.{is_name}
use Rattle.news_journal.proofs.Forms.{named}
use Rattle.news_journal.proofs.heading.name_in.Goals as goal

pub unreachable-requires : goal.unreachable-requires
unreachable-requires c =
    let count = c.count_before_zero.ensures in
    let is = named c.args.bytes.now _ c.requires count.within count.before count.zero in
    absurd (cc (c.in-None.is, c.name_of.ensures (subst (λ (l : List ℕ). IsTrue (is_name l)) (sym is) c.requires.form)))

pub returns : goal.returns
returns c =
    let count = c.count_before_zero.ensures in
    let is = named c.args.bytes.now _ c.requires count.within count.before count.zero in
    let read = c.name_of.ensures (subst (λ (l : List ℕ). IsTrue (is_name l)) (sym is) c.requires.form) in
    let same : c.in-Some.name ≡ c.requires.name = cc (c.in-Some.is, read, is) in
    c.requires.is ∙ ap (λ (l : List ℕ). l ++ replicate (32 - length l) 0) (sym same)
