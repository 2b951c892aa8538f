use Rattle.std.proofs.Common.{◌≡◌, ◌∷◌, sym, ap, subst, ◌∙◌}
use Rattle.std.specs.Prelude.{IfOk}
use Rattle.news_types.specs.declared.words.Kind.{Kind}
use Rattle.news_types.specs.declared.words.Kind.TheVariants as kind
use Rattle.publications.specs.declared.table.Published.{Published}
use Rattle.publications.specs.Steps.{IsFor}
use Rattle.story_tables.specs.declared.issue.Issue.{Issue}
use Rattle.story_tables.specs.Issued.{IsTold, left_by_kind}
use Rattle.story_tables.proofs.follow.prepare_publication.Goals as goal

abbrev row_of : Issue → Published
row_of i = record { item = i.item; version = i.version; kind = i.kind; release = i.release; story = i.story }

abbrev kind_of : Issue → Kind
kind_of i = i.kind

pub returns-in-First-clause-change : goal.returns-in-First-clause-change
returns-in-First-clause-change c ps st p keeps same number_is told =
    let is : p.kind ≡ kind.First = sym (ap kind_of same) ∙ c.in-First.is in
    subst (λ (k : Kind). IfOk c.prepare_first.result (λ change. IsFor change ps st (p ∷ ps) (p ∷ left_by_kind k p st))) (sym is)
    (c.prepare_first.ensures.change ps st p keeps is (ap row_of same) (ap (λ (i : Issue). i.targets) same) number_is (subst (λ (k : Kind). IsTold k p c.args.due.now st) is told))

pub returns-in-Correct-clause-change : goal.returns-in-Correct-clause-change
returns-in-Correct-clause-change c ps st p keeps same number_is told =
    let is : p.kind ≡ kind.Correct = sym (ap kind_of same) ∙ c.in-Correct.is in
    subst (λ (k : Kind). IfOk c.prepare_correction.result (λ change. IsFor change ps st (p ∷ ps) (p ∷ left_by_kind k p st))) (sym is)
    (c.prepare_correction.ensures.change ps st p keeps (ap row_of same) number_is (subst (λ (k : Kind). IsTold k p c.args.due.now st) is told))

pub returns-in-Kill-clause-change : goal.returns-in-Kill-clause-change
returns-in-Kill-clause-change c ps st p keeps same number_is told =
    let is : p.kind ≡ kind.Kill = sym (ap kind_of same) ∙ c.in-Kill.is in
    subst (λ (k : Kind). IfOk c.prepare_taking_back.result (λ change. IsFor change ps st (p ∷ ps) (p ∷ left_by_kind k p st))) (sym is)
    (c.prepare_taking_back.ensures.change ps st p keeps (ap row_of same) number_is (subst (λ (k : Kind). IsTold k p c.args.due.now st) is told))

pub returns-in-Recall-clause-change : goal.returns-in-Recall-clause-change
returns-in-Recall-clause-change c ps st p keeps same number_is told =
    let is : p.kind ≡ kind.Recall = sym (ap kind_of same) ∙ c.in-Recall.is in
    subst (λ (k : Kind). IfOk c.prepare_taking_back-in-Recall.result (λ change. IsFor change ps st (p ∷ ps) (p ∷ left_by_kind k p st))) (sym is)
    (c.prepare_taking_back-in-Recall.ensures.change ps st p keeps (ap row_of same) number_is (subst (λ (k : Kind). IsTold k p c.args.due.now st) is told))
