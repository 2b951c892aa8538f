-- The row of a thing, by its kind.
use Rattle.std.proofs.Common.{◌≡◌, IfOk, Result, sym, ap, ◌∙◌}
use Rattle.std.proofs.lemmas.Result.{IfOk-weaker}
use Rattle.serde_json.specs.Data.{Members}
use Rattle.news_types.specs.Names.{Bytes}
use Rattle.news_types.specs.History.{History}
use Rattle.rule_tables.specs.declared.rules.Rules.{Rules}
use Rattle.rule_tables.specs.Keeps.{KeepsRules}
use Rattle.told_objects.specs.declared.object.Object.{Object}
use Rattle.told_objects.specs.Seen.{seen}
use Rattle.desk_views.specs.declared.question.Register.{Register}
use Rattle.desk_questions.specs.Things.{thing_row}

-- the row is that of the list whose facts the rules keep
abbrev pub IsRow : {E : Type 0} → Rules → (History → Members) → Result Object E → Type 0
IsRow rules row r = IfOk r (λ told. (h : History) → KeepsRules rules h → seen told ≡ row h)

pub row_of_kind : {E : Type 0} (rules : Rules) (name : Bytes) (r : Result Object E) (of kind : Register) → of ≡ kind → IsRow rules (λ h. thing_row h kind name) r → IsRow rules (λ h. thing_row h of name) r
row_of_kind rules name r of kind is =
    IfOk-weaker r
    (λ (told : Object). (h : History) → KeepsRules rules h → seen told ≡ thing_row h kind name)
    (λ (told : Object). (h : History) → KeepsRules rules h → seen told ≡ thing_row h of name)
    (λ told says h keeps. says h keeps ∙ sym (ap (λ (k : Register). thing_row h k name) is))
