use Rattle.products.proofs.Changed.{if_ok_map}
use Rattle.rule_tables.proofs.rules.Rules.due_list.Goals as goal

pub returns : goal.returns
returns c = if_ok_map c.due_list.result _ _ (λ names due h ps i release keeps earlier. due h ps i release (record { table = keeps.products; rules = keeps.filters }) earlier) c.due_list.ensures
