use Rattle.std.proofs.Common.{rules, ◌-◌, ℕ, length, sym, ap, ◌∙◌, take, drop, arith, length-drop}
use Rattle.std.specs.Prelude.{nat_le}
use Rattle.std.proofs.lemmas.List.{take_all}
use Rattle.std.proofs.lemmas.List.Sorted.{IsPartitionedBy-leb, IsPartitionPoint-from_clause}
use Rattle.desk_questions.proofs.Numbers.{above_point}
use Rattle.desk_questions.proofs.published.page.Goals as goal

pub returns : goal.returns
returns c = λ rises.
    let numbers = c.args.numbers.now in
    let after = c.args.after in
    let first = c.partition_point-first.result in
    let point = IsPartitionPoint-from_clause (λ (n : ℕ). nat_le n after) numbers _ c.partition_point-first.ensures.partitioned
    (IsPartitionedBy-leb (λ (n : ℕ). n) numbers after rises) (λ a r q k. search rules) in
    c.first_rows.ensures
    ∙ ap (take 100) (take_all (length numbers - first) (drop first numbers) (omega (arith, length-drop first numbers)) ∙ sym (above_point after numbers first point.0 point.1))
