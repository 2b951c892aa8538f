use Rattle.std.proofs.Common.{rules, arith, ◌≡◌, ◌+◌, ◌-◌, length, map, ◌∙◌, drop}
use Rattle.std.specs.Prelude.{nat_le, nat_lt}
use Rattle.std.proofs.lemmas.List.Sorted.{IsPartitionedBy-leb, IsPartitionedBy-ltb, IsPartitionPoint-from_clause, IsNonDecreasingBy-take, IsNonDecreasingBy-drop}
use Rattle.publish_queue.specs.Keeps.{moment_of}
use Rattle.publish_queue.proofs.Found.{rises, span_read, told}
use Rattle.publish_queue.proofs.row.Row.entry.Goals as goal

pub returns-in_err-at-clause-found : goal.returns-in_err-at-clause-found
returns-in_err-at-clause-found c ds are up =
    let release = c.args.release in
    let first = c.partition_point-first.result in
    let count = c.partition_point-count.result in
    let one : c.deref.result.now ≡ map moment_of ds = c.deref.ensures.value ∙ are.releases in
    let two : c.deref-2.result.now ≡ map moment_of ds = c.deref-2.ensures.value ∙ are.releases in
    let some = length c.deref-2.result.now - first in
    let part_rises = IsNonDecreasingBy-take (λ r. r) some (drop first c.deref-2.result.now) (IsNonDecreasingBy-drop (λ r. r) first c.deref-2.result.now (rises ds up c.deref-2.result.now two)) in
    let low = IsPartitionPoint-from_clause (λ r. nat_lt r release) _ _ c.partition_point-first.ensures.partitioned (IsPartitionedBy-ltb (λ r. r) _ release (rises ds up c.deref.result.now one)) (λ a r q k. search rules) in
    let high = IsPartitionPoint-from_clause (λ r. nat_le r release) _ _ c.partition_point-count.ensures.partitioned (IsPartitionedBy-leb (λ r. r) _ release part_rises) (λ a r q k. search rules) in
    let span = span_read (map moment_of ds) _ _ release first count one two c.partition_point-first.ensures.bound c.partition_point-count.ensures.bound low high in
    let is = told ds up c.args.number release first count span c.deref-3.result.now ((first + count) - first) c.binary_search.result c.ok.result (c.deref-3.ensures.value ∙ are.numbers) (omega arith) c.ok.ensures.value c.binary_search.ensures.position in
    rw c.from_residual.ensures (rw c.in_err-at.was at is)

pub returns-clause-found : goal.returns-clause-found
returns-clause-found c ds are up =
    let release = c.args.release in
    let first = c.partition_point-first.result in
    let count = c.partition_point-count.result in
    let one : c.deref.result.now ≡ map moment_of ds = c.deref.ensures.value ∙ are.releases in
    let two : c.deref-2.result.now ≡ map moment_of ds = c.deref-2.ensures.value ∙ are.releases in
    let some = length c.deref-2.result.now - first in
    let part_rises = IsNonDecreasingBy-take (λ r. r) some (drop first c.deref-2.result.now) (IsNonDecreasingBy-drop (λ r. r) first c.deref-2.result.now (rises ds up c.deref-2.result.now two)) in
    let low = IsPartitionPoint-from_clause (λ r. nat_lt r release) _ _ c.partition_point-first.ensures.partitioned (IsPartitionedBy-ltb (λ r. r) _ release (rises ds up c.deref.result.now one)) (λ a r q k. search rules) in
    let high = IsPartitionPoint-from_clause (λ r. nat_le r release) _ _ c.partition_point-count.ensures.partitioned (IsPartitionedBy-leb (λ r. r) _ release part_rises) (λ a r q k. search rules) in
    let span = span_read (map moment_of ds) _ _ release first count one two c.partition_point-first.ensures.bound c.partition_point-count.ensures.bound low high in
    let is = told ds up c.args.number release first count span c.deref-3.result.now ((first + count) - first) c.binary_search.result c.ok.result (c.deref-3.ensures.value ∙ are.numbers) (omega arith) c.ok.ensures.value c.binary_search.ensures.position in
    rw c.in_ok-at.was at is
