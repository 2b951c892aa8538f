use Rattle.std.proofs.Common.{rules, ap, ◌∙◌}
use Rattle.std.specs.Prelude.{nat_le, nat_lt}
use Rattle.std.proofs.lemmas.List.Sorted.{IsPartitionedBy-leb, IsPartitionedBy-ltb, IsPartitionPoint-from_clause}
use Rattle.publish_queue.specs.declared.release.Awaited.{Awaited}
use Rattle.publish_queue.specs.Rows.{awaited_moment, live}
use Rattle.publish_queue.proofs.Order.{moment_of, rising_by_index}
use Rattle.publish_queue.proofs.Marking.{marks, live_marks, rising_marks}
use Rattle.publish_queue.proofs.waiting.WaitingList.remove.Goals as goal

pub returns-clause-releases : goal.returns-clause-releases
returns-clause-releases c =
    let ws = c.args.self.now.releases.items in
    let up = rising_by_index ws c.args.self.now.rising in
    let start = IsPartitionPoint-from_clause (λ (q : Awaited). nat_lt (awaited_moment q) c.args.first) ws _ c.partition_point-from.ensures.partitioned (IsPartitionedBy-ltb moment_of ws c.args.first up) (λ a r q k. search rules) in
    let end = IsPartitionPoint-from_clause (λ (q : Awaited). nat_le (awaited_moment q) c.args.last) ws _ c.partition_point-to.ensures.partitioned (IsPartitionedBy-leb moment_of ws c.args.last up) (λ a r q k. search rules) in
    let are = marks c.args.numbers.now c.args.first c.args.last _ _ ws _ c.mark_between.ensures.marked start.0 start.1 end.0 end.1 in
    c.pass_over.ensures.live ∙ ap live are ∙ live_marks c.args.numbers.now c.args.first c.args.last ws

pub invariant_of-self : goal.invariant_of-self
invariant_of-self c =
    let ws = c.args.self.now.releases.items in
    let up = rising_by_index ws c.args.self.now.rising in
    let start = IsPartitionPoint-from_clause (λ (q : Awaited). nat_lt (awaited_moment q) c.args.first) ws _ c.partition_point-from.ensures.partitioned (IsPartitionedBy-ltb moment_of ws c.args.first up) (λ a r q k. search rules) in
    let end = IsPartitionPoint-from_clause (λ (q : Awaited). nat_le (awaited_moment q) c.args.last) ws _ c.partition_point-to.ensures.partitioned (IsPartitionedBy-leb moment_of ws c.args.last up) (λ a r q k. search rules) in
    let are = marks c.args.numbers.now c.args.first c.args.last _ _ ws _ c.mark_between.ensures.marked start.0 start.1 end.0 end.1 in
    record {
      rising = c.pass_over.ensures.rising (rw are (rising_marks c.args.numbers.now c.args.first c.args.last ws c.args.self.now.rising));
      live = c.pass_over.ensures.begins;
    }
