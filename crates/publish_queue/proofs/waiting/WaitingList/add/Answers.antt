use Rattle.std.proofs.Common.{rules, arith}
use Rattle.std.specs.Prelude.{nat_le}
use Rattle.std.proofs.lemmas.List.Sorted.{IsPartitionedBy-leb, IsPartitionPoint-from_clause}
use Rattle.publish_queue.specs.declared.release.Awaited.{Awaited}
use Rattle.publish_queue.specs.Rows.{awaited_moment}
use Rattle.publish_queue.proofs.Order.{moment_of, rising_by_index, live_placed, rising_placed, begins_insert, done}
use Rattle.publish_queue.proofs.waiting.WaitingList.add.Goals as goal

pub returns-clause-releases : goal.returns-clause-releases
returns-clause-releases c =
    let ws = c.args.self.now.releases.items in
    let point = IsPartitionPoint-from_clause (λ (q : Awaited). nat_le (awaited_moment q) c.args.release.moment) ws _ c.partition_point-at.ensures.partitioned
    (IsPartitionedBy-leb moment_of ws c.args.release.moment (rising_by_index ws c.args.self.now.rising)) (λ a r q k. search rules) in
    rw (done c.insert.result c.insert.ensures.items c.insert.ensures.full (omega (arith, c.requires.room)))
    (live_placed _ c.args.release ws _ c.new.ensures.moment c.new.ensures.number c.new.ensures.waits (search rules) point.0 point.1)

pub invariant_of-self : goal.invariant_of-self
invariant_of-self c =
    let ws = c.args.self.now.releases.items in
    let point = IsPartitionPoint-from_clause (λ (q : Awaited). nat_le (awaited_moment q) c.args.release.moment) ws _ c.partition_point-at.ensures.partitioned
    (IsPartitionedBy-leb moment_of ws c.args.release.moment (rising_by_index ws c.args.self.now.rising)) (λ a r q k. search rules) in
    let are = done c.insert.result c.insert.ensures.items c.insert.ensures.full (omega (arith, c.requires.room)) in
    record {
      rising = rw are (rising_placed _ c.args.release.moment ws _ c.new.ensures.moment (search rules) c.args.self.now.rising point.0 point.1);
      live = rw are (begins_insert _ ws _ c.new.ensures.waits c.args.self.now.live);
    }
