-- What follows where `stand-in` was called on files that hold what the store's standby finds.
use Rattle.std.proofs.Common.{◌≡◌, inl, inr, ℕ, ◌+◌, true, List, length, sym, subst}
use Rattle.news_types.specs.Names.{Bytes}
use Rattle.news_io.specs.Disk.{DiskMeaning}
use Rattle.news_io.specs.Faults.{Rose}
use Rattle.news_io.specs.Sink.{SinkMeaning}
use Rattle.news_io.specs.Source.{SourceMeaning}
use Rattle.news_pair.specs.Keeper.{pair_of}
use Rattle.news_pair.specs.Stands.{log_disk, side_disk}
use Rattle.news_pair.specs.declared.pair.Pair.{Pair}
use Rattle.standby_files.specs.Opening.{Gives}
use Rattle.standby_files.specs.StandIn.{IsStandIn}
use Rattle.standby_files.specs.Telling.{IsServed}
use Rattle.standby_files.proofs.Serving.{trouble_served, gives_none, run_served}

module _ {D : Type 0} (disk : DiskMeaning D) where
  -- where the counts of the pairs rise, so do those of the disks
  pub rose_along : (log side log' side' : D) (p q : Pair D) → (pair_of disk).faults p ≡ disk.faults log + disk.faults side → log' ≡ log_disk q → side' ≡ side_disk q
      → Rose ((pair_of disk).faults p) ((pair_of disk).faults q) → Rose (disk.faults log + disk.faults side) (disk.faults log' + disk.faults side')
  rose_along log side log' side' p q calm same same' rose =
      subst (λ (n : ℕ). Rose n (disk.faults log' + disk.faults side')) calm
      (subst (λ (d : D). Rose ((pair_of disk).faults p) (disk.faults d + disk.faults side')) (sym same)
      (subst (λ (d : D). Rose ((pair_of disk).faults p) (disk.faults (log_disk q) + disk.faults d)) (sym same') rose))

module _ {D S O : Type 0} (disk : DiskMeaning D) (source : SourceMeaning S) (sink : SinkMeaning O) (store : Bytes) (long : length store ≡ 16)
    (log log' side side' : D) (i i' : S) (o o' : O) (status : ℕ) (told : disk.tells log) (told' : disk.tells side) (held : List Bytes) (gives : Gives store (disk.seen log) (disk.seen side) held) where
  pub stand_served : IsStandIn disk source sink store log log' side side' i i' o o' status → IsServed (disk.faults log + disk.faults side) (disk.faults log' + disk.faults side') status
  stand_served (inl n) =
      let refused = n.refused in
      let stopped = n.stopped in
      trouble_served (disk.faults log + disk.faults side) (disk.faults log' + disk.faults side') status n.why
      (gives_none store (disk.seen log) (disk.seen side) long held gives n.why (refused.cause told told')) refused.count stopped.status_is
  stand_served (inr h) =
      let r = h.ran true (λ is. (told, told')) in
      run_served _ _ _ _ _ _ (disk.faults log + disk.faults side) (disk.faults log' + disk.faults side') status r.result r.ends
      (rose_along disk log side log' side' h.standby.keeper h.after.keeper h.opened.calm h.same h.same_side) r.status_is
