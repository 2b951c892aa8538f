-- What a pair means as a keeper, by what its disks mean.
use Rattle.std.specs.Prelude.{◌+◌}
use Rattle.news_io.specs.Disk.{DiskMeaning}
use Rattle.news_io.specs.Keeper.{KeeperMeaning}
use Rattle.news_journal.specs.Calls.{append_calls}
use Rattle.news_journal.specs.Stands.{Doubts, list_of}
use Rattle.news_pair.specs.Stands.{pair_list, Pairs, pair_since}
use Rattle.news_pair.specs.Law.{pair_leaves_now}
use Rattle.news_pair.specs.declared.pair.Pair.{Pair}

abbrev pub pair_of : {D : Type 0} → DiskMeaning D → KeeperMeaning (Pair D)
pair_of disk = record {
  label = λ p. p.store;
  faults = λ p. disk.faults p.log.disk + disk.faults p.side;
  calls = λ p. disk.calls p.log.disk + disk.calls p.side;
  most_calls = λ p. append_calls p.log.ajar;
  used = λ p. p.used;
  tells = λ p. Pairs disk p (pair_list disk p);
  list = λ p. pair_list disk p;
  doubts = λ p. Doubts disk p.log (list_of disk p.log);
  moment = λ p. disk.moment p.log.disk;
  left_since = λ p. pair_since disk p.store p.log.disk p.side;
  leaves_now = λ p found pairs left. pair_leaves_now disk p found pairs left;
}
