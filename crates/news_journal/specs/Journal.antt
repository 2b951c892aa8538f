-- What a journal means as a keeper, by what its disk means.
use Rattle.std.specs.Prelude.{◌+◌}
use Rattle.news_io.specs.Disk.{DiskMeaning}
use Rattle.news_io.specs.Keeper.{KeeperMeaning}
use Rattle.news_journal.specs.Calls.{append_calls}
use Rattle.news_journal.specs.Log.{owner_in}
use Rattle.news_journal.specs.Stands.{Logs, Doubts, list_of, opened_since}
use Rattle.news_journal.specs.Law.{leaves_now}
use Rattle.news_journal.specs.declared.log.Journal.{Journal}

abbrev pub journal_of : {D : Type 0} → DiskMeaning D → KeeperMeaning (Journal D)
journal_of disk = record {
  label = λ j. owner_in j.head;
  faults = λ j. disk.faults j.disk;
  calls = λ j. disk.calls j.disk;
  most_calls = λ j. append_calls j.ajar;
  used = λ j. j.gate + 1;
  tells = λ j. Logs disk j (list_of disk j);
  list = λ j. list_of disk j;
  doubts = λ j. Doubts disk j (list_of disk j);
  moment = λ j. disk.moment j.disk;
  left_since = λ j. opened_since disk j.head j.disk;
  leaves_now = λ j found logs left. leaves_now disk j found logs left;
}
