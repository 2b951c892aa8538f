-- A device whose failures are told means what it is made of.
use Rattle.news_io.specs.Disk.{DiskMeaning}
use Rattle.news_io.specs.Link.{LinkMeaning}
use Rattle.feed_links.specs.Links.{tcp_link}
use Rattle.spoken_devices.specs.declared.disk.SpokenDisk.{SpokenDisk}
use Rattle.spoken_devices.specs.declared.link.SpokenLink.{SpokenLink}

abbrev pub spoken_disk : {D R : Type 0} → DiskMeaning D → DiskMeaning (SpokenDisk D R)
spoken_disk disk = record {
  faults = λ w. disk.faults w.inner;
  calls = λ w. disk.calls w.inner;
  tells = λ w. disk.tells w.inner;
  seen = λ w. disk.seen w.inner;
  may_leave = λ w c. disk.may_leave w.inner c;
  moment = λ w. disk.moment w.inner;
  left_since = λ w t c. disk.left_since w.inner t c;
  counts_now = λ w t c le now. disk.counts_now w.inner t c le now;
  leaves_seen = λ w tells. disk.leaves_seen w.inner tells;
  no_longer = λ w c tells left. disk.no_longer w.inner c tells left;
  only_now = λ w c left. disk.only_now w.inner c left;
}

abbrev pub spoken_link : {R : Type 0} → LinkMeaning (SpokenLink R)
spoken_link = record {
  faults = λ w. tcp_link.faults w.inner;
  serves = λ w. tcp_link.serves w.inner;
  tells = λ w. tcp_link.tells w.inner;
  sent = λ w. tcp_link.sent w.inner;
  said = λ w. tcp_link.said w.inner;
  step = λ old new p. tcp_link.step old.inner new.inner p;
}
