use Rattle.std.proofs.Common.{◌≡◌, length, take}
use Rattle.feed_links.proofs.Lines.{NoLineFeed}
use Rattle.feed_links.proofs.tcp_link.read_line.Given as goal

abbrev pub invariant-loop-length : goal.invariant-loop-length
invariant-loop-length g l = record { long : length l.into ≡ 128; none : NoLineFeed (take l.length l.into) }
