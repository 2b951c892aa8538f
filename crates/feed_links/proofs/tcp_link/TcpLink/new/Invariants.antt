use Rattle.std.proofs.Common.{◌≡◌, ◌++◌, map}
use Rattle.news_types.specs.Names.{Bytes}
use Rattle.feed_links.proofs.tcp_link.TcpLink.new.Given as goal

abbrev pub invariant-loop-name : goal.invariant-loop-name
invariant-loop-name g l = l.names.items ++ map (λ (p : Bytes × Bytes). p.0) l.name-iterator.rest.items ≡ map (λ (p : Bytes × Bytes). p.0) l.fn.pairs.items
