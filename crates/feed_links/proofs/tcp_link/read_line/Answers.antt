use Rattle.std.proofs.Common.{arith, ◌∙◌}
use Rattle.std.proofs.lemmas.List.{length-set}
use Rattle.feed_links.proofs.Lines.{none_more, none_is_reply}
use Rattle.feed_links.proofs.tcp_link.read_line.Goals as goal

pub loop-length-preserved : goal.loop-length-preserved
loop-length-preserved g c =
    let so_far = c.loop-length.invariant in
    record {
      long = length-set c.loop-length.into c.loop-length.length c.in-Some.byte ∙ so_far.long;
      none = none_more c.loop-length.into c.loop-length.length c.in-Some.byte (omega (arith, so_far.long, c.loop-length-test.true)) so_far.none c.if-byte-eq10.false;
    }

pub returns-clause-reply : goal.returns-clause-reply
returns-clause-reply g c =
    let so_far = c.loop-length.invariant in
    none_is_reply 128 c.loop-length.length c.loop-length.into (omega (arith, so_far.long)) (omega (arith, c.loop-length-test.false)) so_far.none
