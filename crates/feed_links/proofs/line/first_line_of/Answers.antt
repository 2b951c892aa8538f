use Rattle.feed_links.proofs.Lines.{at_feed, at_end}
use Rattle.feed_links.proofs.line.first_line_of.Goals as goal

pub returns-in-Some-clause-line : goal.returns-in-Some-clause-line
returns-in-Some-clause-line c = (at_feed c.args.bytes.now c.in-Some.at c.in-Some.ensures).line

pub returns-in-Some-clause-reply : goal.returns-in-Some-clause-reply
returns-in-Some-clause-reply c = (at_feed c.args.bytes.now c.in-Some.at c.in-Some.ensures).reply

pub returns-in-None-clause-line : goal.returns-in-None-clause-line
returns-in-None-clause-line c = (at_end c.args.bytes.now c.in-None.ensures).line

pub returns-in-None-clause-reply : goal.returns-in-None-clause-reply
returns-in-None-clause-reply c = (at_end c.args.bytes.now c.in-None.ensures).reply
