use Rattle.command_words.specs.Words.{job_of}
use Rattle.program_run.proofs.Does.{does}
use Rattle.program_run.proofs.Serves.{serves, receives, stands_in, uses_links}
use Rattle.program_run.proofs.run.Goals as goal

pub returns-clause-does : goal.returns-clause-does
returns-clause-does g c = does _ _ _ _ (job_of c.args.words.now) c.run.ensures.does (λ other. c.run.ensures.links (uses_links (job_of c.args.words.now) other))

pub returns-clause-serves : goal.returns-clause-serves
returns-clause-serves g c = serves {D = g.row.D.Denot} {S = g.row.S.Denot} {O = g.row.O.Denot} {C = g.row.C.Denot} {L = g.row.L.Denot}
    (record { disk = g.D.Disk.disk; source = g.S.Source.source; sink = g.O.Sink.sink; clock = g.C.Clock.clock; link = g.L.Link.link })
    (record { log = c.args.log; side = c.args.side; input = c.args.input.now; output = c.args.output.now; clock = c.args.clock.now; links = c.args.links.now.items })
    (record { log = c.run.result.1; side = c.run.result.2; input = c.run.new.input; output = c.run.new.output; clock = c.run.new.clock; links = c.run.new.links.items })
    (job_of c.args.words.now) c.run.result.0 c.run.ensures.serves

pub returns-clause-receives : goal.returns-clause-receives
returns-clause-receives g c = receives {D = g.row.D.Denot} {S = g.row.S.Denot} {O = g.row.O.Denot} {C = g.row.C.Denot} {L = g.row.L.Denot}
    (record { disk = g.D.Disk.disk; source = g.S.Source.source; sink = g.O.Sink.sink; clock = g.C.Clock.clock; link = g.L.Link.link })
    (record { log = c.args.log; side = c.args.side; input = c.args.input.now; output = c.args.output.now; clock = c.args.clock.now; links = c.args.links.now.items })
    (record { log = c.run.result.1; side = c.run.result.2; input = c.run.new.input; output = c.run.new.output; clock = c.run.new.clock; links = c.run.new.links.items })
    (job_of c.args.words.now) c.run.result.0 c.run.ensures.receives

pub returns-clause-stands_in : goal.returns-clause-stands_in
returns-clause-stands_in g c = stands_in {D = g.row.D.Denot} {S = g.row.S.Denot} {O = g.row.O.Denot} {C = g.row.C.Denot} {L = g.row.L.Denot}
    (record { disk = g.D.Disk.disk; source = g.S.Source.source; sink = g.O.Sink.sink; clock = g.C.Clock.clock; link = g.L.Link.link })
    (record { log = c.args.log; side = c.args.side; input = c.args.input.now; output = c.args.output.now; clock = c.args.clock.now; links = c.args.links.now.items })
    (record { log = c.run.result.1; side = c.run.result.2; input = c.run.new.input; output = c.run.new.output; clock = c.run.new.clock; links = c.run.new.links.items })
    (job_of c.args.words.now) c.run.result.0 c.run.ensures.stands_in

pub returns-clause-links : goal.returns-clause-links
returns-clause-links g c other = c.run.ensures.links (uses_links (job_of c.args.words.now) other)
