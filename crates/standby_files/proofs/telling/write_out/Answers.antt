use Rattle.standby_files.proofs.Outputs.{written_by, cut_by}
use Rattle.standby_files.proofs.telling.write_out.Goals as goal

pub returns-clause-written : goal.returns-clause-written
returns-clause-written g c = written_by g.O.Sink.sink c.args.output.now c.write_through.new.sink c.args.bytes.now c.write_through.result c.write_through.ensures.told c.write_through.ensures.ok c.write_through.ensures.passed c.write_through.ensures.count

pub returns-clause-cut : goal.returns-clause-cut
returns-clause-cut g c = cut_by g.O.Sink.sink c.args.output.now c.write_through.new.sink c.args.bytes.now c.write_through.result c.write_through.ensures.told c.write_through.ensures.err c.write_through.ensures.count
