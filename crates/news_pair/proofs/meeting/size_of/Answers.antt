use Rattle.std.proofs.Common.{arith, ap, length, List, take}
use Rattle.news_types.specs.Names.{Bytes}
use Rattle.news_journal.specs.Log.{records}
use Rattle.news_journal.specs.Opened.{payloads}
use Rattle.news_pair.proofs.Journals.{records_longer}
use Rattle.news_pair.proofs.Rows.{payloads_one_more}
use Rattle.news_pair.proofs.meeting.size_of.Goals as goal

pub loop-record-preserved : goal.loop-record-preserved
loop-record-preserved c =
    let more = ap (λ (l : List Bytes). length (records l)) (payloads_one_more c.args.records.now c.loop-record.record-index c.record-item.result c.loop-record-test.true c.record-item.is) in
    record {
      size = omega (arith, c.loop-record.invariant.size, more, records_longer (payloads (take c.loop-record.record-index c.args.records.now)) c.record-item.result.bytes, ap length c.as_slice.ensures);
      small = omega arith;
    }
