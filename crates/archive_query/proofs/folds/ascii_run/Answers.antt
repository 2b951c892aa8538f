use Rattle.std.proofs.lemmas.Simd.{run_in_chunk_le}
use Rattle.memchr.proofs.lemmas.LaneLemmas.{is_set}
use Rattle.archive_query.proofs.Lanes.{run_counted, run_ascii}
use Rattle.archive_query.proofs.folds.ascii_run.Goals as goal

pub returns : goal.returns
returns c =
    let text = c.args.text.now in
    let at = c.args.at in
    let counted = run_counted text at c.lowest_bit.result c.requires c.lowest_bit.ensures in
    record {
      within = run_in_chunk_le is_set text at 32 c.lowest_bit.result 0 c.requires counted;
      ascii = run_ascii text at c.lowest_bit.result c.requires counted;
    }
