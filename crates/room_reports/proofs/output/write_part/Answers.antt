use Rattle.std.proofs.Common.{take, drop, sym}
use Rattle.std.proofs.lemmas.List.{take-append-drop}
use Rattle.room_reports.proofs.output.write_part.Goals as goal

pub returns-in-Err : goal.returns-in-Err
returns-in-Err g c =
    let e = c.in-Err.ensures in
    let lines = c.args.lines.now in
    record {
      front = take e.err.0 lines;
      first = (drop e.err.0 lines, sym (take-append-drop e.err.0 lines));
      wrote = record { told = e.told; bytes = e.err.2 };
      rose = e.count.failed;
    }
