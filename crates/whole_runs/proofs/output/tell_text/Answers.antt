use Rattle.std.proofs.Common.{inl, inr, take, drop, sym}
use Rattle.std.proofs.lemmas.List.{take-append-drop}
use Rattle.whole_runs.proofs.output.tell_text.Goals as goal

pub returns-in-Ok : goal.returns-in-Ok
returns-in-Ok g c =
    let e = c.in-Ok.ensures in
    inl (c.number.ensures, record { wrote = record { told = e.told; bytes = e.ok }; passed = e.passed; calm = e.count.calm })

pub returns-in-Err : goal.returns-in-Err
returns-in-Err g c =
    let e = c.in-Err.ensures in
    let text = c.args.text.now in
    inr (inl (
      c.number-in-Err.ensures,
      record {
        front = take e.err.0 text;
        first = (drop e.err.0 text, sym (take-append-drop e.err.0 text));
        wrote = record { told = e.told; bytes = e.err.2 };
        rose = e.count.failed;
      },
    ))
