use Rattle.std.proofs.Common.{Ok, Err, inl, sym, ◌∙◌, ap, subst}
use Rattle.run_status.specs.Status.{number_of, line_of}
use Rattle.run_status.specs.declared.status.Status.{Status}
use Rattle.run_status.specs.Output.{Told}
use Rattle.run_status.proofs.Tellings.{told_none}
use Rattle.line_run.proofs.Ended.{rose_later}
use Rattle.frame_run.specs.Status.{status_by, IsComplete}
use Rattle.frame_run.proofs.Ended.{told_passed, not_done}
use Rattle.standby_files.proofs.Ended.{leaves_ran, completes, ran_tells}
use Rattle.standby_files.proofs.run.run_records.Goals as goal

pub returns-in-Ok-clause-run : goal.returns-in-Ok-clause-run
returns-in-Ok-clause-run g c = λ b h. record {
  result = Ok tt;
  status_is = c.number.ensures;
  mid = c.answer_records.new.output;
  ran = c.in-Ok.ensures.ran b h;
  ends = c.in-Ok.ensures.ends;
  line = told_none g.O.Sink.sink c.answer_records.new.output;
  passed = λ t. inl (c.in-Ok.ensures.passed b h t tt);
  done = λ zero t. c.in-Ok.ensures.passed b h t tt;
}

pub returns-in-Ok-clause-crash : goal.returns-in-Ok-clause-crash
returns-in-Ok-clause-crash g c = λ b h told. leaves_ran g.K.Keeper.keeper _ _ b h told g.S.Source.source g.O.Sink.sink c.args.most _ _ _ _ _ (c.in-Ok.ensures.ran b h)

pub returns-in-Ok-clause-complete : goal.returns-in-Ok-clause-complete
returns-in-Ok-clause-complete g c = λ b h t short records all fits nf nc nk. inl c.number.ensures

pub returns-in-Err-clause-run : goal.returns-in-Err-clause-run
returns-in-Err-clause-run g c = λ b h.
    let ran = c.in-Err.ensures.ran b h in
    let line : Told g.O.Sink.sink c.answer_records.new.output c.tell_status.new.output (line_of (status_by c.in-Err.why)) =
    subst (λ (s : Status). Told g.O.Sink.sink c.answer_records.new.output c.tell_status.new.output (line_of s)) c.from.ensures c.tell_status.ensures.told in
    record {
      result = Err c.in-Err.why;
      status_is = c.tell_status.ensures.number ∙ ap number_of c.from.ensures;
      mid = c.answer_records.new.output;
      ran = ran;
      ends = c.in-Err.ensures.ends;
      line = line;
      passed = told_passed g.O.Sink.sink _ _ _ _ c.args.output.now c.answer_records.new.output c.tell_status.new.output c.in-Err.why
          (ran_tells g.O.Sink.sink g.K.Keeper.keeper c.args.most _ _ c.args.output.now c.answer_records.new.output b ran.read ran.more (Err c.in-Err.why) ran.did) c.in-Err.ensures.ends line;
      done = λ zero. absurd (not_done c.in-Err.why (sym (c.tell_status.ensures.number ∙ ap number_of c.from.ensures) ∙ zero));
    }

pub returns-in-Err-clause-crash : goal.returns-in-Err-clause-crash
returns-in-Err-clause-crash g c = λ b h told. leaves_ran g.K.Keeper.keeper _ _ b h told g.S.Source.source g.O.Sink.sink c.args.most _ _ _ _ _ (c.in-Err.ensures.ran b h)

pub returns-in-Err-clause-complete : goal.returns-in-Err-clause-complete
returns-in-Err-clause-complete g c = λ b h t short records all fits nf nc nk.
    subst IsComplete (sym (c.tell_status.ensures.number ∙ ap number_of c.from.ensures))
    (completes g.K.Keeper.keeper g.S.Source.source g.O.Sink.sink c.args.most _ _ _ _ _ _ b _ _ _ _ _ _ c.in-Err.why records (c.in-Err.ensures.ran b h) c.in-Err.ensures.ends t short all fits nf
    (λ rose. nc (rose_later _ _ _ rose c.tell_status.ensures.told.later)) nk)
