use Rattle.std.proofs.Common.{refl, subst, rules}
use Rattle.line_run.specs.Status.{IsRun, CrashLeaves}
use Rattle.line_run.proofs.Along.{run_alone, crash_alone}
use Rattle.line_run.proofs.Ended.{unread_run, unread_leaves}
use Rattle.agency_wires.specs.Messages.{messages}
use Rattle.agency_runs.specs.Decided.{decided}
use Rattle.agency_runs.proofs.Ready.{taken_none}
use Rattle.agency_runs.proofs.run.run_agency_wire.Goals as goal

pub returns-in_default-clause-run : goal.returns-in_default-clause-run
returns-in_default-clause-run g c = λ shelf h stands. rw c.tell_status.ensures.number (unread_run _ _ _ _ _ _ _ _ _ _ _ _ h stands c.tell_status.ensures.told)

pub returns-in_default-clause-crash : goal.returns-in_default-clause-crash
returns-in_default-clause-crash g c = λ shelf h stands. unread_leaves _ _ h stands

pub run_members-requires-clause-stands : goal.run_members-requires-clause-stands
run_members-requires-clause-stands g c =
    let at = c.requires.stands in
    (record { shelf = at.0; name = _ }, (at.1.0, (refl, at.1.1)))

pub run_members-requires-clause-begins : goal.run_members-requires-clause-begins
run_members-requires-clause-begins g c = taken_none _ c.in-Ok.ensures.begins.1 c.in-Ok.ensures.begins.0 c.in-Ok.ensures.wire

pub returns-clause-run : goal.returns-clause-run
returns-clause-run g c = λ shelf h stands.
    let run = c.run_members.ensures.run (record { shelf = shelf; name = _ }) h (refl, stands) in
    let crash = c.run_members.ensures.crash (record { shelf = shelf; name = _ }) h (refl, stands) in
    let same = crash.stands.0 in
    subst (λ (r : g.row.A.Denot). IsRun (g.A.Receiving.meaning shelf) (g.A.Receiving.life shelf) g.A.Receiving.faults g.S.Source.source g.O.Sink.sink decided messages c.args.most c.args.input.now c.run_members.new.input c.args.desk.now r c.args.output.now c.run_members.new.output h c.run_members.result)
    (search rules) (run_alone _ _ _ _ _ _ _ _ _ _ _ _ _ _ _ _ h _ run)

pub returns-clause-crash : goal.returns-clause-crash
returns-clause-crash g c = λ shelf h stands.
    let crash = c.run_members.ensures.crash (record { shelf = shelf; name = _ }) h (refl, stands) in
    let same = crash.stands.0 in
    subst (λ (r : g.row.A.Denot). CrashLeaves (g.A.Receiving.life shelf) c.args.desk.now r h) (search rules) (crash_alone _ _ _ _ _ h crash)

pub returns-clause-complete : goal.returns-clause-complete
returns-clause-complete g c told few reads writes keeper =
    let at = c.requires.stands in
    let crash = c.run_members.ensures.crash (record { shelf = at.0; name = _ }) at.1.0 (refl, at.1.1) in
    let same = crash.stands.0 in
    c.run_members.ensures.complete told few reads writes (λ rose. keeper (search rules))
