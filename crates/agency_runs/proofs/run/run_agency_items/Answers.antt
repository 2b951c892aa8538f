use Rattle.std.proofs.Common.{[], refl, sym, ◌∙◌, subst, rules, arith}
use Rattle.std.proofs.lemmas.List.{take_all}
use Rattle.line_run.specs.Status.{IsRun, CrashLeaves}
use Rattle.line_run.proofs.Along.{run_alone, crash_alone}
use Rattle.agency_items.specs.Items.{items}
use Rattle.agency_runs.specs.Members.{of_read, no_item}
use Rattle.wire_run.specs.Reading.{ENOUGH}
use Rattle.agency_runs.proofs.run.run_agency_items.Goals as goal

pub run_members-requires-clause-stands : goal.run_members-requires-clause-stands
run_members-requires-clause-stands g c =
    let at = c.requires.stands in
    (record { shelf = at.0; name = _ }, (at.1.0, (refl, at.1.1)))

pub run_members-requires-clause-begins : goal.run_members-requires-clause-begins
run_members-requires-clause-begins g c = c.new-kept.ensures.items ∙ sym (take_all ENOUGH [] (omega arith))

pub returns-clause-run : goal.returns-clause-run
returns-clause-run g c = λ shelf h stands.
    let run = c.run_members.ensures.run (record { shelf = shelf; name = _ }) h (refl, stands) in
    let crash = c.run_members.ensures.crash (record { shelf = shelf; name = _ }) h (refl, stands) in
    let same = crash.stands.0 in
    subst (λ (r : g.row.A.Denot). IsRun (of_read (g.A.Ingesting.meaning shelf)) (g.A.Ingesting.life shelf) g.A.Ingesting.faults g.S.Source.source g.O.Sink.sink no_item items c.args.most c.args.input.now c.run_members.new.input c.args.desk.now r c.args.output.now c.run_members.new.output h c.run_members.result)
    (search rules) (run_alone _ _ _ _ _ _ _ _ _ _ _ _ _ _ _ _ h _ run)

pub returns-clause-crash : goal.returns-clause-crash
returns-clause-crash g c = λ shelf h stands.
    let crash = c.run_members.ensures.crash (record { shelf = shelf; name = _ }) h (refl, stands) in
    let same = crash.stands.0 in
    subst (λ (r : g.row.A.Denot). CrashLeaves (g.A.Ingesting.life shelf) c.args.desk.now r h) (search rules) (crash_alone _ _ _ _ _ h crash)

pub returns-clause-complete : goal.returns-clause-complete
returns-clause-complete g c told few reads writes keeper =
    let at = c.requires.stands in
    let crash = c.run_members.ensures.crash (record { shelf = at.0; name = _ }) at.1.0 (refl, at.1.1) in
    let same = crash.stands.0 in
    c.run_members.ensures.complete told few reads writes (λ rose. keeper (search rules))
