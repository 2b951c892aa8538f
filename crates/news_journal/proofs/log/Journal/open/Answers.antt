use Rattle.std.proofs.Common.{◌∙◌, refl, List, sym, subst, ap}
use Rattle.news_io.specs.declared.record.Record.{Record}
use Rattle.news_journal.specs.Stands.{Logs}
use Rattle.news_journal.specs.Opened.{payloads}
use Rattle.news_journal.specs.Law.{list_is}
use Rattle.news_journal.proofs.Standing.{opened_logs}
use Rattle.news_journal.proofs.log.Journal.open.Goals as goal

pub returns-in-Ok-clause-tells : goal.returns-in-Ok-clause-tells
returns-in-Ok-clause-tells g c = λ told.
    let read = c.in-Ok.ensures in
    let still = read.still told in
    let j = c.at_gate.ensures in
    let logs = opened_logs g.D.Disk.disk c.at_gate.result _ _ _ j.disk (j.head ∙ read.head told) j.gate j.ajar (g.D.Disk.disk.seen c.args.disk) c.in-Ok.log.records.items (still.told told) refl (read.reads told) still.seen_same (read.durable told) read.small in
    subst (Logs g.D.Disk.disk c.at_gate.result) (sym (list_is _ c.at_gate.result _ logs)) logs

pub returns-in-Ok-clause-list : goal.returns-in-Ok-clause-list
returns-in-Ok-clause-list g c = λ told.
    let read = c.in-Ok.ensures in
    let still = read.still told in
    let j = c.at_gate.ensures in
    let logs = opened_logs g.D.Disk.disk c.at_gate.result _ _ _ j.disk (j.head ∙ read.head told) j.gate j.ajar (g.D.Disk.disk.seen c.args.disk) c.in-Ok.log.records.items (still.told told) refl (read.reads told) still.seen_same (read.durable told) read.small in
    list_is _ c.at_gate.result _ logs ∙ ap (λ (rs : List Record). payloads rs) (sym c.of.ensures)
