use Rattle.std.proofs.Common.{◌≡◌, ◌∙◌, ◌++◌, [], length, sym, subst, ap, arith}
use Rattle.std.proofs.lemmas.List.{append-nil}
use Rattle.news_journal.specs.Log.{header_bytes}
use Rattle.news_journal.specs.Stands.{Logs}
use Rattle.news_journal.specs.Law.{list_is}
use Rattle.news_io.specs.Disk.{LeavesOnly}
use Rattle.news_io.proofs.Runs.{started, goes_on}
use Rattle.news_journal.specs.Created.{IsInTheMaking}
use Rattle.news_journal.proofs.Made.{made_shut, empty_making}
use Rattle.news_journal.proofs.Standing.{closed_logs}
use Rattle.news_journal.proofs.log.Journal.create.Goals as goal

pub returns-clause-tells : goal.returns-clause-tells
returns-clause-tells g c = λ told empty.
    let wrote = c.in_default.ensures in
    let j = c.at_gate.ensures in
    let head = header_bytes c.args.header.now in
    let place : 64 ≡ length (head ++ []) = sym c.write_header.ensures.long ∙ ap length (sym (append-nil head)) in
    let logs = closed_logs g.D.Disk.disk c.at_gate.result _ _ _ j.disk (j.head ∙ c.bytes.ensures) j.gate j.ajar [] (c.write_header.ensures.told told) tt place (omega arith) (made_shut head _ _ (wrote.seen told empty) (wrote.durable told)) in
    subst (Logs g.D.Disk.disk c.at_gate.result) (sym (list_is _ c.at_gate.result _ logs)) logs

pub returns-clause-list : goal.returns-clause-list
returns-clause-list g c = λ told empty.
    let wrote = c.in_default.ensures in
    let j = c.at_gate.ensures in
    let head = header_bytes c.args.header.now in
    let place : 64 ≡ length (head ++ []) = sym c.write_header.ensures.long ∙ ap length (sym (append-nil head)) in
    let logs = closed_logs g.D.Disk.disk c.at_gate.result _ _ _ j.disk (j.head ∙ c.bytes.ensures) j.gate j.ajar [] (c.write_header.ensures.told told) tt place (omega arith) (made_shut head _ _ (wrote.seen told empty) (wrote.durable told)) in
    list_is _ c.at_gate.result _ logs

pub returns-clause-crash : goal.returns-clause-crash
returns-clause-crash g c = λ told empty.
    let making = IsInTheMaking c.args.header.now in
    subst (λ d. LeavesOnly g.D.Disk.disk c.args.disk d making) (sym c.at_gate.ensures.disk)
    (goes_on g.D.Disk.disk c.args.disk c.args.disk _ making making making
    (started g.D.Disk.disk c.args.disk making (λ f left. empty_making c.args.header.now f (g.D.Disk.disk.seen c.args.disk) empty (g.D.Disk.disk.no_longer c.args.disk f told (g.D.Disk.disk.only_now c.args.disk f left))))
    (c.write_header.ensures.crash told empty) (λ f m. m) (λ f m. m))

pub returns-in-Err-clause-crash_err : goal.returns-in-Err-clause-crash_err
returns-in-Err-clause-crash_err g c = λ told empty.
    let making = IsInTheMaking c.args.header.now in
    goes_on g.D.Disk.disk c.args.disk c.args.disk _ making making making
    (started g.D.Disk.disk c.args.disk making (λ f left. empty_making c.args.header.now f (g.D.Disk.disk.seen c.args.disk) empty (g.D.Disk.disk.no_longer c.args.disk f told (g.D.Disk.disk.only_now c.args.disk f left))))
    (c.write_header.ensures.crash told empty) (λ f m. m) (λ f m. m)
