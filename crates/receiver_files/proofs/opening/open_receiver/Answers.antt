use Rattle.std.proofs.Common.{◌≡◌, ◌∙◌, [], sym, ap, subst}
use Rattle.std.specs.Prelude.{IfOk}
use Rattle.news_journal.specs.Opened.{Still}
use Rattle.news_journal.specs.Stands.{disk_of}
use Rattle.feed_receiver.specs.Holds.{OpensTo}
use Rattle.news_journal.specs.Journal.{journal_of}
use Rattle.receiver_files.specs.Log.{IsKind, MayBeMine, AreBad}
use Rattle.receiver_files.specs.Opening.{IsRefused, IsOpenReceiver}
use Rattle.receiver_files.proofs.Openings.{if_ok, if_err, journal_made, journal_read, receiver_opens, refused_unmade, refused_none, refused_record}
use Rattle.receiver_files.proofs.opening.open_receiver.Goals as goal

pub returns-in-Ok-clause-opened : goal.returns-in-Ok-clause-opened
returns-in-Ok-clause-opened g c =
    let d = g.D.Disk.disk in
    let mid = c.log_kind.new.log in
    let still = c.log_kind.ensures.still in
    let made = c.in-Ok.ensures in
    let kind : d.tells c.args.log → IsKind c.args.name (d.seen c.args.log) c.in-Ok-Empty.field-0 = λ told. subst (λ n. IsKind n (d.seen c.args.log) c.in-Ok-Empty.field-0) c.as_bytes.ensures.bytes (c.in-Ok-Empty.ensures.kind told) in
    let empty : d.tells c.args.log → d.seen c.args.log ≡ [] = λ told. subst (IsKind c.args.name (d.seen c.args.log)) c.in-Ok-Empty.field-0-is (kind told) in
    let journal = journal_made d c.args.name c.args.log mid still c.in-Ok-Empty.ensures.count.calm c.in-Ok.journal empty made.head made.bytes made.tells made.list made.doubts made.quiet made.used made.crash made.calm in
    if_ok (OpensTo (journal_of d) c.in-Ok.journal c.args.name []) (IsOpenReceiver d c.args.name c.args.log) c.receiver_of.result
    (λ r o. receiver_opens d c.args.name c.args.log c.as_bytes.ensures.form c.in-Ok.journal [] journal r o) c.receiver_of.ensures.opened

pub returns-in-Ok-clause-refused : goal.returns-in-Ok-clause-refused
returns-in-Ok-clause-refused g c =
    let d = g.D.Disk.disk in
    if_err (λ e. (e.0 ≡ disk_of c.in-Ok.journal) × AreBad c.args.name [] e.1) (λ e. IsRefused d c.args.name c.args.log e.0 e.1) c.receiver_of.result
    (λ e bad. refused_none d c.args.name c.args.log c.log_kind.new.log c.log_kind.ensures.still c.in-Ok-Empty.ensures.count.calm e.0 e.1 bad.1) c.receiver_of.ensures.refused

pub returns-in-Err-create-clause-refused : goal.returns-in-Err-create-clause-refused
returns-in-Err-create-clause-refused g c =
    let d = g.D.Disk.disk in
    let failed = c.in-Err-create.ensures in
    let kind : d.tells c.args.log → IsKind c.args.name (d.seen c.args.log) c.in-Ok-Empty.field-0 = λ told. subst (λ n. IsKind n (d.seen c.args.log) c.in-Ok-Empty.field-0) c.as_bytes.ensures.bytes (c.in-Ok-Empty.ensures.kind told) in
    let empty : d.tells c.args.log → d.seen c.args.log ≡ [] = λ told. subst (IsKind c.args.name (d.seen c.args.log)) c.in-Ok-Empty.field-0-is (kind told) in
    refused_unmade d c.args.name c.args.log c.log_kind.new.log c.log_kind.ensures.still c.in-Ok-Empty.ensures.count.calm c.in-Err-create.log c.in-Err-create.fault c.from.result empty c.from.ensures failed.told_err failed.crash_err failed.fault

pub returns-in-Ok-open-clause-opened : goal.returns-in-Ok-open-clause-opened
returns-in-Ok-open-clause-opened g c =
    let d = g.D.Disk.disk in
    let read = c.in-Ok-open.ensures in
    let kind : d.tells c.args.log → IsKind c.args.name (d.seen c.args.log) c.in-Ok-Own.field-0 = λ told. subst (λ n. IsKind n (d.seen c.args.log) c.in-Ok-Own.field-0) c.as_bytes.ensures.bytes (c.in-Ok-Own.ensures.kind told) in
    let mine : d.tells c.args.log → MayBeMine c.args.name (d.seen c.args.log) = λ told. subst (IsKind c.args.name (d.seen c.args.log)) c.in-Ok-Own.field-0-is (kind told) in
    let was = c.in-Ok-open.field-0 in
    let journal = journal_read d c.args.name c.args.log c.log_kind.new.log c.log_kind.ensures.still c.in-Ok-Own.ensures.count.calm mine was.journal was.header was.records read.log read.head read.tells read.list read.doubts read.quiet read.used read.still read.calm in
    let opened : IfOk c.receiver_of-in-Ok-open.result (OpensTo (journal_of d) was.journal c.args.name was.records) =
    subst (λ rs. IfOk c.receiver_of-in-Ok-open.result (OpensTo (journal_of d) was.journal c.args.name rs)) c.as_slice.ensures c.receiver_of-in-Ok-open.ensures.opened in
    if_ok (OpensTo (journal_of d) was.journal c.args.name was.records) (IsOpenReceiver d c.args.name c.args.log) c.receiver_of-in-Ok-open.result
    (λ r o. receiver_opens d c.args.name c.args.log c.as_bytes.ensures.form was.journal was.records journal r o) opened

pub returns-in-Ok-open-clause-refused : goal.returns-in-Ok-open-clause-refused
returns-in-Ok-open-clause-refused g c =
    let d = g.D.Disk.disk in
    let read = c.in-Ok-open.ensures in
    let kind : d.tells c.args.log → IsKind c.args.name (d.seen c.args.log) c.in-Ok-Own.field-0 = λ told. subst (λ n. IsKind n (d.seen c.args.log) c.in-Ok-Own.field-0) c.as_bytes.ensures.bytes (c.in-Ok-Own.ensures.kind told) in
    let mine : d.tells c.args.log → MayBeMine c.args.name (d.seen c.args.log) = λ told. subst (IsKind c.args.name (d.seen c.args.log)) c.in-Ok-Own.field-0-is (kind told) in
    let was = c.in-Ok-open.field-0 in
    if_err (λ e. (e.0 ≡ disk_of was.journal) × AreBad c.args.name c.as_slice.result.now e.1) (λ e. IsRefused d c.args.name c.args.log e.0 e.1) c.receiver_of-in-Ok-open.result
    (λ e bad.
    refused_record d c.args.name c.args.log c.log_kind.new.log c.log_kind.ensures.still c.in-Ok-Own.ensures.count.calm mine e.0 was.header was.records e.1 read.log
    (λ told. subst (Still d c.log_kind.new.log) (sym bad.0) (read.still told)) (ap d.faults bad.0 ∙ read.calm)
    (subst (λ rs. AreBad c.args.name rs e.1) c.as_slice.ensures bad.1)) c.receiver_of-in-Ok-open.ensures.refused
