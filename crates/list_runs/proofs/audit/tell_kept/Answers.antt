use Rattle.std.proofs.Common.{refl}
use Rattle.list_runs.proofs.Audits.{passed_over, given}
use Rattle.list_runs.proofs.audit.tell_kept.Goals as goal

pub returns-then-reply-after : goal.returns-then-reply-after
returns-then-reply-after g c h stands before =
    let kept = c.in-Ok.ensures.keeps h stands in
    passed_over g.O.Sink.sink c.args.after c.keep.new.self.machine h c.args.here.now c.args.output.now c.args.output.now c.args.entry.now c.in-Ok.reply
    (record { is = c.requires.is; kept = record { legal = kept.legal; formed = (c.requires.entry, before.formed) } }) kept c.if-reply-after.true refl

pub returns : goal.returns
returns g c h stands before =
    let kept = c.in-Ok.ensures.keeps h stands in
    given g.O.Sink.sink c.args.after c.keep.new.self.machine h c.args.here.now c.args.output.now c.write_entry.new.output c.args.entry.now c.in-Ok.reply
    (record { is = c.requires.is; kept = record { legal = kept.legal; formed = (c.requires.entry, before.formed) } }) kept c.write_entry.result c.if-reply-after.false c.write_entry.ensures
