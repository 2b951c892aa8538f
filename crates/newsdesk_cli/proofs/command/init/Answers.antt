use Rattle.std.proofs.Common.{◌≡◌, ◌∙◌, ◌+◌, inl, inr, [], refl, sym, ap, subst, arith}
use Rattle.news_io.specs.Faults.{Rose}
use Rattle.news_io.specs.Disk.{LeavesOnly}
use Rattle.news_journal.specs.Stands.{disk_of}
use Rattle.news_journal.specs.Created.{IsInTheMaking}
use Rattle.news_journal.specs.Log.{header_bytes}
use Rattle.news_journal.specs.declared.header.Header.TheVariants as header
use Rattle.newsdesk_cli.proofs.Commands.{no_bytes, made_leaves, bare_leaves, made_durable}
use Rattle.store_files.proofs.Counts.{rose_left}
use Rattle.newsdesk_cli.proofs.command.init.Goals as goal

pub returns-in-Ok-false : goal.returns-in-Ok-false
returns-in-Ok-false g c = inl (record {
  cause = λ told told' none none'. absurd (cc (sym c.in-Ok-false.field-0-test ∙ c.in-Ok-false.ensures.some told told' none none'));
  calm = c.in-Ok-false.ensures.count.calm;
  still = c.are_empty.ensures.still;
  still_side = c.are_empty.ensures.still_side;
  stopped = c.tell_trouble.ensures;
})

pub returns-in-Err : goal.returns-in-Err
returns-in-Err g c =
    let d = g.D.Disk.disk in
    inr (inl (record {
      rose = c.in-Err.ensures.count.failed;
      told = c.are_empty.ensures.still.told;
      crash = λ told. inl c.are_empty.ensures.still;
      still_side = c.are_empty.ensures.still_side;
      stopped = c.tell_trouble-in-Err.ensures;
    }))

pub returns-in-Ok : goal.returns-in-Ok
returns-in-Ok g c =
    let d = g.D.Disk.disk in
    let P = IsInTheMaking (header.Room c.args.store) in
    let still = c.are_empty.ensures.still in
    let made = c.in-Ok.ensures in
    let none : d.tells c.args.log → d.seen c.args.log ≡ [] = λ told. c.in-Ok-true.ensures.empty told c.in-Ok-true.field-0-test in
    inr (inr (record {
      status_is = refl;
      silent = refl;
      empty = none;
      empty_side = λ told'. c.in-Ok-true.ensures.empty_side told' c.in-Ok-true.field-0-test;
      bytes = λ told. ap d.seen c.into_disk.ensures ∙ made.bytes (still.told told) (still.seen_same ∙ none told);
      calm = ap (λ x. d.faults x + d.faults c.are_empty.new.side) c.into_disk.ensures ∙ ap (λ n. n + d.faults c.are_empty.new.side) made.calm ∙ c.in-Ok-true.ensures.count.calm;
      told = λ told. subst (λ x. d.tells x) (sym c.into_disk.ensures) (made.tells (still.told told) (still.seen_same ∙ none told)).told;
      durable = λ told f left. made_durable d c.in-Ok.journal (header_bytes (header.Room c.args.store)) (made.tells (still.told told) (still.seen_same ∙ none told)) (made.list (still.told told) (still.seen_same ∙ none told)) made.quiet made.head
          (made.bytes (still.told told) (still.seen_same ∙ none told)) f (subst (λ x. d.may_leave x f) c.into_disk.ensures left);
      crash = λ told. subst (λ x. LeavesOnly d c.args.log x P) (sym c.into_disk.ensures)
          (bare_leaves d P c.args.log c.are_empty.new.log (disk_of c.in-Ok.journal)
          (λ f may. inl (no_bytes (d.seen c.args.log) f (none told) (g.D.Disk.disk.no_longer c.args.log f told may))) still (made.crash (still.told told) (still.seen_same ∙ none told)));
      still_side = c.are_empty.ensures.still_side;
    }))

pub returns-in-Err-create : goal.returns-in-Err-create
returns-in-Err-create g c =
    let d = g.D.Disk.disk in
    inr (inl (record {
      rose = subst (λ n. Rose n (d.faults c.in-Err-create.log + d.faults c.are_empty.new.side)) c.in-Ok-true.ensures.count.calm (rose_left (d.faults c.are_empty.new.log) (d.faults c.in-Err-create.log) (d.faults c.are_empty.new.side) (d.faults c.are_empty.new.side) (omega arith) c.in-Err-create.ensures.fault.2);
      told = λ told. c.in-Err-create.ensures.told_err (c.are_empty.ensures.still.told told);
      crash = λ told. inr (
        c.in-Ok-true.ensures.empty told c.in-Ok-true.field-0-test,
        λ told'. c.in-Ok-true.ensures.empty_side told' c.in-Ok-true.field-0-test,
        made_leaves d (IsInTheMaking (header.Room c.args.store)) c.args.log c.are_empty.new.log c.in-Err-create.log c.are_empty.ensures.still (c.in-Err-create.ensures.crash_err (c.are_empty.ensures.still.told told) (c.are_empty.ensures.still.seen_same ∙ c.in-Ok-true.ensures.empty told c.in-Ok-true.field-0-test)),
      );
      still_side = c.are_empty.ensures.still_side;
      stopped = c.tell_trouble-in-Err-create.ensures;
    }))
