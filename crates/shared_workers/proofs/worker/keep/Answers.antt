use Rattle.std.proofs.Common.{refl}
use Rattle.room_lock.specs.Locks.{front, calls}
use Rattle.room_lock.specs.Passes.{found_by, left_by}
use Rattle.shared_workers.specs.Steps.{of_turn}
use Rattle.shared_workers.proofs.Answering.{receipt_answer}
use Rattle.shared_workers.proofs.Seen.{found_there}
use Rattle.shared_workers.proofs.worker.keep.Goals as goal

pub returns-clause-turn : goal.returns-clause-turn
returns-clause-turn g c =
    let t = c.with_turn_among-pass.ensures.turn in
    let r = c.args.receipt in
    let kept = c.with_turn_among-pass.new.work.kept in
    let end = front c.with_turn_among-pass.result in (
      t.0,
      kept,
      c.worked_of.ensures,
      t.1,
      λ b is.
          let found = found_by t.0 b end in
          let left = left_by t.0 b end in
          let step = t.2 b is in
          let there = found_there b r.subscriber (front c.args.pass) (calls c.args.pass) end (calls c.with_turn_among-pass.result) t.0 t.1 (c.requires.there b is) in
          record {
            call = (found, left);
            calls_are = refl;
            receipt = c.requires.receipt;
            kept_by = step;
            counts = receipt_answer (of_turn found left) found.book c.args.now r.subscriber r.k r.n r.reply step.more kept there c.requires.receipt step.step;
          },
    )
