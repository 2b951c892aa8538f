use Rattle.std.proofs.Common.{◌==◌, ℕ, get_or, take, ◌∙◌}
use Rattle.std.proofs.lemmas.List.Folds.{list_any_more}
use Rattle.desk_records.specs.Slots.{told_at, killed, is_among}
use Rattle.desk_records.proofs.Told.{killed_again, told_more}
use Rattle.desk_records.proofs.rows.take_back_all.Goals as goal

pub loop-number-preserved : goal.loop-number-preserved
loop-number-preserved c =
    let numbers = c.args.numbers.now in
    let i = c.loop-number.number-index in
    let m = c.args.moment in
    let kept = c.loop-number.invariant in
    record {
      told = λ n.
          rw (list_any_more (λ (k : ℕ). k == n) numbers i 0 c.loop-number-test.true)
          (told_more (killed m) (killed_again m) (told_at c.args.rows.now.items n) (told_at c.loop-number.rows.items n) (told_at c.take_back_one.new.rows.items n)
          (is_among n (take i numbers)) (get_or numbers i 0 == n) (kept.told n) (c.take_back_one.ensures.told n));
      len = c.take_back_one.ensures.len ∙ kept.len;
      capacity = c.take_back_one.ensures.capacity ∙ kept.capacity;
    }
