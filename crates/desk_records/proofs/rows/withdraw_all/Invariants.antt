use Rattle.std.proofs.Common.{◌≡◌, ℕ, vec_len, vec_capacity, cond, take}
use Rattle.std.specs.Option.{option_map}
use Rattle.desk_records.specs.Slots.{told_at, withdrawn, is_among}
use Rattle.desk_records.proofs.rows.withdraw_all.Given as goal

-- those so far are withdrawn
abbrev pub invariant-loop-number : goal.invariant-loop-number
invariant-loop-number l = record {
  told : (n : ℕ) → told_at l.rows.items n ≡ cond (is_among n (take l.number-index l.numbers)) (option_map withdrawn (told_at l.fn.rows.items n)) (told_at l.fn.rows.items n);
  len : vec_len l.rows ≡ vec_len l.fn.rows;
  capacity : vec_capacity l.rows ≡ vec_capacity l.fn.rows;
}
