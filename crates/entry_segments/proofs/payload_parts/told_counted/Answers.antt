use Rattle.std.proofs.Common.{◌≡◌, ◌≤◌, ◌⊎◌, ℕ, inl, inr, arith}
use Rattle.std.proofs.lemmas.Bool.{cases_eq}
use Rattle.std.proofs.lemmas.Result.{err_from_is_err_and}
use Rattle.entry_segments.proofs.Spelled.{name_stops, count_stops, tells_counted}
use Rattle.entry_segments.proofs.payload_parts.told_counted.Goals as goal

two_or_three : (n : ℕ) → 2 ≤ n → n ≤ 3 → (n ≡ 2) ⊎ (n ≡ 3)
two_or_three n low high = elim (cases_eq n 2) [ inl e ↦ inl e | inr other ↦ inr (omega (arith, low, high, other)) ]

pub returns-in_err-name-clause-fault : goal.returns-in_err-name-clause-fault
returns-in_err-name-clause-fault c = λ a formed is input_is.
    let e = err_from_is_err_and c.from_residual.result c.from_residual.ensures.1 in
    rw (e.1, e.2) (name_stops a c.args.tag (two_or_three c.args.tag c.requires.low c.requires.high) is formed c.args.input.now input_is _ c.in_err-name.ensures)

pub returns-in_err-u32-clause-fault : goal.returns-in_err-u32-clause-fault
returns-in_err-u32-clause-fault c = λ a formed is input_is.
    let e = err_from_is_err_and c.from_residual-in_err-u32.result c.from_residual-in_err-u32.ensures.1 in
    rw (e.1, e.2) (count_stops a c.args.tag (two_or_three c.args.tag c.requires.low c.requires.high) is formed c.args.input.now input_is _ _ c.in_ok-name.ensures _ c.in_err-u32.ensures)

pub returns-clause-tells : goal.returns-clause-tells
returns-clause-tells c = λ a formed is input_is. tells_counted a c.args.tag (two_or_three c.args.tag c.requires.low c.requires.high) is formed c.args.input.now input_is _ _ c.in_ok-name.ensures _ _ c.in_ok-u32.ensures
