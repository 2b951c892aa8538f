use Rattle.std.proofs.Common.{◌≡◌, ◌++◌, ◌∙◌, ap, arith, length}
use Rattle.byte_formats.specs.Spelling.{u64}
use Rattle.entry_codec.specs.Spelling.{act as act_bytes, entry_bytes}
use Rattle.entry_codec.proofs.Appends.{then}
use Rattle.entry_codec.proofs.Lengths.{entry_len}
use Rattle.entry_codec.proofs.writing.encode.Goals as goal

pub overflow_cast-payload : goal.overflow_cast-payload
overflow_cast-payload c =
    let e = c.args.entry.now in
    let items = then _ _ _ (u64 e.moment) (act_bytes e.act) c.in_ok-put_u64.ensures c.in_ok-put_act.ensures.bytes ∙ ap (λ z. z ++ entry_bytes e) c.in_ok-payload.ensures.items in
    let len : length c.as_slice-payload.result.now ≡ length (entry_bytes e) = ap length c.as_slice-payload.ensures.value ∙ ap length items in
    omega (arith, len, entry_len e (record { fits = c.requires; formed = c.in_ok-put_act.ensures.form }))
