use Rattle.std.proofs.Common.{arith}
use Rattle.byte_formats.proofs.Laws.{bytes_from}
use Rattle.byte_formats.proofs.Sounds.{sound_of}
use Rattle.byte_formats.proofs.Alls.{all_within}
use Rattle.entry_codec.specs.Commands.{act_fields}
use Rattle.entry_codec.proofs.EntryLaws.{OfTag, fields_lawful}
use Rattle.entry_segments.proofs.FittingActs.{act_fits}
use Rattle.entry_segments.proofs.entries.act_within.Goals as goal

pub returns-clause-within : goal.returns-clause-within
returns-clause-within c = λ left e.
    let t = c.args.tag in
    let sound = sound_of (act_fields t) (OfTag t) (fields_lawful t c.requires.low c.requires.high) in
    all_within (act_fields t) (OfTag t) sound c.args.block.now left (bytes_from c.args.block.now (λ i. omega (arith, c.type_inv.block i))) (rw e at c.whole_act.ensures)

pub returns-clause-act : goal.returns-clause-act
returns-clause-act c = act_fits c.args.tag c.requires.low c.requires.high c.whole_act.result c.args.block.now (bytes_from c.args.block.now (λ i. omega (arith, c.type_inv.block i))) c.whole_act.ensures
