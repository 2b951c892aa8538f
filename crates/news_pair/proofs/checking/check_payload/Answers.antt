use Rattle.std.proofs.Common.{◌≡◌, ◌∙◌, ap, arith, Err, Ok}
use Rattle.byte_formats.specs.Gives.{all_of}
use Rattle.byte_formats.proofs.Laws.{bytes_from}
use Rattle.byte_formats.proofs.Whole.{all_again}
use Rattle.entry_codec.specs.Formed.{IsEntry}
use Rattle.entry_codec.specs.Commands.{entry}
use Rattle.entry_codec.proofs.EntryLaws.{entry_lawful}
use Rattle.entry_codec.specs.declared.fault.CodecFault.TheVariants.{At}
use Rattle.news_pair.specs.Damage.{no_entry}
use Rattle.news_pair.proofs.Stops.{stops_there}
use Rattle.news_pair.proofs.Judging.{read_whole, read_stops}
use Rattle.news_pair.proofs.checking.check_payload.Goals as goal

pub returns-in-Ok-clause-whole : goal.returns-in-Ok-clause-whole
unfolding no_entry
returns-in-Ok-clause-whole c = λ gate.
    let f = c.in-Ok.ensures.found in
    let read : all_of entry c.args.payload.now ≡ Ok f.0 = ap (all_of entry) f.2 ∙ all_again entry IsEntry entry_lawful f.0 f.1 in
    read_whole (gate, c.args.payload.now) (all_of entry c.args.payload.now) f.0 read

pub returns-in-Err-clause-fault : goal.returns-in-Err-clause-fault
unfolding no_entry
returns-in-Err-clause-fault c = λ at e.
    let same : c.in-Err.fault ≡ At at = cc e in
    let f = c.in-Err.ensures.fault at (ap (λ x. Err x) same) in
    let read = stops_there c.args.payload.now at (bytes_from c.args.payload.now (λ i. omega (arith, c.type_inv.payload i))) f in
    (f.within, λ gate. read_stops (gate, c.args.payload.now) (all_of entry c.args.payload.now) at f.within read)
