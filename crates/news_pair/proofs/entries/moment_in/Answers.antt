use Rattle.std.proofs.Common.{◌≡◌, ◌∙◌, ap, sym, arith, Ok, Err}
use Rattle.byte_formats.proofs.Laws.{bytes_from}
use Rattle.news_types.specs.declared.entry.Entry.{Entry}
use Rattle.entry_codec.specs.declared.fault.CodecFault.TheVariants.{At}
use Rattle.entry_segments.proofs.Spelled.{read_again, spelled_entry}
use Rattle.news_pair.proofs.Stops.{stops_there}
use Rattle.news_pair.proofs.entries.moment_in.Goals as goal

pub returns-in-Ok-clause-found : goal.returns-in-Ok-clause-found
returns-in-Ok-clause-found c = let f = c.in-Ok.ensures.found in (spelled_entry c.args.payload.now f.0 f.1 f.2).0

pub returns-in-Ok-clause-read : goal.returns-in-Ok-clause-read
returns-in-Ok-clause-read c =
    let f = c.in-Ok.ensures.found in
    let is = (spelled_entry c.args.payload.now f.0 f.1 f.2).1 in
    (read_again c.args.payload.now f.0 f.1 f.2 ∙ ap (λ (e : Entry). Ok e) (sym is), f.3 ∙ ap (λ (e : Entry). e.moment) (sym is))

pub returns-in-Err-clause-fault : goal.returns-in-Err-clause-fault
returns-in-Err-clause-fault c = λ at e.
    let same : c.in-Err.fault ≡ At at = cc in
    let f = c.in-Err.ensures.fault at (ap (λ x. Err x) same) in
    (f.within, stops_there c.args.payload.now at (bytes_from c.args.payload.now (λ i. omega (arith, c.type_inv.payload i))) f)
