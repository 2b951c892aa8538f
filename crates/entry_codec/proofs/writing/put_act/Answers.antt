use Rattle.std.proofs.Common.{◌≡◌, ◌++◌, sym, subst}
use Rattle.byte_formats.specs.Spelling.{◌&◌, byte, name}
use Rattle.entry_codec.specs.Spelling.{by_credit, incoming, act as act_bytes}
use Rattle.entry_codec.proofs.Appends.{then}
use Rattle.entry_codec.proofs.writing.put_act.Goals as goal

pub returns-in_ok-put_incoming-in-Ingest-clause-bytes : goal.returns-in_ok-put_incoming-in-Ingest-clause-bytes
returns-in_ok-put_incoming-in-Ingest-clause-bytes c =
    let start = c.args.out.now.items in
    let tagged = c.put_byte-in-Ingest.new.out.items in
    let named = c.put_name-in-Ingest.new.out.items in
    let written = c.put_incoming.new.out.items in
    let tag = by_credit c.in-Ingest.incoming.story.copyright 5 7 in
    let provider = name c.in-Ingest.provider in
    let brought = incoming c.in-Ingest.incoming in
    subst (λ a. written ≡ start ++ act_bytes a) (sym c.in-Ingest.is)
    (then start tagged written (byte tag) (provider & brought) (subst (λ t. tagged ≡ start ++ byte t) c.credit_tag.ensures c.in_ok-put_byte-in-Ingest.ensures)
    (then tagged named written provider brought c.in_ok-put_name-in-Ingest.ensures.bytes c.in_ok-put_incoming-in-Ingest.ensures.bytes))
