use Rattle.std.proofs.Common.{◌++◌, ◌∙◌, ◌+◌, ap, sym, subst, drop, List}
use Rattle.std.specs.Prelude.{All}
use Rattle.std.proofs.lemmas.List.Elements.{All-get_or, All-push}
use Rattle.news_types.specs.Names.{Bytes}
use Rattle.entry_codec.specs.Fits.{Fits}
use Rattle.entry_segments.specs.Spelled.{entries_in, IsPayload}
use Rattle.entry_segments.proofs.Spelled.{spelled_entry, one_more_entry}
use Rattle.entry_segments.proofs.packing.payloads_of.Goals as goal

pub loop-entry-preserved : goal.loop-entry-preserved
loop-entry-preserved c =
    let es = c.args.entries.now in
    let i = c.loop-entry.entry-index in
    let e = c.entry-item.result in
    let old = c.loop-entry.payloads.items in
    let p = c.in_ok-payload_of.field-0 in
    let fits = subst Fits (sym c.entry-item.is) (All-get_or Fits es i e c.loop-entry-test.true c.requires) in
    let spelled = spelled_entry p e (record { fits = fits; formed = c.in_ok-payload_of.ensures.form }) c.in_ok-payload_of.ensures.bytes in
    let more = c.in_ok-push.ensures.items in
    record {
      each = subst (All IsPayload) (sym more) (All-push IsPayload old p c.loop-entry.invariant.each spelled.0);
      entries =
          ap (λ (l : List Bytes). entries_in l ++ drop (i + 1) es) more
          ∙ one_more_entry es i e old p c.loop-entry-test.true c.entry-item.is spelled.1 c.loop-entry.invariant.entries;
    }
