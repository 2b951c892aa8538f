use Rattle.std.proofs.Common.{◌∙◌, inl, inr, refl, sym, subst, take, drop}
use Rattle.std.proofs.lemmas.List.{take-append-drop}
use Rattle.news_types.specs.Names.{Bytes}
use Rattle.room_reports.specs.Written.{IsCut}
use Rattle.newsdesk_server.proofs.summary.tell_summary.Goals as goal

pub returns : goal.returns
returns g c b stands =
    let e = c.in-Err.ensures in
    let text = c.as_slice.result.now in
    let cut : IsCut g.O.Sink.sink text c.args.output.now c.write_through.new.sink = record {
      front = take e.err.0 text;
      first = (drop e.err.0 text, sym (take-append-drop e.err.0 text));
      wrote = record { told = e.told; bytes = e.err.2 };
      rose = e.count.failed;
    } in
    inr (inl (refl, subst (λ (t : Bytes). IsCut g.O.Sink.sink t c.args.output.now c.write_through.new.sink) (c.as_slice.ensures ∙ c.in-Ok.ensures b stands) cut))
