use Rattle.std.proofs.Common.{◌∙◌, inl, [], refl, subst}
use Rattle.news_types.specs.Names.{Bytes}
use Rattle.run_status.proofs.Tellings.{wrote_none}
use Rattle.room_reports.specs.Parts.{Writes}
use Rattle.room_reports.specs.Texts.{queue_report_at}
use Rattle.room_reports.proofs.queue.write_queue.Goals as goal

pub queue_lines-requires : goal.queue_lines-requires
queue_lines-requires g c = c.requires

pub returns-in_default : goal.returns-in_default
returns-in_default g c b stands = record { front = []; first = (queue_report_at b.list, refl); lines = inl refl; wrote = wrote_none g.O.Sink.sink c.args.output.now; calm = refl }

pub returns : goal.returns
returns g c b stands =
    let P : Bytes → Type 0 = λ lines. Writes g.O.Sink.sink lines c.args.output.now c.write_part.new.output c.write_part.result in
    subst P (c.as_slice.ensures ∙ c.in-Ok.ensures b stands) c.write_part.ensures
