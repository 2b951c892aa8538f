use Rattle.std.proofs.Common.{◌∙◌, ◌<◌, ◌^◌, ◌++◌, ℕ, Option, Err, refl, ap, subst, arith}
use Rattle.std.proofs.lemmas.Result.{err_from_is_err_and}
use Rattle.news_types.specs.Names.{Bytes}
use Rattle.room_reports.specs.Written.{IsWhole}
use Rattle.room_reports.specs.Texts.{feed_report_at}
use Rattle.room_reports.specs.Parts.{Writes, rest_from, IsLater}
use Rattle.room_reports.proofs.Writing.{none_so_far, part_there, cut_there, more_so_far, all_there}
use Rattle.room_reports.proofs.feed.write_feed.Goals as goal

pub pages-init : goal.pages-init
pages-init g c = (refl, λ b stands. none_so_far g.O.Sink.sink (feed_report_at c.args.subscriber c.args.after b.list) c.args.output.now)

pub feed_page-requires : goal.feed_page-requires
feed_page-requires g c = c.requires

pub returns-in_default : goal.returns-in_default
returns-in_default g c b stands =
    part_there g.O.Sink.sink (feed_report_at c.args.subscriber c.args.after b.list) (feed_report_at c.args.subscriber c.pages.from b.list) c.args.output.now c.pages.output
    (c.pages.invariant.1 b stands) c.pages.invariant.0

pub returns-in_err-write_part : goal.returns-in_err-write_part
returns-in_err-write_part g c b stands =
    let page = c.in-Ok.ensures.page b stands in
    let why = c.in_err-write_part.field-0.0 in
    let P : Bytes → Type 0 = λ lines. Writes g.O.Sink.sink lines c.pages.output c.write_part.new.output (Err why) in
    let p = err_from_is_err_and c.from_residual.result c.from_residual.ensures.1 in
    rw (p.1, p.2)
    (cut_there g.O.Sink.sink (feed_report_at c.args.subscriber c.args.after b.list) (feed_report_at c.args.subscriber c.pages.from b.list) c.in-Ok.page.text (rest_from c.args.subscriber b.list c.in-Ok.page.next)
    c.args.output.now c.pages.output c.write_part.new.output (c.pages.invariant.1 b stands) page.front why c.pages.invariant.0 (subst P c.as_slice.ensures c.in_err-write_part.ensures))

pub returns-in_default-next : goal.returns-in_default-next
returns-in_default-next g c b stands =
    let page = c.in-Ok.ensures.page b stands in
    let P : Bytes → Type 0 = λ lines. IsWhole g.O.Sink.sink lines c.pages.output c.write_part.new.output in
    all_there g.O.Sink.sink (feed_report_at c.args.subscriber c.args.after b.list) (feed_report_at c.args.subscriber c.pages.from b.list) c.in-Ok.page.text (rest_from c.args.subscriber b.list c.in-Ok.page.next)
    c.args.output.now c.pages.output c.write_part.new.output (c.pages.invariant.1 b stands) page.front
    (ap (λ (next : Option ℕ). rest_from c.args.subscriber b.list next) c.in_default-next.is) c.pages.invariant.0 (subst P c.as_slice.ensures c.in_ok-write_part.ensures)

pub pages-smaller : goal.pages-smaller
pages-smaller g c =
    let later : (c.pages.from < c.in-Some.next) × (c.in-Some.next < 2 ^ 32) = subst (λ (next : Option ℕ). IsLater c.pages.from next) c.in-Some.is c.in-Ok.ensures.later in
    omega (arith, later.0, later.1)

pub pages-preserved : goal.pages-preserved
pages-preserved g c = (
  c.in_ok-write_part.ensures.calm ∙ c.pages.invariant.0,
  λ b stands.
      let page = c.in-Ok.ensures.page b stands in
      let P : Bytes → Type 0 = λ lines. IsWhole g.O.Sink.sink lines c.pages.output c.write_part.new.output in
      more_so_far g.O.Sink.sink (feed_report_at c.args.subscriber c.args.after b.list) (feed_report_at c.args.subscriber c.pages.from b.list) c.in-Ok.page.text (feed_report_at c.args.subscriber c.in-Some.next b.list)
      c.args.output.now c.pages.output c.write_part.new.output (c.pages.invariant.1 b stands) (page.front ∙ ap (λ (next : Option ℕ). c.in-Ok.page.text ++ rest_from c.args.subscriber b.list next) c.in-Some.is)
      page.lines (subst P c.as_slice.ensures c.in_ok-write_part.ensures),
)
