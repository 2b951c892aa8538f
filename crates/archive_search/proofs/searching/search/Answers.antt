use Rattle.std.proofs.Common.{◌≡◌, ◌<◌, ◌≤◌, ◌∙◌, ℕ, List, length, arith, ap, sym, subst, take}
use Rattle.std.specs.Prelude.{reverse}
use Rattle.news_types.specs.Books.{Book}
use Rattle.news_types.specs.Publications.{pubs}
use Rattle.news_types.proofs.Numbering.{pubs_count_down}
use Rattle.news_room.specs.Stands.{Stands}
use Rattle.archive_query.specs.View.{query_of}
use Rattle.archive_search.specs.Pages.{IsPageOf}
use Rattle.archive_search.proofs.Hits.{hits_step, hits_all}
use Rattle.archive_search.proofs.searching.search.Goals as goal

pub loop-before-init : goal.loop-before-init
loop-before-init g c = record { few = omega (arith, (c.new-found.ensures c.args.page).total_is); so_far = λ b stands. c.new-found.ensures c.args.page }

pub loop-before-preserved : goal.loop-before-preserved
loop-before-preserved g c = record {
  few = omega (arith, c.in_ok-ask_one.ensures.total, c.loop-before.invariant.few);
  so_far = λ b stands.
      let q = query_of c.args.query.now in
      let fits : c.loop-before.before < length (pubs b.list) = omega (arith, c.loop-before-test.true, c.in_ok-count.ensures b stands) in
      let more = hits_step q (pubs b.list) c.loop-before.before (pubs_count_down b.list) fits in
      subst (λ (l : List ℕ). IsPageOf l c.args.page c.ask_one.new.found) (sym more) (c.in_ok-ask_one.ensures.page b _ stands (c.loop-before.invariant.so_far b stands));
}

pub returns : goal.returns
returns g c = λ b stands.
    let q = query_of c.args.query.now in
    let all = hits_all q (pubs b.list) c.loop-before.before (omega (arith, c.loop-before-test.false, c.loop-before.auto.before-end, c.in_ok-count.ensures b stands)) in
    subst (λ (l : List ℕ). IsPageOf l c.args.page c.loop-before.found) all (c.loop-before.invariant.so_far b stands)
