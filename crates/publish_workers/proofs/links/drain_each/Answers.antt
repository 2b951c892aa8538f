use Rattle.std.proofs.Common.{◌∙◌, ◌++◌, [], ◌∷◌, length, map, refl, sym, ap, append-nil, arith}
use Rattle.std.specs.Prelude.{slice_index_or}
use Rattle.std.proofs.lemmas.Option.{slice_get-get_or}
use Rattle.news_types.specs.Books.{onto}
use Rattle.publish_workers.specs.declared.drain.Drained as ends
use Rattle.publish_workers.specs.declared.drain.Drained.{Drained}
use Rattle.publish_workers.specs.Turns.{word}
use Rattle.publish_workers.specs.Drains.{lost_in, refused_in, is_store_end, is_output_end, all_readings, lines_of, last_line}
use Rattle.publish_workers.specs.LinkDrains.{LinkDrain, behind, drains_readings, drains_lines, drains_last}
use Rattle.publish_workers.proofs.Exchanging.{reads_then}
use Rattle.publish_workers.proofs.Draining.{counts_behind, prints_none}
use Rattle.publish_workers.proofs.Complete.{idle_end}
use Rattle.publish_workers.proofs.LinkDraining.{ended_behind, not_idle, but_last, next_there, links_more, links_serve, served_there, no_drains, drained_more, chain_more, prints_behind, prints_idle}
use Rattle.publish_workers.proofs.links.drain_each.Goals as goal

pub loop-link-init : goal.loop-link-init
loop-link-init g c = (
  refl,
  refl,
  (
    [],
    tt,
    refl,
    refl,
    refl,
    ([], λ b is. no_drains g.K.Keeper.keeper c.args.room.now b (map g.L.Link.link.serves c.args.links.now) is),
    λ told. record { tells = told; gave = λ k. refl },
    λ told. (told, sym (append-nil _)),
  ),
)

pub drain_feeds-requires : goal.drain_feeds-requires
drain_feeds-requires g c =
    let i = c.loop-link.invariant.2 in
    record { stands = (onto i.5.0 c.requires.stands.0, (i.5.1 c.requires.stands.0 c.requires.stands.1).behind.stands) }

pub returns-in_default : goal.returns-in_default
returns-in_default g c =
    let i = c.loop-link.invariant.2 in
    let e = c.drain_feeds.ensures in
    let d = e.drain in
    let one = slice_index_or c.loop-link.links c.loop-link.link-index c.link-item.result in
    let there = slice_get-get_or c.loop-link.links c.loop-link.link-index c.link-item.result (omega (arith, c.loop-link-test.true, c.loop-link.auto.links)) in
    let next = next_there g.L.Link.link c.args.links.now c.loop-link.links i.0 c.loop-link.link-index one i.3 i.4 there in
    let drain : LinkDrain = record { last = d.0; turns = d.1; more = d.4.0; end = c.drain_feeds.result } in
    let links = links_more g.L.Link.link c.args.links.now c.loop-link.links i.0 c.loop-link.link-index drain one c.drain_feeds.new.link i.3 i.4 there (record { reported = d.2; end = d.3; passes = d.5; faults = e.link_faults; serves = e.serves }) in
    record {
      drains = (
        drain ∷ i.0,
        i.1,
        ended_behind c.loop-link.lost c.loop-link.refused c.drain_feeds.result c.in_default.not-Idle ∙ ap (λ (x : Drained). behind x c.drain_feeds.result) (sym i.2),
        λ idle. absurd (not_idle c.drain_feeds.result c.in_default.not-Idle idle),
        links,
        (
          i.5.0 ++ d.4.0,
          λ b is.
              let chain = i.5.1 b is in
              drained_more g.K.Keeper.keeper c.args.room.now c.loop-link.room c.drain_feeds.new.room b (map g.L.Link.link.serves c.args.links.now) i.0 i.5.0 (g.L.Link.link.serves one) drain chain (served_there g.L.Link.link c.args.links.now (length i.0) one next) (d.4.1 (onto i.5.0 b) chain.behind.stands),
        ),
        λ told. let so_far = i.6 told in reads_then g.C.Clock.clock c.args.clock.now c.loop-link.clock c.drain_feeds.new.clock (drains_readings i.0) (all_readings (d.0 ∷ d.1)) so_far (d.6 so_far.tells),
        λ told. let so_far = i.7 told in prints_behind g.O.Sink.sink c.args.output.now c.loop-link.output c.drain_feeds.new.output (drains_lines i.0) (lines_of d.1) (last_line d.0) so_far.1 (d.7 so_far.0),
      );
      store_faults = counts_behind (is_store_end c.drain_feeds.result) (g.K.Keeper.keeper.faults c.args.room.now.keeper) (g.K.Keeper.keeper.faults c.loop-link.room.keeper) (g.K.Keeper.keeper.faults c.drain_feeds.new.room.keeper) c.loop-link.invariant.0 e.store_faults;
      output_faults = counts_behind (is_output_end c.drain_feeds.result) (g.O.Sink.sink.faults c.args.output.now) (g.O.Sink.sink.faults c.loop-link.output) (g.O.Sink.sink.faults c.drain_feeds.new.output) c.loop-link.invariant.1 e.output_faults;
      serves = links_serve g.L.Link.link c.args.links.now _ (drain ∷ i.0) links;
    }

pub loop-link-preserved : goal.loop-link-preserved
loop-link-preserved g c =
    let i = c.loop-link.invariant.2 in
    let e = c.in-Idle.ensures in
    let d = e.drain in
    let one = slice_index_or c.loop-link.links c.loop-link.link-index c.link-item.result in
    let there = slice_get-get_or c.loop-link.links c.loop-link.link-index c.link-item.result (omega (arith, c.loop-link-test.true, c.loop-link.auto.links)) in
    let next = next_there g.L.Link.link c.args.links.now c.loop-link.links i.0 c.loop-link.link-index one i.3 i.4 there in
    let drain : LinkDrain = record { last = d.0; turns = d.1; more = d.4.0; end = ends.Drained.Idle c.in-Idle.link_failed c.in-Idle.no_receipt } in
    let links = links_more g.L.Link.link c.args.links.now c.loop-link.links i.0 c.loop-link.link-index drain one c.drain_feeds.new.link i.3 i.4 there (record { reported = d.2; end = d.3; passes = d.5; faults = e.link_faults; serves = e.serves }) in
    let idle = idle_end (word d.0) (lost_in d.1) (refused_in d.1) c.in-Idle.link_failed c.in-Idle.no_receipt d.3 in (
      e.store_faults ∙ c.loop-link.invariant.0,
      e.output_faults ∙ c.loop-link.invariant.1,
      (
        drain ∷ i.0,
        (refl, i.1),
        ap (λ (x : Drained). behind x (ends.Drained.Idle c.in-Idle.link_failed c.in-Idle.no_receipt)) i.2,
        omega (arith, i.3),
        links,
        (
          i.5.0 ++ d.4.0,
          λ b is.
              let chain = i.5.1 b is in
              chain_more g.K.Keeper.keeper c.args.room.now c.loop-link.room c.drain_feeds.new.room b (map g.L.Link.link.serves c.args.links.now) i.0 i.5.0 (g.L.Link.link.serves one) drain chain (served_there g.L.Link.link c.args.links.now (length i.0) one next) (d.4.1 (onto i.5.0 b) chain.behind.stands) idle.0 idle.1,
        ),
        λ told. let so_far = i.6 told in reads_then g.C.Clock.clock c.args.clock.now c.loop-link.clock c.drain_feeds.new.clock (drains_readings i.0) (all_readings (d.0 ∷ d.1)) so_far (d.6 so_far.tells),
        λ told.
            let so_far = i.7 told in
            let prints = d.7 so_far.0 in
            (prints.tells, prints_idle g.O.Sink.sink c.args.output.now c.loop-link.output c.drain_feeds.new.output (drains_lines i.0) (lines_of d.1) d.0 idle.0 idle.1 so_far.1 prints),
      ),
    )

pub returns-clause-drains : goal.returns-clause-drains
returns-clause-drains g c =
    let i = c.loop-link.invariant.2 in (
      i.0,
      but_last i.0 i.1,
      sym i.2,
      λ idle. omega (arith, i.3, c.loop-link-test.false, c.loop-link.auto.link-index-end),
      i.4,
      (i.5.0, λ b is. (i.5.1 b is).drained),
      i.6,
      λ told. let so_far = i.7 told in prints_none g.O.Sink.sink c.args.output.now c.loop-link.output (drains_lines i.0) (drains_last i.0) so_far.0 so_far.1,
    )

pub returns-clause-serves : goal.returns-clause-serves
returns-clause-serves g c = links_serve g.L.Link.link c.args.links.now c.loop-link.links c.loop-link.invariant.2.0 c.loop-link.invariant.2.4
