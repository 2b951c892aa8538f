use Rattle.std.proofs.Common.{◌<◌, ◌≤◌, ◌++◌, ◌∷◌, ◌||◌, [], List, Bool, refl, sym, ap, ◌∙◌, subst, append-nil, arith}
use Rattle.news_types.specs.Names.{Bytes}
use Rattle.news_types.specs.Books.{onto}
use Rattle.publish_workers.specs.declared.worked.Worked.{Worked}
use Rattle.publish_workers.specs.Turns.{word, frames_of, replies_of, passed_of, readings, is_link_fault, is_no_receipt, is_store_fault}
use Rattle.publish_workers.specs.Links.{CountsFaults}
use Rattle.publish_workers.specs.Steps.{TurnHappens}
use Rattle.publish_workers.specs.Drains.{is_output_end, report_of, line_of, end_of, lost_in, refused_in, all_frames, all_replies, all_passed, all_readings, lines_of, last_line}
use Rattle.publish_workers.proofs.Exchanging.{passes_none, reads_then}
use Rattle.publish_workers.proofs.Draining.{is_reported, end_is, line_end, chain_none, chain_more, drain_ends, turn_goes, passes_more, prints_none, prints_some, lines_more, counts_then, counts_behind, link_ends, line_link, store_ends, calm_by, line_calm, output_calm}
use Rattle.publish_workers.proofs.drain.drain_feeds.Goals as goal

pub loop-reported-init : goal.loop-reported-init
loop-reported-init g c = (
  refl,
  refl,
  refl,
  (
    [],
    tt,
    refl,
    refl,
    refl,
    ([], λ b is. chain_none g.K.Keeper.keeper c.args.room.now b (g.L.Link.link.serves c.args.link.now) is),
    λ told. passes_none g.L.Link.link c.args.link.now told,
    λ told. record { tells = told; gave = λ k. refl },
    λ told. (told, sym (append-nil _)),
  ),
)

pub deliver_turn-worked-requires : goal.deliver_turn-worked-requires
deliver_turn-worked-requires g c =
    let i = c.loop-reported.invariant.3 in
    record { stands = (onto i.5.0 c.requires.stands.0, (i.5.1 c.requires.stands.0 c.requires.stands.1).behind.stands) }

pub returns-in_default-clause-drain : goal.returns-in_default-clause-drain
returns-in_default-clause-drain g c =
    let i = c.loop-reported.invariant.3 in
    let d = c.deliver_turn-worked.ensures.turn in
    let ends = c.ended.ensures ∙ ap (λ (w : Worked). end_of w c.loop-reported.link_failed c.loop-reported.no_receipt) d.1 ∙ ap (λ (x : Bool). end_of (word d.0) x c.loop-reported.no_receipt) i.2 ∙ ap (λ (x : Bool). end_of (word d.0) (lost_in i.0) x) i.3 in (
      d.0,
      i.0,
      i.1,
      end_is (lost_in i.0) (refused_in i.0) (word d.0) c.ended.result ends,
      (
        i.5.0 ++ (d.2.1 ++ d.2.2),
        λ b is.
            let chain = i.5.1 b is in
            drain_ends g.K.Keeper.keeper c.args.room.now c.loop-reported.room d.2.0 c.deliver_turn-worked.new.room b (g.L.Link.link.serves c.args.link.now) i.0 i.5.0 d.0 d.2.1 d.2.2 chain (subst (λ (ns : List Bytes). TurnHappens g.K.Keeper.keeper c.loop-reported.room d.2.0 c.deliver_turn-worked.new.room (onto i.5.0 b) ns d.0 d.2.1 d.2.2) i.4 (d.2.3 (onto i.5.0 b) chain.behind.stands)),
      ),
      λ told. let so_far = i.6 told in passes_more g.L.Link.link c.args.link.now c.loop-reported.link c.deliver_turn-worked.new.link (all_frames i.0) (frames_of d.0.claimed d.0.exchange) (all_replies i.0) (replies_of d.0.claimed d.0.exchange) (all_passed i.0) (passed_of d.0.claimed d.0.exchange) so_far (d.3 so_far.tells),
      λ told. let so_far = i.7 told in reads_then g.C.Clock.clock c.args.clock.now c.loop-reported.clock c.deliver_turn-worked.new.clock (all_readings i.0) (readings d.0) so_far (d.4 so_far.tells),
      λ told. let so_far = i.8 told in prints_none g.O.Sink.sink c.args.output.now c.loop-reported.output (lines_of i.0) (last_line d.0) so_far.0 so_far.1,
    )

pub returns-in-Err-clause-drain : goal.returns-in-Err-clause-drain
returns-in-Err-clause-drain g c =
    let i = c.loop-reported.invariant.3 in
    let d = c.deliver_turn-worked.ensures.turn in
    let report = ap (λ (w : Worked). report_of w) (sym d.1) ∙ sym c.report_of.ensures ∙ c.in-Some.is in (
      d.0,
      i.0,
      i.1,
      line_end (lost_in i.0) (refused_in i.0) (word d.0) c.in-Err.drained (is_reported (word d.0) c.in-Some.reported report) c.in-Err.ensures.fault,
      (
        i.5.0 ++ (d.2.1 ++ d.2.2),
        λ b is.
            let chain = i.5.1 b is in
            drain_ends g.K.Keeper.keeper c.args.room.now c.loop-reported.room d.2.0 c.deliver_turn-worked.new.room b (g.L.Link.link.serves c.args.link.now) i.0 i.5.0 d.0 d.2.1 d.2.2 chain (subst (λ (ns : List Bytes). TurnHappens g.K.Keeper.keeper c.loop-reported.room d.2.0 c.deliver_turn-worked.new.room (onto i.5.0 b) ns d.0 d.2.1 d.2.2) i.4 (d.2.3 (onto i.5.0 b) chain.behind.stands)),
      ),
      λ told. let so_far = i.6 told in passes_more g.L.Link.link c.args.link.now c.loop-reported.link c.deliver_turn-worked.new.link (all_frames i.0) (frames_of d.0.claimed d.0.exchange) (all_replies i.0) (replies_of d.0.claimed d.0.exchange) (all_passed i.0) (passed_of d.0.claimed d.0.exchange) so_far (d.3 so_far.tells),
      λ told. let so_far = i.7 told in reads_then g.C.Clock.clock c.args.clock.now c.loop-reported.clock c.deliver_turn-worked.new.clock (all_readings i.0) (readings d.0) so_far (d.4 so_far.tells),
      λ told. let so_far = i.8 told in
          prints_some g.O.Sink.sink c.args.output.now c.loop-reported.output c.write_report.new.output (lines_of i.0) (last_line d.0) _ (ap line_of (sym report)) so_far.1 (c.in-Err.ensures.writes so_far.0),
    )

pub loop-reported-preserved : goal.loop-reported-preserved
loop-reported-preserved g c =
    let i = c.loop-reported.invariant.3 in
    let d = c.deliver_turn-worked.ensures.turn in
    let report = ap (λ (w : Worked). report_of w) (sym d.1) ∙ sym c.report_of.ensures ∙ c.in-Some.is in
    let reported = is_reported (word d.0) c.in-Some.reported report in
    let worked = c.deliver_turn-worked.result in
    let told = sym c.report_of.ensures ∙ c.in-Some.is in
    let link = g.L.Link.link in
    let lost = ap (λ (x : Bool). c.loop-reported.link_failed || x) c.is_link_fault-link_failed.ensures in (
      subst (λ (x : Bool). CountsFaults x (link.faults c.args.link.now) (link.faults c.deliver_turn-worked.new.link)) (sym lost)
          (counts_then c.loop-reported.link_failed (is_link_fault worked) (link.faults c.args.link.now) (link.faults c.loop-reported.link) (link.faults c.deliver_turn-worked.new.link) c.loop-reported.invariant.0 c.deliver_turn-worked.ensures.link_faults),
      calm_by worked (g.K.Keeper.keeper.faults c.loop-reported.room.keeper) (g.K.Keeper.keeper.faults c.deliver_turn-worked.new.room.keeper) (is_reported worked c.in-Some.reported told) c.deliver_turn-worked.ensures.store_faults ∙ c.loop-reported.invariant.1,
      c.in_default-write_report.ensures.count ∙ c.loop-reported.invariant.2,
      (
        d.0 ∷ i.0,
        (reported, i.1),
        ap (λ (x : Bool). x || c.is_link_fault-link_failed.result) i.2 ∙ ap (λ (x : Bool). lost_in i.0 || x) (c.is_link_fault-link_failed.ensures ∙ ap (λ (w : Worked). is_link_fault w) d.1),
        ap (λ (x : Bool). x || c.is_no_receipt-no_receipt.result) i.3 ∙ ap (λ (x : Bool). refused_in i.0 || x) (c.is_no_receipt-no_receipt.ensures ∙ ap (λ (w : Worked). is_no_receipt w) d.1),
        c.deliver_turn-worked.ensures.serves ∙ i.4,
        (
          i.5.0 ++ (d.2.1 ++ d.2.2),
          λ b is.
              let chain = i.5.1 b is in
              chain_more g.K.Keeper.keeper c.args.room.now c.loop-reported.room d.2.0 c.deliver_turn-worked.new.room b (g.L.Link.link.serves c.args.link.now) i.0 i.5.0 d.0 d.2.1 d.2.2 chain (subst (λ (ns : List Bytes). TurnHappens g.K.Keeper.keeper c.loop-reported.room d.2.0 c.deliver_turn-worked.new.room (onto i.5.0 b) ns d.0 d.2.1 d.2.2) i.4 (d.2.3 (onto i.5.0 b) chain.behind.stands)) reported,
        ),
        λ told. let so_far = i.6 told in passes_more g.L.Link.link c.args.link.now c.loop-reported.link c.deliver_turn-worked.new.link (all_frames i.0) (frames_of d.0.claimed d.0.exchange) (all_replies i.0) (replies_of d.0.claimed d.0.exchange) (all_passed i.0) (passed_of d.0.claimed d.0.exchange) so_far (d.3 so_far.tells),
        λ told. let so_far = i.7 told in reads_then g.C.Clock.clock c.args.clock.now c.loop-reported.clock c.deliver_turn-worked.new.clock (all_readings i.0) (readings d.0) so_far (d.4 so_far.tells),
        λ told.
            let so_far = i.8 told in
            let wrote = c.in_default-write_report.ensures.writes so_far.0 in
            (wrote.0, lines_more g.O.Sink.sink c.args.output.now c.loop-reported.output c.write_report.new.output (lines_of i.0) (last_line d.0) _ (ap line_of (sym report)) so_far.1 wrote.1),
      ),
    )

pub loop-reported-smaller : goal.loop-reported-smaller
loop-reported-smaller g c =
    let i = c.loop-reported.invariant.3 in
    let d = c.deliver_turn-worked.ensures.turn in
    let report = ap (λ (w : Worked). report_of w) (sym d.1) ∙ sym c.report_of.ensures ∙ c.in-Some.is in
    let b = c.requires.stands.0 in
    let chain = i.5.1 b c.requires.stands.1 in
    let on = turn_goes g.K.Keeper.keeper c.loop-reported.room d.2.0 c.deliver_turn-worked.new.room (onto i.5.0 b) (g.L.Link.link.serves c.args.link.now) d.0 d.2.1 d.2.2 (subst (λ (ns : List Bytes). TurnHappens g.K.Keeper.keeper c.loop-reported.room d.2.0 c.deliver_turn-worked.new.room (onto i.5.0 b) ns d.0 d.2.1 d.2.2) i.4 (d.2.3 (onto i.5.0 b) chain.behind.stands)) (is_reported (word d.0) c.in-Some.reported report) in
    let grew : g.K.Keeper.keeper.used c.loop-reported.room.keeper < g.K.Keeper.keeper.used c.deliver_turn-worked.new.room.keeper = on.grew.0 in
    let within : g.K.Keeper.keeper.used c.deliver_turn-worked.new.room.keeper ≤ 1073737728 = on.grew.1 in
    omega (arith, grew, within)

pub returns-in_default-clause-link_faults : goal.returns-in_default-clause-link_faults
returns-in_default-clause-link_faults g c =
    let link = g.L.Link.link in
    let worked = c.deliver_turn-worked.result in
    link_ends c.loop-reported.link_failed c.loop-reported.no_receipt worked c.ended.result (link.faults c.args.link.now) (link.faults c.deliver_turn-worked.new.link) c.ended.ensures
    (counts_then c.loop-reported.link_failed (is_link_fault worked) (link.faults c.args.link.now) (link.faults c.loop-reported.link) (link.faults c.deliver_turn-worked.new.link) c.loop-reported.invariant.0 c.deliver_turn-worked.ensures.link_faults)

pub returns-in_default-clause-store_faults : goal.returns-in_default-clause-store_faults
returns-in_default-clause-store_faults g c =
    let worked = c.deliver_turn-worked.result in
    store_ends worked c.loop-reported.link_failed c.loop-reported.no_receipt c.ended.result (g.K.Keeper.keeper.faults c.args.room.now.keeper) (g.K.Keeper.keeper.faults c.deliver_turn-worked.new.room.keeper) c.ended.ensures
    (counts_behind (is_store_fault worked) (g.K.Keeper.keeper.faults c.args.room.now.keeper) (g.K.Keeper.keeper.faults c.loop-reported.room.keeper) (g.K.Keeper.keeper.faults c.deliver_turn-worked.new.room.keeper) c.loop-reported.invariant.1 c.deliver_turn-worked.ensures.store_faults)

pub returns-in_default-clause-output_faults : goal.returns-in_default-clause-output_faults
returns-in_default-clause-output_faults g c =
    output_calm c.deliver_turn-worked.result c.loop-reported.link_failed c.loop-reported.no_receipt c.ended.result (g.O.Sink.sink.faults c.args.output.now) (g.O.Sink.sink.faults c.loop-reported.output) c.ended.ensures c.loop-reported.invariant.2

pub returns-in-Err-clause-link_faults : goal.returns-in-Err-clause-link_faults
returns-in-Err-clause-link_faults g c = line_link c.in-Err.drained (g.L.Link.link.faults c.args.link.now) (g.L.Link.link.faults c.deliver_turn-worked.new.link) c.in-Err.ensures.fault

pub returns-in-Err-clause-store_faults : goal.returns-in-Err-clause-store_faults
returns-in-Err-clause-store_faults g c =
    let worked = c.deliver_turn-worked.result in
    let reported = is_reported worked c.in-Some.reported (sym c.report_of.ensures ∙ c.in-Some.is) in
    line_calm c.in-Err.drained (g.K.Keeper.keeper.faults c.args.room.now.keeper) (g.K.Keeper.keeper.faults c.deliver_turn-worked.new.room.keeper) c.in-Err.ensures.fault
    (calm_by worked (g.K.Keeper.keeper.faults c.loop-reported.room.keeper) (g.K.Keeper.keeper.faults c.deliver_turn-worked.new.room.keeper) reported c.deliver_turn-worked.ensures.store_faults ∙ c.loop-reported.invariant.1)

pub returns-in-Err-clause-output_faults : goal.returns-in-Err-clause-output_faults
returns-in-Err-clause-output_faults g c =
    counts_behind (is_output_end c.in-Err.drained) (g.O.Sink.sink.faults c.args.output.now) (g.O.Sink.sink.faults c.loop-reported.output) (g.O.Sink.sink.faults c.write_report.new.output) c.loop-reported.invariant.2 c.in-Err.ensures.count

pub returns-in_default-clause-serves : goal.returns-in_default-clause-serves
returns-in_default-clause-serves g c = c.deliver_turn-worked.ensures.serves ∙ c.loop-reported.invariant.3.4

pub returns-in-Err-clause-serves : goal.returns-in-Err-clause-serves
returns-in-Err-clause-serves g c = c.deliver_turn-worked.ensures.serves ∙ c.loop-reported.invariant.3.4
