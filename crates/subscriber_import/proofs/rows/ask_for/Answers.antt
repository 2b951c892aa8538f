use Rattle.std.proofs.Common.{[], Some, None, Result, sym, subst}
use Rattle.news_types.specs.declared.command.Command.{Command}
use Rattle.news_types.specs.Calls.{Requested}
use Rattle.news_room.specs.Events.{Happens}
use Rattle.news_room.specs.Said.{said}
use Rattle.news_room.specs.Stands.{numbers}
use Rattle.news_room.specs.Steps.{After, RequestStep}
use Rattle.subscriber_import.specs.declared.line.Line.{Line}
use Rattle.subscriber_import.specs.declared.rows.Stop.{Stop}
use Rattle.subscriber_import.specs.Seen.{seen}
use Rattle.subscriber_import.specs.Steps.{next_of, RowStep, NumberStep, is_stop_fault}
use Rattle.subscriber_import.proofs.Importing.{asked_told, number_lost}
use Rattle.subscriber_import.proofs.rows.ask_for.Goals as goal

pub returns-in-Some : goal.returns-in-Some
returns-in-Some g c = (
  c.request.ensures.0,
  λ b stands new_one.
      let keeper = g.K.Keeper.keeper in
      let old = c.args.room.now in
      let mid = c.next_number.new.room in
      let new = c.request.new.self in
      let w = seen c.args.wanted in
      let more = c.request.ensures.0 in
      let handled = c.request.result in
      let one = c.in-Some.ensures b stands in
      let two =
      subst (λ (k : Command). Happens keeper mid new b more (Requested c.args.caller c.in-Some.number k) c.args.now (said handled) (RequestStep (numbers keeper mid new) b c.args.now c.args.caller c.in-Some.number k more handled))
      c.add_command.ensures (c.request.ensures.1 b one.stands) in
      subst (λ (r : Result Line Stop). After keeper old new b (next_of b.list c.args.caller c.args.now (Some w)) more (is_stop_fault r) (RowStep (numbers keeper old new) b.list c.args.caller c.args.now (Some w) more r))
      (sym c.told.ensures) (asked_told keeper old mid new b c.args.caller c.args.now c.in-Some.number w more handled new_one one two),
)

pub returns-in-None : goal.returns-in-None
returns-in-None g c = (
  [],
  λ b stands new_one.
      let keeper = g.K.Keeper.keeper in
      let old = c.args.room.now in
      let mid = c.next_number.new.room in
      let one = c.in-None.ensures b stands in
      number_lost keeper old mid b c.args.caller c.args.now (Some (seen c.args.wanted)) (NumberStep (numbers keeper old mid) b.list c.args.caller None) one one.did,
)
