use Rattle.std.proofs.Common.{map, All}
use Rattle.wire_bodies.specs.Bodies.{FitsMember}
use Rattle.feed_http.specs.Serving.{HasRows}
use Rattle.feed_http.proofs.wire.answer_wire.Given as goal

abbrev pub invariant-loop-member : goal.invariant-loop-member
invariant-loop-member g l = record {
  ready : g.A.Answers.is_ready l.room;
  fits : All FitsMember l.member-iterator.rest.items;
  has : HasRows g.A.Answers.turn g.C.Clock.clock l.fn.room l.room l.fn.clock l.clock l.fn.wire.caller l.fn.wire.provider l.fn.wire.members l.member-iterator.rest.items (map (λ row. row.items) l.rows.items) l.stop;
}
