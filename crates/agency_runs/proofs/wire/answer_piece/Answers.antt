use Rattle.std.proofs.Common.{◌++◌, [], subst, arith}
use Rattle.line_run.specs.declared.ending.Ending.TheVariants as end
use Rattle.line_run.proofs.Runs.{none_some, some_of}
use Rattle.run_status.proofs.Tellings.{wrote_none}
use Rattle.news_io.proofs.Pieces.{first_all}
use Rattle.agency_wires.specs.Gives.{IsUndecided}
use Rattle.agency_runs.proofs.Ready.{fed_first, fed_all, fed_none, fed_placed, taken_more}
use Rattle.agency_runs.proofs.wire.answer_piece.Goals as goal

pub feed-requires-clause-open : goal.feed-requires-clause-open
feed-requires-clause-open g c = c.requires.taken.1.going

pub feed-requires-clause-fits : goal.feed-requires-clause-fits
feed-requires-clause-fits g c = omega (arith, c.requires.taken.1.place, c.requires.taken.2)

pub answer_ready-requires-clause-placed : goal.answer_ready-requires-clause-placed
answer_ready-requires-clause-placed g c =
    fed_placed c.args.reader.now c.feed.new.self c.requires.taken.0 c.args.piece.now c.requires.taken.1 c.in_default.ensures.members c.requires.taken.2

pub returns-in-Err-clause-did : goal.returns-in-Err-clause-did
returns-in-Err-clause-did g c = λ read taken.
    let later = fed_none c.args.reader.now read c.args.piece.now taken in (
      later.0,
      later.1,
      λ shelf h stands. some_of _ _ _ _ _ _ _ h [] later.0 end.Memory
          (none_some (g.A.Receiving.meaning shelf) (g.A.Receiving.life shelf) g.O.Sink.sink c.args.desk.now c.args.output.now c.args.output.now h end.Memory (λ none. none) stands (wrote_none _ _) (λ t. first_all _)),
    )

pub returns-in-Err-answer_ready-clause-did : goal.returns-in-Err-answer_ready-clause-did
returns-in-Err-answer_ready-clause-did g c = λ read taken.
    let later = fed_first c.args.reader.now c.feed.new.self read c.args.piece.now taken c.in_default.ensures.members in
    (c.feed.new.self.ready ++ later.0, later.1, λ shelf h stands. some_of _ _ _ _ _ _ _ h c.feed.new.self.ready later.0 _ (c.in-Err-answer_ready.ensures.did shelf h stands))

pub returns-clause-taken : goal.returns-clause-taken
returns-clause-taken g c = λ read taken.
    taken_more c.args.reader.now c.feed.new.self c.answer_ready.new.reader read c.args.piece.now taken c.in_default.ensures.members c.feed.ensures.open c.in_default.ensures.at
    c.in_default-answer_ready.ensures.rest c.in_default-answer_ready.ensures.undecided

pub returns-clause-did : goal.returns-clause-did
returns-clause-did g c = λ read taken. (
  c.feed.new.self.ready,
  fed_all c.args.reader.now c.feed.new.self read c.args.piece.now taken c.in_default.ensures.members (subst IsUndecided c.in_default-answer_ready.ensures.rest c.in_default-answer_ready.ensures.undecided),
  λ shelf h stands. c.in_default-answer_ready.ensures.did shelf h stands,
)
