use Rattle.std.proofs.Common.{arith}
use Rattle.line_run.proofs.Inputs.{flushed, some_passed, not_output, ran_nothing, ran_unwritten, ran_begun, last_members, last_stops}
use Rattle.line_run.proofs.Ended.{ran_passed}
use Rattle.line_run.proofs.reading.answer_members.Goals as goal

pub returns-in-Err-clause-ran : goal.returns-in-Err-clause-ran
returns-in-Err-clause-ran g c = λ shelf h stands. ran_unwritten _ _ _ _ _ _ _ _ _ _ _ h stands (flushed _ _ _ c.flush.ensures.told c.flush.ensures.same) c.flush.ensures.kept

pub returns-in_default-empty_piece-clause-ran : goal.returns-in_default-empty_piece-clause-ran
returns-in_default-empty_piece-clause-ran g c = λ shelf h stands.
    ran_begun _ _ _ _ _ _ _ _ _ _ _ _ _ _ h _ (flushed _ _ _ c.flush.ensures.told c.flush.ensures.same) c.in_default.ensures.passed (ran_nothing _ _ _ _ _ _ _ _ _ _ h stands)

pub returns-in-Err-answer_pieces-clause-ran : goal.returns-in-Err-answer_pieces-clause-ran
returns-in-Err-answer_pieces-clause-ran g c = λ shelf h stands.
    ran_begun _ _ _ _ _ _ _ _ _ _ _ _ _ _ h _ (flushed _ _ _ c.flush.ensures.told c.flush.ensures.same) c.in_default.ensures.passed (c.in-Err-answer_pieces.ensures.reads shelf h stands)

pub returns-in-Err-answer_pieces-clause-passed : goal.returns-in-Err-answer_pieces-clause-passed
returns-in-Err-answer_pieces-clause-passed g c = λ t other.
    let at = c.requires.stands in
    ran_passed _ _ _ _ _ (g.M.Members.all at.0) _ _ _ _ _ _ _ at.1.0 _ (c.in-Err-answer_pieces.ensures.reads at.0 at.1.0 at.1.1) other (c.flush.ensures.told t) (c.in_default.ensures.passed t)

pub answer_end-requires-clause-stands : goal.answer_end-requires-clause-stands
answer_end-requires-clause-stands g c =
    let at = c.requires.stands in
    (at.0, (_, (c.in_default-answer_pieces.ensures.reads at.0 at.1.0 at.1.1).done.kept.list))

pub answer_end-requires-clause-begun : goal.answer_end-requires-clause-begun
answer_end-requires-clause-begun g c =
    let at = c.requires.stands in
    let before = c.in_default-answer_pieces.ensures.reads at.0 at.1.0 at.1.1 in
    (before.read, before.reader, omega (arith, before.few, c.requires.most))

pub returns-in-Err-answer_end-clause-ran : goal.returns-in-Err-answer_end-clause-ran
returns-in-Err-answer_end-clause-ran g c = λ shelf h stands.
    ran_begun _ _ _ _ _ _ _ _ _ _ _ _ _ _ h _ (flushed _ _ _ c.flush.ensures.told c.flush.ensures.same) c.in_default.ensures.passed
    (last_stops _ _ _ _ _ (g.M.Members.all shelf) _ _ _ _ _ _ _ _ _ _ h _ _ _ _ _ (c.in_default-answer_pieces.ensures.reads shelf h stands) c.in-Err-answer_end.ensures.causes (c.in-Err-answer_end.ensures.did shelf))

pub returns-in-Err-answer_end-clause-passed : goal.returns-in-Err-answer_end-clause-passed
returns-in-Err-answer_end-clause-passed g c = λ t other.
    let at = c.requires.stands in
    let before = c.in_default-answer_pieces.ensures.reads at.0 at.1.0 at.1.1 in
    let last = c.in-Err-answer_end.ensures.did at.0 before.read before.reader in
    let told = c.flush.ensures.told t in
    some_passed _ _ _ _ _ _ _ _ _ _ (not_output _ other) (last.2 _ before.done.kept.list) (before.done.wrote.told told) (before.done.passed told (c.in_default.ensures.passed t))

pub returns-clause-ran : goal.returns-clause-ran
returns-clause-ran g c = λ shelf h stands.
    ran_begun _ _ _ _ _ _ _ _ _ _ _ _ _ _ h _ (flushed _ _ _ c.flush.ensures.told c.flush.ensures.same) c.in_default.ensures.passed
    (last_members _ _ _ _ _ (g.M.Members.all shelf) _ _ _ _ _ _ _ _ _ _ h (c.in_default-answer_pieces.ensures.reads shelf h stands) (c.in_default-answer_end.ensures.did shelf))

pub returns-clause-passed : goal.returns-clause-passed
returns-clause-passed g c = λ t other.
    let at = c.requires.stands in
    let before = c.in_default-answer_pieces.ensures.reads at.0 at.1.0 at.1.1 in
    let last = c.in_default-answer_end.ensures.did at.0 before.read before.reader in
    let told = c.flush.ensures.told t in
    (last.2 _ before.done.kept.list).passed (before.done.wrote.told told) (before.done.passed told (c.in_default.ensures.passed t))
