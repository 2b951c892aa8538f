use Rattle.std.proofs.Common.{◌≡◌, ◌+◌, [], ℕ, List, length, take, sym, ap, subst, arith}
use Rattle.std.proofs.lemmas.List.{length-take}
use Rattle.std.specs.Prelude.{OnOk}
use Rattle.input_lines.specs.Lines.{open_from, ended_from}
use Rattle.input_lines.proofs.Cuts.{open-append, ended-append}
use Rattle.line_run.proofs.Along.{along_did}
use Rattle.line_run.proofs.LinesFirst.{lines_come_first}
use Rattle.line_run.proofs.lines.LineMembersMembers.answer_piece.Goals as goal

pub answer_piece-requires-clause-short : goal.answer_piece-requires-clause-short
answer_piece-requires-clause-short g c = omega (arith, ap length c.requires.begun.1, length-take (c.args.self.now.longest + 2) (open_from [] c.requires.begun.0))

pub returns-clause-taken : goal.returns-clause-taken
returns-clause-taken g c = λ read is.
    subst (λ (l : List ℕ). OnOk c.answer_piece.result (c.answer_piece.new.line.items ≡ take (c.args.self.now.longest + 2) l)) (sym (open-append [] read c.args.piece.now)) (c.answer_piece.ensures.open (open_from [] read) is)

pub returns-clause-first : goal.returns-clause-first
returns-clause-first g c = λ shelf. lines_come_first shelf.longest

pub returns-clause-did : goal.returns-clause-did
returns-clause-did g c = λ shelf read is. (
  ended_from shelf.longest (open_from [] read) c.args.piece.now,
  ended-append shelf.longest [] read c.args.piece.now,
  λ h stands. along_did _ _ _ _ _ _ _ _ _ h (ended_from c.args.self.now.longest (open_from [] read) c.args.piece.now) _ _
      (ap (λ (n : ℕ). ended_from n (open_from [] read) c.args.piece.now) stands.0.1) stands.0
      (c.answer_piece.ensures.did shelf.shelf h (open_from [] read) stands.1 is),
)
