use Rattle.std.proofs.Common.{sym, subst}
use Rattle.desk_answers.specs.Answers.{HasLine, answer_bytes}
use Rattle.room_runs.specs.Lines.{no_frames}
use Rattle.room_runs.specs.Texts.{IsText}
use Rattle.room_runs.proofs.Desks.{has_line, no_frame}
use Rattle.room_runs.proofs.desk.question_told.Goals as goal

pub ask-requires : goal.ask-requires
ask-requires g c = record { stands = c.requires.stands }

pub question_answered-requires : goal.question_answered-requires
question_answered-requires g c = subst HasLine (sym (c.in-Ok.ensures.plain (no_frame c.args.query.now c.requires.asks) c.requires.stands.0 no_frames c.requires.stands.1)) (has_line c.requires.stands.0.list c.args.query.now c.requires.asks)

pub returns-in-Ok : goal.returns-in-Ok
returns-in-Ok g c b stands = subst (λ a. IsText (answer_bytes a) c.question_answered.result) (c.in-Ok.ensures.plain (no_frame c.args.query.now c.requires.asks) b no_frames stands) c.question_answered.ensures
