use Rattle.std.proofs.Common.{◌∙◌, refl, ℕ, List, [], ◌∷◌, ◌++◌, ap, subst, sym}
use Rattle.news_types.specs.declared.query.Query.TheVariants.{Check}
use Rattle.desk_answers.specs.Answers.{answer_bytes, HasLine}
use Rattle.room_runs.specs.Lines.{no_frames}
use Rattle.room_runs.proofs.Desks.{has_line}
use Rattle.newsdesk_cli.proofs.check.check_text.Goals as goal

pub question_answered-requires : goal.question_answered-requires
question_answered-requires g c = subst HasLine (sym (c.in_ok-answer.ensures.plain refl c.requires.0 no_frames c.requires.1)) (has_line c.requires.0.list Check refl)

pub returns : goal.returns
returns g c b stands = c.in_ok-push.ensures.items ∙ ap (λ (l : List ℕ). l ++ 10 ∷ []) (c.in-Ok.ensures ∙ ap answer_bytes (c.in_ok-answer.ensures.plain refl b no_frames stands))
