use Rattle.std.proofs.Common.{ap, sym, ◌∙◌}
use mathlib.Core.Bool.{true≢false}
use Rattle.newsroom.specs.Asking.{asks_frame}
use Rattle.newsroom.proofs.Framing.{plain_but_frame, ok_weaker}
use Rattle.newsroom.proofs.newsroom.Newsroom.ask.Goals as goal

pub returns-in-Frame-clause-answer : goal.returns-in-Frame-clause-answer
returns-in-Frame-clause-answer c = rw c.in-Frame.is c.ask_frame.ensures

pub returns-in-Frame-clause-plain : goal.returns-in-Frame-clause-plain
returns-in-Frame-clause-plain c plain = absurd (true≢false (sym (ap asks_frame c.in-Frame.is) ∙ plain))

pub ask_plain-requires-clause-plain : goal.ask_plain-requires-clause-plain
ask_plain-requires-clause-plain c = plain_but_frame c.args.query.now c.in_default.not-Frame

pub returns-in_default-clause-answer : goal.returns-in_default-clause-answer
returns-in_default-clause-answer c = ok_weaker c.ask_plain.result _ _ (λ told each h stands. each h _ stands) c.ask_plain.ensures

pub returns-in_default-clause-plain : goal.returns-in_default-clause-plain
returns-in_default-clause-plain c plain = c.ask_plain.ensures
