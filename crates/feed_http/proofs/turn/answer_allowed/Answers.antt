use Rattle.feed_http.proofs.turn.answer_allowed.Goals as goal

pub answer_ask-requires-clause-stands : goal.answer_ask-requires-clause-stands
answer_ask-requires-clause-stands g c = c.requires.stands

pub answer_ask-requires-clause-fits : goal.answer_ask-requires-clause-fits
answer_ask-requires-clause-fits g c = c.requires.fits

pub returns : goal.returns
returns g c = c.answer_ask.ensures
