use Rattle.std.proofs.Common.{ℕ, ap, ◌∙◌}
use Rattle.news_types.specs.History.{last_stop}
use Rattle.news_types.specs.Books.{onto}
use Rattle.feed_http.specs.Outcome.{stop_behind}
use Rattle.feed_http.proofs.turn.answer_one.Goals as goal

pub answer_read-response-requires-clause-stands : goal.answer_read-response-requires-clause-stands
answer_read-response-requires-clause-stands g c = c.requires.stands

pub answer_read-response-requires-clause-fits : goal.answer_read-response-requires-clause-fits
answer_read-response-requires-clause-fits g c = c.requires.fits

pub returns : goal.returns
returns g c =
    let r = c.answer_read-response.ensures in (
      r.0,
      λ b stands.
          let turn = r.1 b stands in
          record {
            turn = turn;
            stop = c.stop_behind.ensures ∙ ap (λ (n : ℕ). stop_behind n c.last_stop.result) (c.last_stop-before.ensures b stands)
                ∙ ap (λ (n : ℕ). stop_behind (last_stop b.list) n) (c.last_stop.ensures (onto r.0 b) turn.stands);
          },
    )
