use Rattle.std.proofs.Common.{sym, false}
use Rattle.std.proofs.lemmas.Bool.{true≢false}
use Rattle.news_types.specs.Books.{Book}
use Rattle.newsdesk_server.proofs.opening.open_store.Goals as goal

pub returns-in-Ok-clause-stands : goal.returns-in-Ok-clause-stands
returns-in-Ok-clause-stands g c =
    let o = c.in-Ok.ensures.opened in
    let b : Book = record { store = o.store; told = false; list = o.history } in
    (b, (o.holds false (λ is. absurd (true≢false (sym is)))).stands)
