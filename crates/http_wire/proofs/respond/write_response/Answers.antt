use Rattle.std.proofs.Common.{List, ℕ, [], ◌∷◌, ◌∙◌, ◌≡◌, subst, length}
use Rattle.std.specs.Prelude.{codes, decimal}
use Rattle.std.specs.List.{concat}
use Rattle.http_wire.specs.Writing.{Writes}
use Rattle.http_wire.proofs.respond.write_response.Goals as goal

pub returns-clause-wrote : goal.returns-clause-wrote
returns-clause-wrote g c tells =
    let number : c.as_bytes.result.now ≡ decimal c.args.status = c.as_bytes.ensures.value ∙ c.format.ensures.text in
    let kind : c.as_bytes-2.result.now ≡ c.args.media.now = c.as_bytes-2.ensures.value in
    let size : c.as_bytes-3.result.now ≡ decimal (length c.args.body.now) = c.as_bytes-3.ensures.value ∙ c.format-2.ensures.text in
    subst (λ (text : List ℕ). Writes g.O.Sink.sink c.args.sink.now c.write_pieces.new.sink text c.write_pieces.result)
    (λ i. concat (codes "HTTP/1.1 " ∷ number i ∷ codes " \r\nContent-Type: " ∷ kind i ∷ codes "\r\nContent-Length: " ∷ size i ∷ codes "\r\n\r\n" ∷ c.args.body.now ∷ []))
    (c.write_pieces.ensures.wrote tells)
