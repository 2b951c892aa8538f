-- What is written of some bytes.
use Rattle.std.specs.Prelude.{◌≡◌, ℕ, ◌++◌, List, [], ◌∷◌, length, codes, decimal, Result, Ok, Err}
use Rattle.std.specs.List.{concat}
use Rattle.news_io.specs.declared.faults.Failed.{Failed}
use Rattle.news_io.specs.Sink.{SinkMeaning}

-- what stands in the text before this rest of it was written
pub record Wrote {O : Type 0} (sink : SinkMeaning O) (old new : O) (text rest : List ℕ) : Type 0 where
  pub said : List ℕ
  pub part : text ≡ said ++ rest
  pub wrote : sink.taken new ≡ sink.taken old ++ said

-- a beginning of the text was written
abbrev pub WroteSome : {O : Type 0} → SinkMeaning O → O → O → List ℕ → Type 0
WroteSome sink old new text = (rest : List ℕ) × Wrote sink old new text rest

-- all of the text, or a beginning of it where the sink failed
abbrev pub Writes : {O : Type 0} → SinkMeaning O → O → O → List ℕ → Result (Unit {0}) Failed → Type 0
Writes sink old new text (Ok u) = sink.taken new ≡ sink.taken old ++ text
Writes sink old new text (Err e) = WroteSome sink old new text

-- all of the text but what is held back, or a beginning of it where the sink failed
abbrev pub Puts : {O : Type 0} → SinkMeaning O → O → O → List ℕ → List ℕ → Result (Unit {0}) Failed → Type 0
Puts sink old new text held (Ok u) = Wrote sink old new text held
Puts sink old new text held (Err e) = WroteSome sink old new text

-- the bytes of a response: its parts, one behind the other
abbrev pub response : ℕ → List ℕ → List ℕ → List ℕ
response status media body =
    concat (codes "HTTP/1.1 " ∷ decimal status ∷ codes " \r\nContent-Type: " ∷ media ∷ codes "\r\nContent-Length: " ∷ decimal (length body) ∷ codes "\r\n\r\n" ∷ body ∷ [])
