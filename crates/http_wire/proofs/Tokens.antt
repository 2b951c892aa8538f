-- A token of httparse is a token of http.
use Rattle.std.specs.Prelude.{◌≡◌, ℕ, List, IsTrue}
use Rattle.std.proofs.Common.{refl, subst}
use Rattle.httparse.specs.Grammar as wire
use Rattle.http_header.specs.Token as head

same_byte : (b : ℕ) → wire.is_token_byte b ≡ head.is_token_byte b
unfolding wire.is_token_byte head.is_token_byte
same_byte b = refl

pub http_token : (bytes : List ℕ) → wire.IsToken bytes → head.IsToken bytes
http_token bytes t = (t.0, λ k d h. subst IsTrue (same_byte _) (t.1 k d h))
