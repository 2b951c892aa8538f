use Rattle.std.proofs.Common.{◌+◌, ◌<◌, List, ℕ, length, ap, subst, arith}
use Rattle.std.specs.Str.{IsCharBoundary}
use Rattle.std.proofs.lemmas.Str.{IsCharBoundary-after_ascii}
use Rattle.archive_query.proofs.tokens.Tokens.next.Goals as goal

pub range_from-requires : goal.range_from-requires
range_from-requires c some =
    let text = c.as_bytes.result.now in
    let len = c.first_len-len.result in
    let inside : len < length text = omega (arith, c.first_len-len.ensures.within, ap length c.as_bytes.ensures.value) in
    subst (λ (t : List ℕ). IsCharBoundary t (len + 1)) c.as_bytes.ensures.value (IsCharBoundary-after_ascii text len c.as_bytes.ensures.utf8 inside (omega (arith, c.first_len-len.ensures.space inside)))
