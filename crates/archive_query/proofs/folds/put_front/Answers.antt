use Rattle.std.proofs.Common.{◌≤◌, ◌<◌, List, ℕ, ap, subst, take, length, slice_index}
use Rattle.std.specs.Str.{IsCharBoundary}
use Rattle.std.proofs.lemmas.Result.{IfOk-weaker}
use Rattle.archive_query.proofs.Folding.{front_boundary, behind_front}
use Rattle.archive_query.proofs.folds.put_front.Goals as goal

pub range_from-requires : goal.range_from-requires
range_from-requires c some =
    let len = c.ascii_len-len.result in
    subst (λ (t : List ℕ). IsCharBoundary t len) c.as_bytes.ensures.value (front_boundary c.as_bytes.result.now len c.as_bytes.ensures.utf8 c.ascii_len-len.ensures.within c.ascii_len-len.ensures.ascii)

pub returns-clause-rest : goal.returns-clause-rest
returns-clause-rest c =
    let text = c.args.text.now in
    let len = c.ascii_len-len.result in
    let is = c.as_bytes.ensures.value in
    IfOk-weaker c.put_first.result _ _ (λ rest h. behind_front text (take len c.as_bytes-2.result.now) c.range_from.result.now c.args.out.now.items c.put_lower.new.out.items c.put_first.new.out.items _ len
    (subst (λ (t : List ℕ). len ≤ length t) is c.ascii_len-len.ensures.within) (subst (λ (t : List ℕ). (k : ℕ) → k < len → slice_index t k < 128) is c.ascii_len-len.ensures.ascii)
    (ap (take len) c.as_bytes-2.ensures.value) c.range_from.ensures.value c.in_ok-put_lower.ensures h) c.put_first.ensures.rest
