use Rattle.std.proofs.Common.{◌∙◌, ◌≤◌, ◌<◌, ◌-◌, ◌≡◌, List, ℕ, map, length, drop, slice_index, sym, ap, subst, arith, length-drop}
use Rattle.std.proofs.lemmas.List.{drop-map}
use Rattle.std.specs.Str.{IsCharBoundary}
use Rattle.std.specs.Char.{to_ascii_lowercase}
use Rattle.archive_query.specs.Near.{IsMended}
use Rattle.archive_query.proofs.Folding.{front_boundary}
use Rattle.archive_query.proofs.Mending.{part_is, put_back, mended_ascii}
use Rattle.archive_query.proofs.near.mend_front.Goals as goal

pub range_from-requires : goal.range_from-requires
range_from-requires c some =
    let len = c.ascii_len-len.result in
    subst (λ (t : List ℕ). IsCharBoundary t len) c.as_bytes.ensures.value (front_boundary c.as_bytes.result.now len c.as_bytes.ensures.utf8 c.ascii_len-len.ensures.within c.ascii_len-len.ensures.ascii)

pub mend_first-requires : goal.mend_first-requires
mend_first-requires c = record {
  lower =
      part_is c.args.into.now c.ascii_len-len.result ∙ ap (drop c.ascii_len-len.result) c.requires.lower
      ∙ drop-map to_ascii_lowercase c.ascii_len-len.result c.args.text.now ∙ ap (map to_ascii_lowercase) (sym c.range_from.ensures.value);
}

pub returns : goal.returns
returns c =
    let text = c.args.text.now in
    let len = c.ascii_len-len.result in
    let is = c.as_bytes.ensures.value in
    let within : len ≤ length text = subst (λ (t : List ℕ). len ≤ length t) is c.ascii_len-len.ensures.within in
    let front = mended_ascii text c.args.into.now len within (subst (λ (t : List ℕ). (k : ℕ) → k < len → slice_index t k < 128) is c.ascii_len-len.ensures.ascii) c.requires.lower in
    let rest = c.range_from.result.now in
    let place : len ≡ length text - length rest = omega (arith, within, ap length c.range_from.ensures.value, length-drop len text) in
    put_back text c.args.into.now rest c.mend_first.new.into c.mend_first.result.now len place
    (subst (IsMended text c.args.into.now) (sym c.range_from.ensures.value) front) c.mend_first.ensures
