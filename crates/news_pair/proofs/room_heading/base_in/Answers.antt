use Rattle.std.proofs.Common.{◌<◌, [], ◌∷◌, ℕ, List, get_or, drop, refl, sym, ◌∙◌, ap, arith}
use Rattle.std.proofs.lemmas.Nat.{be_bytes_8}
use Rattle.news_pair.specs.Pair.{six}
use Rattle.news_pair.proofs.Heads.{six_at, all_small}
use Rattle.news_pair.proofs.room_heading.base_in.Goals as goal

pub returns-clause-bytes : goal.returns-clause-bytes
unfolding six
returns-clause-bytes c =
    let h = c.args.head.now in
    let small = λ (i : ℕ). let fits : get_or h i 0 < 256 = c.fits-head i in fits in
    let bytes : List ℕ = 0 ∷ 0 ∷ get_or h 10 0 ∷ get_or h 11 0 ∷ get_or h 12 0 ∷ get_or h 13 0 ∷ get_or h 14 0 ∷ get_or h 15 0 ∷ [] in
    ap (drop 2) (be_bytes_8 bytes c.from_be_bytes.result refl (all_small _ _ _ _ _ _ (small 10) (small 11) (small 12) (small 13) (small 14) (small 15)) c.from_be_bytes.ensures)
    ∙ sym (six_at h (omega (arith, c.told-head)))
