-- ASCII, many bytes at once.
use Rattle.std.proofs.Common.{◌≡◌, ◌∙◌, ◌<◌, ◌≤◌, ◌+◌, ◌%◌, ◌^◌, ℕ, not, false, cond, leb, eqb, List, map, slice_index, get_or, length, ap, arith}
use Rattle.std.proofs.lemmas.Bool.Decides.{nat_tests}
use Rattle.std.proofs.lemmas.Simd.{length-chunk, first_set_mask_l, run_in_chunk_fails}
use Rattle.std.specs.Int.{w64, trailing_zeros}
use Rattle.memchr.proofs.lemmas.LaneLemmas.{is_set, top_bitmask}
use lib.Lanes.{chunk, zip2, mask_l, top}
use lib.ListN.{replicate}
use Rattle.std.specs.List.{prefix_len}

-- the comparison's lowest bit stands where the ASCII ends
pub run_counted : (text : List ℕ) (at run : ℕ) → at + 32 ≤ length text
    → run ≡ cond (eqb (mask_l (map (top 7) (zip2 (λ a b. cond (leb a b) 255 0) (replicate 32 128) (chunk at 32 text))) % 2 ^ 64) 0) 32 (trailing_zeros w64 (mask_l (map (top 7) (zip2 (λ a b. cond (leb a b) 255 0) (replicate 32 128) (chunk at 32 text))) % 2 ^ 64))
    → run ≡ prefix_len (λ b. not (is_set b)) (chunk at 32 text)
run_counted text at run room is =
    let long = length-chunk at 32 text room in
    is ∙ ap (λ (m : ℕ). cond (eqb m 0) 32 (trailing_zeros w64 m)) (top_bitmask (chunk at 32 text) 32 long (omega arith)) ∙ first_set_mask_l is_set (chunk at 32 text) 32 long (omega arith)

is_small : (b : ℕ) → is_set b ≡ false → b < 128
is_small b is = grind (arith, nat_tests)

pub run_ascii : (text : List ℕ) (at run : ℕ) → at + 32 ≤ length text → run ≡ prefix_len (λ b. not (is_set b)) (chunk at 32 text) → (k : ℕ) → at ≤ k → k < at + run → slice_index text k < 128
run_ascii text at run room counted k from to = is_small (get_or text k 0) (run_in_chunk_fails is_set text at 32 run 0 room counted k from to)
