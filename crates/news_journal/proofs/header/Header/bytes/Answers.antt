use Rattle.std.proofs.Common.{◌≡◌, [], ◌∷◌, List, ℕ, length, take, sym, ◌∙◌, ap, arith, length-append, rules}
use Rattle.std.proofs.lemmas.List.{take_at, append-nil, length-take-le}
use Rattle.news_journal.specs.Log.{header_bytes}
use Rattle.news_journal.proofs.header.Header.bytes.Goals as goal

pub returns : goal.returns
returns c =
    let is = c.behind_first-behind.ensures.bytes in
    let size : length c.behind_first-behind.result ≡ 64 = search rules in
    let long : length (header_bytes c.args.self.now) ≡ 64 = omega (arith, ap length is, length-append (header_bytes c.args.self.now) (0 ∷ []), size) in
    ap (λ (l : List ℕ). 78 ∷ l) (append-nil c.copy_from_slice.new.self ∙ c.copy_from_slice.ensures.after)
    ∙ ap (λ (l : List ℕ). take 64 l) is
    ∙ take_at (header_bytes c.args.self.now) (0 ∷ []) 64 long

pub slice_bounds-copy_from_slice-end : goal.slice_bounds-copy_from_slice-end
slice_bounds-copy_from_slice-end c = let size : length c.behind_first-behind.result ≡ 64 = search rules in omega (arith, length-take-le 63 c.behind_first-behind.result)

pub copy_from_slice-requires : goal.copy_from_slice-requires
copy_from_slice-requires c = let size : length c.behind_first-behind.result ≡ 64 = search rules in sym (length-take-le 63 c.behind_first-behind.result (omega arith))
