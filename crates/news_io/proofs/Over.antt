-- What a write over a part of a file, and past its end, keeps.
use Rattle.std.proofs.Common.{◌≡◌, ◌≤◌, ℕ, ◌+◌, ◌-◌, List, drop, refl, sym, ◌∙◌, ap, arith}
use Rattle.std.proofs.lemmas.List.{drop-drop}
use Rattle.news_io.specs.Disk.{Torn}

pub torn_same : (at n : ℕ) (c : List ℕ) → Torn at n c c
torn_same at n c = record { before = λ k le le'. refl; after = refl; no_shorter = omega arith; no_longer = omega arith }

-- a write of fewer bytes
pub torn_fewer : (at m n : ℕ) (old new : List ℕ) → m ≤ n → Torn at m old new → Torn at n old new
torn_fewer at m n old new le torn = record {
  before = torn.before;
  after = behind (n - m) (omega (arith, le));
  no_shorter = torn.no_shorter;
  no_longer = omega (arith, torn.no_longer, le);
}
  where
    behind : (more : ℕ) → at + n ≡ at + m + more → drop (at + n) new ≡ drop (at + n) old
    behind more is = rw is (sym (drop-drop more (at + m) new) ∙ ap (λ (l : List ℕ). drop more l) torn.after ∙ drop-drop more (at + m) old)
