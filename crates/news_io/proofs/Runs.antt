-- How a run of calls goes on.
use Rattle.std.proofs.Common.{inl, inr, ⊎_elim, ℕ, List, arith}
use Rattle.news_io.specs.Disk.{DiskMeaning, LeavesOnly}
use Rattle.news_io.specs.Moments.{Elapses}

pub elapses_same : {C : Type 0} (a : ℕ) (past : ℕ → C → Type 0) (P : C → Type 0) → Elapses a a past past P
elapses_same a past P = record { later = omega arith; nothing_else = λ t c le left. inl left; keeps = λ t c le left. left }

pub elapses_weaker : {C : Type 0} (a b : ℕ) (past since : ℕ → C → Type 0) (P R : C → Type 0) → Elapses a b past since P → ((c : C) → P c → R c) → Elapses a b past since R
elapses_weaker a b past since P R e f = record {
  later = e.later;
  nothing_else = λ t c le left. ⊎_elim (λ was. inl was) (λ now. inr (f c now)) (e.nothing_else t c le left);
  keeps = e.keeps;
}

pub elapses_then : {C : Type 0} (a b d : ℕ) (past mid since : ℕ → C → Type 0) (R : C → Type 0) → Elapses a b past mid R → Elapses b d mid since R → Elapses a d past since R
elapses_then a b d past mid since R e f = record {
  later = omega (arith, e.later, f.later);
  nothing_else = λ t c le left. ⊎_elim (λ was. e.nothing_else t c le was) (λ now. inr now) (f.nothing_else t c (omega (arith, le, e.later)) left);
  keeps = λ t c le left. f.keeps t c (omega (arith, le, e.later)) (e.keeps t c le left);
}

module _ {D : Type 0} (disk : DiskMeaning D) where
  -- before the first call
  pub started : (old : D) (P : List ℕ → Type 0) → ((c : List ℕ) → disk.left_since old (disk.moment old) c → P c) → LeavesOnly disk old old P
  started old P here = record { later = omega arith; each = here; before = λ t c le left. inl left }

  -- one call more
  pub goes_on : (old mid new : D) (P Q R : List ℕ → Type 0) → LeavesOnly disk old mid P → Elapses (disk.moment mid) (disk.moment new) (disk.left_since mid) (disk.left_since new) Q
      → ((c : List ℕ) → P c → R c) → ((c : List ℕ) → Q c → R c) → LeavesOnly disk old new R
  goes_on old mid new P Q R so_far time was here = record {
    later = omega (arith, so_far.later, time.later);
    each = λ c left. ⊎_elim (λ past. was c (so_far.each c past)) (λ now. here c now) (time.nothing_else (disk.moment old) c so_far.later left);
    before = λ t c le left. ⊎_elim (λ past. ⊎_elim (λ earlier. inl earlier) (λ p. inr (was c p)) (so_far.before t c le past)) (λ now. inr (here c now)) (time.nothing_else t c (omega (arith, le, so_far.later)) left);
  }

  -- one run more
  pub goes_on_run : (old mid new : D) (P Q R : List ℕ → Type 0) → LeavesOnly disk old mid P → LeavesOnly disk mid new Q → ((c : List ℕ) → P c → R c) → ((c : List ℕ) → Q c → R c) → LeavesOnly disk old new R
  goes_on_run old mid new P Q R so_far more was here = record {
    later = omega (arith, so_far.later, more.later);
    each = λ c left. ⊎_elim (λ past. was c (so_far.each c past)) (λ now. here c now) (more.before (disk.moment old) c so_far.later left);
    before = λ t c le left. ⊎_elim (λ past. ⊎_elim (λ earlier. inl earlier) (λ p. inr (was c p)) (so_far.before t c le past)) (λ now. inr (here c now)) (more.before t c (omega (arith, le, so_far.later)) left);
  }
