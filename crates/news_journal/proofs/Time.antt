-- How a run of calls goes on.
use Rattle.std.proofs.Common.{◌≡◌, inl, inr, ⊎_elim, ℕ, List, Option, arith, subst, sym}
use Rattle.news_io.specs.Moments.{Elapses}
use Rattle.news_journal.specs.Log.{opened}
use Rattle.news_journal.specs.Stands.{opened_since}
use Rattle.news_io.specs.Disk.{DiskMeaning}

pub elapses_same : {C : Type 0} (a : ℕ) (past : ℕ → C → Type 0) (P : C → Type 0) → Elapses a a past past P
elapses_same a past P = record { later = omega arith; nothing_else = λ t c le left. inl left; keeps = λ t c le left. left }

pub elapses_weaker : {C : Type 0} (a b : ℕ) (past since : ℕ → C → Type 0) (P R : C → Type 0) → Elapses a b past since P → ((c : C) → P c → R c) → Elapses a b past since R
elapses_weaker a b past since P R e f = record {
  later = e.later;
  nothing_else = λ t c le left. ⊎_elim (λ was. inl was) (λ now. inr (f c now)) (e.nothing_else t c le left);
  keeps = e.keeps;
}

pub elapses_then : {C : Type 0} (a b d : ℕ) (past mid since : ℕ → C → Type 0) (R : C → Type 0) → Elapses a b past mid R → Elapses b d mid since R → Elapses a d past since R
elapses_then a b d past mid since R e f = record {
  later = omega (arith, e.later, f.later);
  nothing_else = λ t c le left. ⊎_elim (λ was. e.nothing_else t c le was) (λ now. inr now) (f.nothing_else t c (omega (arith, le, e.later)) left);
  keeps = λ t c le left. f.keeps t c (omega (arith, le, e.later)) (e.keeps t c le left);
}

-- from the bytes to what they open to
pub lifted : {D : Type 0} (disk : DiskMeaning D) (header : List ℕ) (old new : D) (a b : ℕ) (P : List ℕ → Type 0) (Q : Option (List (List ℕ)) → Type 0)
    → Elapses a b (disk.left_since old) (disk.left_since new) P → ((c : List ℕ) → P c → Q (opened header c))
    → Elapses a b (opened_since disk header old) (opened_since disk header new) Q
lifted disk header old new a b P Q e f = record {
  later = e.later;
  nothing_else = λ t o le left. ⊎_elim (λ was. inl (left.0, was, left.2)) (λ now. inr (subst Q (sym left.2) (f left.0 now))) (e.nothing_else t left.0 le left.1);
  keeps = λ t o le left. (left.0, e.keeps t left.0 le left.1, left.2);
}

-- the header stays as it was
pub same_head : {D : Type 0} (disk : DiskMeaning D) (h h' : List ℕ) (old new : D) (a b : ℕ) (P : Option (List (List ℕ)) → Type 0) → h' ≡ h
    → Elapses a b (opened_since disk h old) (opened_since disk h new) P
    → Elapses a b (opened_since disk h old) (opened_since disk h' new) P
same_head disk h h' old new a b P same e =
    subst (λ (x : List ℕ). Elapses a b (opened_since disk h old) (opened_since disk x new) P) (sym same) e

-- two calls on one journal
pub both_calls : (h h' : List ℕ) (a b d : ℕ) (past mid since : ℕ → List ℕ → Type 0) (P : Option (List (List ℕ)) → Type 0)
    → Elapses a b past mid (λ (c : List ℕ). P (opened h c)) → h' ≡ h
    → Elapses b d mid since (λ (c : List ℕ). P (opened h' c))
    → Elapses a d past since (λ (c : List ℕ). P (opened h c))
both_calls h h' a b d past mid since P e same f =
    elapses_then a b d past mid since _ e (subst (λ (x : List ℕ). Elapses b d mid since (λ (c : List ℕ). P (opened x c))) same f)
