-- What calls on the log of a pair leave of the pair.
use Rattle.std.proofs.Common.{◌≡◌, inl, inr, ⊎_elim, ℕ, List, [], ◌∷◌, ◌++◌, take, Option, sym, ◌∙◌, subst, append_assoc}
use Rattle.news_types.specs.Names.{Bytes}
use Rattle.news_io.specs.Disk.{DiskMeaning}
use Rattle.news_io.specs.Moments.{Elapses}
use Rattle.news_journal.specs.Stands.{Logs, list_of}
use Rattle.news_journal.specs.declared.log.Journal.{Journal}
use Rattle.news_pair.specs.Pair.{packed_in, Follows, PairFinds}
use Rattle.news_pair.specs.Stands.{HoldsList, pair_since, pair_since_side}
use Rattle.news_pair.specs.Law.{follows_push}

-- from the log's bytes to what the pair finds, beside a side that stays
pub lift_pair : {D : Type 0} (disk : DiskMeaning D) (store : Bytes) (old new side : D) (a b : ℕ) (P : List ℕ → Type 0) (Q : Option (List Bytes) → Type 0)
    → Elapses a b (disk.left_since old) (disk.left_since new) P → ((c s : List ℕ) → P c → disk.may_leave side s → (found : Option (List Bytes)) → PairFinds store c s found → Q found)
    → Elapses a b (pair_since disk store old side) (pair_since disk store new side) Q
lift_pair disk store old new side a b P Q e f = record {
  later = e.later;
  nothing_else = λ t found le left. ⊎_elim (λ was. inl (left.0, was, left.2)) (λ now. inr (f left.0 left.2.0 now left.2.1 found left.2.2)) (e.nothing_else t left.0 le left.1);
  keeps = λ t found le left. (left.0, e.keeps t left.0 le left.1, left.2);
}

-- from the side's bytes, beside a log that stays
pub lift_side : {D : Type 0} (disk : DiskMeaning D) (store : Bytes) (log old new : D) (a b : ℕ) (P : List ℕ → Type 0) (Q : Option (List Bytes) → Type 0)
    → Elapses a b (disk.left_since old) (disk.left_since new) P → ((c s : List ℕ) → disk.may_leave log c → P s → (found : Option (List Bytes)) → PairFinds store c s found → Q found)
    → Elapses a b (pair_since_side disk store log old) (pair_since_side disk store log new) Q
lift_side disk store log old new a b P Q e f = record {
  later = e.later;
  nothing_else = λ t found le left. ⊎_elim (λ was. inl (left.0, was, left.2)) (λ now. inr (f left.2.0 left.0 left.2.1 now found left.2.2)) (e.nothing_else t left.0 le left.1);
  keeps = λ t found le left. (left.0, e.keeps t left.0 le left.1, left.2);
}

-- one record more of the log is one of the list
pub follows_pushed : (b : ℕ) (g p p' : List Bytes) (x : Bytes) → Follows b g p (take b g ++ p) → p' ≡ p ++ x ∷ [] → Follows b g p' (take b g ++ p')
follows_pushed b g p p' x f is =
    subst (λ (l : List Bytes). Follows b g l (take b g ++ l)) (sym is)
    (subst (λ (h : List Bytes). Follows b g (p ++ x ∷ []) h) (append_assoc (take b g) p (x ∷ [])) (follows_push b g p (take b g ++ p) x f))

pub follows_same : (b : ℕ) (g p p' : List Bytes) → Follows b g p (take b g ++ p) → p' ≡ p → Follows b g p' (take b g ++ p')
follows_same b g p p' f is = subst (λ (l : List Bytes). Follows b g l (take b g ++ l)) (sym is) f

-- a pair whose log has changed
pub pairs_log : {D : Type 0} (disk : DiskMeaning D) (log log' : Journal D) (side : D) (store : Bytes) (base packed end : ℕ) (h h' : List Bytes)
    → HoldsList disk log side store base packed end h → log'.head ≡ log.head → Logs disk log' (list_of disk log')
    → Follows base (packed_in store (disk.seen side)) (list_of disk log') h' → HoldsList disk log' side store base packed end h'
pairs_log disk log log' side store base packed end h h' pairs head logs follows = record {
  log_is = logs;
  head = record { edition = pairs.head.edition; is_edition = pairs.head.is_edition; is = head ∙ pairs.head.is; small = pairs.head.small; store_is = pairs.head.store_is };
  few = pairs.few;
  told = pairs.told;
  synced = pairs.synced;
  side_is = pairs.side_is;
  bare = pairs.bare;
  count = pairs.count;
  follows = follows;
}
