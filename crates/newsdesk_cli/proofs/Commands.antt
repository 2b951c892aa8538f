-- What the commands leave.
use Rattle.std.proofs.Common.{◌≡◌, ◌∙◌, ◌⊎◌, inl, inr, ℕ, ◌+◌, ◌≤◌, ◌≢◌, Bool, true, false, List, [], ◌∷◌, ◌++◌, length, length-append, append-nil, arith, refl, sym, ap, subst}
use Rattle.std.proofs.lemmas.List.{nil_from_length}
use mathlib.Core.Bool.{false≢true}
use Rattle.news_types.specs.Books.{Book}
use Rattle.news_io.specs.Disk.{DiskMeaning, LeavesOnly}
use Rattle.news_io.specs.Faults.{Rose}
use Rattle.news_journal.specs.Calls.{append_calls}
use Rattle.news_journal.specs.Log.{records}
use Rattle.news_journal.specs.Stands.{base_of, list_of, disk_of, head_of}
use Rattle.news_journal.specs.Journal.{journal_of}
use Rattle.news_journal.specs.Opened.{Still}
use Rattle.news_pair.specs.Keeper.{pair_of}
use Rattle.news_pair.specs.Stands.{log_disk, side_disk}
use Rattle.news_pair.specs.declared.pair.Pair.{Pair}
use Rattle.news_journal.specs.declared.log.Journal.{Journal}
use Rattle.news_room.specs.declared.room.Room.{Room}
use Rattle.store_files.specs.Holds.{Holds}
use Rattle.store_files.specs.Store.{IsOpenRoom}

-- of a file's length
pub is_empty : (bytes : List ℕ) (n : ℕ) → n ≡ length bytes → n ≡ 0 → bytes ≡ []
is_empty [] n is none = refl
is_empty (x ∷ bytes) n is none = absurd (omega (arith, is, none))

pub no_bytes : (bytes c : List ℕ) → bytes ≡ [] → length c ≤ length bytes → c ≡ []
no_bytes bytes [] none le = refl
no_bytes bytes (x ∷ c) none le = absurd (omega (arith, le, ap length none))

pub not_empty : (bytes : List ℕ) (n : ℕ) → n ≡ length bytes → n ≢ 0 → bytes ≡ [] → ⊥
not_empty bytes n is some none = some (is ∙ ap length none)

module _ {D : Type 0} (disk : DiskMeaning D) where
  -- a log that was only read
  still_leaves : (P : List ℕ → Type 0) (log new : D) → Still disk log new → LeavesOnly disk log new (λ c. disk.may_leave log c ⊎ P c)
  still_leaves P log new still = record {
    later = still.time.later;
    each = λ c left. elim (still.time.nothing_else (disk.moment log) c (omega arith) left) [ inl was ↦ inl (disk.only_now log c was) | inr may ↦ inl may ];
    before = λ t c le left. elim (still.time.nothing_else t c le left) [ inl was ↦ inl was | inr may ↦ inr (inl may) ];
  }

  -- a log that was read, and then written
  pub made_leaves : (P : List ℕ → Type 0) (log mid new : D) → Still disk log mid → LeavesOnly disk mid new P → LeavesOnly disk log new (λ c. disk.may_leave log c ⊎ P c)
  made_leaves P log mid new still made =
      let first = still_leaves P log mid still in
      record {
        later = omega (arith, first.later, made.later);
        each = λ c left. elim (made.before (disk.moment log) c first.later left) [ inl was ↦ first.each c was | inr now ↦ inr now ];
        before = λ t c le left. elim (made.before t c (omega (arith, le, first.later)) left) [ inl was ↦ first.before t c le was | inr now ↦ inr (inr now) ];
      }

  -- a log that was empty
  pub bare_leaves : (P : List ℕ → Type 0) (log mid new : D) → ((c : List ℕ) → disk.may_leave log c → P c) → Still disk log mid → LeavesOnly disk mid new P → LeavesOnly disk log new P
  bare_leaves P log mid new bare still made =
      let sum = made_leaves P log mid new still made in
      record {
        later = sum.later;
        each = λ c left. elim (sum.each c left) [ inl was ↦ bare c was | inr now ↦ now ];
        before = λ t c le left. elim (sum.before t c le left) [ inl was ↦ inl was | inr both ↦ inr (elim both [ inl may ↦ bare c may | inr now ↦ now ]) ];
      }

  -- a room that was opened stands for a book, told or not
  pub some_book : (log side : D) (r : Room (Pair D))
      → IsOpenRoom disk log side r → (b : Book) × ((before : ℕ) × Holds (pair_of disk) r b before)
  some_book log side r o = (record { store = o.store; told = false; list = o.history }, (65, o.holds false (λ is. absurd (false≢true is))))

  -- where the counts of the pairs rise, so do those of the disks
  pub rose_along : (log side log' side' : D) (p q : Pair D) → (pair_of disk).faults p ≡ disk.faults log + disk.faults side → log' ≡ log_disk q → side' ≡ side_disk q
      → Rose ((pair_of disk).faults p) ((pair_of disk).faults q) → Rose (disk.faults log + disk.faults side) (disk.faults log' + disk.faults side')
  rose_along log side log' side' p q calm same same' rose =
      subst (λ (n : ℕ). Rose n (disk.faults log' + disk.faults side')) calm
      (subst (λ (d : D). Rose ((pair_of disk).faults p) (disk.faults d + disk.faults side')) (sym same)
      (subst (λ (d : D). Rose ((pair_of disk).faults p) (disk.faults (log_disk q) + disk.faults d)) (sym same') rose))

-- a log without a record, behind its last sync

calls_shut : (ajar : Bool) → append_calls ajar ≡ 4 → ajar ≡ false
calls_shut false is = refl
calls_shut true is = absurd (omega (arith, is))

only_bytes : (b seen c rest rest' : List ℕ) (g : ℕ) → seen ≡ b ++ g ∷ rest → c ≡ b ++ g ∷ rest' → length seen ≡ length b + 1 → length c ≤ length seen → c ≡ seen
only_bytes b seen c rest rest' g seen_is c_is long short =
    let none : rest ≡ [] = nil_from_length rest (omega (arith, long, ap length seen_is, length-append b (g ∷ rest))) in
    let none' : rest' ≡ [] = nil_from_length rest' (omega (arith, long, short, ap length c_is, length-append b (g ∷ rest'))) in
    c_is ∙ ap (λ (l : List ℕ). b ++ g ∷ l) (none' ∙ sym none) ∙ sym seen_is

module _ {D : Type 0} (disk : DiskMeaning D) where
  pub made_durable : (j : Journal D) (head : List ℕ) → (journal_of disk).tells j → (journal_of disk).list j ≡ [] → (journal_of disk).most_calls j ≡ 4 → head_of j ≡ head → disk.seen (disk_of j) ≡ head ++ 0 ∷ []
      → (c : List ℕ) → disk.may_leave (disk_of j) c → c ≡ head ++ 0 ∷ []
  made_durable j head logs none quiet head_is seen_is c left =
      let b : List ℕ = base_of j (list_of disk j) in
      let base_is : b ≡ head = ap (λ (ps : List (List ℕ)). head_of j ++ records ps) none ∙ append-nil (head_of j) ∙ head_is in
      let shut = logs.shut (calls_shut _ quiet) in
      let seen_at = shut.each (disk.seen (disk_of j)) (inl refl) in
      let c_at = shut.each c (inr left) in
      let long : length (disk.seen (disk_of j)) ≡ length b + 1 = omega (arith, ap length seen_is, length-append head (0 ∷ []), ap length base_is) in
      only_bytes b (disk.seen (disk_of j)) c seen_at.0 c_at.0 shut.gate seen_at.1 c_at.1 long (disk.no_longer (disk_of j) c logs.told left) ∙ seen_is
