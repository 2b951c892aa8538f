-- The counts and sizes of a room that was opened and has gone on.
use Rattle.std.proofs.Common.{◌≡◌, ◌⊎◌, inl, inr, ℕ, ◌+◌, ◌<◌, ◌≤◌, Bool, true, List, [], ◌∷◌, Option, Some, refl, sym, ap, ◌∙◌, subst, arith}
use Rattle.news_types.specs.declared.entry.Entry.{Entry}
use Rattle.news_types.specs.Books.{followed_by}
use Rattle.news_types.specs.History.{History}
use Rattle.news_io.specs.Faults.{Rose}
use Rattle.news_io.specs.Outside.{Meanings, Outside, store_faults}
use Rattle.news_pair.specs.Keeper.{pair_of}
use Rattle.news_room.specs.Beside.{Beside}
use Rattle.news_room.specs.Log as log
use Rattle.news_room.specs.Log.{sizes}
use Rattle.news_room.specs.Steps.{entries, Within, Given, Failed, Refused}
use Rattle.newsdesk_cli.specs.Opened.{HasGoneOn}
use Rattle.program_events.proofs.Reports.{one_next}
use Rattle.program_run.specs.Opens.{size_of}
use Rattle.program_run.proofs.Sizes.{size_same}

-- ---- sizes

-- a list that has gone on by these entries
pub sizes_on : (more : List Entry) (h : History) (used : ℕ) → used ≡ 65 + sizes h → used + sizes more ≡ size_of (followed_by more h)
sizes_on [] h used is = let same : 65 + sizes h ≡ size_of h = size_same h in omega (arith, is, same)
sizes_on (e ∷ more) h used is =
    let rest : (used + log.size_of e) + sizes more ≡ size_of (followed_by more (e ∷ h)) = sizes_on more (e ∷ h) (used + log.size_of e) (omega (arith, is)) in
    omega (arith, rest)

-- what was kept is within the limit
pub within_on : (n : Beside) (limit : ℕ) (more : List Entry) (h : History) → n.used ≡ 65 + sizes h → n.later_used ≡ n.used + sizes more → Within n limit more → (followed_by more h ≡ h) ⊎ (size_of (followed_by more h) ≤ limit)
within_on n limit [] h uses grown within = inl refl
within_on n limit (e ∷ more) h uses grown within =
    let size : n.used + sizes (e ∷ more) ≡ size_of (followed_by (e ∷ more) h) = sizes_on (e ∷ more) h n.used uses in
    inr (omega (arith, within, grown, size))

module _ (n : Beside) (limit : ℕ) (h : History) (next : Option Entry) (more : List Entry) (uses : n.used ≡ 65 + sizes h) where
  next_one : (e : Entry) → next ≡ Some e → more ≡ entries next → more ≡ e ∷ []
  next_one e some is = is ∙ ap entries some

  -- the entry that followed was kept within it
  pub given_fits : Given n limit (entries next) more → (e : Entry) → next ≡ Some e → size_of (e ∷ h) ≤ limit
  given_fits given e some =
      let one : more ≡ e ∷ [] = next_one e some given.whole.is in
      let within : n.later_used ≤ limit = subst (Within n limit) one given.within in
      let grown : n.later_used ≡ n.used + sizes (e ∷ []) = given.whole.grown ∙ ap (λ (l : List Entry). n.used + sizes l) one in
      let size : n.used + sizes (e ∷ []) ≡ size_of (e ∷ h) = sizes_on (e ∷ []) h n.used uses in
      omega (arith, within, grown, size)

  -- it would have passed it
  pub refused_past : (size count : ℕ) → Refused n limit (entries next) more size count → (e : Entry) × (next ≡ Some e) × (limit < size_of (e ∷ h))
  refused_past size count refused =
      let one = one_next next more refused.next refused.rest refused.is in
      let grown : n.later_used ≡ n.used + sizes [] = refused.grown ∙ ap (λ (l : List Entry). n.used + sizes l) one.0 in
      let size : n.used + sizes (refused.next ∷ []) ≡ size_of (refused.next ∷ h) = sizes_on (refused.next ∷ []) h n.used uses in
      (refused.next, one.1, omega (arith, refused.past, grown, size))

  -- it was tried within it
  pub failed_within : Failed n limit (entries next) more → (e : Entry) × (next ≡ Some e) × (size_of (e ∷ h) ≤ limit)
  failed_within failed =
      let one = one_next next more failed.next failed.rest failed.is in
      let grown : n.later_used ≡ n.used + sizes [] = failed.grown ∙ ap (λ (l : List Entry). n.used + sizes l) one.0 in
      let size : n.used + sizes (failed.next ∷ []) ≡ size_of (failed.next ∷ h) = sizes_on (failed.next ∷ []) h n.used uses in
      (failed.next, one.1, omega (arith, failed.fits, grown, size))

-- ---- counts

module _ {D S O C L : Type 0} (m : Meanings D S O C L) (before after : Outside D S O C L) (status : ℕ) (went : HasGoneOn m.disk before.log after.log before.side after.side status) where
  pub faults_last : (pair_of m.disk).faults went.after.keeper ≡ store_faults m after
  faults_last = ap (λ (d : D). m.disk.faults d + m.disk.faults went.after.keeper.side) (sym went.same) ∙ ap (λ (d : D). m.disk.faults after.log + m.disk.faults d) (sym went.same_side)

  -- what is so of the room's count is so of the files'
  pub counts : (Is : ℕ → ℕ → Type 0) → Is ((pair_of m.disk).faults went.room.keeper) ((pair_of m.disk).faults went.after.keeper) → Is (store_faults m before) (store_faults m after)
  counts Is is = subst (λ (k : ℕ). Is k (store_faults m after)) went.opened.calm (subst (λ (k : ℕ). Is ((pair_of m.disk).faults went.room.keeper) k) faults_last is)

  pub calm_files : (pair_of m.disk).faults went.after.keeper ≡ (pair_of m.disk).faults went.room.keeper → store_faults m after ≡ store_faults m before
  calm_files calm = counts (λ k k'. k' ≡ k) calm

  pub rose_files : Rose ((pair_of m.disk).faults went.room.keeper) ((pair_of m.disk).faults went.after.keeper) → Rose (store_faults m before) (store_faults m after)
  rose_files rose = counts Rose rose

  -- the room that was opened uses so many bytes
  pub uses_first : (told : Bool) → (told ≡ true → m.disk.tells before.log × m.disk.tells before.side) → (pair_of m.disk).used went.room.keeper ≡ 65 + sizes went.opened.history
  uses_first told tells = (went.opened.holds told tells).uses
