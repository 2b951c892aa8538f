-- Publications that follow an item's first.
use Rattle.std.specs.Prelude.{◌≡◌, ◌≤◌, ℕ, min, Bool, true, false, List, [], ◌∷◌, ◌++◌, Some, None, is_some, if◌then◌else◌}
use Rattle.std.specs.List.{list_any}
use Rattle.std.specs.HashSet.{HashSet, contains}
use Rattle.news_types.specs.declared.query.Due.{Due}
use Rattle.news_types.specs.Names.{Bytes, same}
use Rattle.news_types.specs.Due.{Pub, is_first, standing_first, release_to, is_due, had, had_by, latest, taken_back}

-- something is due to the subscriber
abbrev pub is_there : Bytes → List Due → Bool
is_there s due = list_any (λ (d : Due). same s d.subscriber) due

-- the set has just those to whom something is due
abbrev pub Knows : {S : Type 0} → HashSet Bytes S → List Due → Type 0
Knows known due = (s : Bytes) → contains same known s ≡ is_there s due

-- one behind these, unless something is due to its subscriber already
abbrev pub put_new : List Due → Due → List Due
put_new all d = if is_there d.subscriber all then all else all ++ d ∷ []

-- these, and of the others the first for each subscriber who is not among them
abbrev pub with_new : List Due → List Due → List Due
with_new all [] = all
with_new all (d ∷ due) = with_new (put_new all d) due

-- it follows a first publication of its item, and is due to these
pub record Goes (p : Pub) (due : List Due) (st : List Pub) : Type 0 where
  pub kind : is_first p.kind ≡ false
  pub behind : is_some (standing_first p.item st) ≡ true
  pub due_to : (s : Bytes) → release_to s due ≡ release_to s p.due

-- a correction reaches all to whom something of its item is due, and is released to none before that
pub record Corrects (p : Pub) (due : List Due) (st : List Pub) : Type 0 where
  pub goes : Goes p due st
  pub reaches : (s : Bytes) → had st p.item s ≡ true → is_due s p ≡ true
  pub late : (s : Bytes) (r : ℕ) → release_to s p.due ≡ Some r → latest st p.item s ≤ r

-- of what stands of an item that is left which is released by a moment
pub record Leaves (m i : ℕ) (st : List Pub) : Type 0 where
  pub had_one : (s : Bytes) → had (taken_back m i st) i s ≡ had_by m st i s
  pub given : (n : ℕ) (s : Bytes) → had_by n (taken_back m i st) i s ≡ had_by (min n m) st i s
  pub last : (s : Bytes) → latest (taken_back m i st) i s ≤ m

-- a kill or a recall reaches, at its release, those to whom something of its item is released by then
pub record TakesBack (p : Pub) (due : List Due) (st : List Pub) : Type 0 where
  pub goes : Goes p due st
  pub reaches : (s : Bytes) → release_to s p.due ≡ (if had_by p.release st p.item s then Some p.release else None)
  pub leaves : Leaves p.release p.item st
