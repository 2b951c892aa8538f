-- What is left of publications where some are withdrawn.
use Rattle.std.specs.Prelude.{◌≡◌, ℕ, ◌<◌, true, not, ◌==◌, List, map, if◌then◌else◌, Some}
use Rattle.std.specs.List.{filter}
use Rattle.news_types.specs.declared.query.Due.{Due}
use Rattle.news_types.specs.Names.{Bytes, same}
use Rattle.news_types.specs.Members.{Each}
use Rattle.news_types.specs.Due.{Pub, release_to, given_by, left_behind}
use Rattle.publish_queue.specs.declared.release.Span.{Span}
use Rattle.publish_queue.specs.Rows.{is_among}
use Rattle.publish_queue.specs.Many.{is_within}

-- ---- for everybody

abbrev pub without_number : ℕ → List Pub → List Pub
without_number n ps = filter (λ (p : Pub). not (p.number == n)) ps

-- the publication of that number waits, if it is there
abbrev pub Waits : ℕ → ℕ → List Pub → Type 0
Waits n m ps = Each (λ (p : Pub). p.number ≡ n → m < p.release) ps

-- it has that release, if it is there
abbrev pub HasRelease : ℕ → ℕ → List Pub → Type 0
HasRelease n release ps = Each (λ (p : Pub). p.number ≡ n → p.release ≡ release) ps

-- ---- for one subscriber

abbrev pub due_without : Bytes → List Due → List Due
due_without s due = filter (λ (d : Due). not (same s d.subscriber)) due

abbrev pub left_for_others : Bytes → ℕ → Pub → Pub
left_for_others s n p = record p { due = if p.number == n then due_without s p.due else p.due }

-- the publication of that number stands for this subscriber no more
abbrev pub withdrawn_for : Bytes → ℕ → List Pub → List Pub
withdrawn_for s n ps = map (left_for_others s n) ps

-- it waits for the subscriber, if it is due to it
abbrev pub WaitsFor : Bytes → ℕ → ℕ → List Pub → Type 0
WaitsFor s n m ps = Each (λ (p : Pub). p.number ≡ n → (r : ℕ) → release_to s p.due ≡ Some r → m < r) ps

-- it has that release for the subscriber, if it is due to it
abbrev pub HasReleaseTo : Bytes → ℕ → ℕ → List Pub → Type 0
HasReleaseTo s n release ps = Each (λ (p : Pub). p.number ≡ n → (r : ℕ) → release_to s p.due ≡ Some r → r ≡ release) ps

-- ---- for those to whom they are not released yet

-- where a publication of these numbers waits for a subscriber, its release is in one of the spans for it
abbrev pub AreWithin : ℕ → List ℕ → List Span → List Pub → Type 0
AreWithin m numbers spans ps = Each (λ (p : Pub). is_among p.number numbers ≡ true → (s : Bytes) (r : ℕ) → release_to s p.due ≡ Some r → m < r → is_within s r spans ≡ true) ps

-- a publication of these numbers stands for those alone to whom it is released by the moment
abbrev pub left_of : ℕ → List ℕ → Pub → Pub
left_of m numbers p = record p { due = if is_among p.number numbers then given_by m p.due else p.due }

-- what these numbers leave of each is what a kill of the item leaves
abbrev pub AreOfItem : ℕ → ℕ → List ℕ → List Pub → Type 0
AreOfItem m i numbers ps = Each (λ (p : Pub). left_of m numbers p ≡ left_behind m i p) ps
