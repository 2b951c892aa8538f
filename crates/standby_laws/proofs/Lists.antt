-- Entries of a list by their numbers, and lists that go on from others.
use Rattle.std.proofs.Common.{◌≡◌, ℕ, suc, ◌+◌, ◌≤◌, ◌⊎◌, inl, inr, true, false, cond, Some, None, [], ◌∷◌, ◌++◌, length, refl, ap, ◌∙◌, arith, length-append}
use Rattle.std.specs.Prelude.{nat_le}
use Rattle.std.proofs.lemmas.Bool.Decides.{nat_tests}
use Rattle.news_types.specs.declared.entry.Entry.{Entry}
use Rattle.news_types.specs.History.{History}
use Rattle.news_types.specs.Legal.{IsLegal}
use Rattle.news_types.specs.Calls.{entry_at}
use Rattle.news_types.proofs.Members.{some_is, none_some}
use Rattle.standby_laws.specs.Law.{IsPrefix}

-- an entry that is there is new, or an older one
pub entry_cases : (e : Entry) (h : History) (i : ℕ) (x : Entry) → entry_at (e ∷ h) i ≡ Some x → ((i ≤ length h) × (entry_at h i ≡ Some x)) ⊎ ((i ≡ length h + 1) × (e ≡ x))
entry_cases e h i x is =
    elim (nat_le i (length h)) as (λ b. nat_le i (length h) ≡ b → cond b (entry_at h i) (cond (nat_le i (suc (length h))) (Some e) None) ≡ Some x → ((i ≤ length h) × (entry_at h i ≡ Some x)) ⊎ ((i ≡ length h + 1) × (e ≡ x))) [
      | true ↦ λ low there. inl (grind (arith, nat_tests), there)
      | false ↦ λ high.
          elim (nat_le i (suc (length h))) as (λ b. nat_le i (suc (length h)) ≡ b → cond b (Some e) None ≡ Some x → ((i ≤ length h) × (entry_at h i ≡ Some x)) ⊎ ((i ≡ length h + 1) × (e ≡ x))) [
            | true ↦ λ next there. inr (grind (arith, nat_tests), some_is e x there)
            | false ↦ λ past none. absurd (none_some x none)
          ] refl
    ] refl is

pub entry_within : (h : History) (n : ℕ) (x : Entry) → entry_at h n ≡ Some x → n ≤ length h
entry_within [] n x is = absurd (none_some x is)
entry_within (e ∷ h) n x is = elim (entry_cases e h n x is) [ inl old ↦ omega (arith, old.0) | inr new ↦ omega (arith, new.0) ]

-- an entry stays where it is as the list grows
pub entry_stays : (e : Entry) (h : History) (n : ℕ) (x : Entry) → entry_at h n ≡ Some x → entry_at (e ∷ h) n ≡ Some x
entry_stays e h n x is =
    let low : n ≤ length h = entry_within h n x is in
    let b : nat_le n (length h) ≡ true = grind (arith, nat_tests) in
    rw b is

pub grows : (e : Entry) (front h : History) → IsPrefix front h → IsPrefix front (e ∷ h)
grows e front h p = (e ∷ p.0, ap (λ (l : History). e ∷ l) p.1)

none_more : (more front : History) → length (more ++ front) ≡ length front → more ≡ []
none_more [] front long = refl
none_more (x ∷ more) front long = absurd (omega (arith, long, length-append more front))

-- with its next entry, the front is a front again
pub behind : (more front : History) (e : Entry) → entry_at (more ++ front) (length front + 1) ≡ Some e → IsPrefix (e ∷ front) (more ++ front)
behind [] front e is = absurd (omega (arith, entry_within front (length front + 1) e is))
behind (x ∷ more) front e is =
    elim (entry_cases x (more ++ front) (length front + 1) e is) [
      | inl older ↦ let rest = behind more front e older.1 in (x ∷ rest.0, ap (λ (l : History). x ∷ l) rest.1)
      | inr new ↦ ([], ap (λ (l : History). x ∷ l ++ front) (none_more more front (omega (arith, new.0))) ∙ ap (λ (y : Entry). y ∷ front) new.1)
    ]

-- the front of a legal list is legal
pub front_legal : (more front : History) → IsLegal (more ++ front) → IsLegal front
front_legal [] front legal = legal
front_legal (x ∷ more) front legal = front_legal more front legal.0
