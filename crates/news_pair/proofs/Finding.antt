-- What two files open to: a list, or none; and what a pair leaves opens to its list.
use Rattle.std.proofs.Common.{◌≡◌, ◌≢◌, ◌⊎◌, inl, inr, ℕ, ◌+◌, ◌-◌, ◌≤◌, ◌<◌, List, [], ◌∷◌, ◌++◌, length, take, drop, Option, Some, None, Bool, true, false, refl, sym, ◌∙◌, ap, subst, arith, length-take, length-drop}
use Rattle.std.proofs.lemmas.Bool.{cases_eq, cases_lt}
use Rattle.std.proofs.lemmas.List.{drop-take}
use Rattle.std.specs.Cmp.Lexicographic.{pointwise}
use Rattle.std.proofs.lemmas.Bool.{eqb-true, eq-eqb}
use Rattle.news_types.specs.Names.{Bytes}
use Rattle.news_io.specs.Disk.{DiskMeaning}
use Rattle.news_io.specs.Keeper.{Leaves}
use Rattle.news_journal.specs.Log.{room_head, IsEdition, opened}
use Rattle.news_journal.specs.Stands.{Outcome, Doubts, list_of}
use Rattle.news_journal.specs.Law.{outcome_opens}
use Rattle.news_pair.specs.Segments.{segment_in}
use Rattle.news_pair.specs.Pair.{side_head, edition_of, base_bytes, base_of, IsBare, AreSegments, packed_in, IsSideFile, Follows, Joined, PairOpens, PairFinds}
use Rattle.news_pair.specs.Stands.{Pairs}
use Rattle.news_pair.specs.Opened.{Meets}
use Rattle.news_pair.specs.Damage.{is_bare}
use Rattle.news_pair.specs.Law.{pair_opens, follows_push}
use Rattle.news_pair.specs.declared.pair.Pair.{Pair}
use Rattle.news_pair.proofs.Undamaged.{both_same, follows_reach}
use Rattle.news_pair.proofs.WereRead.{bare_is, file_not_bare, meets_joined}

-- ---- each part of it holds, or not

abbrev Decided : Type 0 → Type 0
Decided P = P ⊎ (P → ⊥)

numbers_decided : (a b : ℕ) → Decided (a ≡ b)
numbers_decided a b = cases_eq a b

bytes_decided : (a b : Bytes) → Decided (a ≡ b)
bytes_decided [] [] = inl refl
bytes_decided [] (y ∷ b) = inr (λ is. cc is)
bytes_decided (x ∷ a) [] = inr (λ is. cc is)
bytes_decided (x ∷ a) (y ∷ b) = elim (cases_eq x y) [
  | inl first ↦ elim (bytes_decided a b) [
    | inl rest ↦ inl (λ i. first i ∷ rest i)
    | inr other ↦ inr (λ is. other cc)
  ]
  | inr other ↦ inr (λ is. other cc)
]

lists_decided : (xs ys : List Bytes) → Decided (xs ≡ ys)
lists_decided [] [] = inl refl
lists_decided [] (y ∷ ys) = inr (λ is. cc is)
lists_decided (x ∷ xs) [] = inr (λ is. cc is)
lists_decided (x ∷ xs) (y ∷ ys) = elim (bytes_decided x y) [
  | inl first ↦ elim (lists_decided xs ys) [
    | inl rest ↦ inl (λ i. first i ∷ rest i)
    | inr other ↦ inr (λ is. other cc)
  ]
  | inr other ↦ inr (λ is. other cc)
]

edition_decided : (n : ℕ) → Decided (IsEdition n)
edition_decided n = elim (cases_eq n 1) [
  | inl one ↦ inl (inl one)
  | inr other ↦ elim (cases_eq n 2) [
    | inl two ↦ inl (inr two)
    | inr more ↦ inr (λ is. elim is [ inl one ↦ other one | inr two ↦ more two ])
  ]
]

segment_decided : (n : ℕ) (p : Bytes) (ps : List Bytes) (found : Option (ℕ × List Bytes)) → segment_in p ≡ found → ((m : ℕ) → Decided (AreSegments m ps)) → Decided (AreSegments n (p ∷ ps))
segment_decided n p ps None is rest = inr (λ are. absurd (cc (sym is ∙ are.1)))
segment_decided n p ps (Some s) is rest = elim (cases_eq s.0 n) [
  | inr other ↦ inr (λ are. let same : s.0 ≡ n = cc (sym is ∙ are.1) in other same)
  | inl same ↦ elim (rest (n + length s.1)) [
    | inl more ↦ inl (s.1, is ∙ ap (λ (k : ℕ). Some (k, s.1)) same, more)
    | inr none ↦ inr (λ are. let es : are.0 ≡ s.1 = cc (sym is ∙ are.1) in none (subst (λ (l : List Bytes). AreSegments (n + length l) ps) es are.2))
  ]
]

segments_decided : (n : ℕ) (ps : List Bytes) → Decided (AreSegments n ps)
segments_decided n [] = inl tt
segments_decided n (p ∷ ps) = segment_decided n p ps (segment_in p) refl (λ m. segments_decided m ps)

side_decided : (store side : List ℕ) → Decided (IsBare side ⊎ IsSideFile store side)
side_decided store side = by_bare (is_bare side) refl
  where
    by_opened : is_bare side ≡ false → (found : Option (List Bytes)) → opened (side_head store) side ≡ found → Decided (IsBare side ⊎ IsSideFile store side)
    by_opened file None is = inr (λ either. elim either [ inl bare ↦ file_not_bare side file bare | inr s ↦ absurd (cc (sym is ∙ s.is)) ])
    by_opened file (Some ps) is = elim (segments_decided 0 ps) [
      | inl are ↦ inl (inr (record { segments = ps; is = is; are = are }))
      | inr none ↦ inr (λ either. elim either [ inl bare ↦ file_not_bare side file bare | inr s ↦ none (subst (AreSegments 0) (let same : s.segments ≡ ps = cc (sym s.is ∙ is) in same) s.are) ])
    ]

    by_bare : (b : Bool) → is_bare side ≡ b → Decided (IsBare side ⊎ IsSideFile store side)
    by_bare true bare = inl (inl (bare_is side bare))
    by_bare false file = by_opened file (opened (side_head store) side) refl

base_decided : (log side : List ℕ) → Decided (IsBare side → base_of log ≡ 0)
base_decided log side = by_bare (is_bare side) refl
  where
    by_bare : (b : Bool) → is_bare side ≡ b → Decided (IsBare side → base_of log ≡ 0)
    by_bare false file = inl (λ bare. absurd (file_not_bare side file bare))
    by_bare true bare = elim (cases_eq (base_of log) 0) [ inl zero ↦ inl (λ _. zero) | inr other ↦ inr (λ none. other (none (bare_is side bare))) ]

-- ---- the list of both

follows_meets : (b : ℕ) (g p h : List Bytes) → Follows b g p h → Meets b g p
follows_meets b g p h f = record {
  within = f.within;
  reaches = follows_reach b g p h f;
  same = ap (λ (n : ℕ). take n p) (sym (length-drop b g)) ∙ both_same b g p h f;
}

meets_decided : (b : ℕ) (g p : List Bytes) → Decided (Meets b g p)
meets_decided b g p = elim (cases_lt (length g) b) [
  | inl over ↦ inr (λ m. let within = m.within in omega (arith, over, within))
  | inr within ↦ elim (cases_lt (b + length p) (length g)) [
    | inl apart ↦ inr (λ m. let reaches = m.reaches in omega (arith, apart, reaches))
    | inr reaches ↦ elim (lists_decided (take (length g - b) p) (drop b g)) [
      | inl same ↦ inl (record { within = within; reaches = reaches; same = same })
      | inr other ↦ inr (λ m. other m.same)
    ]
  ]
]

joined_found : (b : ℕ) (g p : List Bytes) → ((h : List Bytes) × Joined b g p h) ⊎ ((h : List Bytes) → Joined b g p h → ⊥)
joined_found b g [] = inl (g, refl)
joined_found b g (x ∷ p) = elim (meets_decided b g (x ∷ p)) [
  | inl m ↦ inl (g ++ drop (length g - b) (x ∷ p), meets_joined b g (x ∷ p) m)
  | inr none ↦ inr (λ h f. none (follows_meets b g (x ∷ p) h f))
]

-- two files open to a list, or to none
pub pair_found : (store log side : List ℕ) → (found : Option (List Bytes)) × PairFinds store log side found
pair_found store log side = elim (side_decided store side) [
  | inr none ↦ (None, λ h o. none o.side_is)
  | inl side_is ↦ elim (base_decided log side) [
    | inr none ↦ (None, λ h o. none o.bare)
    | inl bare ↦ elim (edition_decided (edition_of log)) [
      | inr none ↦ (None, λ h o. none o.edition)
      | inl edition ↦ by_tail side_is bare edition (opened (room_head (edition_of log) (base_bytes log) store) log) refl
    ]
  ]
]
  where
    by_joined : IsBare side ⊎ IsSideFile store side → (IsBare side → base_of log ≡ 0) → IsEdition (edition_of log) → (tail : List Bytes) → opened (room_head (edition_of log) (base_bytes log) store) log ≡ Some tail
        → ((h : List Bytes) × Joined (base_of log) (packed_in store side) tail h) ⊎ ((h : List Bytes) → Joined (base_of log) (packed_in store side) tail h → ⊥) → (found : Option (List Bytes)) × PairFinds store log side found
    by_joined side_is bare edition tail is (inl list) = (Some list.0, record { side_is = side_is; bare = bare; edition = edition; tail = tail; log_is = is; joined = list.1 })
    by_joined side_is bare edition tail is (inr none) = (None, λ h o. none h (subst (λ (p : List Bytes). Joined (base_of log) (packed_in store side) p h) (let same : o.tail ≡ tail = cc (sym o.log_is ∙ is) in same) o.joined))

    by_tail : IsBare side ⊎ IsSideFile store side → (IsBare side → base_of log ≡ 0) → IsEdition (edition_of log) → (tail : Option (List Bytes)) → opened (room_head (edition_of log) (base_bytes log) store) log ≡ tail
        → (found : Option (List Bytes)) × PairFinds store log side found
    by_tail side_is bare edition None is = (None, λ h o. absurd (cc (sym is ∙ o.log_is)))
    by_tail side_is bare edition (Some tail) is = by_joined side_is bare edition tail is (joined_found (base_of log) (packed_in store side) tail)

-- ---- what a pair leaves

module _ {D : Type 0} (disk : DiskMeaning D) (p : Pair D) (h : List Bytes) (pairs : Pairs disk p h) where
  -- what a read gives, or a crash leaves, opens to the list, or to the list with one payload in doubt
  pub outcome_pairs : (c s : List ℕ) → Outcome (disk.seen p.log.disk) (disk.may_leave p.log.disk) c → Outcome (disk.seen p.side) (disk.may_leave p.side) s
      → PairOpens p.store c s h ⊎ ((x : Bytes) × Doubts disk p.log (list_of disk p.log) x × PairOpens p.store c s (h ++ x ∷ []))
  outcome_pairs c s out out' =
      let same : s ≡ disk.seen p.side = elim out' [ inl now ↦ now | inr left ↦ pairs.synced s left ] in
      elim (outcome_opens disk p.log (list_of disk p.log) pairs.log_is c out) [
        | inl is ↦ inl (pair_opens disk p h pairs c s (list_of disk p.log) h same is pairs.follows)
        | inr more ↦ inr (more.0, more.1, pair_opens disk p h pairs c s (list_of disk p.log ++ more.0 ∷ []) (h ++ more.0 ∷ []) same more.2 (follows_push p.base (packed_in p.store (disk.seen p.side)) (list_of disk p.log) h more.0 pairs.follows))
      ]
