-- Each text is judged in one way.
use Rattle.std.proofs.Common.{◌≡◌, ◌⊎◌, inl, inr, ℕ, ◌+◌, ◌-◌, ◌≤◌, List, [], ◌∷◌, ◌++◌, length, Result, Ok, Err, refl, sym, ap, subst, ◌∙◌, arith, append-nil, append_assoc}
use Rattle.news_types.specs.Names.{Bytes}
use Rattle.archive_query.specs.declared.tokens.Place.TheVariants.{Start}
use Rattle.archive_query.specs.Query.{Query}
use Rattle.archive_query.specs.Tokens.{tokens, joined}
use Rattle.archive_query.specs.Grammar.{Spells, IsQuery, GoesOn, Stops, IsBad, IsDeep, IsBadAt, IsDeepAt}
use Rattle.archive_query.specs.Reading.{Refusal, Refused}
use Rattle.archive_query.specs.Parsing.{read_text}
use Rattle.archive_query.specs.Laws.{IsJudged, IsJudgedOnce}
use Rattle.archive_query.proofs.Cutting.{joined_from, joined_rest}
use Rattle.archive_query.proofs.Judged.{IsVerdict, refused_judged, spells_one}
use Rattle.archive_query.proofs.Verdicts.{query_found}

-- ---- a verdict is there

place : (text : Bytes) (front rest : List Bytes) → tokens text ≡ front ++ rest → (length text - length (joined rest)) + length (joined rest) ≡ length text
place text front rest is = omega (arith, joined_rest front rest, ap (λ (ts : List Bytes). length (joined ts)) is, ap length (joined_from Start text))

by_why : (text : Bytes) (why : Refusal) (front rest : List Bytes) → length text ≤ 65536 → tokens text ≡ front ++ rest → GoesOn 32 front → IsVerdict why front rest
    → ((q : Query) × IsQuery text q) ⊎ (((at : ℕ) × IsBadAt text at) ⊎ ((at : ℕ) × IsDeepAt text at))
by_why text Refusal.Misplaced front rest short is begun verdict =
    inr (inl (length text - length (joined rest), (front, rest, record { short = short; tokens_are = is; at_is = place text front rest is; begun = begun }, verdict)))
by_why text Refusal.TooDeep front rest short is begun verdict =
    inr (inr (length text - length (joined rest), (front, rest, record { short = short; tokens_are = is; at_is = place text front rest is; begun = begun }, verdict)))

pub judged : (text : Bytes) → IsJudged text
judged text short =
    elim (read_text text) as (λ (r : Result Query Refused). read_text text ≡ r → ((q : Query) × IsQuery text q) ⊎ (((at : ℕ) × IsBadAt text at) ⊎ ((at : ℕ) × IsDeepAt text at))) [
      | Ok q ↦ λ is. inl (q, query_found text q short is)
      | Err r ↦ λ is. let j = refused_judged (tokens text) r is in by_why text r.why j.0 r.rest short j.1 j.2 j.3
    ] refl

-- ---- and it is one

-- two cuts of one list
abbrev Cuts : List Bytes → List Bytes → List Bytes → List Bytes → Type 0
Cuts f r g s = ((f ≡ g) × (r ≡ s)) ⊎ (((w : Bytes) × (ws more : List Bytes) × (r ≡ w ∷ ws) × (g ≡ f ++ w ∷ more)) ⊎ ((w : Bytes) × (ws more : List Bytes) × (s ≡ w ∷ ws) × (f ≡ g ++ w ∷ more)))

heads_are : (v w : Bytes) (vs ws : List Bytes) → v ∷ vs ≡ w ∷ ws → (v ≡ w) × (vs ≡ ws)
heads_are v w vs ws h = (cc, cc)

cuts : (f r g s : List Bytes) → f ++ r ≡ g ++ s → Cuts f r g s
cuts [] r [] s h = inl (refl, h)
cuts [] r (w ∷ g) s h = inr (inl (w, g ++ s, g, h, refl))
cuts (v ∷ f) r [] s h = inr (inr (v, f ++ r, f, sym h, refl))
cuts (v ∷ f) r (w ∷ g) s h =
    let same = heads_are v w (f ++ r) (g ++ s) h in
    elim (cuts f r g s same.1) [
      | inl both ↦ inl (ap (λ (x : Bytes). x ∷ f) same.0 ∙ ap (λ (l : List Bytes). w ∷ l) both.0, both.1)
      | inr other ↦ elim other [
        | inl c ↦ inr (inl (c.0, c.1, c.2, c.3, ap (λ (l : List Bytes). w ∷ l) c.4 ∙ ap (λ (x : Bytes). x ∷ f ++ c.0 ∷ c.2) (sym same.0)))
        | inr c ↦ inr (inr (c.0, c.1, c.2, c.3, ap (λ (l : List Bytes). v ∷ l) c.4 ∙ ap (λ (x : Bytes). x ∷ g ++ c.0 ∷ c.2) same.0))
      ]
    ]

-- what goes on with more tokens goes on with fewer
goes_shorter : (levels : ℕ) (f more : List Bytes) (w : Bytes) → GoesOn levels (f ++ w ∷ more) → GoesOn levels (f ++ w ∷ [])
goes_shorter levels f more w h =
    (more ++ h.0, h.1, subst (λ (l : List Bytes). Spells levels l h.1) (append_assoc f (w ∷ more) h.0 ∙ sym (append_assoc f (w ∷ []) (more ++ h.0))) h.2)

-- no query of 32 levels goes on with the first of these
abbrev IsOver : List Bytes → List Bytes → Type 0
IsOver front [] = Unit {0}
IsOver front (w ∷ rest) = GoesOn 32 (front ++ w ∷ []) → ⊥

bad_over : (front rest : List Bytes) → IsBad front rest → IsOver front rest
bad_over front [] h = tt
bad_over front (w ∷ rest) h = h 32

deep_over : (front rest : List Bytes) → IsDeep front rest → IsOver front rest
deep_over front [] h = tt
deep_over front (w ∷ rest) h = h.1

over_never : (f r g more : List Bytes) (w : Bytes) (ws : List Bytes) → r ≡ w ∷ ws → g ≡ f ++ w ∷ more → IsOver f r → GoesOn 32 g → ⊥
over_never f [] g more w ws is longer over goes = absurd cc
over_never f (v ∷ vs) g more w ws is longer over goes =
    over (subst (λ (x : Bytes). GoesOn 32 (f ++ x ∷ [])) (sym (heads_are v w vs ws is).0) (goes_shorter 32 f more w (subst (λ (l : List Bytes). GoesOn 32 l) longer goes)))

-- two ends of reading are one
one_stop : (text : Bytes) (f r g s : List Bytes) (a b : ℕ) → Stops text f r a → Stops text g s b → IsOver f r → IsOver g s → (f ≡ g) × (r ≡ s) × (a ≡ b)
one_stop text f r g s a b first second over_f over_g =
    elim (cuts f r g s (sym first.tokens_are ∙ second.tokens_are)) [
      | inl same ↦ (same.0, same.1, omega (arith, first.at_is, second.at_is, ap (λ (l : List Bytes). length (joined l)) same.1))
      | inr other ↦ elim other [
        | inl c ↦ absurd (over_never f r g c.2 c.0 c.1 c.3 c.4 over_f second.begun)
        | inr c ↦ absurd (over_never g s f c.2 c.0 c.1 c.3 c.4 over_g first.begun)
      ]
    ]

-- a query has no end of reading
query_over : (text : Bytes) (q : Query) (front rest : List Bytes) (at : ℕ) → IsQuery text q → Stops text front rest at → IsOver front rest → rest ≡ []
query_over text q front [] at is stops over = refl
query_over text q front (w ∷ rest) at is stops over =
    absurd (over (rest, q, subst (λ (l : List Bytes). Spells 32 l q) (stops.tokens_are ∙ sym (append_assoc front (w ∷ []) rest)) is.spelled))

bad_end : (text : Bytes) (q : Query) (front rest : List Bytes) (at : ℕ) → IsQuery text q → Stops text front rest at → rest ≡ [] → IsBad front rest → ⊥
bad_end text q front [] at is stops end bad = bad 32 q (subst (λ (l : List Bytes). Spells 32 l q) (stops.tokens_are ∙ append-nil front) is.spelled)
bad_end text q front (w ∷ rest) at is stops end bad = absurd cc

deep_end : (front rest : List Bytes) → rest ≡ [] → IsDeep front rest → ⊥
deep_end front [] end deep = deep
deep_end front (w ∷ rest) end deep = absurd cc

bad_deep : (front rest : List Bytes) → IsBad front rest → IsDeep front rest → ⊥
bad_deep front [] bad deep = deep
bad_deep front (w ∷ rest) bad deep = bad 33 deep.0

pub judged_once : (text : Bytes) → IsJudgedOnce text
judged_once text = record {
  query_not_bad = λ q at is bad. bad_end text q bad.0 bad.1 at is bad.2 (query_over text q bad.0 bad.1 at is bad.2 (bad_over bad.0 bad.1 bad.3)) bad.3;
  query_not_deep = λ q at is deep. deep_end deep.0 deep.1 (query_over text q deep.0 deep.1 at is deep.2 (deep_over deep.0 deep.1 deep.3)) deep.3;
  bad_not_deep = λ a b bad deep.
      let same = one_stop text bad.0 bad.1 deep.0 deep.1 a b bad.2 deep.2 (bad_over bad.0 bad.1 bad.3) (deep_over deep.0 deep.1 deep.3) in
      bad_deep deep.0 deep.1 (subst (λ (l : List Bytes). IsBad l deep.1) same.0 (subst (λ (l : List Bytes). IsBad bad.0 l) same.1 bad.3)) deep.3;
  bad_once = λ a b first second. (one_stop text first.0 first.1 second.0 second.1 a b first.2 second.2 (bad_over first.0 first.1 first.3) (bad_over second.0 second.1 second.3)).2;
  deep_once = λ a b first second. (one_stop text first.0 first.1 second.0 second.1 a b first.2 second.2 (deep_over first.0 first.1 first.3) (deep_over second.0 second.1 second.3)).2;
}

pub one_query : (text : Bytes) (q r : Query) → IsQuery text q → IsQuery text r → q ≡ r
one_query text q r is_q is_r = spells_one (tokens text) 32 32 q r is_q.spelled is_r.spelled
