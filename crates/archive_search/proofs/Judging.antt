-- What a text is judged to be, and what it spells.
use Rattle.std.proofs.Common.{◌≡◌, ◌⊎◌, ◌++◌, inl, inr, ℕ, Bool, true, false, ◌+◌, ◌-◌, ◌<◌, ◌≤◌, List, length, Result, Ok, Err, refl, sym, ap, subst, ◌∙◌, arith}
use Rattle.std.specs.Prelude.{nat_lt, if◌then◌else◌}
use Rattle.std.proofs.lemmas.Bool.{ltb-true, ltb-false}
use Rattle.news_types.specs.Names.{Bytes}
use Rattle.news_types.specs.History.{History}
use Rattle.archive_query.specs.declared.parsing.QueryFault.TheVariants as fault
use Rattle.archive_query.specs.Query.{Query}
use Rattle.archive_query.specs.Grammar.{IsQuery, IsBadAt, IsDeepAt}
use Rattle.archive_query.specs.Tokens.{tokens, joined}
use Rattle.archive_query.specs.Reading.{Refusal, Misplaced, TooDeep, Refused, start}
use Rattle.archive_query.specs.Parsing.{read_text}
use Rattle.archive_query.proofs.Cutting.{joined_from, joined_rest}
use Rattle.archive_query.proofs.Judged.{refused_judged}
use Rattle.archive_query.proofs.Verdicts.{query_found, fault_there}
use Rattle.archive_query.proofs.Once.{judged_once, one_query}
use Rattle.archive_search.specs.declared.told.Told as code
use Rattle.archive_search.specs.declared.told.Told.TheVariants as told
use Rattle.archive_search.specs.Answers.{IsRefusedAt, refused_object}
use Rattle.archive_search.specs.Told.{judged, judged_by, place_of, told_by, archive_told}
use Rattle.archive_search.specs.Laws.{TellsFound, AnswersAreAsSpelled}

-- the query that it spells, or that it is none from that place on
abbrev pub IsSpelled : Bytes → Result Query ℕ → Type 0
IsSpelled text (Ok q) = IsQuery text q
IsSpelled text (Err at) = IsRefusedAt text at

-- the place of what is refused
place_there : (text : Bytes) (r : Refused) → read_text text ≡ Err r → place_of text r + length (joined r.rest) ≡ length text
place_there text r said =
    let split = refused_judged (tokens text) r said in
    let whole : length (joined (tokens text)) ≡ length text = ap length (joined_from _ text) in
    let tail : length (joined r.rest) ≤ length (joined (split.0 ++ r.rest)) = joined_rest split.0 r.rest in
    let same : length (joined (tokens text)) ≡ length (joined (split.0 ++ r.rest)) = ap (λ (ts : List Bytes). length (joined ts)) split.1 in
    omega (arith, whole, tail, same)

refused_for : (text : Bytes) (rest : List Bytes) (why : Refusal) → length text ≤ 65536 → read_text text ≡ Err (record { why = why; rest = rest }) → IsRefusedAt text (place_of text (record { why = why; rest = rest }))
refused_for text rest Misplaced short said =
    let r : Refused = record { why = Misplaced; rest = rest } in
    inl (fault_there text (fault.At (place_of text r)) short (rest, said, place_there text r said))
refused_for text rest TooDeep short said =
    let r : Refused = record { why = TooDeep; rest = rest } in
    inr (inl (fault_there text (fault.TooDeep (place_of text r)) short (rest, said, place_there text r said)))

judged_short : (text : Bytes) (said : Result Query Refused) → length text ≤ 65536 → read_text text ≡ said → IsSpelled text (judged_by text said)
judged_short text (Ok q) short said = query_found text q short said
judged_short text (Err r) short said = refused_for text r.rest r.why short said

-- a text is what it is judged to be
pub judged_spelled : (text : Bytes) → IsSpelled text (judged text)
unfolding judged
judged_spelled text =
    elim (nat_lt 65536 (length text)) as (λ v. nat_lt 65536 (length text) ≡ v → IsSpelled text (if v then Err 65536 else judged_by text (read_text text))) [
      | true ↦ λ long. inr (inr (ltb-true 65536 (length text) long, refl))
      | false ↦ λ short. judged_short text (read_text text) (ltb-false 65536 (length text) short) refl
    ] refl

-- ---- and nothing else

not_refused : (text : Bytes) (q : Query) (at : ℕ) → IsQuery text q → IsRefusedAt text at → ⊥
not_refused text q at is (inl bad) = (judged_once text).query_not_bad q at is bad
not_refused text q at is (inr (inl deep)) = (judged_once text).query_not_deep q at is deep
not_refused text q at is (inr (inr long)) = omega (arith, is.short, long.0)

one_place : (text : Bytes) (a b : ℕ) → IsRefusedAt text a → IsRefusedAt text b → a ≡ b
one_place text a b (inl x) (inl y) = (judged_once text).bad_once a b x y
one_place text a b (inl x) (inr (inl y)) = absurd ((judged_once text).bad_not_deep a b x y)
one_place text a b (inr (inl x)) (inl y) = absurd ((judged_once text).bad_not_deep b a y x)
one_place text a b (inr (inl x)) (inr (inl y)) = (judged_once text).deep_once a b x y
one_place text a b (inr (inr x)) (inr (inr y)) = x.1 ∙ sym y.1
one_place text a b (inl x) (inr (inr y)) = absurd (omega (arith, x.2.short, y.0))
one_place text a b (inr (inl x)) (inr (inr y)) = absurd (omega (arith, x.2.short, y.0))
one_place text a b (inr (inr x)) (inl y) = absurd (omega (arith, y.2.short, x.0))
one_place text a b (inr (inr x)) (inr (inl y)) = absurd (omega (arith, y.2.short, x.0))

is_query : (text : Bytes) (q : Query) (said : Result Query ℕ) → IsSpelled text said → IsQuery text q → said ≡ Ok q
is_query text q (Ok r) spelled is = ap Ok (one_query text r q spelled is)
is_query text q (Err at) spelled is = absurd (not_refused text q at is spelled)

is_refused : (text : Bytes) (at : ℕ) (said : Result Query ℕ) → IsSpelled text said → IsRefusedAt text at → said ≡ Err at
is_refused text at (Ok r) spelled is = absurd (not_refused text r at spelled is)
is_refused text at (Err b) spelled is = ap Err (one_place text b at spelled is)

pub told_query : (h : History) (page : ℕ) (text : Bytes) (q : Query) → IsQuery text q → TellsFound h page q (archive_told h page text)
told_query h page text q is = ap (told_by h page) (is_query text q (judged text) (judged_spelled text) is)

pub told_refused : (h : History) (page : ℕ) (text : Bytes) (at : ℕ) → IsRefusedAt text at → archive_told h page text ≡ told.Refused (refused_object at)
told_refused h page text at is = ap (told_by h page) (is_refused text at (judged text) (judged_spelled text) is)

each_spelled : (text : Bytes) (said : Result Query ℕ) → IsSpelled text said → ((q : Query) × IsQuery text q) ⊎ ((at : ℕ) × IsRefusedAt text at)
each_spelled text (Ok q) spelled = inl (q, spelled)
each_spelled text (Err at) spelled = inr (at, spelled)

pub as_spelled : AnswersAreAsSpelled
as_spelled = record { queries = told_query; others = told_refused; each = λ text. each_spelled text (judged text) (judged_spelled text) }
