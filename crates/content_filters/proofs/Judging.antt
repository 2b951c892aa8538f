-- One pass over the filters, from the oldest on.
use Rattle.std.proofs.Common.{◌≡◌, ℕ, Bool, false, List, [], ◌∷◌, ◌++◌, map, Option, Some, None, refl, sym, ap, ◌∙◌, append_assoc}
use Rattle.std.proofs.lemmas.List.{map-append}
use Rattle.std.specs.List.{slice_get, list_any, list_all}
use Rattle.std.specs.Option.{option_and_then, option_map, unwrap_or}
use Rattle.std.specs.HashMap.{get}
use Rattle.std.proofs.lemmas.Option.{slice_get-map}
use Rattle.news_types.proofs.Members.{same_self}
use Rattle.news_types.specs.Names.{Bytes, same}
use Rattle.news_types.specs.Conditions.{Condition, is_true_of, is_true_if_there}
use Rattle.news_types.specs.Filters.{Filter, holds, matches_by}
use Rattle.news_types.specs.declared.rules.Statement.{Statement}
use Rattle.news_types.specs.declared.story.Story.{Story}
use Rattle.content_filters.specs.declared.condition.KeptCondition.{KeptCondition}
use Rattle.content_filters.specs.declared.table.KeptFilter.{KeptFilter}
use Rattle.content_filters.specs.declared.table.Filters.{Filters}
use Rattle.content_filters.specs.declared.verdicts.Verdicts.{Verdicts}
use Rattle.content_filters.specs.Kept.{condition_of, kept_of, oldest_first, age, AreApart, verdict_at, truth}
use Rattle.content_filters.specs.Keeps.{Keeps, judged, matches_of, AreVerdicts, matching_blocks}
use Rattle.content_filters.proofs.Ages.{at_age_among}

-- ---- tests that agree

all_alike : {A : Type 0} (p q : A → Bool) (xs : List A) → ((x : A) → p x ≡ q x) → list_all p xs ≡ list_all q xs
all_alike p q [] alike = refl
all_alike p q (x ∷ xs) alike = rw (alike x, all_alike p q xs alike) refl

any_alike : {A : Type 0} (p q : A → Bool) (xs : List A) → ((x : A) → p x ≡ q x) → list_any p xs ≡ list_any q xs
any_alike p q [] alike = refl
any_alike p q (x ∷ xs) alike = rw (alike x, any_alike p q xs alike) refl

holds_alike : (c d f g : Bytes → Bool) (st : Statement) → ((name : Bytes) → c name ≡ d name) → ((name : Bytes) → f name ≡ g name) → holds c f st ≡ holds d g st
holds_alike c d f g st conditions filters = rw (all_alike c d st.conditions conditions, all_alike f g st.filters filters) refl

-- ---- filters

judged_more : (t : Filters) (conditions verdicts : List Bool) (ks : List KeptFilter) (k : KeptFilter) →
    judged t conditions verdicts (ks ++ k ∷ []) ≡ (judged t conditions verdicts ks ++ list_any (holds (verdict_at t.condition_places conditions) (verdict_at t.filter_places (judged t conditions verdicts ks))) k.statements ∷ [])
judged_more t conditions verdicts [] k = refl
judged_more t conditions verdicts (j ∷ ks) k = judged_more t conditions (verdicts ++ list_any (holds (verdict_at t.condition_places conditions) (verdict_at t.filter_places verdicts)) j.statements ∷ []) ks k

judged_older : (t : Filters) (conditions : List Bool) (true_of : Bytes → Bool) (all newer fs : List Filter) → ((name : Bytes) → verdict_at t.condition_places conditions name ≡ true_of name)
    → ((name : Bytes) → get same t.filter_places name ≡ age all name) → AreApart all → all ≡ newer ++ fs → judged t conditions [] (map kept_of (oldest_first fs)) ≡ matches_of true_of fs
judged_older t conditions true_of all newer [] told ages apart is = refl
judged_older t conditions true_of all newer (f ∷ fs) told ages apart is =
    let olds : List Bool = matches_of true_of fs in
    let split : all ≡ newer ++ f ∷ [] ++ fs = is ∙ sym (append_assoc newer (f ∷ []) fs) in
    let before : judged t conditions [] (map kept_of (oldest_first fs)) ≡ olds = judged_older t conditions true_of all (newer ++ f ∷ []) fs told ages apart split in
    let older : (name : Bytes) → verdict_at t.filter_places olds name ≡ matches_by true_of fs name = λ name. rw (ages name, split) (at_age_among true_of (newer ++ f ∷ []) fs name (rw split at apart)) in
    let here : list_any (holds (verdict_at t.condition_places conditions) (verdict_at t.filter_places olds)) f.statements ≡ list_any (holds true_of (λ other. matches_by true_of fs other)) f.statements =
    any_alike _ _ f.statements (λ st. holds_alike (verdict_at t.condition_places conditions) true_of (verdict_at t.filter_places olds) (λ other. matches_by true_of fs other) st told older) in
    let self : matches_by true_of (f ∷ fs) f.name ≡ list_any (holds true_of (λ other. matches_by true_of fs other)) f.statements = rw (same_self f.name) refl in
    rw (map-append kept_of (oldest_first fs) (f ∷ []), judged_more t conditions [] (map kept_of (oldest_first fs)) (kept_of f), before, here, self) refl

-- ---- conditions

said : (story : Story) (o : Option Condition) → unwrap_or (option_map (is_true_of story) o) false ≡ is_true_if_there o story
said story None = refl
said story (Some c) = refl

at_mapped : (story : Story) (o : Option ℕ) (ks : List KeptCondition) →
    option_and_then (λ place. slice_get (map (is_true_of story) (map condition_of ks)) place) o ≡ option_map (is_true_of story) (option_map condition_of (option_and_then (λ place. slice_get ks place) o))
at_mapped story None ks = refl
at_mapped story (Some p) ks = slice_get-map (is_true_of story) (map condition_of ks) p ∙ ap (option_map (is_true_of story)) (slice_get-map condition_of ks p)

told_of : (t : Filters) (condition : Bytes → Option Condition) (count : ℕ) (fs : List Filter) (story : Story) (name : Bytes) → Keeps t condition count fs
    → verdict_at t.condition_places (map (is_true_of story) (map condition_of t.conditions.items)) name ≡ truth condition story name
told_of t condition count fs story name keeps =
    rw (at_mapped story (get same t.condition_places name) t.conditions.items, keeps.each name) (said story (condition name))

-- ---- both

pub are_verdicts : (t : Filters) (condition : Bytes → Option Condition) (count : ℕ) (fs : List Filter) (story : Story) (v : Verdicts) → Keeps t condition count fs
    → v.conditions.items ≡ map (is_true_of story) (map condition_of t.conditions.items) → v.filters.items ≡ judged t v.conditions.items [] t.filters.items → v.blocks.items ≡ matching_blocks t v.filters.items → AreVerdicts v t condition fs story
are_verdicts t condition count fs story v keeps conditions filters blocks =
    let told : (name : Bytes) → verdict_at t.condition_places v.conditions.items name ≡ truth condition story name = λ name. rw conditions (told_of t condition count fs story name keeps) in
    record {
      conditions = told;
      filters = filters ∙ ap (judged t v.conditions.items []) keeps.filters ∙ judged_older t v.conditions.items (truth condition story) fs [] fs told keeps.ages keeps.apart refl;
      blocks = blocks;
    }
