-- A filter by its name.
use Rattle.std.proofs.Common.{◌≡◌, ℕ, Bool, true, false, List, [], ◌∷◌, Option, Some, None, refl, sym, ap, ◌∙◌}
use Rattle.std.specs.Prelude.{◌||◌, is_some, option_map, unwrap_or, if◌then◌else◌}
use Rattle.news_types.specs.Names.{Bytes, same}
use Rattle.news_types.specs.Filters.{Filter, has_filter}
use Rattle.content_filters.specs.declared.table.KeptFilter.{KeptFilter}
use Rattle.content_filters.specs.Kept.{filter_named, kept_of}
use Rattle.told_objects.specs.Members.{objects}
use Rattle.desk_questions.specs.Rows.{filter_members, filter_row, statement_row}

pub told_as : (filter : Bytes) (age : ℕ) (blocks : Bool) (kept : KeptFilter) (o : Option Filter) → Some kept ≡ option_map kept_of o → filter_members filter age blocks (objects statement_row kept.statements) ≡ filter_row filter age blocks o
told_as filter age blocks kept None is = absurd cc
told_as filter age blocks kept (Some f) is =
    let alike : kept ≡ kept_of f = cc in
    λ k. filter_members filter age blocks (objects statement_row ((alike k).statements))

named_there : (name : Bytes) (fs : List Filter) → is_some (filter_named name fs) ≡ has_filter name fs
named_there name [] = refl
named_there name (f ∷ fs) = by (same f.name name) (named_there name fs)
  where
    by : (b : Bool) → is_some (filter_named name fs) ≡ has_filter name fs → is_some (if b then Some f else filter_named name fs) ≡ (b || has_filter name fs)
    by true rest = refl
    by false rest = rest

pub its_age : (name : Bytes) (fs : List Filter) (kept : KeptFilter) (age : Option ℕ) (n : ℕ) → Some kept ≡ option_map kept_of (filter_named name fs) → age ≡ (if has_filter name fs then Some n else None) → unwrap_or age 0 ≡ n
its_age name fs kept age n is aged = by (filter_named name fs) refl is
  where
    by : (o : Option Filter) → filter_named name fs ≡ o → Some kept ≡ option_map kept_of o → unwrap_or age 0 ≡ n
    by None found is = absurd cc
    by (Some f) found is =
        let there : has_filter name fs ≡ true = sym (named_there name fs) ∙ ap is_some found in
        ap (λ (o : Option ℕ). unwrap_or o 0) (aged ∙ ap (λ (b : Bool). if b then Some n else None) there)
