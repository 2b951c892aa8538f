-- What was asked, and what is answered.
use Rattle.std.proofs.Common.{◌≡◌, ◌∙◌, ◌++◌, inl, ℕ, sym, ap, subst}
use Rattle.std.specs.List.{flat_map}
use Rattle.news_types.specs.Names.{Bytes}
use Rattle.news_types.specs.History.{History}
use Rattle.archive_search.specs.declared.asked.Asked.{Asked}
use Rattle.archive_search.specs.declared.asked.Asked.TheVariants as asked
use Rattle.archive_search.specs.declared.asked.Hits.{Hits}
use Rattle.archive_search.specs.declared.told.Told.TheVariants as told
use Rattle.archive_search.specs.Answers.{AnswersQuery, IsAsked, found_object, hit_line, refused_object, total_line}
use Rattle.archive_search.specs.Told.{archive_told}
use Rattle.archive_search.proofs.Judging.{told_query, told_refused}

module _ (h : History) (page : ℕ) (text : Bytes) (answer : Asked) (is : IsAsked h page text answer) where
  pub found_answers : (found : Hits) → answer ≡ asked.Found found → (bytes : Bytes) → bytes ≡ total_line found.total ++ flat_map hit_line found.rows.items → AnswersQuery h page text bytes
  found_answers found same bytes written =
      let there = subst (IsAsked h page text) same is in
      inl (there.0, there.1, written ∙ (λ i. total_line (there.2.total_is i) ++ flat_map hit_line (there.2.rows_are i)))

  pub found_told : (found : Hits) → answer ≡ asked.Found found → (bytes : Bytes) → bytes ≡ found_object found.total found.rows.items → told.Found bytes ≡ archive_told h page text
  found_told found same bytes written =
      let there = subst (IsAsked h page text) same is in
      ap told.Found (written ∙ (λ i. found_object (there.2.total_is i) (there.2.rows_are i))) ∙ sym (told_query h page text there.0 there.1)

  pub refused_told : (at : ℕ) → answer ≡ asked.Refused at → (bytes : Bytes) → bytes ≡ refused_object at → told.Refused bytes ≡ archive_told h page text
  refused_told at same bytes written =
      let there = subst (IsAsked h page text) same is in
      ap told.Refused written ∙ sym (told_refused h page text at there)
