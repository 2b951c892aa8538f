-- The answer where the item and the targets are there.
use Rattle.std.proofs.Common.{◌≡◌, ℕ, true, List, Option, Some, None, sym, ap, ◌∙◌}
use Rattle.std.specs.Prelude.{option_map, if◌then◌else◌}
use Rattle.std.specs.List.{list_all}
use Rattle.news_types.specs.declared.story.Story.{Story}
use Rattle.news_types.specs.declared.words.Thing.TheVariants as thing
use Rattle.news_types.specs.Names.{Bytes}
use Rattle.news_types.specs.History.{History}
use Rattle.news_types.specs.Items.{Item}
use Rattle.news_types.specs.Products.{is_subscriber}
use Rattle.story_tables.specs.Views.{story_in}
use Rattle.desk_views.specs.Reach.{unknown, reach}
use Rattle.desk_questions.specs.declared.answer.DeskTold.TheVariants as told
use Rattle.desk_questions.specs.Reach.{reach_bytes, reach_object}
use Rattle.desk_questions.specs.Told.{unless_unknown}

module _ (h : History) (i : ℕ) (targets : List Bytes) where
  pub all_told : (it : Option Item) (story : Story) (bytes : Bytes) → Some story ≡ option_map story_in it → list_all (is_subscriber h) targets ≡ true → bytes ≡ reach_bytes (reach h i story targets)
      → told.Found bytes ≡ unless_unknown (unknown h targets it) (reach_object h i targets it)
  all_told None story bytes is there written = cc
  all_told (Some it) story bytes is there written =
      let same : story ≡ it.story = cc in
      ap told.Found (written ∙ ap (λ (s : Story). reach_bytes (reach h i s targets)) same)
      ∙ ap (λ b. unless_unknown (if b then None else Some thing.Subscriber) (reach_object h i targets (Some it))) (sym there)
