-- What is asked for, and what is told of it.
use Rattle.std.proofs.Common.{◌≡◌, ℕ, Bool, true, false, Option, Some, None, refl, sym, ap, ◌∙◌}
use Rattle.std.specs.Prelude.{◌&&◌, option_and_then, option_map, if◌then◌else◌}
use Rattle.news_types.specs.declared.words.State.{State}
use Rattle.news_types.specs.declared.rules.Place.{Place}
use Rattle.news_types.specs.declared.query.Holder.{Holder}
use Rattle.news_types.specs.declared.story.Story.{Story}
use Rattle.news_types.specs.Items.{Item}
use Rattle.story_tables.specs.Views.{version_in, story_in}
use Rattle.desk_views.specs.declared.wire.Wire.{Wire}
use Rattle.desk_views.specs.Items.{Wanted, is_at, is_in_state, is_held, is_wanted_item}
use Rattle.desk_questions.specs.declared.line.ItemLine.{ItemLine}
use Rattle.desk_questions.specs.Items.{line_by, line_given, wanted_by}

-- one that is asked for is there
pub wanted_told : (w : Wanted) (i : ℕ) (wire : Option Wire) (f : Item → State) (it : Option Item) → is_wanted_item w it (option_map f it) ≡ true → (line : ItemLine) × (line_by i wire it (option_map f it) ≡ Some line)
wanted_told w i wire f None is = absurd cc
wanted_told w i wire f (Some it) is = (line_given i (f it) it.place it.holder wire it, refl)

-- where an item stands, if it is there and stands on a desk
abbrev place_of : Option Item → Option Place
place_of it = option_and_then (λ (it : Item). it.place) it

-- who holds it, if it is there and somebody does
abbrev holder_of : Option Item → Option Holder
holder_of it = option_and_then (λ (it : Item). it.holder) it

module _ (w : Wanted) (i : ℕ) (f : Item → State) (now : State) (place : Option Place) (holder : Option Holder) (wire : Option Wire) where
  -- what is asked, by what is looked up of the item
  looked : (it : Item) → Some now ≡ option_map f (Some it) → place ≡ place_of (Some it) → holder ≡ holder_of (Some it)
      → is_wanted_item w (Some it) (option_map f (Some it)) ≡ (is_at w.desk place && is_in_state w.state (Some now) && is_held w.user holder)
  looked it now_is place_is holder_is =
      let same : (is_at w.desk place && is_in_state w.state (Some now) && is_held w.user holder) ≡ is_wanted_item w (Some it) (option_map f (Some it)) =
      λ k. is_at w.desk (place_is k) && is_in_state w.state (now_is k) && is_held w.user (holder_is k) in
      sym same

  -- one that is asked for is told, by what is looked up of it
  pub told_wanted : (it : Option Item) → Some now ≡ option_map f it → place ≡ place_of it → holder ≡ holder_of it → (is_at w.desk place && is_in_state w.state (Some now) && is_held w.user holder) ≡ true
      → option_map (line_given i now place holder wire) it ≡ wanted_by w i wire it (option_map f it)
  told_wanted None now_is place_is holder_is met = cc
  told_wanted (Some it) now_is place_is holder_is met =
      let same : now ≡ f it = cc in
      let lines : line_given i now place holder wire it ≡ line_given i (f it) it.place it.holder wire it = λ k. line_given i (same k) (place_is k) (holder_is k) wire it in
      ap (λ (l : ItemLine). Some l) lines
      ∙ sym (ap (λ (b : Bool). if b then line_by i wire (Some it) (option_map f (Some it)) else None) (looked it now_is place_is holder_is ∙ met))

  -- one that is not asked for is not told
  pub told_unwanted : (it : Option Item) → Some now ≡ option_map f it → place ≡ place_of it → holder ≡ holder_of it → (is_at w.desk place && is_in_state w.state (Some now) && is_held w.user holder) ≡ false
      → None ≡ wanted_by w i wire it (option_map f it)
  told_unwanted None now_is place_is holder_is unmet = refl
  told_unwanted (Some it) now_is place_is holder_is unmet =
      sym (ap (λ (b : Bool). if b then line_by i wire (Some it) (option_map f (Some it)) else None) (looked it now_is place_is holder_is ∙ unmet))

-- what is told of an item, by its version and its story
pub told_of : (i : ℕ) (now : State) (place : Option Place) (holder : Option Holder) (wire : Option Wire) (it : Option Item) (version : ℕ) (story : Story)
    → Some version ≡ option_map version_in it → Some story ≡ option_map story_in it
    → Some (record { item = i; state = now; version = version; headline = story.headline; slugline = story.slugline; urgency = story.urgency; place = place; holder = holder; wire = wire })
    ≡ option_map (line_given i now place holder wire) it
told_of i now place holder wire None version story version_is story_is = cc
told_of i now place holder wire (Some it) version story version_is story_is =
    let same_version : version ≡ it.version = cc in
    let same_story : story ≡ it.story = cc in
    rw (same_version, same_story) refl
