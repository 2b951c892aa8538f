-- The choice by the facts of a list is the choice of that list.
use Rattle.std.proofs.Common.{◌≡◌, ℕ, List, [], ◌∷◌, Option, Some, None, refl}
use Rattle.std.specs.Prelude.{filter_map}
use Rattle.news_types.specs.Names.{Bytes}
use Rattle.news_types.specs.History.{History}
use Rattle.news_types.specs.Delivery.{Candidate, ready_candidate, later_candidate, chosen, choice, earliest}
use Rattle.news_types.proofs.Subscribed.{listed_is}
use Rattle.publish_queue.specs.Keeps.{facts}
use Rattle.publish_queue.specs.Choice.{ready_candidate_of, later_candidate_of, chosen_of, choice_of}

same_candidates : (f g : Bytes → Option Candidate) (asked : List Bytes) → ((s : Bytes) → f s ≡ g s) → filter_map f asked ≡ filter_map g asked
same_candidates f g [] same_each = refl
same_candidates f g (s ∷ ss) same_each = rw (same_each s, same_candidates f g ss same_each) refl

pub choice_is : (h : History) (asked : List Bytes) (at : ℕ) → choice_of (facts h) asked at ≡ choice h asked at
choice_is h asked at =
    let ready : filter_map (ready_candidate_of (facts h) at) asked ≡ filter_map (ready_candidate h at) asked =
    same_candidates _ _ asked (λ s. rw (listed_is h s) refl) in
    let later : filter_map (later_candidate_of (facts h)) asked ≡ filter_map (later_candidate h) asked =
    same_candidates _ _ asked (λ s. rw (listed_is h s) refl) in
    rw (ready) (by (earliest (filter_map (ready_candidate h at) asked)) later)
  where
    by : (o : Option Candidate) → filter_map (later_candidate_of (facts h)) asked ≡ filter_map (later_candidate h) asked
        → chosen_of (facts h) o asked ≡ chosen h o asked
    by (Some found) later = refl
    by None later = rw later refl
