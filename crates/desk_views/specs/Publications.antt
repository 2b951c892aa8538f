-- The publications of an item, and what becomes of each for those to whom it is due.
use Rattle.std.specs.Prelude.{ℕ, Bool, ◌&&◌, ◌==◌, nat_lt, List, reverse, take, is_some, option_map}
use Rattle.std.specs.List.{filter, flat_map}
use Rattle.std.specs.Option.{option_to_list}
use Rattle.news_types.specs.Names.{Bytes}
use Rattle.news_types.specs.History.{History}
use Rattle.news_types.specs.Products.{subscribers}
use Rattle.news_types.specs.Due.{Pub, release_to}
use Rattle.news_types.specs.Publications.{pubs, standing}
use Rattle.news_types.specs.Answers.{in_order}
use Rattle.feed_reasons.specs.declared.course.Course.{Course}
use Rattle.feed_reasons.specs.Courses.{course, numbered}

-- it is of the item, and its number is above
abbrev pub is_later_of : ℕ → ℕ → Pub → Bool
is_later_of i after p = p.item == i && nat_lt after p.number

-- the first hundred publications of an item above a number, in their order
abbrev pub publications_of : History → ℕ → ℕ → List Pub
publications_of h i after = take 100 (filter (is_later_of i after) (reverse (pubs h)))

-- it was not withdrawn
abbrev pub stands : History → Pub → Bool
stands h p = is_some (numbered p.number (standing h))

-- What becomes of a publication for one to whom it was made due, with its release for it.
pub record Destined : Type 0 where
  pub subscriber : Bytes
  pub release : ℕ
  pub course : Course

abbrev pub destined_at : History → Pub → Bytes → ℕ → Destined
destined_at h p s release = record { subscriber = s; release = release; course = course h p.number s }

-- for the subscriber, if it is due to it
abbrev pub destined_to : History → Pub → Bytes → List Destined
destined_to h p s = option_to_list (option_map (destined_at h p s) (release_to s p.due))

-- for each to whom it is due, in byte order of the names
abbrev pub destined : History → Pub → List Destined
destined h p = flat_map (destined_to h p) (in_order (subscribers h))
