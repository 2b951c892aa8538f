-- Names in byte order, and where a search finds one.
use Rattle.std.proofs.Common.{◌≡◌, ℕ, ◌<◌, true, false, List, [], length, get_or, Result, MatchOption}
use Rattle.std.specs.Ordering.{nat_cmp}
use Rattle.std.specs.Cmp.Lexicographic.{slice_cmp, nat_list_cmp_total, texts_ties}
use Rattle.std.specs.List.Sorted.{IsStrictlySortedBy, IsSearchInRange, IsBinarySearchResult}
use Rattle.std.specs.Result.{result_ok}
use Rattle.news_types.specs.Names.{Bytes, same, is_in, AreInOrder}
use Rattle.news_types.proofs.Members.{same_is, same_self}
use Rattle.publish_queue.proofs.Ascending as ascending
use Rattle.publish_queue.proofs.Ascending.{IsOrder}

pub names_order : IsOrder (slice_cmp nat_cmp) same
names_order = record { total = nat_list_cmp_total; ties = texts_ties; is = same_is; self = same_self }

pub none_in_order : AreInOrder []
unfolding IsStrictlySortedBy
none_in_order = tt

-- a name at a place is there
pub present : (s : Bytes) (ns : List Bytes) (i : ℕ) (d : Bytes) → i < length ns → get_or ns i d ≡ s → is_in s ns ≡ true
present s ns i d lt e = ascending.present names_order s ns i d lt e

-- two places have two names
pub apart : (ns : List Bytes) (i j : ℕ) (d : Bytes) → AreInOrder ns → i < j → j < length ns → get_or ns i d ≡ get_or ns j d → ⊥
apart ns i j d up less lt e = ascending.apart names_order ns i j d up less lt e

-- what a binary search for a name says
pub searched : (s : Bytes) (ns : List Bytes) (r : Result ℕ ℕ) → IsSearchInRange r (length ns) → IsBinarySearchResult (λ t. slice_cmp nat_cmp t s) ns r → AreInOrder ns
    → MatchOption (result_ok r) (is_in s ns ≡ false) (λ at. (at < length ns) × ((d : Bytes) → get_or ns at d ≡ s))
searched s ns r within is up = ascending.searched names_order s ns r within is up
