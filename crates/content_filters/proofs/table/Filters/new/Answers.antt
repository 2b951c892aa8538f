use Rattle.std.proofs.Common.{◌≡◌, [], None, refl, sym, ◌∙◌, arith}
use Rattle.std.specs.HashMap.{get}
use Rattle.std.specs.Ordering.{nat_cmp}
use Rattle.std.specs.List.Sorted.{IsStrictlySortedBy}
use Rattle.std.specs.Cmp.Lexicographic.{slice_cmp}
use Rattle.news_types.proofs.Members.{none_some}
use Rattle.news_types.specs.Names.{Bytes, same}
use Rattle.content_filters.proofs.table.Filters.new.Goals as goal

none_in_order : IsStrictlySortedBy (slice_cmp nat_cmp) []
unfolding IsStrictlySortedBy
none_in_order = tt

pub returns : goal.returns
returns c =
    let no_condition : (name : Bytes) → get same c.new-2.result name ≡ None = λ name. rw c.new-2.ensures.empty refl in
    record {
      each = λ name. rw (no_condition name) refl;
      inside = λ name place is. absurd (none_some place (sym (no_condition name) ∙ is));
      conditions = c.new.ensures.len;
      filters = c.new-3.ensures.items;
      ages = λ name. rw c.new-4.ensures.empty refl;
      apart = tt;
      few = omega arith;
      blocking = record { each = λ name. rw c.new-5.ensures.items refl; order = rw c.new-5.ensures.items none_in_order };
    }
