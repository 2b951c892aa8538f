use Rattle.std.proofs.Common.{◌≡◌, true, false, not, ◌&&◌, ◌||◌, List, map, refl, sym, ◌∙◌}
use Rattle.std.proofs.lemmas.List.{length-map}
use Rattle.std.proofs.lemmas.List.Kept.{IsStrictlySortedBy-filter}
use Rattle.std.specs.Ordering.{nat_cmp}
use Rattle.std.specs.Cmp.Lexicographic.{slice_cmp}
use Rattle.news_types.proofs.Members.{same_is}
use Rattle.news_types.specs.Names.{Bytes, same}
use Rattle.news_types.specs.Filters.{Filter, changed, has_filter}
use Rattle.content_filters.specs.Kept.{is_block}
use Rattle.content_filters.proofs.Changed.{age_map, apart_map, kept_map, changed_name, changed_kept, block_other, block_same, any_removed}
use Rattle.content_filters.proofs.table.Filters.set_block.Goals as goal

-- what is among the names behind the call
blocked : (name : Bytes) (fs : List Filter) (other : Bytes) → has_filter name fs ≡ true → (same other name || is_block fs other) ≡ is_block (map (changed name (λ f. record f { blocks = true })) fs) other
blocked name fs other there =
    elim (same other name) as (λ b. same other name ≡ b → (b || is_block fs other) ≡ is_block (map (changed name (λ f. record f { blocks = true })) fs) other) [
      | true ↦ λ is. let e : other ≡ name = same_is other name is in rw (e, block_same name true fs, there) refl
      | false ↦ λ apart. sym (block_other name true fs other apart)
    ] refl

unblocked : (name : Bytes) (fs : List Filter) (other : Bytes) → (not (same other name) && is_block fs other) ≡ is_block (map (changed name (λ f. record f { blocks = false })) fs) other
unblocked name fs other =
    elim (same other name) as (λ b. same other name ≡ b → (not b && is_block fs other) ≡ is_block (map (changed name (λ f. record f { blocks = false })) fs) other) [
      | true ↦ λ is. let e : other ≡ name = same_is other name is in rw (e, block_same name false fs) refl
      | false ↦ λ apart. sym (block_other name false fs other apart)
    ] refl

pub returns-then-on : goal.returns-then-on
returns-then-on c found count fs keeps there =
    let name = c.args.filter in
    let block : Filter → Filter = λ f. record f { blocks = true } in
    let g : Filter → Filter = changed name block in
    let names : (f : Filter) → (g f).name ≡ f.name = changed_name name block (λ _. refl) in
    let before = keeps.blocking in
    rw c.if-on.true (record {
      each = keeps.each;
      inside = keeps.inside;
      conditions = keeps.conditions;
      filters = keeps.filters ∙ sym (kept_map g names (changed_kept name block (λ _. refl)) fs);
      ages = λ other. keeps.ages other ∙ sym (age_map g names fs other);
      apart = apart_map g names fs keeps.apart;
      few = rw (length-map fs g) keeps.few;
      blocking = record {
        each = λ other. c.insert_in_order.ensures.each before.order other ∙ rw (before.each other) (blocked name fs other there);
        order = c.insert_in_order.ensures.order before.order;
      };
    })

pub returns-else-on : goal.returns-else-on
returns-else-on c found count fs keeps there =
    let name = c.args.filter in
    let block : Filter → Filter = λ f. record f { blocks = false } in
    let g : Filter → Filter = changed name block in
    let names : (f : Filter) → (g f).name ≡ f.name = changed_name name block (λ _. refl) in
    let before = keeps.blocking in
    rw c.if-on.false (record {
      each = keeps.each;
      inside = keeps.inside;
      conditions = keeps.conditions;
      filters = keeps.filters ∙ sym (kept_map g names (changed_kept name block (λ _. refl)) fs);
      ages = λ other. keeps.ages other ∙ sym (age_map g names fs other);
      apart = apart_map g names fs keeps.apart;
      few = rw (length-map fs g) keeps.few;
      blocking = record {
        each = λ other. rw c.remove_name.ensures (any_removed c.args.self.now.blocks.items name other ∙ rw (before.each other) (unblocked name fs other));
        order = rw c.remove_name.ensures (IsStrictlySortedBy-filter (slice_cmp nat_cmp) (λ it. not (same it name)) c.args.self.now.blocks.items before.order);
      };
    })
