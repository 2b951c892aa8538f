use Rattle.std.proofs.Common.{◌≡◌, ℕ, ◌+◌, ◌<◌, cond, length, Some, sym, ap, ◌∙◌, arith}
use Rattle.std.specs.HashMap.{get}
use Rattle.news_types.specs.Names.{Bytes, same}
use Rattle.content_filters.proofs.Changed.{one_more, one_more_inside}
use Rattle.content_filters.proofs.table.Filters.add_condition.Goals as goal

module _ (c : goal.After-put_place) where
  -- where a name stands behind the call
  placed : (name : Bytes) → get same c.put_place.new.places name ≡ cond (same c.args.name name) (Some (length c.args.self.now.conditions.items)) (get same c.args.self.now.condition_places name)
  placed name =
      let counted : c.len-place.result ≡ length c.args.self.now.conditions.items = c.len-place.ensures ∙ c.args.self.now.conditions.ok.0 in
      c.put_place.ensures name ∙ ap (λ n. cond (same c.args.name name) (Some n) (get same c.args.self.now.condition_places name)) counted

pub returns : goal.returns
returns c found count fs keeps =
    let t = c.args.self.now in
    let within : (name : Bytes) (p : ℕ) → get same t.condition_places name ≡ Some p → p < length t.conditions.items = λ name p is. omega (arith, keeps.inside name p is, t.conditions.ok.0) in
    record {
      each = λ name. rw (placed c name, c.push_reserved.ensures.items) (one_more t.conditions.items c.args.condition (same c.args.name name) (get same t.condition_places name) (found name) (within name) (keeps.each name));
      inside = λ name place is.
          let lt : place < length t.conditions.items + 1 = one_more_inside (same c.args.name name) (get same t.condition_places name) (length t.conditions.items) place (within name) (sym (placed c name) ∙ is) in
          omega (arith, lt, c.push_reserved.ensures.len, t.conditions.ok.0);
      conditions = omega (arith, c.push_reserved.ensures.len, keeps.conditions);
      filters = keeps.filters;
      ages = keeps.ages;
      apart = keeps.apart;
      few = keeps.few;
      blocking = keeps.blocking;
    }
