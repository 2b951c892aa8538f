use Rattle.std.proofs.Common.{◌≡◌, true, false, refl, sym, ◌∙◌}
use Rattle.std.specs.List.{list_all}
use Rattle.content_filters.specs.Reasons.{is_filter_or}
use Rattle.content_filters.specs.Asked.{has_place}
use Rattle.content_filters.proofs.Absent.{first_in}
use Rattle.content_filters.proofs.table.Filters.unknown_in_statement.Goals as goal

pub returns-then-not-all_placed : goal.returns-then-not-all_placed
returns-then-not-all_placed c =
    let t = c.args.self.now in
    let some : list_all (has_place t.condition_places) c.args.statement.now.conditions ≡ false = rw (← c.as_slice.ensures) (sym c.all_placed.ensures ∙ c.if-not-all_placed.true) in
    rw (first_in (has_place t.condition_places) (is_filter_or (has_place t.filter_places) c.args.filter.now) c.args.statement.now, some) refl

pub returns-then-not-all_placed_or : goal.returns-then-not-all_placed_or
returns-then-not-all_placed_or c =
    let t = c.args.self.now in
    let all : list_all (has_place t.condition_places) c.args.statement.now.conditions ≡ true = rw (← c.as_slice.ensures) (sym c.all_placed.ensures ∙ c.if-not-all_placed.false) in
    let some : list_all (is_filter_or (has_place t.filter_places) c.args.filter.now) c.args.statement.now.filters ≡ false = rw (← c.as_slice-2.ensures) (sym c.all_placed_or.ensures ∙ c.if-not-all_placed_or.true) in
    rw (first_in (has_place t.condition_places) (is_filter_or (has_place t.filter_places) c.args.filter.now) c.args.statement.now, all, some) refl

pub returns : goal.returns
returns c =
    let t = c.args.self.now in
    let all : list_all (has_place t.condition_places) c.args.statement.now.conditions ≡ true = rw (← c.as_slice.ensures) (sym c.all_placed.ensures ∙ c.if-not-all_placed.false) in
    let each : list_all (is_filter_or (has_place t.filter_places) c.args.filter.now) c.args.statement.now.filters ≡ true = rw (← c.as_slice-2.ensures) (sym c.all_placed_or.ensures ∙ c.if-not-all_placed_or.false) in
    rw (first_in (has_place t.condition_places) (is_filter_or (has_place t.filter_places) c.args.filter.now) c.args.statement.now, all, each) refl
