use Rattle.std.proofs.Common.{◌≡◌, Bool, true, false, ◌&&◌, ◌||◌, [], ◌∷◌, length, refl, sym, ◌∙◌, arith}
use Rattle.std.proofs.lemmas.List.{map-append}
use Rattle.news_types.specs.Names.{same}
use Rattle.content_filters.specs.Kept.{kept_of, oldest_first, is_block}
use Rattle.content_filters.proofs.Facts.{filters_counted}
use Rattle.content_filters.proofs.table.Filters.add_filter.Goals as goal

-- a filter that does not block
plain : (b c : Bool) → c ≡ (b && false || c)
plain true c = refl
plain false c = refl

pub returns : goal.returns
returns c found count fs keeps none room =
    let t = c.args.self.now in
    let name = c.args.filter.name in
    let counted : c.len-place.result ≡ length fs = c.len-place.ensures ∙ filters_counted t found count fs keeps in
    let blocks = keeps.blocking in
    record {
      each = keeps.each;
      inside = keeps.inside;
      conditions = keeps.conditions;
      filters = c.push_reserved.ensures.items ∙ rw keeps.filters (sym (map-append kept_of (oldest_first fs) (record { name = name; statements = c.args.filter.statements; blocks = false } ∷ [])));
      ages = λ other. c.put_place.ensures other ∙ rw (counted, keeps.ages other) refl;
      apart = (none, keeps.apart);
      few = omega arith;
      blocking = record { each = λ other. blocks.each other ∙ plain (same name other) (is_block fs other); order = blocks.order };
    }
