use Rattle.std.proofs.Common.{◌≡◌, length, cond, Some, sym, ap, ◌∙◌}
use Rattle.std.specs.HashMap.{get}
use Rattle.desk_rules.specs.Keys.{same_on}
use Rattle.desk_rules.specs.Places.{key_of}
use Rattle.desk_rules.proofs.Numbers.{place_is, one_more}
use Rattle.desk_rules.proofs.places.Places.add.Goals as goal

pub returns-clause-placed : goal.returns-clause-placed
returns-clause-placed c placed key n is =
    let p = c.args.self.now in
    let counted : c.len-number.result ≡ length p.list.items = c.len-number.ensures ∙ p.list.ok.0 in
    let before = get same_on p.numbers key in
    let number : cond (same_on (key_of c.args.place) key) (Some (length p.list.items)) before ≡ Some n =
    sym (ap (λ k. cond (same_on k key) (Some (length p.list.items)) before) c.key_of.ensures)
    ∙ sym (ap (λ m. cond (same_on c.key_of.result key) (Some m) before) counted)
    ∙ sym (c.put_number.ensures.numbers key)
    ∙ is in
    rw c.push_reserved.ensures.items (one_more p.list.items c.args.place key before (same_on (key_of c.args.place) key) n (place_is c.args.place key) (placed key) number)
