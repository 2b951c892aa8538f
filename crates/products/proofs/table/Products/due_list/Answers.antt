use Rattle.std.proofs.Common.{◌≡◌, Bool, true, false, ◌||◌, refl, ap}
use Rattle.news_types.specs.Names.{is_in}
use Rattle.news_types.specs.declared.words.Kind.TheVariants.{First, Correct, Kill, Recall}
use Rattle.news_types.specs.Products.{permitted}
use Rattle.products.proofs.Changed.{if_ok_map}
use Rattle.products.proofs.Listed.{are_due}
use Rattle.products.proofs.table.Products.due_list.Goals as goal

or_false : (a : Bool) → (a || false) ≡ a
or_false true = refl
or_false false = refl

pub returns-in-First : goal.returns-in-First
returns-in-First c =
    let t = c.args.self.now in
    let story = c.args.story.now in
    let targets = c.args.targets.now in
    rw c.in-First.is
    (if_ok_map c.permitted_names.result _ _
    (λ names made h ps i release keep earlier. are_due t h ps First i story release targets (λ s. permitted h story targets s || false) names keep.table (λ s. or_false (permitted h story targets s)) (made h keep))
    c.permitted_names.ensures)

pub returns-in-Correct : goal.returns-in-Correct
returns-in-Correct c =
    let t = c.args.self.now in
    let story = c.args.story.now in
    let targets = c.args.targets.now in
    rw c.in-Correct.is
    (if_ok_map c.permitted_names-in-Correct.result _ _
    (λ names made h ps i release keep earlier. are_due t h ps Correct i story release targets (λ s. permitted h story targets s || is_in s c.args.earlier.now) names keep.table (λ s. ap (λ b. permitted h story targets s || b) (earlier s)) (made h keep))
    c.permitted_names-in-Correct.ensures)

pub returns-in-Kill : goal.returns-in-Kill
returns-in-Kill c =
    let t = c.args.self.now in
    rw c.in-Kill.is
    (if_ok_map c.earlier_names.result _ _
    (λ names made h ps i release keep earlier. are_due t h ps Kill i c.args.story.now release c.args.targets.now (λ s. is_in s c.args.earlier.now) names keep.table earlier made)
    c.earlier_names.ensures)

pub returns-in-Recall : goal.returns-in-Recall
returns-in-Recall c =
    let t = c.args.self.now in
    rw c.in-Recall.is
    (if_ok_map c.earlier_names-in-Recall.result _ _
    (λ names made h ps i release keep earlier. are_due t h ps Recall i c.args.story.now release c.args.targets.now (λ s. is_in s c.args.earlier.now) names keep.table earlier made)
    c.earlier_names-in-Recall.ensures)
