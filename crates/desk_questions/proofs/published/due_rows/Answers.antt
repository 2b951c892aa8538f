use Rattle.std.proofs.Common.{List, ◌++◌, sym, ap, ◌∙◌, map, take, arith}
use Rattle.std.specs.Option.{option_to_list}
use Rattle.std.proofs.lemmas.List.{take_all}
use Rattle.news_types.specs.Names.{Bytes}
use Rattle.desk_questions.specs.Publications.{destined_row, destinies, destiny}
use Rattle.desk_questions.proofs.Listed.{take_one}
use Rattle.desk_questions.proofs.Destined.{destiny_more}
use Rattle.desk_questions.proofs.published.due_rows.Goals as goal

pub loop-subscriber-preserved : goal.loop-subscriber-preserved
loop-subscriber-preserved c = λ h stands.
    let n = c.args.number in
    let k = c.loop-subscriber.subscriber-index in
    let s = c.subscriber-item.result in
    let names = c.subscribers-subscriber-items.result.now in
    let front = c.loop-subscriber.invariant h stands in
    c.in_ok-add_due.ensures h stands
    ∙ (λ j. front j ++ map destined_row (option_to_list (destiny h n s)))
    ∙ sym (destiny_more h n (take k names) s)
    ∙ ap (λ (l : List Bytes). map destined_row (destinies h n l)) (take_one names k s (omega arith) c.subscriber-item.is)

pub returns : goal.returns
returns c = λ h stands.
    let n = c.args.number in
    let k = c.loop-subscriber.subscriber-index in
    let names = c.subscribers-subscriber-items.result.now in
    c.loop-subscriber.invariant h stands
    ∙ ap (λ (l : List Bytes). map destined_row (destinies h n l))
    (take_all k names (omega (arith, c.loop-subscriber-test.false)) ∙ c.subscribers-subscriber-items.ensures h (c.stories.ensures.keeps h stands) stands.legal)
