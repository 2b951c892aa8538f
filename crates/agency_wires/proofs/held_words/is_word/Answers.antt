use Rattle.std.proofs.Common.{ap, sym, ◌∙◌}
use Rattle.std.proofs.lemmas.List.{drop_all}
use Rattle.agency_wires.specs.HeldWords.{is_word}
use Rattle.agency_wires.proofs.Lines.{word_end}
use Rattle.agency_wires.proofs.held_words.is_word.Goals as goal

pub returns : goal.returns
returns c =
    let l = c.loop-byte in
    c.is_empty.ensures ∙ sym (word_end l.rest.now) ∙ ap (is_word l.rest.now) (sym (drop_all l.byte-index c.args.upper.now c.loop-byte-test.false)) ∙ l.invariant
