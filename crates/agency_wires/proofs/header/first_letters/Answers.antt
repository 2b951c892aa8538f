use Rattle.std.proofs.Common.{ap, ◌∙◌, take}
use Rattle.std.specs.Char.{is_ascii_alphabetic}
use Rattle.std.specs.List.{prefix_len}
use Rattle.text7901.proofs.Parts.{lead_prefix}
use Rattle.agency_wires.proofs.header.first_letters.Goals as goal

pub returns : goal.returns
returns c =
    c.split_at.ensures.front ∙ ap (λ n. take n c.args.word.now) (c.leading_letters.ensures.value ∙ ap (prefix_len is_ascii_alphabetic) c.first_characters.ensures) ∙ lead_prefix is_ascii_alphabetic 3 c.args.word.now
