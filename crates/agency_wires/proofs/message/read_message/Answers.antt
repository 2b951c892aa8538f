use Rattle.std.proofs.Common.{◌≡◌, ℕ, List, Result, ap, subst, ◌∙◌}
use Rattle.news_types.specs.declared.story.Incoming.{Incoming}
use Rattle.text7901.specs.Fields.{before, behind_byte}
use Rattle.agency_wires.specs.declared.fault.WireFault.{WireFault}
use Rattle.agency_wires.specs.Characters.{decoded}
use Rattle.agency_wires.specs.Reading.{head_of, text_of, info_of, told_of, told, IsRead}
use Rattle.agency_wires.proofs.Sizes.{parts_read}
use Rattle.agency_wires.proofs.message.read_message.Goals as goal

read_same : (bytes head text info : List ℕ) (day : ℕ) (r : Result Incoming WireFault) → head ≡ head_of bytes → text ≡ text_of bytes → info ≡ info_of bytes → IsRead (told_of bytes head text info day) r → IsRead (told day bytes) r
read_same bytes head text info day r a b e h =
    subst (λ z. IsRead z r) (ap (λ z. told_of bytes z text info day) a ∙ ap (λ z. told_of bytes (head_of bytes) z info day) b ∙ ap (λ z. told_of bytes (head_of bytes) (text_of bytes) z day) e) h

pub returns-clause-value : goal.returns-clause-value
unfolding head_of text_of info_of
returns-clause-value c =
    let bytes = c.args.bytes.now in
    let rest = c.split_around.ensures.back in
    read_same bytes c.as_slice-head.result.now c.as_slice-text.result.now c.as_slice-info.result.now c.args.day c.read_parts.result
    (c.as_slice-head.ensures.value ∙ c.in_ok-head_told.ensures ∙ ap decoded c.split_around.ensures.front)
    (c.as_slice-text.ensures.value ∙ c.in_ok-text_told.ensures ∙ ap decoded (c.split_around-2.ensures.front ∙ ap (before 3) rest))
    (c.as_slice-info.ensures.value ∙ c.in_ok-info_told.ensures ∙ ap decoded (c.split_around-2.ensures.back ∙ ap (behind_byte 3) rest))
    c.read_parts.ensures.value

pub returns-clause-fits : goal.returns-clause-fits
returns-clause-fits c = parts_read c.args.bytes.now c.as_slice-head.result.now c.as_slice-text.result.now c.as_slice-info.result.now c.args.day c.read_parts.result c.read_parts.ensures.value
