-- What was read of an item or a message, as a member of a body and what it comes to.
use Rattle.std.proofs.Common.{◌≡◌, ℕ, List, None, Result, Ok, Err, refl, sym, ap, ◌∙◌}
use Rattle.news_types.specs.Names.{Bytes}
use Rattle.news_types.specs.declared.story.Incoming.{Incoming}
use Rattle.ninjs_text.specs.declared.fault.NinjsFault.{NinjsFault}
use Rattle.ninjs_text.specs.declared.fault.NinjsFault.TheVariants as fault_is
use Rattle.ninjs_text.specs.Reading.{IsRead}
use Rattle.agency_wires.specs.declared.fault.WireFault.{WireFault}
use Rattle.agency_runs.specs.Told.{IsTold}
use Rattle.agency_runs.specs.declared.messages.Told.{Told}
use Rattle.agency_runs.specs.declared.messages.Told.TheVariants as told_is
use Rattle.desk_answers.specs.Answers.{fault_bytes}
use Rattle.wire_run.specs.Members.{fault_word, fault_property}
use Rattle.wire_bodies.specs.declared.member.BodyMember.{BodyMember}
use Rattle.wire_bodies.specs.declared.member.BodyMember.TheVariants.{Line}
use Rattle.wire_bodies.specs.Bodies.{item_member, message_told, IsToldAt}

-- a fault that was read is what the item says, where it is no want of memory
said_fault : (said : Result Incoming NinjsFault) (fault : NinjsFault) → (fault ≡ fault_is.Memory → ⊥) → IsRead said (Err fault) → said ≡ Err fault
said_fault said fault_is.NotJson real is = is
said_fault said fault_is.NotObject real is = is
said_fault said fault_is.NoUri real is = is
said_fault said (fault_is.WrongType property) real is = is
said_fault said (fault_is.TooLong property) real is = is
said_fault said fault_is.Memory real is = absurd (real refl)

abbrev line_of : List ℕ → BodyMember
line_of bytes = Line bytes

pub fault_member : (said : Result Incoming NinjsFault) (fault : NinjsFault) (line : Bytes) → (fault ≡ fault_is.Memory → ⊥) → IsRead said (Err fault) → line ≡ fault_bytes None (fault_word fault) (fault_property fault)
    → line_of line ≡ item_member said
fault_member said fault line real is text = ap line_of text ∙ ap item_member (sym (said_fault said fault real is))

abbrev told_line : List ℕ → Result Incoming Bytes
told_line bytes = Err bytes

-- what a message was told is what it comes to
pub told_message : (at : ℕ) (said : Result Incoming WireFault) (told : Told) → IsTold at said (Ok told) → IsToldAt (message_told at said) (Ok told)
told_message at said (told_is.Story incoming) is = (ap (message_told at) is.0, is.1)
told_message at said (told_is.Line text) is = ap (message_told at) is.1.1 ∙ ap told_line (sym is.1.2)
