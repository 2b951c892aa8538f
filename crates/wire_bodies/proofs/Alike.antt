-- The members of a body are answered as those of an input.
use Rattle.std.proofs.Common.{ℕ, List, [], ◌∷◌, map, Result, Ok, Err, refl}
use Rattle.news_types.specs.declared.entry.Entry.{Entry}
use Rattle.news_types.specs.declared.story.Incoming.{Incoming}
use Rattle.line_run.specs.Life.{Meaning}
use Rattle.command_words.specs.declared.words.IngestFormat.{IngestFormat}
use Rattle.command_words.specs.declared.words.IngestFormat.TheVariants as format
use Rattle.text7901.specs.Wire.{wire}
use Rattle.text7901.specs.declared.found.Found as text
use Rattle.text7901.specs.declared.found.Found.TheVariants as text_is
use Rattle.ninjs_text.specs.declared.fault.NinjsFault.{NinjsFault}
use Rattle.agency_wires.specs.Messages.{messages}
use Rattle.agency_wires.specs.Reading.{told}
use Rattle.agency_wires.specs.declared.found.Found as agency
use Rattle.agency_wires.specs.declared.found.Found.TheVariants as agency_is
use Rattle.agency_wires.specs.declared.fault.WireFault.{WireFault}
use Rattle.agency_wires.specs.declared.fault.WireFault.TheVariants as wire_fault
use Rattle.agency_items.specs.Items.{items}
use Rattle.agency_items.specs.declared.fault.ItemFault.{ItemFault}
use Rattle.wire_run.specs.Members.{of_found, of_item, one_item}
use Rattle.agency_runs.specs.Members.{of_told, of_message, of_read}
use Rattle.wire_bodies.specs.declared.member.BodyMember.{BodyMember}
use Rattle.wire_bodies.specs.Bodies.{text_member, item_member, agency_member, agency_item_member, message_told, told_of, answered, IsSameRow, AreAnswered, IsIngested}

module _ (M : Meaning Entry Incoming) where
  -- one by one
  each : {X : Type 0} (N : Meaning Entry X) (f : X → BodyMember) → ((x : X) (h : List Entry) (reading : ℕ) → IsSameRow (N h x reading) (answered M h reading (told_of reading (f x)))) → (xs : List X) → AreAnswered M N xs (map f xs)
  each N f same [] = tt
  each N f same (x ∷ xs) = (same x, each N f same xs)

  text_same : (x : text.Found) (h : List Entry) (reading : ℕ) → IsSameRow (of_found M h x reading) (answered M h reading (told_of reading (text_member x)))
  text_same (text_is.Story incoming) h reading = (refl, refl, refl)
  text_same (text_is.Fault place what) h reading = (refl, refl, refl)

  item_same : (x : Result Incoming NinjsFault) (h : List Entry) (reading : ℕ) → IsSameRow (of_item M h x reading) (answered M h reading (told_of reading (item_member x)))
  item_same (Ok incoming) h reading = (refl, refl, refl)
  item_same (Err fault) h reading = (refl, refl, refl)

  told_same : (at : ℕ) (said : Result Incoming WireFault) (h : List Entry) (reading : ℕ) → IsSameRow (of_told M h at reading said) (answered M h reading (message_told at said))
  told_same at (Ok incoming) h reading = (refl, refl, refl)
  told_same at (Err (wire_fault.Fault within what)) h reading = (refl, refl, refl)
  told_same at (Err wire_fault.Memory) h reading = (refl, refl, refl)

  agency_same : (x : agency.Found) (h : List Entry) (reading : ℕ) → IsSameRow (of_message M h x reading) (answered M h reading (told_of reading (agency_member x)))
  agency_same (agency_is.Message at bytes) h reading = told_same at (told reading bytes) h reading
  agency_same (agency_is.TooLong at) h reading = (refl, refl, refl)

  agency_item_same : (x : Result Incoming ItemFault) (h : List Entry) (reading : ℕ) → IsSameRow (of_read M h x reading) (answered M h reading (told_of reading (agency_item_member x)))
  agency_item_same (Ok incoming) h reading = (refl, refl, refl)
  agency_item_same (Err fault) h reading = (refl, refl, refl)

  pub ingested : (form : IngestFormat) (body : List ℕ) → IsIngested M form body
  ingested format.Wire body = each (of_found M) text_member text_same (wire body)
  ingested format.Item body = each (of_item M) item_member item_same (one_item body)
  ingested format.AgencyWire body = each (of_message M) agency_member agency_same (messages body)
  ingested format.AgencyItems body = each (of_read M) agency_item_member agency_item_same (items body)
