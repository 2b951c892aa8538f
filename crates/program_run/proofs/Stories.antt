-- What the events of stories do to a world.
use Rattle.std.proofs.Common.{◌≡◌, ℕ, [], ◌∷◌, Option, Some, None, refl, sym, ◌∙◌}
use Rattle.std.specs.Prelude.{Result, Ok, Err}
use Rattle.news_types.specs.declared.entry.Entry.{Entry}
use Rattle.news_types.specs.declared.story.Incoming.{Incoming}
use Rattle.news_types.specs.Names.{Bytes}
use Rattle.news_types.specs.History.{History, moment_at}
use Rattle.news_types.specs.Frames.{Writer}
use Rattle.news_types.specs.Outcome.{ingest_at}
use Rattle.news_types.specs.Calls.{Ingested, Replied, Fate, IsKept, follow}
use Rattle.news_types.specs.Server.{put}
use Rattle.text7901.specs.declared.found.Found.{Found}
use Rattle.text7901.specs.declared.found.Found.TheVariants as found
use Rattle.ninjs_text.specs.declared.fault.NinjsFault.{NinjsFault}
use Rattle.wire_run.specs.Members.{of_found, of_item}
use Rattle.agency_wires.specs.declared.fault.WireFault.{WireFault}
use Rattle.agency_wires.specs.declared.found.Found as agency
use Rattle.agency_wires.specs.declared.found.Found.TheVariants as cut
use Rattle.agency_wires.specs.declared.fault.WireFault.TheVariants as wire_fault
use Rattle.agency_wires.specs.Reading.{told, wrong, or_fault, incoming_of, head_of, text_of, info_of}
use Rattle.agency_items.specs.declared.fault.ItemFault.{ItemFault}
use Rattle.agency_runs.specs.Members.{of_message, of_told, of_read}
use Rattle.world_laws.specs.World.{World, run}
use Rattle.news_room.specs.Steps.{entries}
use Rattle.room_runs.specs.Wires.{of_incoming}
use Rattle.program_run.specs.Inputs.{story_events, story_text, wire_input, item_input, read_of, message_input, told_input}
use Rattle.program_run.proofs.Lines.{answered_same, kept_text}
use Rattle.program_run.proofs.Means.{Means, past}
use Rattle.program_run.proofs.Sizes.{passes_past}

module _ (provider : Bytes) where
  abbrev next_found : History → Found → ℕ → Option Entry
  next_found h (found.Story come) at = follow h (Ingested provider come) (moment_at h at)
  next_found h (found.Fault place is) at = None

  found_server : (write : Writer) (w : World) (x : Found) (at : ℕ) (fate : Fate) → (run write ((wire_input provider).events x at fate) w).server ≡ put w.server (next_found w.server.list x at) fate
  found_server write w (found.Story come) at fate = refl
  found_server write w (found.Fault place is) at fate = refl

  found_adds : (h : History) (x : Found) (at : ℕ) → (of_found (of_incoming 65 provider) h x at).adds ≡ entries (next_found h x at)
  found_adds h (found.Story come) at = refl
  found_adds h (found.Fault place is) at = refl

  found_passes : (h : History) (x : Found) (at : ℕ) → (of_found (of_incoming 65 provider) h x at).passes ≡ past (next_found h x at) h
  found_passes h (found.Story come) at = passes_past h (follow h (Ingested provider come) (moment_at h at))
  found_passes h (found.Fault place is) at = refl

  found_took : (h : History) (x : Found) (at : ℕ) → (of_found (of_incoming 65 provider) h x at).took ≡ (wire_input provider).readings x at
  found_took h (found.Story come) at = refl
  found_took h (found.Fault place is) at = refl

  found_text_is : (write : Writer) (w : World) (x : Found) (at : ℕ) → (of_found (of_incoming 65 provider) w.server.list x at).text ≡ (wire_input provider).text (run write ((wire_input provider).events x at IsKept) w) x
  found_text_is write w (found.Story come) at = let o = ingest_at w.server.list provider come (moment_at w.server.list at) in answered_same o.answer ∙ sym (kept_text o.more (Replied o.answer))
  found_text_is write w (found.Fault place is) at = refl

  pub wire_means : Means (of_found (of_incoming 65 provider)) (wire_input provider)
  wire_means = record { next = next_found; server = found_server; adds = found_adds; passes = found_passes; took = found_took; text = found_text_is }

  abbrev Item : Type 0
  Item = Result Incoming NinjsFault

  abbrev next_item : History → Item → ℕ → Option Entry
  next_item h (Ok come) at = follow h (Ingested provider come) (moment_at h at)
  next_item h (Err is) at = None

  item_server : (write : Writer) (w : World) (x : Item) (at : ℕ) (fate : Fate) → (run write ((item_input provider).events x at fate) w).server ≡ put w.server (next_item w.server.list x at) fate
  item_server write w (Ok come) at fate = refl
  item_server write w (Err is) at fate = refl

  item_adds : (h : History) (x : Item) (at : ℕ) → (of_item (of_incoming 65 provider) h x at).adds ≡ entries (next_item h x at)
  item_adds h (Ok come) at = refl
  item_adds h (Err is) at = refl

  item_passes : (h : History) (x : Item) (at : ℕ) → (of_item (of_incoming 65 provider) h x at).passes ≡ past (next_item h x at) h
  item_passes h (Ok come) at = passes_past h (follow h (Ingested provider come) (moment_at h at))
  item_passes h (Err is) at = refl

  item_took : (h : History) (x : Item) (at : ℕ) → (of_item (of_incoming 65 provider) h x at).took ≡ (item_input provider).readings x at
  item_took h (Ok come) at = refl
  item_took h (Err is) at = refl

  item_text_is : (write : Writer) (w : World) (x : Item) (at : ℕ) → (of_item (of_incoming 65 provider) w.server.list x at).text ≡ (item_input provider).text (run write ((item_input provider).events x at IsKept) w) x
  item_text_is write w (Ok come) at = let o = ingest_at w.server.list provider come (moment_at w.server.list at) in answered_same o.answer ∙ sym (kept_text o.more (Replied o.answer))
  item_text_is write w (Err is) at = refl

  pub item_means : Means (of_item (of_incoming 65 provider)) (item_input provider)
  item_means = record { next = next_item; server = item_server; adds = item_adds; passes = item_passes; took = item_took; text = item_text_is }

  -- ---- a message of an agency's wire

  abbrev Read : Type 0
  Read = Result Incoming WireFault

  abbrev next_read : History → Read → ℕ → Option Entry
  next_read h (Ok come) at = follow h (Ingested provider come) (moment_at h at)
  next_read h (Err is) at = None

  abbrev next_message : History → agency.Found → ℕ → Option Entry
  next_message h (cut.Message place bytes) at = next_read h (told at bytes) at
  next_message h (cut.TooLong place) at = None

  read_server : (write : Writer) (w : World) (place : ℕ) (r : Read) (at : ℕ) (fate : Fate) → (run write (story_events provider (read_of place r) at fate) w).server ≡ put w.server (next_read w.server.list r at) fate
  read_server write w place (Ok come) at fate = refl
  read_server write w place (Err (wire_fault.Fault within is)) at fate = refl
  read_server write w place (Err wire_fault.Memory) at fate = refl

  message_server : (write : Writer) (w : World) (x : agency.Found) (at : ℕ) (fate : Fate) → (run write ((message_input provider).events x at fate) w).server ≡ put w.server (next_message w.server.list x at) fate
  message_server write w (cut.Message place bytes) at fate = read_server write w place (told at bytes) at fate
  message_server write w (cut.TooLong place) at fate = refl

  read_adds : (h : History) (place : ℕ) (r : Read) (at : ℕ) → (of_told (of_incoming 65 provider) h place at r).adds ≡ entries (next_read h r at)
  read_adds h place (Ok come) at = refl
  read_adds h place (Err (wire_fault.Fault within is)) at = refl
  read_adds h place (Err wire_fault.Memory) at = refl

  message_adds : (h : History) (x : agency.Found) (at : ℕ) → (of_message (of_incoming 65 provider) h x at).adds ≡ entries (next_message h x at)
  message_adds h (cut.Message place bytes) at = read_adds h place (told at bytes) at
  message_adds h (cut.TooLong place) at = refl

  read_passes : (h : History) (place : ℕ) (r : Read) (at : ℕ) → (of_told (of_incoming 65 provider) h place at r).passes ≡ past (next_read h r at) h
  read_passes h place (Ok come) at = passes_past h (follow h (Ingested provider come) (moment_at h at))
  read_passes h place (Err (wire_fault.Fault within is)) at = refl
  read_passes h place (Err wire_fault.Memory) at = refl

  message_passes : (h : History) (x : agency.Found) (at : ℕ) → (of_message (of_incoming 65 provider) h x at).passes ≡ past (next_message h x at) h
  message_passes h (cut.Message place bytes) at = read_passes h place (told at bytes) at
  message_passes h (cut.TooLong place) at = refl

  read_took : (h : History) (place : ℕ) (r : Read) (at : ℕ) → (of_told (of_incoming 65 provider) h place at r).took ≡ at ∷ []
  read_took h place (Ok come) at = refl
  read_took h place (Err (wire_fault.Fault within is)) at = refl
  read_took h place (Err wire_fault.Memory) at = refl

  message_took : (h : History) (x : agency.Found) (at : ℕ) → (of_message (of_incoming 65 provider) h x at).took ≡ (message_input provider).readings x at
  message_took h (cut.Message place bytes) at = read_took h place (told at bytes) at
  message_took h (cut.TooLong place) at = refl

  -- what is wrong decides whether a story came in, on this day as on any other
  read_text_is : (write : Writer) (w : World) (place : ℕ) (wrong : Option WireFault) (come other : Incoming) (at : ℕ)
      → (of_told (of_incoming 65 provider) w.server.list place at (or_fault wrong come)).text
      ≡ story_text (run write (story_events provider (read_of place (or_fault wrong come)) at IsKept) w) (read_of place (or_fault wrong other))
  read_text_is write w place None come other at = let o = ingest_at w.server.list provider come (moment_at w.server.list at) in answered_same o.answer ∙ sym (kept_text o.more (Replied o.answer))
  read_text_is write w place (Some (wire_fault.Fault within is)) come other at = refl
  read_text_is write w place (Some wire_fault.Memory) come other at = refl

  message_text_is : (write : Writer) (w : World) (x : agency.Found) (at : ℕ) → (of_message (of_incoming 65 provider) w.server.list x at).text ≡ (message_input provider).text (run write ((message_input provider).events x at IsKept) w) x
  message_text_is write w (cut.Message place bytes) at =
      read_text_is write w place (wrong bytes (head_of bytes) (text_of bytes)) (incoming_of (head_of bytes) (text_of bytes) (info_of bytes) at) (incoming_of (head_of bytes) (text_of bytes) (info_of bytes) 0) at
  message_text_is write w (cut.TooLong place) at = refl

  pub message_means : Means (of_message (of_incoming 65 provider)) (message_input provider)
  message_means = record { next = next_message; server = message_server; adds = message_adds; passes = message_passes; took = message_took; text = message_text_is }

  -- ---- an item or a list of items, as agencies send them

  abbrev Told : Type 0
  Told = Result Incoming ItemFault

  abbrev next_told : History → Told → ℕ → Option Entry
  next_told h (Ok come) at = follow h (Ingested provider come) (moment_at h at)
  next_told h (Err is) at = None

  told_server : (write : Writer) (w : World) (x : Told) (at : ℕ) (fate : Fate) → (run write ((told_input provider).events x at fate) w).server ≡ put w.server (next_told w.server.list x at) fate
  told_server write w (Ok come) at fate = refl
  told_server write w (Err is) at fate = refl

  told_adds : (h : History) (x : Told) (at : ℕ) → (of_read (of_incoming 65 provider) h x at).adds ≡ entries (next_told h x at)
  told_adds h (Ok come) at = refl
  told_adds h (Err is) at = refl

  told_passes : (h : History) (x : Told) (at : ℕ) → (of_read (of_incoming 65 provider) h x at).passes ≡ past (next_told h x at) h
  told_passes h (Ok come) at = passes_past h (follow h (Ingested provider come) (moment_at h at))
  told_passes h (Err is) at = refl

  told_took : (h : History) (x : Told) (at : ℕ) → (of_read (of_incoming 65 provider) h x at).took ≡ (told_input provider).readings x at
  told_took h (Ok come) at = refl
  told_took h (Err is) at = refl

  told_text_is : (write : Writer) (w : World) (x : Told) (at : ℕ) → (of_read (of_incoming 65 provider) w.server.list x at).text ≡ (told_input provider).text (run write ((told_input provider).events x at IsKept) w) x
  told_text_is write w (Ok come) at = let o = ingest_at w.server.list provider come (moment_at w.server.list at) in answered_same o.answer ∙ sym (kept_text o.more (Replied o.answer))
  told_text_is write w (Err is) at = refl

  pub told_means : Means (of_read (of_incoming 65 provider)) (told_input provider)
  told_means = record { next = next_told; server = told_server; adds = told_adds; passes = told_passes; took = told_took; text = told_text_is }
