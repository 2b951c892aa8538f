-- What the events of stories do to a world.
use Rattle.std.proofs.Common.{◌≡◌, ℕ, [], ◌∷◌, Option, Some, None, refl, sym}
use Rattle.std.specs.Prelude.{Result, Ok, Err}
use Rattle.news_types.specs.declared.entry.Entry.{Entry}
use Rattle.news_types.specs.declared.story.Incoming.{Incoming}
use Rattle.news_types.specs.Names.{Bytes}
use Rattle.news_types.specs.History.{History, moment_at}
use Rattle.news_types.specs.Frames.{Writer}
use Rattle.news_types.specs.Outcome.{ingest_at}
use Rattle.news_types.specs.Calls.{Ingested, Replied, Fate, IsKept, follow}
use Rattle.news_types.specs.Server.{put}
use Rattle.text7901.specs.declared.found.Found.{Found}
use Rattle.text7901.specs.declared.found.Found.TheVariants as found
use Rattle.ninjs_text.specs.declared.fault.NinjsFault.{NinjsFault}
use Rattle.wire_run.specs.Members.{of_found, of_item}
use Rattle.agency_wires.specs.declared.fault.WireFault.{WireFault}
use Rattle.agency_wires.specs.declared.found.Found as agency
use Rattle.agency_wires.specs.declared.found.Found.TheVariants as cut
use Rattle.agency_wires.specs.declared.fault.WireFault.TheVariants as wire_fault
use Rattle.agency_wires.specs.Reading.{told, wrong, or_fault, incoming_of, head_of, text_of, info_of}
use Rattle.agency_items.specs.declared.fault.ItemFault.{ItemFault}
use Rattle.agency_runs.specs.Members.{of_message, of_told, of_read}
use Rattle.command_words.specs.declared.words.IngestFormat.{IngestFormat}
use Rattle.command_words.specs.declared.words.IngestFormat.TheVariants as format
use Rattle.newsdesk_cli.specs.Ingests.{answer_of}
use Rattle.world_laws.specs.World.{World, run}
use Rattle.news_room.specs.Steps.{entries}
use Rattle.room_runs.specs.Wires.{of_incoming}
use Rattle.program_events.specs.Stories.{wire_input, item_input, message_input, told_input, ingest_input, read_events, read_text}
use Rattle.program_events.specs.Turns.{OnlyServer}
use Rattle.program_events.proofs.Lines.{kept_text}
use Rattle.program_events.proofs.Members.{Means}

module _ (start : ℕ) (provider : Bytes) where
  abbrev next_found : History → Found → ℕ → Option Entry
  next_found h (found.Story come) at = follow h (Ingested provider come) (moment_at h at)
  next_found h (found.Fault place is) at = None

  found_server : (write : Writer) (w : World) (x : Found) (at : ℕ) (fate : Fate) → (run write ((wire_input provider).events x at fate) w).server ≡ put w.server (next_found w.server.list x at) fate
  found_server write w (found.Story come) at fate = refl
  found_server write w (found.Fault place is) at fate = refl

  found_adds : (h : History) (x : Found) (at : ℕ) → (of_found (of_incoming start provider) h x at).adds ≡ entries (next_found h x at)
  found_adds h (found.Story come) at = refl
  found_adds h (found.Fault place is) at = refl

  found_took : (h : History) (x : Found) (at : ℕ) → (of_found (of_incoming start provider) h x at).took ≡ (wire_input provider).readings x at
  found_took h (found.Story come) at = refl
  found_took h (found.Fault place is) at = refl

  found_text_is : (write : Writer) (w : World) (x : Found) (at : ℕ) → (of_found (of_incoming start provider) w.server.list x at).text ≡ (wire_input provider).text (run write ((wire_input provider).events x at IsKept) w) x
  found_text_is write w (found.Story come) at = let o = ingest_at w.server.list provider come (moment_at w.server.list at) in sym (kept_text o.more (Replied o.answer))
  found_text_is write w (found.Fault place is) at = refl

  found_only : (write : Writer) (w : World) (x : Found) (at : ℕ) (fate : Fate) → OnlyServer w (run write ((wire_input provider).events x at fate) w)
  found_only write w (found.Story come) at fate = record { frames = refl; receipts = refl; receivers = refl }
  found_only write w (found.Fault place is) at fate = record { frames = refl; receipts = refl; receivers = refl }

  wire_means : Means (of_found (of_incoming start provider)) (wire_input provider)
  wire_means = record { next = next_found; server = found_server; adds = found_adds; took = found_took; text = found_text_is; only = found_only }

  abbrev Item : Type 0
  Item = Result Incoming NinjsFault

  abbrev next_item : History → Item → ℕ → Option Entry
  next_item h (Ok come) at = follow h (Ingested provider come) (moment_at h at)
  next_item h (Err is) at = None

  item_server : (write : Writer) (w : World) (x : Item) (at : ℕ) (fate : Fate) → (run write ((item_input provider).events x at fate) w).server ≡ put w.server (next_item w.server.list x at) fate
  item_server write w (Ok come) at fate = refl
  item_server write w (Err is) at fate = refl

  item_adds : (h : History) (x : Item) (at : ℕ) → (of_item (of_incoming start provider) h x at).adds ≡ entries (next_item h x at)
  item_adds h (Ok come) at = refl
  item_adds h (Err is) at = refl

  item_took : (h : History) (x : Item) (at : ℕ) → (of_item (of_incoming start provider) h x at).took ≡ (item_input provider).readings x at
  item_took h (Ok come) at = refl
  item_took h (Err is) at = refl

  item_text_is : (write : Writer) (w : World) (x : Item) (at : ℕ) → (of_item (of_incoming start provider) w.server.list x at).text ≡ (item_input provider).text (run write ((item_input provider).events x at IsKept) w) x
  item_text_is write w (Ok come) at = let o = ingest_at w.server.list provider come (moment_at w.server.list at) in sym (kept_text o.more (Replied o.answer))
  item_text_is write w (Err is) at = refl

  item_only : (write : Writer) (w : World) (x : Item) (at : ℕ) (fate : Fate) → OnlyServer w (run write ((item_input provider).events x at fate) w)
  item_only write w (Ok come) at fate = record { frames = refl; receipts = refl; receivers = refl }
  item_only write w (Err is) at fate = record { frames = refl; receipts = refl; receivers = refl }

  item_means : Means (of_item (of_incoming start provider)) (item_input provider)
  item_means = record { next = next_item; server = item_server; adds = item_adds; took = item_took; text = item_text_is; only = item_only }

  -- ---- a message of an agency's wire

  abbrev Read : Type 0
  Read = Result Incoming WireFault

  abbrev next_read : History → Read → ℕ → Option Entry
  next_read h (Ok come) at = follow h (Ingested provider come) (moment_at h at)
  next_read h (Err is) at = None

  abbrev next_message : History → agency.Found → ℕ → Option Entry
  next_message h (cut.Message place bytes) at = next_read h (told at bytes) at
  next_message h (cut.TooLong place) at = None

  read_server : (write : Writer) (w : World) (r : Read) (at : ℕ) (fate : Fate) → (run write (read_events provider r at fate) w).server ≡ put w.server (next_read w.server.list r at) fate
  read_server write w (Ok come) at fate = refl
  read_server write w (Err is) at fate = refl

  message_server : (write : Writer) (w : World) (x : agency.Found) (at : ℕ) (fate : Fate) → (run write ((message_input provider).events x at fate) w).server ≡ put w.server (next_message w.server.list x at) fate
  message_server write w (cut.Message place bytes) at fate = read_server write w (told at bytes) at fate
  message_server write w (cut.TooLong place) at fate = refl

  read_adds : (h : History) (place : ℕ) (r : Read) (at : ℕ) → (of_told (of_incoming start provider) h place at r).adds ≡ entries (next_read h r at)
  read_adds h place (Ok come) at = refl
  read_adds h place (Err (wire_fault.Fault within is)) at = refl
  read_adds h place (Err wire_fault.Memory) at = refl

  message_adds : (h : History) (x : agency.Found) (at : ℕ) → (of_message (of_incoming start provider) h x at).adds ≡ entries (next_message h x at)
  message_adds h (cut.Message place bytes) at = read_adds h place (told at bytes) at
  message_adds h (cut.TooLong place) at = refl

  read_took : (h : History) (place : ℕ) (r : Read) (at : ℕ) → (of_told (of_incoming start provider) h place at r).took ≡ at ∷ []
  read_took h place (Ok come) at = refl
  read_took h place (Err (wire_fault.Fault within is)) at = refl
  read_took h place (Err wire_fault.Memory) at = refl

  message_took : (h : History) (x : agency.Found) (at : ℕ) → (of_message (of_incoming start provider) h x at).took ≡ (message_input provider).readings x at
  message_took h (cut.Message place bytes) at = read_took h place (told at bytes) at
  message_took h (cut.TooLong place) at = refl

  -- what is wrong decides whether a story came in
  read_text_is : (write : Writer) (w : World) (place : ℕ) (wrong : Option WireFault) (come : Incoming) (at : ℕ)
      → (of_told (of_incoming start provider) w.server.list place at (or_fault wrong come)).text ≡ read_text (run write (read_events provider (or_fault wrong come) at IsKept) w) place wrong
  read_text_is write w place None come at = let o = ingest_at w.server.list provider come (moment_at w.server.list at) in sym (kept_text o.more (Replied o.answer))
  read_text_is write w place (Some (wire_fault.Fault within is)) come at = refl
  read_text_is write w place (Some wire_fault.Memory) come at = refl

  message_text_is : (write : Writer) (w : World) (x : agency.Found) (at : ℕ) → (of_message (of_incoming start provider) w.server.list x at).text ≡ (message_input provider).text (run write ((message_input provider).events x at IsKept) w) x
  message_text_is write w (cut.Message place bytes) at = read_text_is write w place (wrong bytes (head_of bytes) (text_of bytes)) (incoming_of (head_of bytes) (text_of bytes) (info_of bytes) at) at
  message_text_is write w (cut.TooLong place) at = refl

  read_only : (write : Writer) (w : World) (r : Read) (at : ℕ) (fate : Fate) → OnlyServer w (run write (read_events provider r at fate) w)
  read_only write w (Ok come) at fate = record { frames = refl; receipts = refl; receivers = refl }
  read_only write w (Err is) at fate = record { frames = refl; receipts = refl; receivers = refl }

  message_only : (write : Writer) (w : World) (x : agency.Found) (at : ℕ) (fate : Fate) → OnlyServer w (run write ((message_input provider).events x at fate) w)
  message_only write w (cut.Message place bytes) at fate = read_only write w (told at bytes) at fate
  message_only write w (cut.TooLong place) at fate = record { frames = refl; receipts = refl; receivers = refl }

  message_means : Means (of_message (of_incoming start provider)) (message_input provider)
  message_means = record { next = next_message; server = message_server; adds = message_adds; took = message_took; text = message_text_is; only = message_only }

  -- ---- an item or a list of items, as agencies send them

  abbrev Told : Type 0
  Told = Result Incoming ItemFault

  abbrev next_told : History → Told → ℕ → Option Entry
  next_told h (Ok come) at = follow h (Ingested provider come) (moment_at h at)
  next_told h (Err is) at = None

  told_server : (write : Writer) (w : World) (x : Told) (at : ℕ) (fate : Fate) → (run write ((told_input provider).events x at fate) w).server ≡ put w.server (next_told w.server.list x at) fate
  told_server write w (Ok come) at fate = refl
  told_server write w (Err is) at fate = refl

  told_adds : (h : History) (x : Told) (at : ℕ) → (of_read (of_incoming start provider) h x at).adds ≡ entries (next_told h x at)
  told_adds h (Ok come) at = refl
  told_adds h (Err is) at = refl

  told_took : (h : History) (x : Told) (at : ℕ) → (of_read (of_incoming start provider) h x at).took ≡ (told_input provider).readings x at
  told_took h (Ok come) at = refl
  told_took h (Err is) at = refl

  told_text_is : (write : Writer) (w : World) (x : Told) (at : ℕ) → (of_read (of_incoming start provider) w.server.list x at).text ≡ (told_input provider).text (run write ((told_input provider).events x at IsKept) w) x
  told_text_is write w (Ok come) at = let o = ingest_at w.server.list provider come (moment_at w.server.list at) in sym (kept_text o.more (Replied o.answer))
  told_text_is write w (Err is) at = refl

  told_only : (write : Writer) (w : World) (x : Told) (at : ℕ) (fate : Fate) → OnlyServer w (run write ((told_input provider).events x at fate) w)
  told_only write w (Ok come) at fate = record { frames = refl; receipts = refl; receivers = refl }
  told_only write w (Err is) at fate = record { frames = refl; receipts = refl; receivers = refl }

  told_means : Means (of_read (of_incoming start provider)) (told_input provider)
  told_means = record { next = next_told; server = told_server; adds = told_adds; took = told_took; text = told_text_is; only = told_only }

  -- by the format
  pub ingest_means : (given : IngestFormat) → Means (answer_of given provider start) (ingest_input given provider)
  ingest_means format.Wire = wire_means
  ingest_means format.Item = item_means
  ingest_means format.AgencyWire = message_means
  ingest_means format.AgencyItems = told_means
