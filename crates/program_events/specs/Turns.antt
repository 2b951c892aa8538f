-- What the events of lines do to a world: what the lines' outcomes say of the list.
use Rattle.std.specs.Prelude.{◌≡◌, ◌⊎◌, ◌<◌, ℕ, List, [], length, Some}
use Rattle.std.specs.List.{slice_get}
use Rattle.news_types.specs.History.{History}
use Rattle.news_types.specs.Frames.{Writer}
use Rattle.news_types.specs.Calls.{Fate}
use Rattle.input_lines.specs.Lines.{Line}
use Rattle.line_run.specs.Turns.{Turn, after, texts, readings}
use Rattle.world_laws.specs.World.{World, SentReceipt, ReceiptComes, Forges, happens, run}
use Rattle.room_runs.specs.Lines.{of_line}
use Rattle.program_events.specs.Events.{line_input, turn_events, turn_readings, world_texts}

-- nothing but the server and its answers has changed
pub record OnlyServer (w next : World) : Type 0 where
  pub frames : next.frames ≡ w.frames
  pub receipts : next.receipts ≡ w.receipts
  pub receivers : next.receivers ≡ w.receivers

-- from any world on, whatever the log had before its first record
pub record TurnsAreEvents : Type 0 where
  -- the events of lines that were answered lead to the list of their outcomes
  pub list : (write : Writer) (start : ℕ) (w : World) (turns : List (Turn Line)) → (run write (turn_events line_input turns) w).server.list ≡ after (of_line start) w.server.list turns
  -- what was in doubt is so only where nothing was kept
  pub doubt : (write : Writer) (w : World) (turns : List (Turn Line)) → ((run write (turn_events line_input turns) w).server ≡ w.server)
      ⊎ ((length w.server.list < length (run write (turn_events line_input turns) w).server.list) × ((run write (turn_events line_input turns) w).server.doubt ≡ []))
  -- and the answers of the world are those of the lines
  pub answers : (write : Writer) (start : ℕ) (w : World) (turns : List (Turn Line)) → texts (of_line start) w.server.list turns ≡ world_texts line_input write w turns
  -- the clock was read for what they ask for
  pub moments : (start : ℕ) (h : History) (turns : List (Turn Line)) → readings (of_line start) h turns ≡ turn_readings line_input turns
  pub beside : (write : Writer) (w : World) (turns : List (Turn Line)) → OnlyServer w (run write (turn_events line_input turns) w)
  -- a receipt that a receiver sent does what one does that none sent
  pub sent : (write : Writer) (w : World) (which reading : ℕ) (fate : Fate) (receipt : SentReceipt) → slice_get w.receipts which ≡ Some receipt
      → happens write w (ReceiptComes which reading fate) ≡ happens write w (Forges receipt.from receipt.count reading fate)
