-- A part of a file that was read ahead.
use Rattle.std.specs.Prelude.{◌≡◌, ◌⊎◌, ℕ, ◌+◌, ◌≤◌, List, length, take, drop, true}
use Rattle.news_journal.specs.declared.window.Window.{Window}

-- its bytes are those of this file
pub record Shows (w : Window) (file : List ℕ) : Type 0 where
  pub few : w.count ≤ length (drop w.from file)
  pub end : w.ended ≡ true → length file ≤ w.from + w.count
  pub same : take w.count w.bytes.items ≡ take w.count (drop w.from file)

-- it has so many bytes of the file from this place on, or all up to the file's end
pub record Covers (w : Window) (file : List ℕ) (at count : ℕ) : Type 0 where
  pub behind : w.from ≤ at
  pub far : (at + count ≤ w.from + w.count) ⊎ (length file ≤ w.from + w.count)
