-- The types of the code in the words of a tray, and one step over its entries.
use Rattle.std.specs.Prelude.{◌≡◌, ℕ, ◌+◌, List, ◌++◌, Option}
use Rattle.tray.specs.declared.entry.Entry.{Entry}
use Rattle.tray.specs.declared.tray.Tray.{Tray}
use Rattle.tray.specs.declared.tray.Entries.{Entries}
use Rattle.tray.specs.Reading.{Item}
use Rattle.tray.specs.Steps.{First, messages_ahead, faults_ahead}

-- the bytes of an accepted tray
abbrev pub bytes_said : Tray → List ℕ
bytes_said w = w.bytes.now

-- the entries that are still to be given
abbrev pub ahead : Entries → List Item
ahead w = messages_ahead w.messages w.bytes.now ++ faults_ahead w.faults w.bytes.now

-- how many entries are left
abbrev pub entries_left : Entries → ℕ
entries_left w = w.messages.left + w.faults.left

-- one step over the entries: it gives the first entry ahead, and keeps the bytes
pub record Steps (w : Entries) (r : Option Entry) (after : Entries) : Type 0 where
  pub same : after.bytes ≡ w.bytes
  pub entry : First (ahead w) r (ahead after)
