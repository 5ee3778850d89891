-- An entry of the code, in the words of a tray.
use Rattle.std.specs.Prelude.{ℕ, ◌+◌, length}
use Rattle.tray.specs.declared.entry.Entry.{Entry}
use Rattle.tray.specs.declared.entry.Entry.TheVariants.{Message, Fault}
use Rattle.tray.specs.Causes.{numbers}
use Rattle.tray.specs.Reading.{Item, message, fault}

abbrev pub item : Entry → Item
item (Message place number version bytes) = message place (record { number = number; version = version; bytes = bytes.now })
item (Fault place cause number at) = fault place (record { layer = (numbers cause).0; cause = (numbers cause).1; number = number; place = at })

-- the place behind it
abbrev pub entry_end : Entry → ℕ
entry_end (Message place number version bytes) = place + (3 + length bytes.now)
entry_end (Fault place cause number at) = place + 4
