-- What memory holds while the entries of a line are followed.
use Rattle.std.specs.Prelude.{◌≡◌, ℕ, ◌+◌, ◌<◌, ◌≤◌, List, [], ◌∷◌, ◌++◌, length}
use Rattle.std.specs.List.{AllByRecursion}
use Rattle.sending.specs.Sendings.{Message}
use Rattle.walk.specs.Entries.{Item, read, fault}
use Rattle.gather.specs.Arriving.{Table}
use Rattle.tray.specs.Trays.{IsMessage, IsFault}
use Rattle.tray.specs.Writing.{holding, behind}
use Rattle.reader.specs.Following as value
use Rattle.reader.specs.declared.progress.Progress.{Progress}

-- tray, counts and table stand where following has come to p, over what the tray held before
pub record Stands (old tray : List ℕ) (g : Progress) (table : Table) (p : value.Progress) : Type 0 where
  pub table_is : table ≡ p.table
  pub tray_is : tray ≡ holding old p.messages
  pub at_is : g.at ≡ behind p.messages
  pub count_is : g.messages ≡ length p.messages
  pub faults_are : g.faults ≡ p.faults
  pub skipped_is : g.skipped ≡ p.skipped
  pub messages_stand : AllByRecursion IsMessage p.messages
  pub faults_stand : AllByRecursion IsFault p.faults

-- there is room for one entry more in the tray, and for one message more where the entry is a block
abbrev pub FewerMessages : Item → ℕ → Type 0
FewerMessages (read place b) n = n < 8
FewerMessages (fault place cause number) n = Unit {0}

pub record Room (old : List ℕ) (i : Item) (p : value.Progress) : Type 0 where
  pub tray_room : 1630 ≤ length old
  pub eight : FewerMessages i (length p.messages)
  pub nine : length p.messages + length p.faults < 9
  pub few_skips : p.skipped < 9

-- a message written behind those that stand in the tray stands behind them, and is counted; all else stays
pub record HandsOver (tray : List ℕ) (g : Progress) (m : Message) (tray' : List ℕ) (g' : Progress) : Type 0 where
  pub stands : (old : List ℕ) (ms : List Message) → tray ≡ holding old ms → g.at ≡ behind ms → g.messages ≡ length ms → length ms < 8 → behind (ms ++ m ∷ []) ≤ length old → length m.bytes ≤ 200
      → (tray' ≡ holding old (ms ++ m ∷ [])) × (g'.at ≡ behind (ms ++ m ∷ [])) × (g'.messages ≡ length (ms ++ m ∷ []))
  pub faults_stay : g'.faults ≡ g.faults
  pub skipped_stays : g'.skipped ≡ g.skipped

-- a line has been followed: what stands in memory, and the tray can be finished
pub record LineStands (old tray : List ℕ) (g : Progress) (table : Table) (p : value.Progress) : Type 0 where
  pub stands : Stands old tray g table p
  pub eight_messages : length p.messages ≤ 8
  pub nine_entries : length p.messages + length p.faults ≤ 9
