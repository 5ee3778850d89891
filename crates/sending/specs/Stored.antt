-- Parts as they lie in memory.
use Rattle.std.specs.Prelude.{◌≡◌, ℕ, ◌≤◌, List, length, take}
use Rattle.sending.specs.Storage.{joint, cuts, ends}
use Rattle.sending.specs.declared.parts.Parts.TheInside.{Inside}

-- the parts that lie in such memory
abbrev pub stored : Inside → List (List ℕ)
stored m = cuts 0 (take m.count m.places) m.bytes

-- there are at most four, they end where the memory says, and they lie in it in one piece from its beginning
pub record IsStored (m : Inside) : Type 0 where
  pub few : m.count ≤ 4
  pub four : length m.places ≡ 4
  pub places : take m.count m.places ≡ ends 0 (stored m)
  pub room : length (joint (stored m)) ≤ 200
  pub bytes : take (length (joint (stored m))) m.bytes ≡ joint (stored m)
