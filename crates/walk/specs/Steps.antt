-- A walk on its way, and one step of it.
use Rattle.std.specs.Prelude.{◌≡◌, ℕ, ◌+◌, ◌-◌, ◌<◌, ◌≤◌, List, [], ◌∷◌, length, drop, Some, None, Option}
use Rattle.walk.specs.declared.entry.Entry.{Entry}
use Rattle.walk.specs.declared.walk.Walk.{Walk}
use Rattle.walk.specs.Entries.{Item, taken, scan, item}

-- the entries that a walk has still to give
abbrev pub ahead : Walk → List Item
ahead w = scan 0 w.place (drop w.place w.payload.now)

-- r is the first of the entries, and others are those behind it
abbrev pub First : List Item → Option Entry → List Item → Type 0
First all None others = (all ≡ []) × (others ≡ [])
First all (Some e) others = all ≡ item e ∷ others

-- the bytes that are left to walk over
abbrev pub bytes_left : Walk → ℕ
bytes_left w = length w.payload.now - w.place

-- the place after a step: behind the entry that is given; without one it stays
abbrev pub place_after : Walk → Option Entry → ℕ
place_after w None = w.place
place_after w (Some e) = w.place + taken (drop w.place w.payload.now)

-- one step of a walk: it gives the first entry ahead, and keeps its payload
pub record Steps (w : Walk) (r : Option Entry) (after : Walk) : Type 0 where
  pub same : after.payload ≡ w.payload
  pub entry : First (ahead w) r (ahead after)
  pub next : after.place ≡ place_after w r

-- r is the entry with which bytes at place p begin, with the bytes that it takes
abbrev pub Found : ℕ → List ℕ → Option (Entry × ℕ) → Type 0
Found p bs None = scan 0 p bs ≡ []
Found p bs (Some r) = (0 < r.1) × (r.1 ≤ length bs) × (r.1 ≡ taken bs) × (scan 0 p bs ≡ item r.0 ∷ scan 0 (p + r.1) (drop r.1 bs))
