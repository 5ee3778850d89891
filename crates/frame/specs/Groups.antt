-- Groups of blocks, and what putting one into an open frame answers and leaves.
use Rattle.std.specs.Prelude.{◌≡◌, ℕ, ◌+◌, ◌-◌, ◌<◌, ◌≤◌, cond, ◌⊎◌, List, [], ◌∷◌, ◌++◌, map, length, take, Ok, Err, Result, nat_lt, slice_index}
use Rattle.std.specs.List.{AllByRecursion}
use Rattle.refusal.specs.declared.Refusal.{Refusal}
use Rattle.refusal.specs.declared.Refusal.TheVariants.{FrameEnd, NotOfASending}
use Rattle.buffers.specs.Laid.{laid}
use Rattle.sending.specs.Sendings.{Sending, Block, block}
use Rattle.wire.specs.Wire.{block_bytes}
use Rattle.wire.specs.Writing.{size}
use Rattle.frame.specs.Frames.{wires, Filled}

-- a block that is wanted in a frame: which sending, and which block of it
pub record Want : Type 0 where
  pub sending : Sending
  pub index : ℕ

-- the block that is meant
abbrev pub block_of : Want → Block
block_of w = block w.sending w.index

-- how many bytes it takes
abbrev pub size_of : Want → ℕ
size_of w = size w.sending w.index

-- the blocks of a group, in order
abbrev pub blocks : List Want → List Block
blocks ws = map block_of ws

-- a wanted block, the i-th of its group, tried at a mark of a frame of n bytes: refused above the sending's last, then past the frame's end
unfoldable pub block_answer : ℕ → ℕ → ℕ → Want → Result Unit Refusal
block_answer n mark i w =
    cond (nat_lt w.index (length w.sending.parts)) (cond (nat_lt n (mark + size_of w)) (Err (FrameEnd i)) (Ok tt)) (Err NotOfASending)

-- what is answered where a refusal counts before all that follows
abbrev pub then_answer : Result Unit Refusal → Result Unit Refusal → Result Unit Refusal
then_answer (Ok x) next = next
then_answer (Err e) next = Err e

-- what putting a group answers, its blocks tried in order from the i-th on: the first refusal counts
abbrev pub put_answer : ℕ → ℕ → ℕ → List Want → Result Unit Refusal
put_answer n mark i [] = Ok tt
put_answer n mark i (w ∷ ws) = then_answer (block_answer n mark i w) (put_answer n (mark + size_of w) (i + 1) ws)

-- a group fits: each block is one of its sending, and together they end within the frame
pub record Fits (n mark : ℕ) (ws : List Want) : Type 0 where
  pub each : AllByRecursion (λ w. w.index < length w.sending.parts) ws
  pub ends : mark + length (wires (blocks ws)) ≤ n

-- why the i-th block of a group is refused at a mark: it is above its sending's last, or else it goes past the frame's end
abbrev pub Reason : ℕ → ℕ → ℕ → Want → Refusal → Type 0
Reason n mark i w e =
    ((e ≡ NotOfASending) × (length w.sending.parts ≤ w.index))
    ⊎ ((e ≡ FrameEnd i) × (w.index < length w.sending.parts) × (n < mark + length (block_bytes (block_of w))))

-- the first block that is refused: those in front of it fit
pub record FirstRefused (n mark : ℕ) (ws : List Want) (e : Refusal) : Type 0 where
  pub front : List Want
  pub wanted : Want
  pub others : List Want
  pub order : ws ≡ front ++ wanted ∷ others
  pub fits : Fits n mark front
  pub reason : Reason n (mark + length (wires (blocks front))) (length front) wanted e

-- what goes on unless it was refused
abbrev pub unless_refused : Result Unit Refusal → List Block → List Block
unless_refused (Ok x) bs = bs
unless_refused (Err e) bs = []

-- the blocks of a group before the first that is refused
abbrev pub before_refusal : ℕ → ℕ → ℕ → List Want → List Block
before_refusal n mark i [] = []
before_refusal n mark i (w ∷ ws) = unless_refused (block_answer n mark i w) (block_of w ∷ before_refusal n (mark + size_of w) (i + 1) ws)

-- an open frame: its 60 bytes of memory, the length of its payload, and the mark up to which it is filled
pub record Open : Type 0 where
  pub bytes : List ℕ
  pub size : ℕ
  pub mark : ℕ

-- the bytes up to its mark
abbrev pub filled : Open → List ℕ
filled f = take f.mark f.bytes

-- what is true of every open frame: in its 60 bytes it holds EB 52 and blocks of sendings up to its mark, which lies within its payload
pub record IsOpen (f : Open) : Type 0 where
  pub memory : length f.bytes ≡ 60
  pub begun : 2 ≤ f.mark
  pub within : f.mark ≤ f.size
  pub room : f.size ≤ 60
  pub holds : Filled (filled f)

-- the blocks that a group puts into a frame of n bytes with this mark: all of them or none
abbrev pub put_blocks : ℕ → ℕ → List Want → List Block
put_blocks n mark ws = unless_refused (put_answer n mark 0 ws) (blocks ws)

-- what putting a group into a frame answers
abbrev pub putting : Open → List Want → Result Unit Refusal
putting f ws = put_answer f.size f.mark 0 ws

-- the blocks that it adds
abbrev pub added : Open → List Want → List Block
added f ws = put_blocks f.size f.mark ws

-- a group is put where it fits, and else refused by its first block that doesn't
abbrev pub WholeOrNot : Open → List Want → Result Unit Refusal → Type 0
WholeOrNot f ws (Ok x) = Fits f.size f.mark ws
WholeOrNot f ws (Err e) = FirstRefused f.size f.mark ws e

-- a group went in whole: its wire forms follow at the mark, and every other byte stays
pub record Taken (f : Open) (bs : List Block) (g : Open) : Type 0 where
  pub bytes : g.bytes ≡ laid f.bytes f.mark (wires bs)
  pub size : g.size ≡ f.size
  pub mark : g.mark ≡ f.mark + length (wires bs)

-- a group was refused after these blocks of it: the mark stays and every byte below it; each byte from there to their end is old
-- or theirs; every byte behind that is old
pub record SentBack (f : Open) (bs : List Block) (g : Open) : Type 0 where
  pub size : g.size ≡ f.size
  pub mark : g.mark ≡ f.mark
  pub length_same : length g.bytes ≡ length f.bytes
  pub below : take f.mark g.bytes ≡ take f.mark f.bytes
  pub between : (k : ℕ) → f.mark ≤ k → k < f.mark + length (wires bs) → (slice_index g.bytes k ≡ slice_index f.bytes k) ⊎ (slice_index g.bytes k ≡ slice_index (wires bs) (k - f.mark))
  pub behind : (k : ℕ) → f.mark + length (wires bs) ≤ k → slice_index g.bytes k ≡ slice_index f.bytes k

-- the frame after a group was put, by the answer: whole or not at all
abbrev pub After : Open → List Want → Result Unit Refusal → Open → Type 0
After f ws (Ok x) g = Taken f (blocks ws) g
After f ws (Err e) g = SentBack f (before_refusal f.size f.mark 0 ws) g
