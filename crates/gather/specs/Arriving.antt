-- The table of a reader: a slot for each watched number, and how the blocks of a line reach them.
use Rattle.std.specs.Prelude.{ℕ, zero, suc, Bool, false, cond, ◌&&◌, ◌||◌, List, [], ◌∷◌, ◌==◌}
use Rattle.sending.specs.Sendings.{Block, Message}
use Rattle.gather.specs.Gathering.{Slot, settled, Answer, silent, handed, faulty, answer}

-- a number is one of those watched
abbrev pub watched : List ℕ → ℕ → Bool
watched [] n = false
watched (w ∷ ws) n = w == n || watched ws n

-- a slot for each number
abbrev pub Table : Type 0
Table = ℕ → Slot

module _ (watch : List ℕ) where
  -- a block changes the slot of its number, if that is watched
  abbrev pub arrive : ℕ → Block → Table → Table
  arrive t b table n = cond (watched watch b.number && n == b.number) (settled t b (table n)) (table n)

  -- what is answered to a block: by the slot of its number, or nothing where that isn't watched
  abbrev pub answer_to : ℕ → Block → Table → Answer
  answer_to t b table = cond (watched watch b.number) (answer t b (table b.number)) silent

  -- the table after the blocks of a line, read at frame t
  abbrev pub after_line : ℕ → List Block → Table → Table
  after_line t [] table = table
  after_line t (b ∷ bs) table = after_line t bs (arrive t b table)

  -- what is answered to each of them
  abbrev pub line_answers : ℕ → List Block → Table → List Answer
  line_answers t [] table = []
  line_answers t (b ∷ bs) table = answer_to t b table ∷ line_answers t bs (arrive t b table)

-- the messages among some answers
abbrev pub messages_of : List Answer → List Message
messages_of [] = []
messages_of (silent ∷ rest) = messages_of rest
messages_of (handed m ∷ rest) = m ∷ messages_of rest
messages_of (faulty ∷ rest) = messages_of rest

-- how many of them are faults
abbrev pub faults_of : List Answer → ℕ
faults_of [] = zero
faults_of (silent ∷ rest) = faults_of rest
faults_of (handed m ∷ rest) = faults_of rest
faults_of (faulty ∷ rest) = suc (faults_of rest)

-- how many blocks have a number that is not watched
abbrev pub skipped_of : List ℕ → List Block → ℕ
skipped_of watch [] = zero
skipped_of watch (b ∷ bs) = cond (watched watch b.number) (skipped_of watch bs) (suc (skipped_of watch bs))
