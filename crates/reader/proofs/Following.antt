-- What following the entries of a line comes to, by what the blocks among them are answered.
use Rattle.std.proofs.Common.{◌≡◌, ℕ, suc, ◌+◌, Bool, true, false, cond, eqb, List, [], ◌∷◌, ◌++◌, sym, refl, ap, ◌∙◌, append_assoc, append-nil, arith}
use Rattle.std.proofs.lemmas.List.Sums.{sum_by-append}
use Rattle.walk.specs.Entries.{Item, read, fault, blocks_read}
use Rattle.gather.specs.Gathering.{Answer, silent, handed, faulty}
use Rattle.gather.specs.Arriving.{watched, arrive, answer_to, after_line, line_answers, messages_of, faults_of, skipped_of}
use Rattle.tray.specs.Trays.{Fault}
use Rattle.reader.specs.Settings.{in_layer}
use Rattle.reader.specs.Following.{Progress, message_in, block_fault, fault_in, follow, follow_all, spoilt_of}

module _ (watch : List ℕ) (t : ℕ) where
  -- the table is that after the line's blocks
  pub table_is : (is : List Item) (p : Progress) → (follow_all watch t is p).table ≡ after_line watch t (blocks_read is) p.table
  table_is [] p = refl
  table_is (read place b ∷ is) p = table_is is (follow watch t (read place b) p)
  table_is (fault place cause number ∷ is) p = table_is is (follow watch t (fault place cause number) p)

  -- the messages are those handed over to the line's blocks
  messages_cons : (a : Answer) (rest : List Answer) → message_in a ++ messages_of rest ≡ messages_of (a ∷ rest)
  messages_cons silent rest = refl
  messages_cons (handed m) rest = refl
  messages_cons faulty rest = refl

  pub messages_are : (is : List Item) (p : Progress) → (follow_all watch t is p).messages ≡ p.messages ++ messages_of (line_answers watch t (blocks_read is) p.table)
  messages_are [] p = sym (append-nil p.messages)
  messages_are (fault place cause number ∷ is) p = messages_are is (follow watch t (fault place cause number) p)
  messages_are (read place b ∷ is) p =
      let a = answer_to watch t b p.table in
      let rest = line_answers watch t (blocks_read is) (arrive watch t b p.table) in
      messages_are is (follow watch t (read place b) p) ∙ append_assoc p.messages (message_in a) (messages_of rest) ∙ ap (λ l. p.messages ++ l) (messages_cons a rest)

  -- the blocks skipped are those whose number isn't watched
  skip_one : (b : Bool) (n m : ℕ) → n + cond b 0 1 + m ≡ n + cond b m (suc m)
  skip_one true n m = omega arith
  skip_one false n m = omega arith

  pub skipped_are : (is : List Item) (p : Progress) → (follow_all watch t is p).skipped ≡ p.skipped + skipped_of watch (blocks_read is)
  skipped_are [] p = omega arith
  skipped_are (fault place cause number ∷ is) p = skipped_are is (follow watch t (fault place cause number) p)
  skipped_are (read place b ∷ is) p = skipped_are is (follow watch t (read place b) p) ∙ skip_one (watched watch b.number) p.skipped (skipped_of watch (blocks_read is))

layer_more : (layer : ℕ) (fs gs : List Fault) → in_layer layer (fs ++ gs) ≡ in_layer layer fs + in_layer layer gs
layer_more layer fs gs = sum_by-append (λ (f : Fault). cond (eqb f.layer layer) 1 0) fs gs

-- block faults are the entries that aren't read
no_block_fault : (place number : ℕ) (a : Answer) → in_layer 1 (fault_in place number a) ≡ 0
no_block_fault place number silent = refl
no_block_fault place number (handed m) = refl
no_block_fault place number faulty = refl

pub block_faults_are : (watch : List ℕ) (t : ℕ) (is : List Item) (p : Progress) → in_layer 1 (follow_all watch t is p).faults ≡ in_layer 1 p.faults + spoilt_of is
block_faults_are watch t [] p = omega arith
block_faults_are watch t (fault place cause number ∷ is) p =
    block_faults_are watch t is (follow watch t (fault place cause number) p) ∙ omega (arith, layer_more 1 p.faults (block_fault place cause number ∷ []))
block_faults_are watch t (read place b ∷ is) p =
    let a = answer_to watch t b p.table in
    block_faults_are watch t is (follow watch t (read place b) p) ∙ omega (arith, layer_more 1 p.faults (fault_in place b.number a), no_block_fault place b.number a)

-- message faults are the answers that are faulty
fault_counts : (place number : ℕ) (a : Answer) (rest : List Answer) → in_layer 2 (fault_in place number a) + faults_of rest ≡ faults_of (a ∷ rest)
fault_counts place number silent rest = omega arith
fault_counts place number (handed m) rest = omega arith
fault_counts place number faulty rest = omega arith

pub message_faults_are : (watch : List ℕ) (t : ℕ) (is : List Item) (p : Progress) → in_layer 2 (follow_all watch t is p).faults ≡ in_layer 2 p.faults + faults_of (line_answers watch t (blocks_read is) p.table)
message_faults_are watch t [] p = omega arith
message_faults_are watch t (fault place cause number ∷ is) p =
    message_faults_are watch t is (follow watch t (fault place cause number) p) ∙ omega (arith, layer_more 2 p.faults (block_fault place cause number ∷ []))
message_faults_are watch t (read place b ∷ is) p =
    let a = answer_to watch t b p.table in
    let rest = line_answers watch t (blocks_read is) (arrive watch t b p.table) in
    message_faults_are watch t is (follow watch t (read place b) p) ∙ omega (arith, layer_more 2 p.faults (fault_in place b.number a), fault_counts place b.number a rest)
