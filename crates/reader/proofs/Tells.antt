-- What stands in memory once a block has been followed, by what it was answered.
use Rattle.std.proofs.Common.{◌≡◌, ℕ, ◌+◌, ◌<◌, ◌≤◌, true, cond, ltb, List, [], ◌∷◌, ◌++◌, length, sym, refl, ap, ◌∙◌, subst, inl, inr, append-nil, arith}
use Rattle.std.specs.List.{AllByRecursion}
use Rattle.std.proofs.lemmas.Bool.{cond-true, lt-ltb}
use Rattle.sending.specs.Sendings.{Block, Message}
use Rattle.walk.specs.Entries.{read, fault}
use Rattle.gather.specs.Gathering.{Answer, silent, handed, faulty}
use Rattle.gather.specs.Arriving.{Table, watched, arrive, answer_to}
use Rattle.gather.specs.Watching.{fits_slot}
use Rattle.gather.specs.Serving.{next_table}
use Rattle.tray.specs.Trays.{Fault, IsMessage, IsFault}
use Rattle.tray.specs.Writing.{holding, behind, fault_more}
use Rattle.reader.specs.Following as value
use Rattle.reader.specs.Following.{message_in, block_fault, message_fault, fault_in, follow}
use Rattle.reader.specs.Entered.{Good}
use Rattle.reader.specs.Stands.{Stands, Room, HandsOver}
use Rattle.reader.specs.declared.progress.Progress.{Progress}
use Rattle.reader.proofs.Handing.{behind_more, behind_most, every_more}

-- the block was answered a
after_block : (w : List ℕ) (t place : ℕ) (b : Block) (old tray' : List ℕ) (g' : Progress) (T T' : Table) (p : value.Progress) (a : Answer) →
    T ≡ p.table → fits_slot b ≡ true → T' ≡ next_table w t b T → answer_to w t b p.table ≡ a →
    tray' ≡ holding old (p.messages ++ message_in a) → g'.at ≡ behind (p.messages ++ message_in a) → g'.messages ≡ length (p.messages ++ message_in a) →
    g'.faults ≡ p.faults ++ fault_in place b.number a → g'.skipped ≡ p.skipped + cond (watched w b.number) 0 1 →
    AllByRecursion IsMessage (p.messages ++ message_in a) → AllByRecursion IsFault (p.faults ++ fault_in place b.number a) →
    Stands old tray' g' T' (follow w t (read place b) p)
after_block w t place b old tray' g' T T' p a same fits next answered tray at count faults skipped messages_stand faults_stand =
    let is = sym answered in
    record {
      table_is = next ∙ ap (λ f. cond f (arrive w t b T) T) fits ∙ ap (arrive w t b) same;
      tray_is = tray ∙ ap (λ x. holding old (p.messages ++ message_in x)) is;
      at_is = at ∙ ap (λ x. behind (p.messages ++ message_in x)) is;
      count_is = count ∙ ap (λ x. length (p.messages ++ message_in x)) is;
      faults_are = faults ∙ ap (λ x. p.faults ++ fault_in place b.number x) is;
      skipped_is = skipped;
      messages_stand = subst (λ x. AllByRecursion IsMessage (p.messages ++ message_in x)) is messages_stand;
      faults_stand = subst (λ x. AllByRecursion IsFault (p.faults ++ fault_in place b.number x)) is faults_stand;
    }

-- nothing came of it, or its number isn't watched
pub told_nothing : (w : List ℕ) (t place : ℕ) (b : Block) (old tray : List ℕ) (g g' : Progress) (T T' : Table) (p : value.Progress) →
    Stands old tray g T p → fits_slot b ≡ true → T' ≡ next_table w t b T → answer_to w t b p.table ≡ silent →
    g'.at ≡ g.at → g'.messages ≡ g.messages → g'.faults ≡ g.faults → g'.skipped ≡ g.skipped + cond (watched w b.number) 0 1 →
    Stands old tray g' T' (follow w t (read place b) p)
told_nothing w t place b old tray g g' T T' p s fits next quiet at count faults skipped =
    let no_more = sym (append-nil p.messages) in
    let no_fault = sym (append-nil p.faults) in
    after_block w t place b old tray g' T T' p silent s.table_is fits next quiet
    (s.tray_is ∙ ap (holding old) no_more) (at ∙ s.at_is ∙ ap behind no_more) (count ∙ s.count_is ∙ ap length no_more)
    (faults ∙ s.faults_are ∙ no_fault) (skipped ∙ ap (λ n. n + cond (watched w b.number) 0 1) s.skipped_is)
    (subst (AllByRecursion IsMessage) no_more s.messages_stand) (subst (AllByRecursion IsFault) no_fault s.faults_stand)

-- one fault more
pub fault_added : (fs : List Fault) (f : Fault) → length fs < 9 → fault_more fs f ≡ fs ++ f ∷ []
fault_added fs f h = cond-true (ltb (length fs) 9) (fs ++ f ∷ []) fs (lt-ltb _ _ h)

-- the joined parts failed their check
pub told_fault : (w : List ℕ) (t place : ℕ) (b : Block) (old tray : List ℕ) (g g' : Progress) (T T' : Table) (p : value.Progress) →
    Good (read place b) → Room old (read place b) p → Stands old tray g T p → fits_slot b ≡ true → T' ≡ next_table w t b T → answer_to w t b p.table ≡ faulty → watched w b.number ≡ true →
    g'.at ≡ g.at → g'.messages ≡ g.messages → g'.faults ≡ fault_more g.faults (message_fault place b.number) → g'.skipped ≡ g.skipped →
    Stands old tray g' T' (follow w t (read place b) p)
told_fault w t place b old tray g g' T T' p good room s fits next failed heard at count faults skipped =
    let no_more = sym (append-nil p.messages) in
    let f = message_fault place b.number in
    let nine = room.nine in
    let is_fault : IsFault f = record { cause_stands = omega arith; layer_stands = inr (refl, omega arith); number_stands = good.2.number_stands.0; place_stands = (good.0, good.1) } in
    let added = fault_added p.faults f (omega arith) in
    after_block w t place b old tray g' T T' p faulty s.table_is fits next failed
    (s.tray_is ∙ ap (holding old) no_more) (at ∙ s.at_is ∙ ap behind no_more) (count ∙ s.count_is ∙ ap length no_more)
    (faults ∙ ap (λ l. fault_more l f) s.faults_are ∙ added) (skipped ∙ s.skipped_is ∙ (let e = ap (λ h. p.skipped + cond h 0 1) heard in omega arith))
    (subst (AllByRecursion IsMessage) no_more s.messages_stand) (every_more IsFault p.faults f s.faults_stand is_fault)

-- a message was handed over
pub told_message : (w : List ℕ) (t place : ℕ) (b : Block) (old tray tray' : List ℕ) (g g' : Progress) (T T' : Table) (p : value.Progress) (m : Message) →
    Good (read place b) → Room old (read place b) p → Stands old tray g T p → fits_slot b ≡ true → T' ≡ next_table w t b T → answer_to w t b p.table ≡ handed m → watched w b.number ≡ true →
    m.number ≡ b.number → m.version ≡ b.version → length m.bytes ≤ 200 → HandsOver tray g m tray' g' →
    Stands old tray' g' T' (follow w t (read place b) p)
told_message w t place b old tray tray' g g' T T' p m good room s fits next given heard number version short hands =
    let no_fault = sym (append-nil p.faults) in
    let eight = room.eight in
    let wide = room.tray_room in
    let most = behind_most p.messages s.messages_stand in
    let more = behind_more p.messages m in
    let is_message : IsMessage m = record { number_stands = (let n = good.2.number_stands.0 in omega arith); version_stands = (let v = good.2.version_stands in omega arith); length_stands = short } in
    let done = hands.stands old p.messages s.tray_is s.at_is s.count_is eight (omega arith) short in
    after_block w t place b old tray' g' T T' p (handed m) s.table_is fits next given
    done.0 done.1 done.2
    (hands.faults_stay ∙ s.faults_are ∙ no_fault) (hands.skipped_stays ∙ s.skipped_is ∙ (let e = ap (λ h. p.skipped + cond h 0 1) heard in omega arith))
    (every_more IsMessage p.messages m s.messages_stand is_message) (subst (AllByRecursion IsFault) no_fault s.faults_stand)

-- a fault of the walk
pub told_entry_fault : (w : List ℕ) (t place cause number : ℕ) (old tray : List ℕ) (g g' : Progress) (T : Table) (p : value.Progress) →
    Good (fault place cause number) → Room old (fault place cause number) p → Stands old tray g T p →
    g'.at ≡ g.at → g'.messages ≡ g.messages → g'.faults ≡ fault_more g.faults (block_fault place cause number) → g'.skipped ≡ g.skipped →
    Stands old tray g' T (follow w t (fault place cause number) p)
told_entry_fault w t place cause number old tray g g' T p good room s at count faults skipped =
    let f = block_fault place cause number in
    let nine = room.nine in
    let is_fault : IsFault f = record { cause_stands = good.2; layer_stands = inl (refl, good.3); number_stands = good.4; place_stands = (good.0, good.1) } in
    record {
      table_is = s.table_is;
      tray_is = s.tray_is;
      at_is = at ∙ s.at_is;
      count_is = count ∙ s.count_is;
      faults_are = faults ∙ ap (λ l. fault_more l f) s.faults_are ∙ fault_added p.faults f (omega arith);
      skipped_is = skipped ∙ s.skipped_is;
      messages_stand = s.messages_stand;
      faults_stand = every_more IsFault p.faults f s.faults_stand is_fault;
    }
