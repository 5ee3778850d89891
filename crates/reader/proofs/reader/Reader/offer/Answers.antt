use Rattle.std.proofs.Common.{◌≡◌, ℕ, ◌≤◌, List, length, IfSome, Some, None, Err, Option, sym, refl, ap, ◌∙◌, subst, arith}
use Rattle.std.proofs.lemmas.Result.{err_from_is_err_and}
use Rattle.refusal.specs.declared.Refusal.{Refusal}
use Rattle.line.specs.Lines.{line_fault, size_of}
use Rattle.gather.specs.Model.{watching, gathered}
use Rattle.reader.specs.Settings.{or_due, offer_due}
use Rattle.reader.specs.Answers.{call_due}
use Rattle.reader.specs.Calls.{state}
use Rattle.reader.specs.Answers.{seen, Taken}
use Rattle.reader.specs.Following.{followed}
use Rattle.reader.proofs.Coming.{free}
use Rattle.reader.proofs.Offering.{read_refused, read_passed, call_refused, call_passed, seen_found, size_within, refuses_it, takes_it}
use Rattle.reader.proofs.Wired.{lines_carry}
use Rattle.reader.proofs.reader.Reader.offer.Goals as goal

pub returns-in_err-found : goal.returns-in_err-found
returns-in_err-found g c =
    let r = c.args.self.now in
    let s = r.system in
    let L = g.L.LineSystem in
    let law = g.met.L.LineSystem in
    let line = c.args.line.now in
    let old = c.args.tray.now in
    let e = c.in_err-found.field-0.0 in
    let b = err_from_is_err_and c.from_residual.result c.from_residual.ensures.1 in
    let is : c.from_residual.result ≡ Err e = b.1 ∙ ap Err b.2 in
    let wrong = read_refused (line_fault (L.depth s) line) (L.found s line) e c.in_err-found.ensures.answer in
    let due : offer_due (L.depth s) r.memory.floor c.args.frame line old ≡ Some e = ap (λ (o : Option Refusal). or_due o (call_due r.memory.floor c.args.frame (length old))) wrong in
    let came = refuses_it (L.depth s) (L.found s) (watching r.memory.table) (L.draws s) (L.drawn s) (L.tolerates s) (L.carries s) (law.reading s) (lines_carry (L.draws s) (L.drawn s) (L.tolerates s) (L.carries s) (law.drawing s) (law.tolerance s)) (state r) c.args.frame line old c.from_residual.result e is due in
    record { answer = came.answer; tray = came.tray_is; writes_a_tray = came.writes; next = came.next; same = (refl {a = s}, refl {a = watching r.memory.table}); unchanged = λ e is. refl {a = r}; keeps_the_promise = came.keeps_it }

pub returns-in_err-call_test : goal.returns-in_err-call_test
returns-in_err-call_test g c =
    let r = c.args.self.now in
    let s = r.system in
    let L = g.L.LineSystem in
    let law = g.met.L.LineSystem in
    let line = c.args.line.now in
    let old = c.args.tray.now in
    let e = c.in_err-call_test.field-0.0 in
    let b = err_from_is_err_and c.from_residual-in_err-call_test.result c.from_residual-in_err-call_test.ensures.1 in
    let is : c.from_residual-in_err-call_test.result ≡ Err e = b.1 ∙ ap Err b.2 in
    let right = read_passed (line_fault (L.depth s) line) (L.found s line) c.in_ok-found.found c.in_ok-found.ensures.answer in
    let called = call_refused (call_due r.memory.floor c.args.frame (length old)) e c.in_err-call_test.ensures.answer in
    let due : offer_due (L.depth s) r.memory.floor c.args.frame line old ≡ Some e = ap (λ (o : Option Refusal). or_due o (call_due r.memory.floor c.args.frame (length old))) right.0 ∙ called in
    let came = refuses_it (L.depth s) (L.found s) (watching r.memory.table) (L.draws s) (L.drawn s) (L.tolerates s) (L.carries s) (law.reading s) (lines_carry (L.draws s) (L.drawn s) (L.tolerates s) (L.carries s) (law.drawing s) (law.tolerance s)) (state r) c.args.frame line old c.from_residual-in_err-call_test.result e is due in
    record { answer = came.answer; tray = came.tray_is; writes_a_tray = came.writes; next = came.next; same = (refl {a = s}, refl {a = watching r.memory.table}); unchanged = λ e is. refl {a = r}; keeps_the_promise = came.keeps_it }

pub take_line-requires : goal.take_line-requires
take_line-requires g c =
    let r = c.args.self.now in
    let s = r.system in
    let L = g.L.LineSystem in
    let law = g.met.L.LineSystem in
    let line = c.args.line.now in
    let old = c.args.tray.now in
    let right = read_passed (line_fault (L.depth s) line) (L.found s line) c.in_ok-found.found c.in_ok-found.ensures.answer in
    let called = call_passed (call_due r.memory.floor c.args.frame (length old)) c.in_ok-call_test.field-0 c.in_ok-call_test.ensures.answer in
    let due : offer_due (L.depth s) r.memory.floor c.args.frame line old ≡ None = ap (λ (o : Option Refusal). or_due o (call_due r.memory.floor c.args.frame (length old))) right.0 ∙ called in
    record {
      within = subst (λ (o : Option ℕ). IfSome o (λ n. n ≤ 60)) (sym right.1) (size_within (L.found s line) (λ p f. (law.lengths s (length p) (law.answers s line p f).size).1));
      room = (free (L.depth s) r.memory.floor c.args.frame line old due).room;
    }

pub returns : goal.returns
returns g c =
    let r = c.args.self.now in
    let s = r.system in
    let L = g.L.LineSystem in
    let law = g.met.L.LineSystem in
    let line = c.args.line.now in
    let old = c.args.tray.now in
    let t = c.args.frame in
    let w = watching r.memory.table in
    let T = gathered r.memory.table in
    let right = read_passed (line_fault (L.depth s) line) (L.found s line) c.in_ok-found.found c.in_ok-found.ensures.answer in
    let called = call_passed (call_due r.memory.floor t (length old)) c.in_ok-call_test.field-0 c.in_ok-call_test.ensures.answer in
    let due : offer_due (L.depth s) r.memory.floor t line old ≡ None = ap (λ (o : Option Refusal). or_due o (call_due r.memory.floor t (length old))) right.0 ∙ called in
    let found_is : seen c.in_ok-found.found c.read.new.payload ≡ L.found s line =
    ap (λ (o : Option ℕ). seen o c.read.new.payload) right.1 ∙ ap (seen (size_of (L.found s line))) c.in_ok-found.ensures.payload ∙ seen_found (L.found s line) _ in
    let taken = subst (λ (o : Option (List ℕ)). Taken o old c.take_line.new.tray c.take_line.result (gathered c.take_line.new.self.table) (followed w t o T)) found_is c.take_line.ensures.taken in
    let came = takes_it (L.depth s) (L.found s) w (L.draws s) (L.drawn s) (L.tolerates s) (L.carries s) (law.reading s) (lines_carry (L.draws s) (L.drawn s) (L.tolerates s) (L.carries s) (law.drawing s) (law.tolerance s)) (state r) t line old c.take_line.result c.take_line.new.tray (record { gathered = gathered c.take_line.new.self.table; floor = c.take_line.new.self.floor }) due taken c.take_line.ensures.same.1 in
    record { answer = came.answer; tray = came.tray_is; writes_a_tray = came.writes; next = came.next; same = (refl {a = s}, c.take_line.ensures.same.0); unchanged = λ e is. let z : ◌≡◌ {A = ℕ} 0 1 = cc in absurd (omega arith); keeps_the_promise = came.keeps_it }
