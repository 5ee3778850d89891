use Rattle.std.proofs.Common.{get_or, sym, ap, ◌∙◌, arith}
use Rattle.std.proofs.lemmas.List.{get_or_past}
use Rattle.walk.specs.declared.entry.Entry.TheVariants.{Block, Fault}
use Rattle.walk.specs.Entries.{read, fault}
use Rattle.walk.proofs.Scans.{fits, scan_end, found_entry, item_block, past_block, item_fault}
use Rattle.walk.proofs.steps.entry_at.Goals as goal

pub returns-in_default : goal.returns-in_default
returns-in_default c = scan_end c.args.place c.args.rest.now (get_or_past c.args.rest.now 0 0 (omega arith))

pub returns-then-number-eq0 : goal.returns-then-number-eq0
returns-then-number-eq0 c = scan_end c.args.place c.args.rest.now c.if-number-eq0.true

pub size_by_count-requires : goal.size_by_count-requires
size_by_count-requires c = omega (arith, fits c.args.rest.now (λ i. omega (arith, c.in-Ok.ensures)))

pub returns-in-Ok : goal.returns-in-Ok
returns-in-Ok c =
    let bs = c.args.rest.now in
    let e = c.in-Ok.ensures in
    found_entry c.args.place bs (Block c.args.place c.in-Ok.block) _ c.if-number-eq0.false (ap (read c.args.place) e.1 ∙ sym (item_block c.args.place bs e.0)) (c.size_by_count.ensures ∙ sym (past_block bs e.0))

pub returns-in-Err : goal.returns-in-Err
returns-in-Err c =
    let bs = c.args.rest.now in
    let e = c.in-Err.ensures in
    found_entry c.args.place bs (Fault c.args.place c.in-Err.cause (get_or bs 0 0)) _ c.if-number-eq0.false (ap (λ n. fault c.args.place n (get_or bs 0 0)) e ∙ sym (item_fault c.args.place bs c.in-Err.cause e)) c.past_fault.ensures
