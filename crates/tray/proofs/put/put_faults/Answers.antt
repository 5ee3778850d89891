use Rattle.std.proofs.Common.{◌≡◌, ◌+◌, ◌*◌, ◌≤◌, ◌∷◌, map, take, length, Some, sym, refl, ap, ◌∙◌, arith}
use Rattle.std.specs.List.{flat_map}
use Rattle.std.proofs.lemmas.List.{take_all, length-map}
use Rattle.std.proofs.lemmas.Bool.Decides.{nat_tests}
use Rattle.buffers.specs.Laid.{laid}
use Rattle.tray.specs.Trays.{fault_bytes, fault_section}
use Rattle.tray.specs.Said.{fault_said}
use Rattle.tray.proofs.Writings.{lays, faults_more, section_size}
use Rattle.tray.proofs.put.put_faults.Goals as goal

pub loop-fault-preserved : goal.loop-fault-preserved
loop-fault-preserved c =
    let xs = c.as_slice-faults.result.now in
    let t = c.args.tray.now in
    let i = c.loop-fault.fault-index in
    let end = c.loop-fault.invariant.end_is in
    let size = section_size c.args.faults.now xs c.as_slice-faults.ensures.faults in
    let room : c.args.at + (1 + 4 * length xs) ≤ length t = grind (arith, nat_tests) in
    let lay = lays c.loop-fault.tray c.bytes.result c.loop-fault.end (omega arith) in
    let is : Some c.in_ok-end-2.end ≡ Some (c.loop-fault.end + length c.bytes.result) = sym c.in_ok-end-2.was ∙ c.lay-in-loop-fault.ensures.end ∙ lay.0 in
    let next : c.in_ok-end-2.end ≡ c.loop-fault.end + 4 = cc in
    record {
      end_is = omega arith;
      tray_is = c.lay-in-loop-fault.ensures.out ∙ lay.1 ∙ ap (laid c.loop-fault.tray c.loop-fault.end) c.bytes.ensures ∙ faults_more t c.loop-fault.tray c.args.at c.loop-fault.end (length xs) i xs _ _ c.loop-fault-test.true end (omega arith) c.loop-fault.invariant.tray_is refl;
    }

-- there is room for each
pub returns-in_err-end-2 : goal.returns-in_err-end-2
returns-in_err-end-2 c =
    let end = c.loop-fault.invariant.end_is in
    let size = section_size c.args.faults.now c.as_slice-faults.result.now c.as_slice-faults.ensures.faults in
    let room : c.args.at + (1 + 4 * length c.as_slice-faults.result.now) ≤ length c.args.tray.now = grind (arith, nat_tests) in
    let lay = lays c.loop-fault.tray c.bytes.result c.loop-fault.end (omega arith) in
    let is = sym c.in_err-end-2.was ∙ c.lay-in-loop-fault.ensures.end ∙ lay.0 in
    absurd (cc)

pub returns : goal.returns
returns c =
    let xs = c.as_slice-faults.result.now in
    let fs = c.args.faults.now in
    let t = c.args.tray.now in
    let size = section_size fs xs c.as_slice-faults.ensures.faults in
    let count : length xs ≡ length fs = sym (length-map xs fault_said) ∙ ap length c.as_slice-faults.ensures.faults in
    let room : c.args.at + length (fault_section fs) ≤ length t = grind (arith, nat_tests) in
    let all : map fault_said (take c.loop-fault.fault-index xs) ≡ fs = ap (map fault_said) (take_all _ xs (omega arith)) ∙ c.as_slice-faults.ensures.faults in
    let section : length xs ∷ flat_map fault_bytes (map fault_said (take c.loop-fault.fault-index xs)) ≡ fault_section fs = λ i. count i ∷ flat_map fault_bytes (all i) in
    let lay = lays t (fault_section fs) c.args.at (omega arith) in
    let end : c.loop-fault.end ≡ c.args.at + length (fault_section fs) = omega (arith, c.loop-fault.invariant.end_is) in
    record { answer = ap Some end ∙ sym lay.0; tray = c.loop-fault.invariant.tray_is ∙ ap (laid t c.args.at) section ∙ sym lay.1; few = c.section_size.ensures.few }
