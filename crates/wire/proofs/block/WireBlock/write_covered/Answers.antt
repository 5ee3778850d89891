use Rattle.std.proofs.Common.{◌≡◌, ◌++◌, length, sym, ap, ◌∙◌, append_assoc, arith}
use Rattle.std.proofs.lemmas.List.{nil_from_length}
use Rattle.wire.specs.Wire.{head, covered, check_bytes}
use Rattle.wire.proofs.Wires.{length_covered}
use Rattle.wire.proofs.block.WireBlock.write_covered.Goals as goal

pub split_at_mut-opening-requires : goal.split_at_mut-opening-requires
split_at_mut-opening-requires c = omega (arith, c.requires, length_covered c.args.self.now)

pub split_at_mut-body-requires : goal.split_at_mut-body-requires
split_at_mut-body-requires c =
    omega (arith, c.requires, length_covered c.args.self.now, c.split_at_mut-opening.ensures.back_len, ap (λ b. length b.body) c.self.view_is)

pub copy_from_slice-requires-in-Some : goal.copy_from_slice-requires-in-Some
copy_from_slice-requires-in-Some c =
    omega (
      arith,
      c.requires,
      length_covered c.args.self.now,
      c.split_at_mut-opening.ensures.back_len,
      c.split_at_mut-body.ensures.back_len,
      ap (λ b. length b.body) c.self.view_is,
      ap (λ k. length (check_bytes k)) (sym c.in-Some.is ∙ ap (λ b. b.check) c.self.view_is),
      ap length c.to_be_bytes.ensures,
    )

pub returns-in-Some : goal.returns-in-Some
unfolding covered
returns-in-Some c =
    let b = c.args.self.now in
    let opening = c.copy_from_slice.ensures.after ∙ c.opening.ensures in
    let body = c.copy_from_slice-2.ensures.after ∙ ap (λ b. b.body) c.self.view_is in
    let check = c.copy_from_slice-in-Some.ensures.after ∙ c.to_be_bytes.ensures ∙ ap check_bytes (sym c.in-Some.is ∙ ap (λ b. b.check) c.self.view_is) in
    (λ j. opening j ++ (body j ++ check j)) ∙ sym (append_assoc (head b) b.body (check_bytes b.check))

pub returns-in_default : goal.returns-in_default
unfolding covered
returns-in_default c =
    let b = c.args.self.now in
    let none = sym c.in_default.is ∙ ap (λ b. b.check) c.self.view_is in
    let opening = c.copy_from_slice.ensures.after ∙ c.opening.ensures in
    let body = c.copy_from_slice-2.ensures.after ∙ ap (λ b. b.body) c.self.view_is in
    let check : c.split_at_mut-body.result.1.now ≡ check_bytes b.check =
    nil_from_length c.split_at_mut-body.result.1.now (omega (
      arith,
      c.requires,
      length_covered b,
      c.split_at_mut-opening.ensures.back_len,
      c.split_at_mut-body.ensures.back_len,
      ap (λ b. length b.body) c.self.view_is,
      ap (λ k. length (check_bytes k)) none,
    )) ∙ ap check_bytes none in
    (λ j. opening j ++ (body j ++ check j)) ∙ sym (append_assoc (head b) b.body (check_bytes b.check))
