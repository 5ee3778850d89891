use Rattle.std.proofs.Common.{◌≡◌, refl, ℕ, ◌<◌, List, length, ◌-◌, ◌^◌, ◌+◌, ◌++◌, true, false, [], Some, take, get_or, ◌∙◌, ap, sym, arith}
use Rattle.std.proofs.lemmas.List.{take_more, flat_map_more}
use Rattle.std.proofs.Output.{has_written_append, has_written_of_eq}
use Rattle.std.specs.Fmt.{styled_digits_output, padded_integral, format_spec, digits}
use Rattle.std.specs.Option.{option_map}
use Rattle.body.specs.Texts.{zeros_before}
use Rattle.showing.specs.Texts.{hex_text, byte_text}
use Rattle.showing.proofs.Padding.{padded_zeros}
use Rattle.showing.proofs.printed.HexDisplay.fmt.Goals as goal

-- the text of one byte more
more : (bytes : List ℕ) (i : ℕ) → i < length bytes → hex_text (take i bytes) ++ byte_text (get_or bytes i 0) ≡ hex_text (take (i + 1) bytes)
more bytes i h = flat_map_more byte_text [] (take i bytes) (get_or bytes i 0) ∙ ap hex_text (sym (take_more bytes i 0 h))

pub loop-byte-preserved : goal.loop-byte-preserved
loop-byte-preserved g c plain =
    let items = c.args.self.now.0.now in
    let i = c.loop-byte.byte-index in
    let byte = get_or items i 0 in
    let e : styled_digits_output c.in_radix.result c.laid_out.result ≡ Some (zeros_before 2 (digits 16 true byte)) = ap (styled_digits_output c.in_radix.result) c.laid_out.ensures ∙ (ap (option_map (padded_integral (format_spec 32 0 4 2 (2 ^ 64 - 1)) false [])) c.in_radix.ensures ∙ ap Some (padded_zeros 2 (digits 16 true byte))) in
    let writes = rw e at c.in_ok-write.ensures.writes in
    has_written_of_eq _ _ _ _ _ (more items i (omega arith)) (has_written_append _ _ _ _ _ _ (c.loop-byte.invariant plain) (writes (c.loop-byte.invariant plain).plain refl))
