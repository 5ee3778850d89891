use Rattle.std.proofs.Common.{◌≡◌, ◌-◌, ◌^◌, true, false, [], Some, ◌∙◌, ap}
use Rattle.std.specs.Fmt.{styled_digits_output, padded_integral, format_spec, digits}
use Rattle.std.specs.Option.{option_map}
use Rattle.body.specs.Texts.{zeros_before}
use Rattle.body.proofs.Padding.{padded_zeros}
use Rattle.body.proofs.message.ChannelDisplay.fmt.Goals as goal

pub returns-clause-writes : goal.returns-clause-writes
returns-clause-writes g c =
    let bsid = digits 16 true c.args.self.now.bsid in
    let e : styled_digits_output c.in_radix.result c.laid_out.result ≡ Some (zeros_before 4 bsid) = ap (styled_digits_output c.in_radix.result) c.laid_out.ensures ∙ (ap (option_map (padded_integral (format_spec 32 0 4 4 (2 ^ 64 - 1)) false [])) c.in_radix.ensures ∙ ap Some (padded_zeros 4 bsid)) in
    rw e at c.write.ensures.writes
