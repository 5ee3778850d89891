use Rattle.std.proofs.Common.{◌≡◌, length, ◌∙◌, rules, tests, arith}
use Rattle.std.specs.Option.{option_map}
use Rattle.body.proofs.Parts.{mapped}
use Rattle.body.specs.declared.message.Channel.{Channel}
use Rattle.body.specs.Format.{ones, channel_bytes}
use Rattle.body.specs.Messages.{identified}
use Rattle.body_writing.proofs.Writes.{message_length}
use Rattle.body_writing.proofs.Options.{channel_size}
use Rattle.body_writing.proofs.values.message_size.Goals as goal

pub returns : goal.returns
returns c =
    let m = c.args.message.now in
    let size : c.map_or.result ≡ length (channel_bytes ones.channel m.channel) = mapped (λ (x : Channel). 5) m.channel 0 c.map_or.result _ c.map_or.ensures (λ x k. search (rules, tests)) ∙ channel_size m.channel in
    omega (arith, message_length (option_map identified m.content) m.channel, size, c.channel_place.ensures.place)
