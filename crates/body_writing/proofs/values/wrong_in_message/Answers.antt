use Rattle.std.proofs.Common.{rules, tests, ◌≡◌, ◌&&◌, Some, None, sym, ap, ◌∙◌}
use Rattle.std.specs.Option.{is_none, option_map}
use Rattle.buffers.specs.Places.{or_else}
use Rattle.buffers.proofs.Steps.{only}
use Rattle.body.specs.Format.{content_wrong, channel_wrong, neither, content_id_wrong}
use Rattle.body.specs.Identifiers.{is_alphanumeric}
use Rattle.body.specs.Messages.{identified}
use Rattle.body_writing.proofs.Options.{chained, first_of, three, content_place, nothing_place}
use Rattle.body_writing.proofs.values.wrong_in_message.Goals as goal
use Rattle.body_writing.proofs.values.wrong_in_message.Goals.{then-is_none, else-is_none}

pub returns : goal.returns
unfolding content_id_wrong
returns c =
    let m = c.args.message.now in
    let none : c.if-is_none.nothing ≡ is_none m.content && is_none m.channel = elim c.if-is_none.branch [ then-is_none w ↦ search rules | else-is_none w ↦ search rules ] in
    let nothing : c.then_some.result ≡ neither (option_map identified m.content) m.channel = c.then_some.ensures ∙ nothing_place m.content m.channel c.if-is_none.nothing none in
    let content : c.and_then-content.result ≡ content_wrong is_alphanumeric (option_map identified m.content) =
    chained (λ x. content_wrong is_alphanumeric (Some (identified x))) m.content c.and_then-content.result _ c.and_then-content.ensures (λ x k. search (rules, tests)) ∙ content_place is_alphanumeric m.content in
    let channel = c.wrong_in_channel-channel.ensures ∙ ap (λ p. channel_wrong p m.channel) c.channel_place.ensures.place in
    let first = c.or.ensures ∙ first_of c.then_some.result c.and_then-content.result in
    let h = c.wrong_in_channel-channel.result in
    c.or-2.ensures
    ∙ (first_of c.or.result h
    ∙ (ap (λ x. or_else x h) first
    ∙ (three c.then_some.result c.and_then-content.result h
    ∙ (λ i. or_else (nothing i) (or_else (content i) (sym (only h) i))))))
    ∙ ap (λ x. or_else (neither (option_map identified m.content) m.channel) (or_else (content_wrong is_alphanumeric (option_map identified m.content)) (or_else x None))) channel
