use Rattle.std.proofs.Common.{◌<◌, ◌≤◌, length, Some, sym, ap, ◌∙◌, subst, rules, tests}
use Rattle.std.proofs.lemmas.Result.{err_from_is_err_and}
use Rattle.std.proofs.lemmas.Bool.{lt-ltb, le-ltb}
use Rattle.refusal.specs.declared.Refusal.TheVariants.{Body}
use Rattle.std.specs.Option.{option_map}
use Rattle.body.specs.Identifiers.{is_alphanumeric}
use Rattle.body.specs.Messages.{content_id, identified, said_content_id}
use Rattle.body.specs.Reading.{content_part_fault, content_part_of, channel_at, channel_part_of, end_of, content_id_fault, content_id_of}
use Rattle.buffers.specs.Places.{told}
use Rattle.buffers.proofs.Steps.{refused, refuses, done, stop, fails, passes}
use Rattle.body.specs.Tests.{channel_part, flags_fault, fault_at_content, fault_at_channel, fault_at_end}
use Rattle.body.proofs.Parts.{first_read, content_read, channel_read, content_clear, channel_clear}
use Rattle.body.proofs.reading.read.Goals as goal

pub returns-in_err-flags : goal.returns-in_err-flags
unfolding content_id_fault
returns-in_err-flags c =
    let b = c.args.body.now in
    let r = err_from_is_err_and c.from_residual.result c.from_residual.ensures.1 in
    refused Body said_content_id c.from_residual.result r.0 c.in_err-flags.field-0.0 _ (content_id_fault is_alphanumeric b) _ (content_id_of b) r.1 r.2 c.in_err-flags.ensures (λ p e. stop _ _ p e)

pub returns-then-flags-lt-CHANNEL_FLAG : goal.returns-then-flags-lt-CHANNEL_FLAG
returns-then-flags-lt-CHANNEL_FLAG c =
    let flags = first_read c.args.body.now c.in_ok-flags.field-0 c.in_ok-flags.ensures in
    refuses Body _ _ _ (flags_fault is_alphanumeric _ flags.0 (subst (λ x. x < 64) flags.1 c.if-flags-lt-CHANNEL_FLAG.true))

pub returns-in_err-content : goal.returns-in_err-content
returns-in_err-content c =
    let b = c.args.body.now in
    let flags = first_read b c.in_ok-flags.field-0 c.in_ok-flags.ensures in
    let some = subst (λ x. 64 ≤ x) flags.1 c.if-flags-lt-CHANNEL_FLAG.false in
    let content = content_read is_alphanumeric b c.in_ok-flags.field-0 c.then.result _ flags.1 c.then.ensures.variant c.then.ensures.some (λ r k. search (rules, tests)) in
    let r = err_from_is_err_and c.from_residual-in_err-content.result c.from_residual-in_err-content.ensures.1 in
    refused Body said_content_id c.from_residual-in_err-content.result r.0 c.in_err-content.field-0.0 (content_part_fault is_alphanumeric b) (content_id_fault is_alphanumeric b) (content_part_of b) (content_id_of b) r.1 r.2 (ap (told (option_map identified)) c.in_err-content.ensures ∙ content)
    (λ p e. fault_at_content is_alphanumeric b flags.0 some ∙ stop (content_part_fault is_alphanumeric b) _ p e)

pub returns-in_err-channel : goal.returns-in_err-channel
returns-in_err-channel c =
    let b = c.args.body.now in
    let h = c.in_ok-flags.field-0 in
    let at = c.map_or-at.result in
    let flags = first_read b h c.in_ok-flags.ensures in
    let some = subst (λ x. 64 ≤ x) flags.1 c.if-flags-lt-CHANNEL_FLAG.false in
    let content = content_clear is_alphanumeric b h c.then.result _ c.in_ok-content.content at _ flags.1 c.then.ensures.variant c.then.ensures.some (λ r k. search (rules, tests)) c.in_ok-content.ensures c.map_or-at.ensures (λ x k. search (rules, tests)) in
    let channel = channel_read b h at c.then-2.result _ flags.1 c.then-2.ensures.variant c.then-2.ensures.some (λ r k. search (rules, tests)) content.1.1 in
    let r = err_from_is_err_and c.from_residual-in_err-channel.result c.from_residual-in_err-channel.ensures.1 in
    refused Body said_content_id c.from_residual-in_err-channel.result r.0 c.in_err-channel.field-0.0 (channel_part b) (content_id_fault is_alphanumeric b) (channel_part_of (channel_at b) b) (content_id_of b) r.1 r.2 (c.in_err-channel.ensures ∙ channel)
    (λ p e. fault_at_channel is_alphanumeric b flags.0 some content.0 ∙ stop (channel_part b) _ p e)

pub returns-then-end-body : goal.returns-then-end-body
returns-then-end-body c =
    let b = c.args.body.now in
    let h = c.in_ok-flags.field-0 in
    let at = c.map_or-at.result in
    let end = c.map_or-end.result in
    let flags = first_read b h c.in_ok-flags.ensures in
    let some = subst (λ x. 64 ≤ x) flags.1 c.if-flags-lt-CHANNEL_FLAG.false in
    let content = content_clear is_alphanumeric b h c.then.result _ c.in_ok-content.content at _ flags.1 c.then.ensures.variant c.then.ensures.some (λ r k. search (rules, tests)) c.in_ok-content.ensures c.map_or-at.ensures (λ x k. search (rules, tests)) in
    let channel = channel_clear b h at c.then-2.result _ c.in_ok-channel.channel end _ flags.1 c.then-2.ensures.variant c.then-2.ensures.some (λ r k. search (rules, tests)) content.1.1 c.in_ok-channel.ensures c.map_or-end.ensures (λ x k. search (rules, tests)) in
    let long : end_of b < length b = subst (λ n. n < length b) channel.1.1 c.if-end-body.true in
    refuses Body (content_id_fault is_alphanumeric b) end (content_id_of b) (fault_at_end is_alphanumeric b flags.0 some content.0 channel.0 ∙ (fails _ (end_of b) (lt-ltb _ _ long) ∙ ap Some (sym channel.1.1)))

pub returns : goal.returns
unfolding content_id_of
returns c =
    let b = c.args.body.now in
    let h = c.in_ok-flags.field-0 in
    let at = c.map_or-at.result in
    let end = c.map_or-end.result in
    let flags = first_read b h c.in_ok-flags.ensures in
    let some = subst (λ x. 64 ≤ x) flags.1 c.if-flags-lt-CHANNEL_FLAG.false in
    let content = content_clear is_alphanumeric b h c.then.result _ c.in_ok-content.content at _ flags.1 c.then.ensures.variant c.then.ensures.some (λ r k. search (rules, tests)) c.in_ok-content.ensures c.map_or-at.ensures (λ x k. search (rules, tests)) in
    let channel = channel_clear b h at c.then-2.result _ c.in_ok-channel.channel end _ flags.1 c.then-2.ensures.variant c.then-2.ensures.some (λ r k. search (rules, tests)) content.1.1 c.in_ok-channel.ensures c.map_or-end.ensures (λ x k. search (rules, tests)) in
    let long : length b ≤ end_of b = subst (λ n. length b ≤ n) channel.1.1 c.if-end-body.false in
    done Body (content_id_fault is_alphanumeric b) _ (content_id_of b) (fault_at_end is_alphanumeric b flags.0 some content.0 channel.0 ∙ passes _ (end_of b) (le-ltb _ _ long)) (λ i. content_id (content.1.0 i) (channel.1.0 i))
