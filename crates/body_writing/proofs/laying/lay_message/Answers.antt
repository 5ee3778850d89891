use Rattle.std.proofs.Common.{◌≡◌, ◌+◌, ◌∷◌, [], ◌++◌, None, Some, length, ap, sym, ◌∙◌, subst, rules, tests}
use Rattle.std.specs.Option.{option_map}
use Rattle.body.specs.Identifiers.{is_alphanumeric}
use Rattle.body.specs.Format.{ones, flags_byte, content_bytes, channel_bytes, channel_wrong, content_id_bytes}
use Rattle.body.specs.Messages.{identified}
use Rattle.body.specs.Rounds.{channel_numbers}
use Rattle.body_writing.specs.Outputs.{Lays, or_nothing}
use Rattle.body_writing.proofs.Writes.{message_right}
use Rattle.body_writing.proofs.Lay.{laid_there, laid_then, fits_first, part_bytes, channel_part}
use Rattle.body_writing.proofs.laying.lay_message.Goals as goal

pub returns-in_err-content_at : goal.returns-in_err-content_at
unfolding content_id_bytes
returns-in_err-content_at c =
    let m = c.args.message.now in
    let flags = flags_byte 63 (option_map identified m.content) m.channel in
    let first = subst (λ x. Lays 0 (x ∷ []) c.args.out.now None c.lay.new.out) c.first_byte.ensures (laid_there 0 _ c.args.out.now None c.lay.new.out c.in_err-content_at.ensures.end c.in_err-content_at.ensures.out) in
    fits_first 0 (flags ∷ []) (content_bytes ones (option_map identified m.content) ++ channel_bytes 15 m.channel) c.args.out.now c.lay.new.out _ _ first

pub lay_content-requires : goal.lay_content-requires
lay_content-requires c = (message_right is_alphanumeric (option_map identified c.args.message.now.content) c.args.message.now.channel c.requires).0

pub returns-in_err-channel_at : goal.returns-in_err-channel_at
unfolding content_id_bytes
returns-in_err-channel_at c =
    let m = c.args.message.now in
    let flags = flags_byte 63 (option_map identified m.content) m.channel in
    let content = content_bytes ones (option_map identified m.content) in
    let first = subst (λ x. Lays 0 (x ∷ []) c.args.out.now (Some c.in_ok-content_at.content_at) c.lay.new.out) c.first_byte.ensures (laid_there 0 _ c.args.out.now _ c.lay.new.out c.in_ok-content_at.ensures.end c.in_ok-content_at.ensures.out) in
    let both = laid_then 0 c.in_ok-content_at.content_at (flags ∷ []) content c.args.out.now c.lay.new.out c.lay_content.new.out None first c.in_err-channel_at.ensures in
    fits_first 0 (flags ∷ content) (channel_bytes 15 m.channel) c.args.out.now c.lay_content.new.out _ _ both

pub map-requires : goal.map-requires
map-requires c x e =
    let m = c.args.message.now in
    let right = message_right is_alphanumeric (option_map identified m.content) m.channel c.requires in
    let k = channel_numbers _ x (ap (channel_wrong (1 + length (content_bytes ones (option_map identified m.content)))) (sym e) ∙ right.1) in
    k

pub returns : goal.returns
unfolding content_id_bytes
returns c =
    let m = c.args.message.now in
    let out = c.args.out.now in
    let first = laid_there 0 (c.first_byte.result ∷ []) out _ c.lay.new.out c.in_ok-content_at.ensures.end c.in_ok-content_at.ensures.out in
    let channel : or_nothing c.map.result ≡ channel_bytes 15 m.channel = part_bytes (λ x. channel_bytes 15 (Some x)) m.channel c.map.result _ c.map.ensures.cases (λ x y k. search (rules, tests)) ∙ channel_part 15 m.channel in
    let rest = laid_then c.in_ok-content_at.content_at c.in_ok-channel_at.channel_at (content_bytes ones (option_map identified m.content)) (or_nothing c.map.result) c.lay.new.out c.lay_content.new.out c.lay_part.new.out c.lay_part.result c.in_ok-channel_at.ensures c.lay_part.ensures in
    let whole = laid_then 0 c.in_ok-content_at.content_at (c.first_byte.result ∷ []) (content_bytes ones (option_map identified m.content) ++ or_nothing c.map.result) out c.lay.new.out c.lay_part.new.out c.lay_part.result first rest in
    subst (λ bs. Lays 0 bs out c.lay_part.result c.lay_part.new.out) (λ i. c.first_byte.ensures i ∷ (content_bytes ones (option_map identified m.content) ++ channel i)) whole
