use Rattle.std.proofs.Common.{◌≡◌, ◌+◌, ◌∷◌, [], ◌++◌, length, ap, sym, ◌∙◌, subst, rules, tests}
use Rattle.std.specs.Option.{option_map}
use Rattle.body.specs.declared.message.Time.{Time}
use Rattle.body.specs.Format.{ones, flag, time_bytes, until_bytes, content_bytes}
use Rattle.body.specs.Messages.{identified}
use Rattle.body.proofs.Parts.{mapped}
use Rattle.body_writing.specs.Outputs.{Lays, or_nothing}
use Rattle.body_writing.proofs.Lay.{laid_there, nothing_laid, laid_then, part_bytes, until_part, until_flag}
use Rattle.body_writing.proofs.laying.lay_content.Goals as goal

pub returns-in_default : goal.returns-in_default
returns-in_default c = nothing_laid c.args.at c.args.out.now _ (ap (λ o. content_bytes ones (option_map identified o)) c.in_default.is)

pub returns : goal.returns
returns c =
    let m = c.in-Some.content in
    let u = m.valid_until in
    let out = c.args.out.now in
    let flags : c.map_or-flags.result ≡ 128 + flag 64 u = mapped (λ (t : Time). 192) u 128 c.map_or-flags.result _ c.map_or-flags.ensures (λ x k. search (rules, tests)) ∙ until_flag u in
    let until : or_nothing c.map.result ≡ until_bytes 63 u = part_bytes (time_bytes 63) u c.map.result _ c.map.ensures.cases (λ x y k. search (rules, tests)) ∙ until_part 63 u in
    let head = laid_there c.args.at _ out _ c.lay.new.out c.in_ok-until_at.ensures.end c.in_ok-until_at.ensures.out in
    let id = laid_there c.in_ok-id_at.id_at m.id.now c.lay_part.new.out c.lay-2.result c.lay-2.new.out c.lay-2.ensures.end c.lay-2.ensures.out in
    let rest = laid_then c.in_ok-until_at.until_at c.in_ok-id_at.id_at (or_nothing c.map.result) m.id.now c.lay.new.out c.lay_part.new.out c.lay-2.new.out c.lay-2.result c.in_ok-id_at.ensures id in
    let whole = laid_then c.args.at c.in_ok-until_at.until_at ((c.map_or-flags.result + m.id_type) ∷ length m.id.now ∷ []) (or_nothing c.map.result ++ m.id.now) out c.lay.new.out c.lay-2.new.out c.lay-2.result head rest in
    let bytes : ((c.map_or-flags.result + m.id_type) ∷ length m.id.now ∷ []) ++ (or_nothing c.map.result ++ m.id.now) ≡ content_bytes ones (option_map identified c.args.content.now) =
    (λ i. ((flags i + m.id_type) ∷ length m.id.now ∷ []) ++ (until i ++ m.id.now)) ∙ ap (λ o. content_bytes ones (option_map identified o)) (sym c.in-Some.is) in
    subst (λ bs. Lays c.args.at bs out c.lay-2.result c.lay-2.new.out) bytes whole
