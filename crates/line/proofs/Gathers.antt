-- What is written of a payload, by the cuts that it is read with.
use Rattle.std.proofs.Common.{◌≡◌, ℕ, ◌≤◌, List, ◌++◌, length, drop, Some, sym, ap, ◌∙◌}
use Rattle.std.proofs.lemmas.Bool.{cond-false, le-ltb}
use Rattle.line.specs.declared.reading.Cuts.{Cuts}
use Rattle.line.specs.Lines.{size_of, put}
use Rattle.line.specs.Scales.{payload_by, gathered_into}

pub gathered_done : (cuts known : Cuts) (S : ℕ → ℕ) (old new : List ℕ) (n : ℕ) → cuts ≡ known → 60 ≤ length old → length (payload_by known S) ≡ n → new ≡ payload_by known S ++ drop n old →
    (Some n ≡ size_of (gathered_into (length old) (payload_by cuts S))) × (new ≡ put (gathered_into (length old) (payload_by cuts S)) old)
gathered_done cuts known S old new n is room size wrote =
    let p = payload_by known S in
    let all : gathered_into (length old) (payload_by cuts S) ≡ Some p = ap (λ k. gathered_into (length old) (payload_by k S)) is ∙ cond-false _ _ _ (le-ltb (length old) 60 room) in
    (ap Some (sym size) ∙ sym (ap size_of all), wrote ∙ ap (λ m. p ++ drop m old) (sym size) ∙ sym (ap (λ o. put o old) all))
