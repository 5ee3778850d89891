use Rattle.std.proofs.Common.{◌≡◌, ℕ, ◌+◌, Bool, true, false, not, cond, List, [], ◌∷◌, Some, refl, sym, ap, ◌∙◌, rules, tests}
use Rattle.std.proofs.lemmas.Iterator.{YieldsList-from_slice}
use Rattle.std.proofs.lemmas.Iterator.Search.{position_from_yields_List}
use Rattle.std.proofs.lemmas.Iterator.Adapters.{position_from-zero}
use Rattle.std.specs.List.{position_from}
use Rattle.body.specs.Identifiers.{is_alphanumeric, wrong_from, misspelt}
use Rattle.body.proofs.identifier.wrong_character.Goals as goal

-- the first that fails a test is the first that passes its opposite
by_test : {A : Type 0} (t : Bool) (x y : A) → cond (not t) x y ≡ cond t y x
by_test true x y = refl
by_test false x y = refl

first_that_fails : (ok : ℕ → Bool) (i : ℕ) (cs : List ℕ) → position_from (λ c. not (ok c)) i cs ≡ wrong_from ok i cs
first_that_fails ok i [] = refl
first_that_fails ok i (c ∷ cs) = by_test (ok c) _ _ ∙ ap (λ x. cond (ok c) x (Some i)) (first_that_fails ok (i + 1) cs)

pub returns-in-2-clause-answer : goal.returns-in-2-clause-answer
returns-in-2-clause-answer c =
    let id = c.args.id.now in
    let found : c.position.result ≡ wrong_from is_alphanumeric 0 id =
    position_from_yields_List (λ c. not (is_alphanumeric c)) _ _ c.position.result c.position.ensures.ran (YieldsList-from_slice id (cc)) (λ x b q k. search (rules, tests))
    ∙ (position_from-zero (λ c. not (is_alphanumeric c)) id ∙ first_that_fails is_alphanumeric 0 id) in
    found ∙ sym (ap (λ t. misspelt is_alphanumeric t id) c.in-2.is)
