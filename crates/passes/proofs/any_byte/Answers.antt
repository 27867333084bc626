-- What `any` answers recurses over the entries as the definition does.
use Rattle.std.proofs.Common.{ℕ, ◌≡◌, refl, ap, ◌∙◌, ◌||◌, ◌&&◌, eqb, ltb, List, [], ◌∷◌, take, rules, tests}
use Rattle.std.specs.List.{list_any}
use Rattle.std.proofs.lemmas.Iterator.{YieldsList-from_slice}
use Rattle.std.proofs.lemmas.Iterator.Search.{any_from_yields_List}
use Rattle.channel.specs.declared.Entry as E
use Rattle.passes.specs.Flush.{any_left}
use Rattle.passes.specs.Flush as F
use Rattle.passes.proofs.any_byte.Goals as goal

any_listed : (n : ℕ) (es : List E.Entry) → list_any (λ e. eqb e.number.0 n && ltb 0 e.left) es ≡ any_left n es
unfolding F.any_left
any_listed n [] = refl
any_listed n (e ∷ es) = ap (λ b. (eqb e.number.0 n && ltb 0 e.left) || b) (any_listed n es)

pub returns : goal.returns
returns c =
    let t = c.args.t.now in
    let n = c.args.n.0 in
    let es = take t.entry_count t.entries in
    any_from_yields_List (λ e. eqb e.number.0 n && ltb 0 e.left) _ _ c.any.result c.any.ensures.ran (YieldsList-from_slice es cc) (λ x b q k. search (rules, tests)) ∙ any_listed n es
