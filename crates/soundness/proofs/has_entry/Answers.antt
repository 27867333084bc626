-- What `any` answers recurses over the entries as the definition does.
use Rattle.std.proofs.Common.{ℕ, ◌≡◌, refl, sym, ap, ◌∙◌, ◌||◌, eqb, List, [], ◌∷◌, length, take, drop, rules, tests}
use Rattle.std.specs.List.{list_any}
use Rattle.std.proofs.lemmas.Iterator.{YieldsList-from_slice}
use Rattle.std.proofs.lemmas.Iterator.Search.{any_from_yields_List}
use Rattle.channel.specs.declared.Entry as E
use Rattle.channel.specs.State.{any_entry}
use Rattle.channel.specs.State as S
use Rattle.channel.specs.Raw.{entries_of}
use Rattle.channel.specs.Raw as R
use Rattle.soundness.proofs.Parts.{any_is}
use Rattle.soundness.proofs.has_entry.Goals as goal

any_listed : (n : ℕ) (es : List E.Entry) (bs : List ℕ) → list_any (λ e. eqb e.number.0 n) es ≡ any_entry n (entries_of (length es) es bs)
unfolding S.any_entry R.entries_of
any_listed n [] bs = refl
any_listed n (e ∷ es) bs = ap (λ b. eqb e.number.0 n || b) (any_listed n es (drop e.left bs))

pub returns : goal.returns
returns c =
    let t = c.args.t.now in
    let n = c.args.n.0 in
    let es = take t.entry_count t.entries in
    any_from_yields_List (λ e. eqb e.number.0 n) _ _ c.any.result c.any.ensures.ran (YieldsList-from_slice es cc) (λ x b q k. search (rules, tests)) ∙ any_listed n es [] ∙ sym (any_is t c.requires n _ refl)
