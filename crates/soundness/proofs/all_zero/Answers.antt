-- What `all` answers recurses over the entries as the definition does.
use Rattle.std.proofs.Common.{refl, ◌∙◌, ◌&&◌, rules, tests}
use Rattle.std.specs.List.{list_all}
use Rattle.std.proofs.lemmas.Iterator.{YieldsList-from_slice}
use Rattle.std.proofs.lemmas.Iterator.Search.{all_from_yields_List}
use Rattle.std.proofs.lemmas.List.Recursion.{same_from_clauses}
use Rattle.channel.specs.Sound.{is_zero_entry, entries_zero}
use Rattle.channel.specs.Sound as O
use Rattle.soundness.proofs.all_zero.Goals as goal

pub returns : goal.returns
unfolding O.entries_zero
returns c =
    let es = c.args.entries.now in
    all_from_yields_List is_zero_entry _ _ c.all.result c.all.ensures.ran (YieldsList-from_slice es cc) (λ x b q k. search (rules, tests)) ∙ same_from_clauses (list_all is_zero_entry) entries_zero (λ e b. is_zero_entry e && b) refl (λ _ _. refl) (λ _ _. refl) es
