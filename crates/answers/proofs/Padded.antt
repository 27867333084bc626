-- The values of an answer, and zeros behind them.
-- Assumes nothing.
use Rattle.std.proofs.Common.{◌≡◌, ℕ, ◌≤◌, ◌+◌, ◌-◌, List, ◌++◌, length, take, drop, replicate, sym, ◌∙◌, ap, arith}
use Rattle.std.proofs.lemmas.List.{drop-replicate, take-replicate}
use Rattle.std.proofs.Math.Seq.{take-append-add}
use Rattle.answers.specs.Numbers.{padded}

-- zeros with the values copied over their front
pub behind : (vs : List ℕ) → length vs ≤ 7 → vs ++ drop (length vs) (replicate 7 0) ≡ padded vs
behind vs h =
    let e : length vs + (7 - length vs) ≡ 7 = omega arith in
    let cut : take 7 (vs ++ replicate 7 0) ≡ vs ++ take (7 - length vs) (replicate 7 0) =
    ap (λ n. take n (vs ++ replicate 7 0)) (sym e) ∙ take-append-add vs (replicate 7 0) (7 - length vs) in
    let rest : take (7 - length vs) (replicate 7 0) ≡ drop (length vs) (replicate 7 0) =
    take-replicate (7 - length vs) 7 0 (omega arith) ∙ sym (drop-replicate (length vs) 7 0) in
    sym (cut ∙ ap (λ zs. vs ++ zs) rest)
