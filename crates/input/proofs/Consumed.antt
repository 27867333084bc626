-- What two reads consume, one after the other.
use Rattle.std.proofs.Common.{◌≡◌, ℕ, ◌+◌, List, ◌++◌, Option, None, Some, take, drop, sym, ap, subst, ◌∙◌, append_assoc}
use Rattle.std.proofs.Math.Seq.{take-add}
use Rattle.std.specs.Io.KnownBytes.{Consumes}

both : (a b c : Option (List ℕ)) (xs ys : List ℕ) → Consumes a b xs → Consumes b c ys → Consumes a c (xs ++ ys)
both None b c xs ys p q = tt
both (Some x) None c xs ys p q = absurd p
both (Some x) (Some y) None xs ys p q = absurd q
both (Some x) (Some y) (Some z) xs ys p q = p ∙ ap (λ l. xs ++ l) q ∙ sym (append_assoc xs ys z)

-- the buffer was filled up to a place, and has that front and n bytes more
pub filled_more : (a b c : Option (List ℕ)) (old new : List ℕ) (at n : ℕ) → take at new ≡ take at old → Consumes a b (take at old)
    → Consumes b c (take n (drop at new)) → Consumes a c (take (at + n) new)
filled_more a b c old new at n front before read =
    subst (Consumes a c) (sym (take-add at n new ∙ ap (λ l. l ++ take n (drop at new)) front)) (both a b c _ _ before read)
