-- Laws of `write`, `be32` and `closed`. `write` is `sets` of the library, so write_eq is the library's sets-eq; the laws that the
-- loops and the callers use go by the definition's recursion and have no side condition.
-- Assumes nothing.
use mathlib.Core.Path.{◌≡◌, refl, sym, ap, ◌∙◌}
use mathlib.Core.List.{List, [], ◌∷◌, ◌++◌, append_assoc}
use Prim.Native.Nat.{ℕ, suc, ◌+◌, ◌-◌, ◌≤◌, ◌<◌}
use native.Mathlib.Nat.{add-zero}
use native.Mathlib.Numerals.{add-one}
use native.Mathlib.Omega.{arith}
use lib.ListN.{length, take, drop, set, replicate, get_or, length-set, length-append, length-drop, length-replicate, take-append-drop}
use lib.Seq.{sets, length-take-le, drop-cons, drop-drop, sets-eq, take-add, take_at, drop_at, drop-append-add, drop-length}
use Rattle.std.specs.List.{copy_within, FoldsTo}
pub use Rattle.std.proofs.lemmas.List.{drop-take}
use Rattle.std.proofs.lemmas.Nat.{from_be_bytes-to_be_bytes_4}
use Rattle.octets.specs.Buf.{write, be32, de32, closed}

-- WRITING

pub write-nil : (at : ℕ) (l : List ℕ) → write at [] l ≡ l
unfolding write
write-nil at l = refl

pub write-cons : (at x : ℕ) (xs l : List ℕ) → write at (x ∷ xs) l ≡ write (at + 1) xs (set l at x)
unfolding write
write-cons at x xs l = refl

pub length-write : (at : ℕ) (xs l : List ℕ) → length (write at xs l) ≡ length l
unfolding write
length-write at [] l = refl
length-write at (x ∷ xs) l = length-write (at + 1) xs (set l at x) ∙ length-set l at x

-- two runs, one after the other, are one
pub write-append : (at : ℕ) (xs ys l : List ℕ) → write at (xs ++ ys) l ≡ write (at + length xs) ys (write at xs l)
unfolding write
write-append at [] ys l = rw (add-zero at)
write-append at (x ∷ xs) ys l =
    let e : at + suc (length xs) ≡ at + 1 + length xs = omega arith in
    rw e (write-append (at + 1) xs ys (set l at x))

write_sets : (at : ℕ) (xs l : List ℕ) → write at xs l ≡ sets l at xs
unfolding write
write_sets at [] l = refl
write_sets at (x ∷ xs) l = rw (add-one at) (write_sets (suc at) xs (set l at x))

-- what a run of writes leaves: the bytes before, those written, the bytes after
pub write_eq : (at : ℕ) (xs l : List ℕ) → at + length xs ≤ length l → write at xs l ≡ take at l ++ xs ++ drop (at + length xs) l
write_eq at xs l h = write_sets at xs l ∙ sets-eq xs l at h

-- the used part grown by the run, and the rest
pub take-write : (at : ℕ) (xs l : List ℕ) → at + length xs ≤ length l → take (at + length xs) (write at xs l) ≡ take at l ++ xs
take-write at xs l h =
    let n : length (take at l ++ xs) ≡ at + length xs = length-append (take at l) xs ∙ ap (λ k. k + length xs) (length-take-le at l (omega arith)) in
    rw (write_eq at xs l h) (take_at (take at l ++ xs) (drop (at + length xs) l) (at + length xs) n)

pub drop-write : (at : ℕ) (xs l : List ℕ) → at + length xs ≤ length l → drop (at + length xs) (write at xs l) ≡ drop (at + length xs) l
drop-write at xs l h =
    let n : length (take at l ++ xs) ≡ at + length xs = length-append (take at l) xs ∙ ap (λ k. k + length xs) (length-take-le at l (omega arith)) in
    rw (write_eq at xs l h) (drop_at (take at l ++ xs) (drop (at + length xs) l) (at + length xs) n)

-- a run behind a used part
pub write-behind : (used xs rest : List ℕ) → length xs ≤ length rest → write (length used) xs (used ++ rest) ≡ used ++ xs ++ drop (length xs) rest
write-behind used xs rest h =
    let l = length-append used rest in
    rw (write_eq (length used) xs (used ++ rest) (omega arith), take_at used rest (length used) refl, drop-append-add used rest (length xs))

-- LOOPS THAT WRITE

-- one turn of a loop that stores src from `at` on
pub write_step : (at j : ℕ) (src dst : List ℕ) → j < length src
    → write (at + j) (drop j src) dst ≡ write (at + (j + 1)) (drop (j + 1) src) (set dst (at + j) (get_or src j 0))
unfolding write
write_step at j src dst h =
    let e : at + (j + 1) ≡ at + j + 1 = omega arith in
    rw (drop-cons src j 0 h, e, add-one j)

-- no turn, and the last
pub write-start : (at : ℕ) (src dst : List ℕ) → write at src dst ≡ write (at + 0) (drop 0 src) dst
write-start at src dst = rw (add-zero at)

pub write_end : (at j : ℕ) (src dst : List ℕ) → j ≡ length src → write (at + j) (drop j src) dst ≡ dst
write_end at j src dst e = rw (e, drop-length src) (write-nil (at + length src) dst)

-- WHAT THE LIBRARY'S METHODS LEAVE

-- a part given other bytes
pub write_part : {new : List ℕ} (at n : ℕ) (xs l : List ℕ) → new ≡ xs → n ≡ length xs → at + length xs ≤ length l
    → take at l ++ (new ++ drop n (drop at l)) ≡ write at xs l
write_part at n xs l e k h = rw (e, k, drop-drop (length xs) at l) (sym (write_eq at xs l h ∙ append_assoc (take at l) xs (drop (at + length xs) l)))

-- a part filled by a closure that gives one value
filled : {F : Type 0} (step : F → ℕ → F → Type 0) (v : ℕ) → ((p : F) (x : ℕ) (q : F) → step p x q → x ≡ v) → (p q : F) (xs : List ℕ)
    → FoldsTo step p xs q → xs ≡ replicate (length xs) v
filled step v h p q [] r = refl
filled step v h p q (x ∷ xs) r = λ i. h p x r.0 r.1 i ∷ filled step v h r.0 q xs r.2 i

pub write_filled : {F : Type 0} (step : F → ℕ → F → Type 0) (v at n k : ℕ) (new l : List ℕ) → ((p : F) (x : ℕ) (q : F) → step p x q → x ≡ v)
    → (p : F) → (q : F) × FoldsTo step p new q → length new ≡ length (take k (drop at l)) → k ≡ n → at + n ≤ length l
    → take at l ++ (new ++ drop k (drop at l)) ≡ write at (replicate n v) l
write_filled step v at n k new l h p r m e fits =
    let len : length new ≡ n = m ∙ length-take-le k (drop at l) (simp length-drop (omega arith)) ∙ e in
    let z : length (replicate n v) ≡ n = length-replicate n v in
    write_part at k (replicate n v) l (filled step v h p r.0 new r.1 ∙ ap (λ j. replicate j v) len) (e ∙ sym z) (omega arith)

-- bytes copied within a buffer
pub write_moved : {new : List ℕ} (at from n : ℕ) (l : List ℕ) → new ≡ copy_within l from (from + n) at → from + n ≤ length l → at + n ≤ length l
    → new ≡ write at (take n (drop from l)) l
write_moved at from n l e h k =
    let c : from + n - from ≡ n = omega arith in
    let m : length (take n (drop from l)) ≡ n = length-take-le n (drop from l) (simp length-drop (omega arith)) in
    e ∙ rw c (sym (write_eq at (take n (drop from l)) l (omega arith) ∙ rw m))

-- bytes that stand in their place already
pub write_same : (at gap n : ℕ) (l : List ℕ) → gap ≡ 0 → at + gap + n ≤ length l → l ≡ write at (take n (drop (at + gap) l)) l
write_same at gap n l g h =
    let e : at + gap ≡ at = omega arith in
    let c : at + n - at ≡ n = omega arith in
    rw e (write_moved at at n l (rw (c, ← take-add at n l) (sym (take-append-drop (at + n) l))) (omega arith) (omega arith))

-- A GAP CLOSED

-- bytes moved down and zeros behind them close a gap
pub closed_by : {d₁ d₂ : List ℕ} (used at n rest : ℕ) (l : List ℕ) → used ≤ length l → rest + (at + n) ≡ used
    → d₁ ≡ write at (take rest (drop (at + n) l)) l → d₂ ≡ write (at + rest) (replicate n 0) d₁
    → d₂ ≡ closed used at n l
unfolding closed
closed_by used at n rest l hu e p q =
    let X : List ℕ = take rest (drop (at + n) l) in
    let Z : List ℕ = replicate n 0 in
    let lx : length X ≡ rest = length-take-le rest (drop (at + n) l) (simp length-drop (omega arith)) in
    let lz : length Z ≡ n = length-replicate n 0 in
    let lxz : at + length (X ++ Z) ≡ used = omega (arith, length-append X Z) in
    let e1 : at + length X ≡ at + rest = omega arith in
    let e2 : at + n + rest ≡ used = omega arith in
    let w : write at (X ++ Z) l ≡ write (at + rest) Z (write at X l) = rw (← e1) (write-append at X Z l) in
    let v : write at (X ++ Z) l ≡ take at l ++ (X ++ Z) ++ drop used l = rw (← lxz) (write_eq at (X ++ Z) l (omega arith)) in
    let d : drop (at + n) (take used l) ≡ X = rw (← e2) (drop-take (at + n) rest l) in
    rw (q, p, d) (sym w ∙ v ∙ simp append_assoc)

-- the middle of three parts taken out
pub closed_parts : (a b c rest : List ℕ)
    → closed (length (a ++ b ++ c)) (length a) (length b) (a ++ b ++ c ++ rest) ≡ a ++ c ++ replicate (length b) 0 ++ rest
unfolding closed
closed_parts a b c rest =
    let used : List ℕ = a ++ b ++ c in
    let d : drop (length a + length b) used ≡ c = drop_at (a ++ b) c (length a + length b) (length-append a b) in
    let t : take (length a) (used ++ rest) ≡ a = simp append_assoc (take_at a (b ++ (c ++ rest)) (length a) refl) in
    rw (t, take_at used rest (length used) refl, drop_at used rest (length used) refl, d)

-- NUMBERS

pub length-be32 : (x : ℕ) → length (be32 x) ≡ 4
unfolding be32
length-be32 x = refl

-- a number written and read back
pub de32-be32 : (x : ℕ) (l : List ℕ) → x < 4294967296 → de32 (be32 x ++ l) 0 ≡ x
unfolding be32
de32-be32 x l h = omega (arith, from_be_bytes-to_be_bytes_4 x h)
