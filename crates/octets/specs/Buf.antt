-- Bytes written into a buffer, and 32-bit numbers in it, most significant byte first.
-- Assumes nothing.
use Rattle.std.specs.Prelude.{List, [], ◌∷◌, ◌++◌, ℕ, ◌+◌, ◌*◌, ◌/◌, ◌%◌, take, drop, set, replicate, get_or}

-- xs stored into l from index `at` on; what would fall past the end of l is lost.
-- Where nothing does, it is take at l ++ xs ++ drop (at + length xs) l (write_eq of proofs/Laws.antt)
unfoldable pub write : ℕ → List ℕ → List ℕ → List ℕ
write at [] l = l
write at (x ∷ xs) l = write (at + 1) xs (set l at x)

-- the four bytes of a number
unfoldable pub be32 : ℕ → List ℕ
be32 x = x / 16777216 % 256 ∷ x / 65536 % 256 ∷ x / 256 % 256 ∷ x % 256 ∷ []

-- the number of the four bytes at `at`
abbrev pub de32 : List ℕ → ℕ → ℕ
de32 l at = get_or l at 0 * 16777216 + get_or l (at + 1) 0 * 65536 + get_or l (at + 2) 0 * 256 + get_or l (at + 3) 0

-- l, of which `used` bytes are used, with the n bytes at `at` taken out, the rest of the used part closed up and the freed
-- tail zeroed; what stands past the used part stays
unfoldable pub closed : ℕ → ℕ → ℕ → List ℕ → List ℕ
closed used at n l = take at l ++ drop (at + n) (take used l) ++ replicate n 0 ++ drop used l
