-- Frames and messages: their sizes, and reading back what was written.
-- Assumes nothing.
use Rattle.channel.specs.declared.Kind.{Kind}
use Rattle.channel.specs.declared.Kind.TheVariants.{Extended, Plain}
use Prim.Native.Nat.{ℕ, zero, suc, ◌+◌, ◌*◌, ◌/◌, ◌%◌, ◌≤◌, ◌<◌}
use mathlib.Core.Path.{◌≡◌, refl, sym, ap, ◌∙◌}
use mathlib.Core.List.{List, [], ◌∷◌, ◌++◌, map, append_assoc}
use lib.ListN.{length, drop, length-append}
use native.Mathlib.Omega.{arith}
use Rattle.channel.specs.Wire.{uint32, read32, frame, frames, packets, data_message, pieces}

pub frames-append : (a b : List (List ℕ)) → frames (a ++ b) ≡ frames a ++ frames b
unfolding frames
frames-append [] b = refl
frames-append (p ∷ ps) b = ap (λ l. frame p ++ l) (frames-append ps b) ∙ sym (append_assoc (frame p) (frames ps) (frames b))

pub length-frames : (p : List ℕ) (ps : List (List ℕ)) → length (frames (p ∷ ps)) ≡ 4 + length p + length (frames ps)
unfolding frames frame uint32
length-frames p ps = simp length-append (omega arith)

pub read_uint32 : (n : ℕ) (bs : List ℕ) → n < 4294967296 → read32 (uint32 n ++ bs) ≡ n
unfolding read32 uint32
read_uint32 n bs h =
    let a : n / 256 / 256 ≡ n / 65536 = omega arith in
    let b : n / 65536 / 256 ≡ n / 16777216 = omega arith in
    let c : n / 16777216 < 256 = omega arith in
    let d : n / 256 * 256 + n % 256 ≡ n = omega arith in
    let e : n / 65536 * 256 + n / 256 % 256 ≡ n / 256 = omega arith in
    let f : n / 16777216 * 256 + n / 65536 % 256 ≡ n / 65536 = omega arith in
    let g : n / 16777216 % 256 ≡ n / 16777216 = omega arith in
    omega arith

-- and the other way round, for bytes
pub uint32_read : (a b c d : ℕ) (bs : List ℕ) → a < 256 → b < 256 → c < 256 → d < 256 → uint32 (read32 (a ∷ b ∷ c ∷ d ∷ bs)) ≡ a ∷ b ∷ c ∷ d ∷ []
unfolding uint32 read32
uint32_read a b c d bs ha hb hc hd =
    let w : (a * 16777216 + b * 65536 + c * 256 + d) / 16777216 % 256 ≡ a = omega arith in
    let x : (a * 16777216 + b * 65536 + c * 256 + d) / 65536 % 256 ≡ b = omega arith in
    let y : (a * 16777216 + b * 65536 + c * 256 + d) / 256 % 256 ≡ c = omega arith in
    let z : (a * 16777216 + b * 65536 + c * 256 + d) % 256 ≡ d = omega arith in
    λ i. w i ∷ x i ∷ y i ∷ z i ∷ []

-- NO MESSAGE IS EMPTY

unfoldable pub NoneEmpty : List (List ℕ) → Type 0
NoneEmpty [] = Unit {0}
NoneEmpty (p ∷ ps) = (1 ≤ length p) × NoneEmpty ps

pub full-append : (a b : List (List ℕ)) → NoneEmpty a → NoneEmpty b → NoneEmpty (a ++ b)
unfolding NoneEmpty
full-append [] b f g = g
full-append (x ∷ xs) b f g = (f.0, full-append xs b f.1 g)

pub full-drop : (k : ℕ) (ps : List (List ℕ)) → NoneEmpty ps → NoneEmpty (drop k ps)
unfolding NoneEmpty
full-drop zero ps f = f
full-drop (suc k) [] f = tt
full-drop (suc k) (p ∷ ps) f = full-drop k ps f.1

each_full : (kind : Kind) (peer : ℕ) (xs : List (List ℕ)) → NoneEmpty (map (data_message kind peer) xs)
unfolding NoneEmpty data_message
each_full kind peer [] = tt
each_full Plain peer (x ∷ xs) = (omega arith, each_full Plain peer xs)
each_full (Extended code) peer (x ∷ xs) = (omega arith, each_full (Extended code) peer xs)

pub packets-full : (kind : Kind) (peer limit : ℕ) (bs : List ℕ) → NoneEmpty (packets kind peer limit bs)
unfolding packets
packets-full kind peer limit bs = each_full kind peer (pieces (length bs) limit bs)
