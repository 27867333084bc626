-- Laws of frames and of the packets that a run of data is cut into. The size of a run goes by induction on the bound of `pieces`;
-- a turn of the loop over a run is packets-cons at what is left of the data.
-- Assumes nothing.
use mathlib.Core.Path.{◌≡◌, refl, sym, ap, ◌∙◌}
use mathlib.Core.List.{List, [], ◌∷◌, ◌++◌, map, append_assoc, append-nil}
use Prim.Native.Nat.{ℕ, zero, suc, min, ◌+◌, ◌-◌, ◌*◌, ◌/◌, ◌≤◌, ◌<◌}
use native.Mathlib.Nat.{le_trans, mul-le-mul_left, mul-le-mul_right, suc-mul, div-eq_of_lt, add-div_right, div-le_self, add-zero, add_assoc, zero-mul}
use native.Mathlib.Numerals.{add-one}
use native.Mathlib.Omega.{arith}
use lib.Dec.{leb, ltb}
use borrow.Author.Tests.{leb-true, leb-false, ltb-true, ltb-false}
use lib.ListN.{length, take, drop, length-append, length-take, length-drop, length-map, drop_of_length-le}
use lib.Seq.{take_all, take_at, drop_at, get_or-drop}
use Rattle.std.proofs.lemmas.List.{nil_from_length}
use Rattle.laws.proofs.Tests.{by_test}
use Rattle.octets.specs.Buf as B
use Rattle.octets.specs.Buf.{write, be32, de32}
use Rattle.octets.proofs.Laws.{write-nil, write-cons, write-append, length-be32}
use Rattle.channel.specs.declared.Kind.{Kind}
use Rattle.channel.specs.declared.Kind.TheVariants.{Plain, Extended}
use Rattle.channel.specs.Wire as W
use Rattle.channel.specs.Wire.{uint32, read32, data_message, adjust_message, eof_message, close_message, frame, frames, pieces, packets}
use Rattle.frames.specs.Frame.{over, head, data_head}

-- NUMBERS: channel's are those of the buffer's leaves

pub uint32-is : (n : ℕ) → uint32 n ≡ be32 n
unfolding W.uint32 B.be32
uint32-is n = refl

pub read32-at : (l : List ℕ) (at : ℕ) → read32 (drop at l) ≡ de32 l at
unfolding W.read32
read32-at l at = simp (get_or-drop, add-zero)

length-uint32 : (n : ℕ) → length (uint32 n) ≡ 4
unfolding W.uint32
length-uint32 n = refl

-- FRAMES

pub length-frame : (p : List ℕ) → length (frame p) ≡ 4 + length p
unfolding W.frame
length-frame p = length-append (uint32 (length p)) p ∙ ap (λ k. k + length p) (length-uint32 (length p))

length-message : (kind : Kind) (peer : ℕ) (bs : List ℕ) → 4 + length (data_message kind peer bs) ≡ length bs + over kind
unfolding W.data_message W.uint32
length-message Plain peer bs = omega arith
length-message (Extended code) peer bs = omega arith

over_ge : (kind : Kind) → 13 ≤ over kind
over_ge Plain = omega arith
over_ge (Extended code) = omega arith

over_le : (kind : Kind) → over kind ≤ 17
over_le Plain = omega arith
over_le (Extended code) = omega arith

-- 13 bytes over the data, 17 when extended
pub length_packet : (kind : Kind) (peer : ℕ) (bs : List ℕ) → length (frame (data_message kind peer bs)) ≡ length bs + over kind
length_packet kind peer bs = length-frame (data_message kind peer bs) ∙ length-message kind peer bs

-- a number and the recipient, framed
length_nine : (number peer : ℕ) → length (frame (number ∷ uint32 peer)) ≡ 9
unfolding W.frame W.uint32
length_nine number peer = refl

pub length-eof : (peer : ℕ) → length (frame (eof_message peer)) ≡ 9
unfolding W.eof_message
length-eof peer = length_nine 96 peer

pub length-close : (peer : ℕ) → length (frame (close_message peer)) ≡ 9
unfolding W.close_message
length-close peer = length_nine 97 peer

pub length-adjust : (peer add : ℕ) → length (frame (adjust_message peer add)) ≡ 13
unfolding W.frame W.adjust_message W.uint32
length-adjust peer add = refl

-- a run of one message
pub frames_one : (p : List ℕ) → frames (p ∷ []) ≡ frame p
unfolding W.frames
frames_one p = append-nil (frame p)

-- WHAT IS WRITTEN

length-head : (n number peer : ℕ) → length (head n number peer) ≡ 9
unfolding head W.uint32
length-head n number peer = refl

-- each store goes into what the one before it left

pub head_by : {d₁ d₂ d₃ : List ℕ} (at n number peer : ℕ) (l : List ℕ)
    → d₁ ≡ write at (be32 n) l → d₂ ≡ write (at + 4) (number ∷ []) d₁ → d₃ ≡ write (at + 5) (be32 peer) d₂
    → d₃ ≡ write at (head n number peer) l
unfolding head
head_by at n number peer l p q r = rw (r, q, p) (simp (uint32-is, write-append, write-cons, write-nil, length-be32, add_assoc))

frame_nine : (number peer : ℕ) → frame (number ∷ uint32 peer) ≡ head 5 number peer
unfolding W.frame W.uint32 head
frame_nine number peer = refl

frame-adjust : (peer add : ℕ) → frame (adjust_message peer add) ≡ head 9 93 peer ++ uint32 add
unfolding W.frame W.adjust_message W.uint32 head
frame-adjust peer add = refl

frame_data : (kind : Kind) (peer : ℕ) (bs : List ℕ)
    → frame (data_message kind peer bs) ≡ data_head kind peer (length bs) ++ (uint32 (length bs) ++ bs)
unfolding W.frame W.data_message data_head head
frame_data Plain peer bs =
    let e : length (data_message Plain peer bs) ≡ length bs + 9 = omega (arith, length-message Plain peer bs) in
    rw e (simp append_assoc)
frame_data (Extended code) peer bs =
    let e : length (data_message (Extended code) peer bs) ≡ length bs + 13 = omega (arith, length-message (Extended code) peer bs) in
    rw e (simp append_assoc)

length-data_head : (kind : Kind) (peer n : ℕ) → length (data_head kind peer n) ≡ over kind - 4
unfolding data_head head W.uint32
length-data_head Plain peer n = refl
length-data_head (Extended code) peer n = refl

pub nine_by : {d : List ℕ} (at number peer : ℕ) (l : List ℕ) → d ≡ write at (head 5 number peer) l → d ≡ write at (frame (number ∷ uint32 peer)) l
nine_by at number peer l p = rw (frame_nine number peer) p

pub after_head : {d₁ d₂ : List ℕ} (at n number peer x : ℕ) (l : List ℕ)
    → d₁ ≡ write at (head n number peer) l → d₂ ≡ write (at + 9) (be32 x) d₁
    → d₂ ≡ write at (head n number peer ++ uint32 x) l
after_head at n number peer x l p q = rw (q, p) (simp (uint32-is, write-append, length-head))

pub adjust_by : {d₁ d₂ : List ℕ} (at peer add : ℕ) (l : List ℕ)
    → d₁ ≡ write at (head 9 93 peer) l → d₂ ≡ write (at + 9) (be32 add) d₁
    → d₂ ≡ write at (frame (adjust_message peer add)) l
adjust_by at peer add l p q = rw (frame-adjust peer add) (after_head at 9 93 peer add l p q)

pub data_by : {d₁ d₂ d₃ : List ℕ} (at o peer : ℕ) (kind : Kind) (bs l : List ℕ) → o ≡ over kind
    → d₁ ≡ write at (data_head kind peer (length bs)) l → d₂ ≡ write (at + o - 4) (be32 (length bs)) d₁ → d₃ ≡ write (at + o) bs d₂
    → d₃ ≡ write at (frame (data_message kind peer bs)) l
data_by at o peer kind bs l e p q r =
    let f : at + length (data_head kind peer (length bs)) ≡ at + o - 4 = omega (arith, length-data_head kind peer (length bs), over_ge kind) in
    let g : at + o - 4 + 4 ≡ at + o = omega (arith, over_ge kind) in
    rw (r, q, p, frame_data kind peer bs) (simp (uint32-is, write-append, length-be32, f, g))

-- PACKETS OF A RUN

pieces-nil : (k limit : ℕ) → pieces k limit [] ≡ []
unfolding W.pieces
pieces-nil zero limit = refl
pieces-nil (suc k) limit = refl

-- the bound does not matter where it is large enough
pieces_any : (k m limit : ℕ) (bs : List ℕ) → 0 < limit → length bs ≤ k → length bs ≤ m → pieces k limit bs ≡ pieces m limit bs
unfolding W.pieces
pieces_any zero m limit [] h hk hm = sym (pieces-nil m limit)
pieces_any zero m limit (b ∷ bs) h hk hm = absurd (omega arith)
pieces_any (suc k) m limit [] h hk hm = sym (pieces-nil m limit)
pieces_any (suc k) zero limit (b ∷ bs) h hk hm = absurd (omega arith)
pieces_any (suc k) (suc m) limit (b ∷ bs) h hk hm =
    let d = length-drop limit (b ∷ bs) in
    ap (λ more. take limit (b ∷ bs) ∷ more) (pieces_any k m limit (drop limit (b ∷ bs)) h (omega arith) (omega arith))

pub packets-nil : (kind : Kind) (peer limit : ℕ) → packets kind peer limit [] ≡ []
unfolding W.packets W.pieces
packets-nil kind peer limit = refl

-- a packet of the limit, and then the packets of the rest
pub packets-cons : (kind : Kind) (peer limit : ℕ) (bs : List ℕ) → 0 < limit → 0 < length bs
    → packets kind peer limit bs ≡ data_message kind peer (take limit bs) ∷ packets kind peer limit (drop limit bs)
unfolding W.packets W.pieces
packets-cons kind peer limit [] h hb = absurd (omega arith)
packets-cons kind peer limit (b ∷ bs) h hb =
    let d = length-drop limit (b ∷ bs) in
    ap (λ more. data_message kind peer (take limit (b ∷ bs)) ∷ map (data_message kind peer) more)
    (pieces_any (length bs) (length (drop limit (b ∷ bs))) limit (drop limit (b ∷ bs)) h (omega arith) (omega arith))

-- THE SIZE OF A RUN: ceil(n / limit) packets, and so many bytes over the data each

-- n / limit rounded up
unfoldable pub ceil_div : ℕ → ℕ → ℕ
ceil_div n limit = (n + (limit - 1)) / limit

-- the bytes of n bytes' packets
unfoldable pub run_size : Kind → ℕ → ℕ → ℕ
run_size kind limit n = n + ceil_div n limit * over kind

ceil_zero : (limit : ℕ) → 0 < limit → ceil_div 0 limit ≡ 0
unfolding ceil_div
ceil_zero limit h = div-eq_of_lt (omega arith)

-- one packet more than what is left after one packet
ceil_step : (n limit : ℕ) → 0 < limit → 0 < n → ceil_div n limit ≡ suc (ceil_div (n - limit) limit)
unfolding ceil_div
ceil_step n limit h hn =
    let e : n + (limit - 1) ≡ (n - 1) + limit = omega arith in
    let d : (n + (limit - 1)) / limit ≡ (n - 1) / limit + 1 = rw e (add-div_right (n - 1) h) in
    by_test (leb limit n)
    (λ t.
    let l = leb-true limit n t in
    let f : n - limit + (limit - 1) ≡ n - 1 = omega arith in
    rw (d, f, add-one))
    (λ t.
    let l = leb-false limit n t in
    let z : (n - 1) / limit ≡ 0 = div-eq_of_lt (omega arith) in
    let f : (n - limit + (limit - 1)) / limit ≡ 0 = div-eq_of_lt (omega arith) in
    rw (d, z, f))

ceil_le : (n limit : ℕ) → 0 < limit → ceil_div n limit ≤ n
unfolding ceil_div
ceil_le n limit h =
    by_test (ltb 0 n)
    (λ t.
    let p = ltb-true 0 n t in
    let e : n + (limit - 1) ≡ (n - 1) + limit = omega arith in
    let d : (n + (limit - 1)) / limit ≡ (n - 1) / limit + 1 = rw e (add-div_right (n - 1) h) in
    omega (arith, div-le_self (n - 1) limit))
    (λ t.
    let z = ltb-false 0 n t in
    let e : (n + (limit - 1)) / limit ≡ 0 = div-eq_of_lt (omega arith) in
    omega arith)

-- what the packets take over the data of n bytes is at most 17 bytes for each
pub heads_le : (n limit : ℕ) (kind : Kind) → 0 < limit → ceil_div n limit * over kind ≤ n * 17
heads_le n limit kind h = le_trans (mul-le-mul_left (ceil_div n limit) (over_le kind)) (mul-le-mul_right 17 (ceil_le n limit h))

size_nil : (kind : Kind) (limit : ℕ) → 0 < limit → run_size kind limit 0 ≡ 0
unfolding run_size
size_nil kind limit h = rw (ceil_zero limit h) (omega (arith, zero-mul (over kind)))

size_step : (kind : Kind) (limit n : ℕ) → 0 < limit → 0 < n → run_size kind limit n ≡ min limit n + over kind + run_size kind limit (n - limit)
unfolding run_size
size_step kind limit n h hn = rw (ceil_step n limit h hn) (omega (arith, suc-mul (ceil_div (n - limit) limit) (over kind)))

-- ceil(n / limit) packets
count-pieces : (c limit : ℕ) (bs : List ℕ) → 0 < limit → length bs ≤ c → length (pieces c limit bs) ≡ ceil_div (length bs) limit
unfolding W.pieces
count-pieces zero limit [] h l = sym (ceil_zero limit h)
count-pieces zero limit (b ∷ bs) h l = absurd (omega arith)
count-pieces (suc c) limit [] h l = sym (ceil_zero limit h)
count-pieces (suc c) limit (b ∷ bs) h l =
    let d = length-drop limit (b ∷ bs) in
    ap suc (count-pieces c limit (drop limit (b ∷ bs)) h (omega arith) ∙ ap (λ n. ceil_div n limit) d) ∙ sym (ceil_step (length (b ∷ bs)) limit h (omega arith))

pub count-packets : (kind : Kind) (peer limit : ℕ) (bs : List ℕ) → 0 < limit → length (packets kind peer limit bs) ≡ ceil_div (length bs) limit
unfolding W.packets
count-packets kind peer limit bs h = length-map (pieces (length bs) limit bs) (data_message kind peer) ∙ count-pieces (length bs) limit bs h (omega arith)

length-pieces : (c : ℕ) (kind : Kind) (peer limit : ℕ) (bs : List ℕ) → 0 < limit → length bs ≤ c
    → length (frames (map (data_message kind peer) (pieces c limit bs))) ≡ run_size kind limit (length bs)
unfolding W.pieces W.frames
length-pieces zero kind peer limit [] h l = sym (size_nil kind limit h)
length-pieces zero kind peer limit (b ∷ bs) h l = absurd (omega arith)
length-pieces (suc c) kind peer limit [] h l = sym (size_nil kind limit h)
length-pieces (suc c) kind peer limit (b ∷ bs) h l =
    let d = length-drop limit (b ∷ bs) in
    let t = length-take limit (b ∷ bs) in
    let p = length_packet kind peer (take limit (b ∷ bs)) in
    let s = size_step kind limit (length (b ∷ bs)) h (omega arith) in
    let f : run_size kind limit (length (drop limit (b ∷ bs))) ≡ run_size kind limit (length (b ∷ bs) - limit) = ap (run_size kind limit) d in
    let more = length-pieces c kind peer limit (drop limit (b ∷ bs)) h (omega arith) in
    length-append (frame (data_message kind peer (take limit (b ∷ bs)))) (frames (map (data_message kind peer) (pieces c limit (drop limit (b ∷ bs)))))
    ∙ omega arith

-- the bytes of a run, whoever it goes to
pub length_run : (kind : Kind) (peer limit : ℕ) (bs : List ℕ) → 0 < limit → length (frames (packets kind peer limit bs)) ≡ run_size kind limit (length bs)
unfolding W.packets
length_run kind peer limit bs h = length-pieces (length bs) kind peer limit bs h (omega arith)

-- THE LOOP OVER A RUN

-- nothing is left
pub run_end : (kind : Kind) (peer limit : ℕ) (bs : List ℕ) → length bs ≡ 0 → frames (packets kind peer limit bs) ≡ []
unfolding W.frames
run_end kind peer limit bs e = ap (λ l. frames (packets kind peer limit l)) (nil_from_length bs e) ∙ ap frames (packets-nil kind peer limit)

-- one turn: a chunk off the front, of the limit or all that is left, is one packet
module _ (kind : Kind) (peer limit : ℕ) {bs : List ℕ} (x rest : List ℕ) (h : 0 < limit)
    (e : bs ≡ x ++ rest) (s : length x ≡ min limit (length bs)) (some : 0 < length bs) where
  cut_off : (take limit bs ≡ x) × (drop limit bs ≡ rest)
  cut_off =
      let n = ap length e ∙ length-append x rest in
      by_test (leb limit (length bs))
      (λ t.
      let l = leb-true limit (length bs) t in
      let k : length x ≡ limit = omega arith in
      (rw e (take_at x rest limit k), rw e (drop_at x rest limit k)))
      (λ t.
      let l = leb-false limit (length bs) t in
      let z : rest ≡ [] = nil_from_length rest (omega arith) in
      (take_all limit bs (omega arith) ∙ e ∙ rw (z, append-nil), drop_of_length-le bs {i = limit} (omega arith) ∙ sym z))

  run_step : frames (packets kind peer limit bs) ≡ frame (data_message kind peer x) ++ frames (packets kind peer limit rest)
  unfolding W.frames
  run_step = ap frames (packets-cons kind peer limit bs h some) ∙ rw (cut_off.0, cut_off.1)

  pub run_room : length (frames (packets kind peer limit bs)) ≡ length x + over kind + length (frames (packets kind peer limit rest))
  run_room =
      ap length run_step
      ∙ length-append (frame (data_message kind peer x)) (frames (packets kind peer limit rest))
      ∙ ap (λ k. k + length (frames (packets kind peer limit rest))) (length_packet kind peer x)

  -- the packet written, and the rest of what is to be
  pub run-write : {whole dst' : List ℕ} (pos o : ℕ) (dst : List ℕ) → whole ≡ write pos (frames (packets kind peer limit bs)) dst
      → dst' ≡ write pos (frame (data_message kind peer x)) dst → o ≡ over kind
      → whole ≡ write (pos + (length x + o)) (frames (packets kind peer limit rest)) dst'
  run-write pos o dst w d f =
      let k : pos + length (frame (data_message kind peer x)) ≡ pos + (length x + over kind) = omega (arith, length_packet kind peer x) in
      let r = rw (run_step, write-append pos (frame (data_message kind peer x)) (frames (packets kind peer limit rest)) dst, k) at w in
      rw (f, d) r
