-- Laws of the walk over staged's frames. What carries the loop is the record Left: what fits of all the messages is what the
-- walk has passed and what fits of those left; a turn is one step of `messages_of`, `whole_frames` and `fitting` together.
-- Assumes nothing.
use mathlib.Core.Path.{◌≡◌, refl, sym, ap, ◌∙◌}
use mathlib.Core.Bool.{Bool, true, false, ◌&&◌, and-false, true≢false}
use mathlib.Core.List.{List, [], ◌∷◌}
use Prim.Native.Nat.{ℕ, zero, suc, ◌+◌, ◌-◌, ◌≤◌, ◌<◌}
use native.Mathlib.Nat.{sub-zero, zero-add}
use native.Mathlib.Omega.{arith}
use borrow.Author.Tests.{lt-ltb, le-leb, lt-leb, ltb-true, ltb-false, leb-true}
use lib.Dec.{ltb, leb}
use lib.ListN.{length, take, drop, length-append, length-drop, drop_of_length-le}
use lib.Seq.{length-take-le, drop-drop, get_or-take}
use Rattle.laws.proofs.Tests.{by_test, and_both}
use Rattle.octets.specs.Buf.{de32}
use Rattle.channel.specs.Wire as W
use Rattle.channel.specs.Wire.{read32, frame, frames}
use Rattle.channel.specs.Raw as R
use Rattle.channel.specs.Raw.{messages_of}
use Rattle.channel.specs.Sound as S
use Rattle.channel.specs.Sound.{whole_frames}
use Rattle.channel.specs.Step as T
use Rattle.channel.specs.Step.{fitting}
use Rattle.frames.specs.Frame.{whole_at}
use Rattle.frames.proofs.Packets.{read32-at, length-frame}

-- A WHOLE FRAME AT THE FRONT

abbrev stands : List ℕ → Bool
stands bs = ltb 0 (read32 bs) && leb (4 + read32 bs) (length bs)

whole_true : (bs : List ℕ) → stands bs ≡ true → whole_at bs ≡ 4 + read32 bs
unfolding whole_at
whole_true bs t = rw t

whole_false : (bs : List ℕ) → stands bs ≡ false → whole_at bs ≡ 0
unfolding whole_at
whole_false bs t = rw t

pub whole-empty : (bs : List ℕ) → read32 bs ≡ 0 → whole_at bs ≡ 0
whole-empty bs e = whole_false bs (rw e)

pub whole-cut : (bs : List ℕ) → length bs < 4 + read32 bs → whole_at bs ≡ 0
whole-cut bs h = whole_false bs (rw (lt-leb (4 + read32 bs) (length bs) h) (and-false (ltb 0 (read32 bs))))

-- a length and nothing, or less, is no frame
pub whole_short : (bs : List ℕ) → length bs < 5 → whole_at bs ≡ 0
whole_short bs h =
    by_test (ltb 0 (read32 bs))
    (λ t. whole-cut bs (omega (arith, ltb-true 0 (read32 bs) t)))
    (λ t. whole-empty bs (omega (arith, ltb-false 0 (read32 bs) t)))

pub whole_is : (bs : List ℕ) → 0 < read32 bs → 4 + read32 bs ≤ length bs → whole_at bs ≡ 4 + read32 bs
whole_is bs p h = whole_true bs (rw (lt-ltb 0 (read32 bs) p) (le-leb (4 + read32 bs) (length bs) h))

-- the used part from a place on: its length, and the number it begins with
pub length-used : (l : List ℕ) (used at : ℕ) → used ≤ length l → length (drop at (take used l)) ≡ used - at
length-used l used at h = length-drop at (take used l) ∙ ap (λ n. n - at) (length-take-le used l h)

pub read32-used : (l : List ℕ) (used at : ℕ) → at + 4 ≤ used → read32 (drop at (take used l)) ≡ de32 l at
read32-used l used at h =
    read32-at (take used l) at
    ∙ rw (get_or-take used l at 0 (omega arith), get_or-take used l (at + 1) 0 (omega arith), get_or-take used l (at + 2) 0 (omega arith), get_or-take used l (at + 3) 0 (omega arith))

-- and where a whole frame stands, what it says
stands_facts : (bs : List ℕ) → 0 < whole_at bs → (stands bs ≡ true) × (whole_at bs ≡ 4 + read32 bs) × (4 + read32 bs ≤ length bs)
stands_facts bs h =
    by_test (stands bs)
    (λ t. (t, whole_true bs t, leb-true (4 + read32 bs) (length bs) (and_both (ltb 0 (read32 bs)) _ t).1))
    (λ t. let z = whole_false bs t in absurd (omega arith))

-- WHOLE FRAMES, AND THEIR MESSAGES

-- the message of the frame at the front
abbrev pub message : List ℕ → List ℕ
message bs = take (read32 bs) (drop 4 bs)

wholes_go : (k b : ℕ) (bs : List ℕ) → stands (b ∷ bs) ≡ true → whole_frames (suc k) (b ∷ bs) ≡ whole_frames k (drop (4 + read32 (b ∷ bs)) (b ∷ bs))
unfolding S.whole_frames
wholes_go k b bs t = rw (S.whole_frames, t)

wholes_not : (k b : ℕ) (bs : List ℕ) → stands (b ∷ bs) ≡ false → whole_frames (suc k) (b ∷ bs) ≡ false
unfolding S.whole_frames
wholes_not k b bs t = rw (S.whole_frames, t)

-- the bounds do not matter where they are large enough
wholes_any : (j k : ℕ) (bs : List ℕ) → length bs ≤ j → length bs ≤ k → whole_frames j bs ≡ whole_frames k bs
wholes_any zero zero bs hj hk = refl
wholes_any zero (suc k) [] hj hk = unfold S.whole_frames in refl
wholes_any (suc j) zero [] hj hk = unfold S.whole_frames in refl
wholes_any (suc j) (suc k) [] hj hk = unfold S.whole_frames in refl
wholes_any zero (suc k) (b ∷ bs) hj hk = absurd (omega arith)
wholes_any (suc j) zero (b ∷ bs) hj hk = absurd (omega arith)
wholes_any (suc j) (suc k) (b ∷ bs) hj hk =
    let d = length-drop (4 + read32 (b ∷ bs)) (b ∷ bs) in
    by_test (stands (b ∷ bs))
    (λ t. wholes_go j b bs t ∙ wholes_any j k (drop (4 + read32 (b ∷ bs)) (b ∷ bs)) (omega arith) (omega arith) ∙ sym (wholes_go k b bs t))
    (λ t. wholes_not j b bs t ∙ sym (wholes_not k b bs t))

messages_any : (j k : ℕ) (bs : List ℕ) → length bs ≤ j → length bs ≤ k → messages_of j bs ≡ messages_of k bs
unfolding R.messages_of
messages_any zero zero bs hj hk = refl
messages_any zero (suc k) [] hj hk = refl
messages_any (suc j) zero [] hj hk = refl
messages_any (suc j) (suc k) [] hj hk = refl
messages_any zero (suc k) (b ∷ bs) hj hk = absurd (omega arith)
messages_any (suc j) zero (b ∷ bs) hj hk = absurd (omega arith)
messages_any (suc j) (suc k) (b ∷ bs) hj hk =
    let d = length-drop (4 + read32 (b ∷ bs)) (b ∷ bs) in
    ap (λ more. message (b ∷ bs) ∷ more) (messages_any j k (drop (4 + read32 (b ∷ bs)) (b ∷ bs)) (omega arith) (omega arith))

-- a whole frame at the front: the walk goes on behind it, and its message is the first
pub wholes_more : (k : ℕ) (bs : List ℕ) → length bs ≤ k → 0 < whole_at bs → whole_frames k bs ≡ whole_frames k (drop (whole_at bs) bs)
wholes_more k [] hk h = let z = whole_short [] (omega arith) in absurd (omega arith)
wholes_more k (b ∷ bs) hk h =
    let s = stands_facts (b ∷ bs) h in
    wholes_any k (suc k) (b ∷ bs) hk (omega arith) ∙ wholes_go k b bs s.0 ∙ ap (λ n. whole_frames k (drop n (b ∷ bs))) (sym s.1)

pub messages_more : (k : ℕ) (bs : List ℕ) → length bs ≤ k → 0 < whole_at bs → messages_of k bs ≡ message bs ∷ messages_of k (drop (whole_at bs) bs)
unfolding R.messages_of
messages_more k [] hk h = let z = whole_short [] (omega arith) in absurd (omega arith)
messages_more k (b ∷ bs) hk h =
    let s = stands_facts (b ∷ bs) h in
    messages_any k (suc k) (b ∷ bs) hk (omega arith) ∙ ap (λ n. message (b ∷ bs) ∷ messages_of k (drop n (b ∷ bs))) (sym s.1)

pub length_first : (bs : List ℕ) → 0 < whole_at bs → length (frame (message bs)) ≡ whole_at bs
length_first bs h =
    let s = stands_facts bs h in
    let l : length (message bs) ≡ read32 bs = length-take-le (read32 bs) (drop 4 bs) (simp length-drop (omega (arith, s.2))) in
    length-frame (message bs) ∙ omega (arith, s.1)

-- none: the bytes are no whole frames
pub wholes_none : (k : ℕ) (bs : List ℕ) → length bs ≤ k → 0 < length bs → whole_at bs ≡ 0 → whole_frames k bs ≡ false
wholes_none k [] hk h z = absurd (omega arith)
wholes_none k (b ∷ bs) hk h z =
    by_test (stands (b ∷ bs))
    (λ t. let w = whole_true (b ∷ bs) t in absurd (omega arith))
    (λ t. wholes_any k (suc k) (b ∷ bs) hk (omega arith) ∙ wholes_not k b bs t)

-- no bytes left
pub wholes_end : (k : ℕ) → whole_frames k [] ≡ true
unfolding S.whole_frames
wholes_end zero = refl
wholes_end (suc k) = refl

pub messages_end : (k : ℕ) → messages_of k [] ≡ []
unfolding R.messages_of
messages_end zero = refl
messages_end (suc k) = refl

-- WHAT FITS

abbrev pub fitting_bytes : ℕ → List (List ℕ) → ℕ
fitting_bytes room ps = length (frames (take (fitting room ps) ps))

fitting-go : (room : ℕ) (p : List ℕ) (ps : List (List ℕ)) → length (frame p) ≤ room → fitting room (p ∷ ps) ≡ suc (fitting (room - length (frame p)) ps)
unfolding T.fitting
fitting-go room p ps h = rw (T.fitting, le-leb (length (frame p)) room h)

fitting_stop : (room : ℕ) (p : List ℕ) (ps : List (List ℕ)) → room < length (frame p) → fitting room (p ∷ ps) ≡ 0
unfolding T.fitting
fitting_stop room p ps h = rw (T.fitting, lt-leb (length (frame p)) room h)

-- the first of the messages fits, in n bytes: it counts, and the rest has n bytes less
first_fits : {ps : List (List ℕ)} (room n : ℕ) (p : List ℕ) (more : List (List ℕ)) → ps ≡ p ∷ more → length (frame p) ≡ n → n ≤ room
    → (fitting room ps ≡ suc (fitting (room - n) more)) × (fitting_bytes room ps ≡ n + fitting_bytes (room - n) more)
unfolding W.frames
first_fits room n p more e s h =
    let f : fitting room (p ∷ more) ≡ suc (fitting (room - n) more) = fitting-go room p more (omega arith) ∙ ap (λ k. suc (fitting (room - k) more)) s in
    let b : fitting_bytes room (p ∷ more) ≡ n + fitting_bytes (room - n) more =
    ap (λ k. length (frames (take k (p ∷ more)))) f
    ∙ length-append (frame p) (frames (take (fitting (room - n) more) more))
    ∙ ap (λ k. k + fitting_bytes (room - n) more) s in
    (ap (fitting room) e ∙ f, ap (fitting_bytes room) e ∙ b)

none_fit : (room : ℕ) (ps : List (List ℕ)) → fitting room ps ≡ 0 → fitting_bytes room ps ≡ 0
unfolding W.frames
none_fit room ps e = ap (λ k. length (frames (take k ps))) e

-- THE WALK

-- of the frames from `at` on, which are whole, so much is left to find of what fits of all
pub record Left (used room : ℕ) (bs : List ℕ) (at count : ℕ) : Type 0 where
  pub whole : whole_frames used (drop at bs) ≡ true
  pub frames : fitting room (messages_of used bs) ≡ count + fitting (room - at) (messages_of used (drop at bs))
  pub bytes : fitting_bytes room (messages_of used bs) ≡ at + fitting_bytes (room - at) (messages_of used (drop at bs))

-- no frame is passed yet
pub left-start : (used room : ℕ) (bs : List ℕ) → whole_frames used bs ≡ true → Left used room bs 0 0
left-start used room bs w = record { whole = w; frames = simp (sub-zero, zero-add); bytes = simp (sub-zero, zero-add) }

module _ {used room at count : ℕ} {bs : List ℕ} (l : Left used room bs at count) where
  -- what is found where nothing more fits
  done-frames : fitting (room - at) (messages_of used (drop at bs)) ≡ 0 → count ≡ fitting room (messages_of used bs)
  done-frames e = omega (arith, l.frames)

  done-bytes : fitting (room - at) (messages_of used (drop at bs)) ≡ 0 → at ≡ length (frames (take count (messages_of used bs)))
  done-bytes e =
      omega (arith, l.bytes, none_fit (room - at) (messages_of used (drop at bs)) e)
      ∙ ap (λ k. length (frames (take k (messages_of used bs)))) (sym (done-frames e))

  pub all_passed : length bs ≤ at → (count ≡ fitting room (messages_of used bs)) × (at ≡ length (frames (take count (messages_of used bs))))
  unfolding T.fitting
  all_passed h =
      let d : drop at bs ≡ [] = drop_of_length-le bs {i = at} h in
      let e : fitting (room - at) (messages_of used (drop at bs)) ≡ 0 = rw (d, messages_end used) in
      (done-frames e, done-bytes e)

  module _ (h : at < length bs) (u : length bs ≤ used) where
    fits : length (drop at bs) ≤ used
    fits = omega (arith, length-drop at bs)

    pub left-some : 0 < whole_at (drop at bs)
    left-some =
        by_test (ltb 0 (whole_at (drop at bs)))
        (λ t. ltb-true 0 (whole_at (drop at bs)) t)
        (λ t.
        let z : whole_at (drop at bs) ≡ 0 = omega (arith, ltb-false 0 (whole_at (drop at bs)) t) in
        absurd (true≢false (sym l.whole ∙ wholes_none used (drop at bs) fits (omega (arith, length-drop at bs)) z)))

    pub left_stop : room - at < whole_at (drop at bs) → (count ≡ fitting room (messages_of used bs)) × (at ≡ length (frames (take count (messages_of used bs))))
    left_stop r =
        let e : fitting (room - at) (messages_of used (drop at bs)) ≡ 0 =
        ap (fitting (room - at)) (messages_more used (drop at bs) fits left-some)
        ∙ fitting_stop (room - at) (message (drop at bs)) _ (omega (arith, length_first (drop at bs) left-some)) in
        (done-frames e, done-bytes e)

    pub left-go : (n : ℕ) → n ≡ whole_at (drop at bs) → n ≤ room - at → Left used room bs (at + n) (count + 1)
    left-go n e r =
        let d : drop (whole_at (drop at bs)) (drop at bs) ≡ drop (at + n) bs = rw (← e) (drop-drop n at bs) in
        let k : room - at - n ≡ room - (at + n) = omega arith in
        let f = first_fits (room - at) n (message (drop at bs)) (messages_of used (drop (at + n) bs))
        (messages_more used (drop at bs) fits left-some ∙ ap (λ x. message (drop at bs) ∷ messages_of used x) d)
        (length_first (drop at bs) left-some ∙ sym e)
        r in
        let g = rw k at f in
        record {
          whole = ap (whole_frames used) (sym d) ∙ sym (wholes_more used (drop at bs) fits left-some) ∙ l.whole;
          frames = omega (arith, l.frames, g.0);
          bytes = omega (arith, l.bytes, g.1);
        }

  -- no whole frame stands at `at`: every byte is passed
  pub left_end : length bs ≤ used → whole_at (drop at bs) ≡ 0 → (count ≡ fitting room (messages_of used bs)) × (at ≡ length (frames (take count (messages_of used bs))))
  left_end u z =
      by_test (ltb at (length bs))
      (λ t. let some = left-some (ltb-true at (length bs) t) u in absurd (omega arith))
      (λ t. all_passed (ltb-false at (length bs) t))
