-- What the rules' state is written as means that state again.
-- Assumes nothing.
use Prim.Native.Nat.{ℕ, zero, suc, ◌+◌, ◌*◌, ◌/◌, ◌%◌, ◌≤◌, ◌<◌}
use mathlib.Core.Path.{◌≡◌, refl, ap, ap₂, ◌∙◌}
use mathlib.Core.List.{List, [], ◌∷◌, ◌++◌}
use lib.ListN.{length, take}
use lib.Seq.{take-append_seam, drop-append_seam}
use native.Mathlib.Omega.{arith}
use borrow.Author.Tests.{eq-eqb, ne_eqb}
use Rattle.channel.specs.declared.Entry as E
use Rattle.channel.specs.Wire.{uint32, read32, frame, frames}
use Rattle.channel.specs.State.{Place, vacant, holds, Entry, World, queued}
use Rattle.channel.specs.Raw.{places_of, entries_of, messages_of, meaning, word_of, records_of, pending_of, written}
use Rattle.channel.proofs.Wire.{length-frames, read_uint32}
use Rattle.channel.proofs.Sound.{Sound}

places_back : (ps : List Place) → places_of (word_of ps) (records_of ps) ≡ ps
unfolding places_of word_of records_of
places_back [] = refl
places_back (vacant ∷ ps) =
    let d : word_of ps * 2 / 2 ≡ word_of ps = omega arith in
    rw (ne_eqb (word_of ps * 2 % 2) 1 (λ e. omega arith), d) (ap (λ l. vacant ∷ l) (places_back ps))
places_back (holds c ∷ ps) =
    let d : (word_of ps * 2 + 1) / 2 ≡ word_of ps = omega arith in
    rw (eq-eqb ((word_of ps * 2 + 1) % 2) 1 (omega arith), d) (ap (λ l. holds c ∷ l) (places_back ps))

entries_back : (es : List Entry) (pad : List E.Entry) → entries_of (length es) (pending_of es ++ pad) (queued es) ≡ es
unfolding entries_of pending_of queued
entries_back [] pad = refl
entries_back (e ∷ es) pad = rw (take-append_seam, drop-append_seam) (ap (λ l. e ∷ l) (entries_back es pad))

pub four_more : (n : ℕ) → 4 + n ≡ suc (suc (suc (suc n)))
four_more n = omega arith

-- one frame in front, read
messages_one : (k : ℕ) (p bs : List ℕ) → length p < 4294967296 → messages_of (suc k) (frame p ++ bs) ≡ p ∷ messages_of k bs
unfolding messages_of frame uint32
messages_one k p bs h =
    let r : read32 (uint32 (length p) ++ (p ++ bs)) ≡ length p = read_uint32 (length p) (p ++ bs) h in
    rw (r, four_more) (ap₂ (λ a b. a ∷ messages_of k b) (take-append_seam p bs) (drop-append_seam p bs))

messages_back : (ps : List (List ℕ)) (k : ℕ) → length (frames ps) ≤ k → length (frames ps) < 4294967296 → messages_of k (frames ps) ≡ ps
unfolding frames
messages_back [] zero l h = unfold messages_of in refl
messages_back [] (suc k) l h = unfold messages_of in refl
messages_back (p ∷ ps) zero l h = absurd (omega (arith, length-frames p ps))
messages_back (p ∷ ps) (suc k) l h =
    let e = length-frames p ps in
    messages_one k p (frames ps) (omega arith) ∙ ap (λ m. p ∷ m) (messages_back ps k (omega arith) (omega arith))

-- THE THEOREM
pub meaning-written : (w : World) → Sound w → meaning (written w) ≡ w
unfolding meaning written
meaning-written w s =
    let q : take (length (queued w.table.entries)) (queued w.table.entries ++ w.queue_rest) ≡ queued w.table.entries = take-append_seam _ _ in
    let st : take (length (frames w.staged)) (frames w.staged ++ w.staged_rest) ≡ frames w.staged = take-append_seam _ _ in
    let ps = places_back w.table.places in
    let es = ap (entries_of (length w.table.entries) (written w).held.entries) q ∙ entries_back w.table.entries _ in
    let ms = ap (messages_of (length (frames w.staged))) st ∙ messages_back w.staged (length (frames w.staged)) (omega arith) (omega (arith, s.staged_size)) in
    λ i. record {
      table = record { last = w.table.last; places = ps i; entries = es i };
      queue_rest = drop-append_seam (queued w.table.entries) w.queue_rest i;
      staged = ms i;
      staged_rest = drop-append_seam (frames w.staged) w.staged_rest i;
      sent = take-append_seam w.sent w.sent_rest i;
      sent_rest = drop-append_seam w.sent w.sent_rest i;
    }
