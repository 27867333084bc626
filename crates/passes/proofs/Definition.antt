-- What the three passes do is what the definition says of a flush.
-- Assumes nothing.
use mathlib.Core.Path.{◌≡◌, refl, ap, sym, ◌∙◌}
use mathlib.Core.Bool.{true, false, ◌&&◌}
use mathlib.Core.List.{List, [], ◌∷◌}
use Prim.Native.Nat.{ℕ, zero, suc, ◌+◌, ◌-◌, ◌≤◌, ◌<◌}
use native.Mathlib.Nat.{add-zero, zero-add, sub-zero, min-eq_left}
use native.Mathlib.Omega.{arith}
use borrow.Author.Tests.{leb-true, le-leb, lt-leb, ltb-false}
use lib.Dec.{leb, ltb, eqb}
use lib.ListN.{length, take, drop, length-append}
use lib.Seq.{length-take-le, take-take}
use Rattle.laws.proofs.Tests.{by_test, or_neither}
use Rattle.octets.proofs.Laws.{drop-take}
use Rattle.frames.proofs.Packets.{length_run, packets-nil}
use Rattle.channel.specs.declared.Entry as E
use Rattle.channel.specs.declared.Record.{Record}
use Rattle.channel.specs.Wire as W
use Rattle.channel.specs.Wire.{frames, packets}
use Rattle.channel.specs.State.{Entry, number_of, kind_of, peer_of, queued, without}
use Rattle.channel.specs.State as S
use Rattle.channel.specs.Decide.{Flushed, flushed, keeping, sending, any_byte}
use Rattle.channel.specs.Decide as D
use Rattle.channel.specs.Raw.{entries_of, pending_of}
use Rattle.channel.specs.Raw as R
use Rattle.channel.specs.Sound.{sum_left}
use Rattle.channel.specs.Sound as C
use Rattle.channel.proofs.Entries.{flushed_skip, flushed-whole, flushed-part, without_hit, without_miss}
use Rattle.passes.specs.Keep.{cut, keeps}
use Rattle.passes.specs.Flush.{taken_by, stops_by, size_by, adds, sizes, size_of, any_left, with_limit}
use Rattle.passes.proofs.KeepLaws.{keeps-nil, keeps_goes, keeps_stays}
use Rattle.passes.proofs.FlushLaws.{ahead, flushed-nil, taken-left, out-go, out_stop, stop_is, stop_less, stop_takes, sizes-go, sizes_stop}

-- ---- what stays

cut-none : (e : Entry) → cut 0 e ≡ e
unfolding cut
cut-none e = refl

pub keeps_shut : (n w : ℕ) (es : List Entry) → keeps n false w es ≡ es
unfolding keeps
keeps_shut n w [] = refl
keeps_shut n w (e ∷ es) = keeps_stays n w false e es refl ∙ rw (cut-none e, keeps_shut n w es)

sent-kept : (ms : List (List ℕ)) (n : ℕ) (r : Flushed) → (sending ms n r).kept ≡ r.kept
unfolding D.sending
sent-kept ms n r = refl

part-kept : (w : ℕ) (e : Entry) (es : List Entry) → ◌≡◌ {A = List Entry} (record { number = e.number; kind = e.kind; bytes = drop w e.bytes } ∷ es) (cut w e ∷ es)
unfolding cut
part-kept w e es = refl

other_kept : (e : Entry) (r : Flushed) → (keeping e r).kept ≡ e ∷ r.kept
unfolding D.keeping
other_kept e r = refl

-- a flush keeps what the definition keeps
pub keeps-flushed : (c : Record) (w : ℕ) (es : List Entry) → keeps (number_of c) true w es ≡ (flushed c w es).kept
keeps-flushed c w [] = keeps-nil (number_of c) w true ∙ rw (flushed-nil c w)
keeps-flushed c w (e ∷ es) =
    let n : ℕ = number_of c in
    by_test (eqb e.number n)
    (λ t. by_test (leb (length e.bytes) w)
    (λ u. keeps_goes n w true e es (rw (t, u)) ∙ keeps-flushed c (w - length e.bytes) es ∙ sym (ap (λ (r : Flushed). r.kept) (flushed-whole c w e es t u) ∙ sent-kept _ _ _))
    (λ u. keeps_stays n w true e es (rw (t, u)) ∙ rw t (rw (keeps_shut n w es) (sym (ap (λ (r : Flushed). r.kept) (flushed-part c w e es t u) ∙ part-kept w e es)))))
    (λ t. keeps_stays n w true e es (rw t) ∙ rw t (rw (cut-none e, keeps-flushed c w es) (sym (ap (λ (r : Flushed). r.kept) (flushed_skip c w e es t) ∙ other_kept e (flushed c w es)))))

-- with a window that holds all, nothing of the channel stays: an incoming CLOSE
pub keeps-without : (n w : ℕ) (es : List Entry) → length (queued es) ≤ w → keeps n true w es ≡ without n es
unfolding S.queued S.without
keeps-without n w [] h = keeps-nil n w true
keeps-without n w (e ∷ es) h =
    let l : length e.bytes + length (queued es) ≤ w = omega (arith, length-append e.bytes (queued es)) in
    by_test (eqb e.number n)
    (λ t. keeps_goes n w true e es (rw (t, le-leb (length e.bytes) w (omega arith))) ∙ keeps-without n (w - length e.bytes) es (omega arith) ∙ sym (without_hit n e es t))
    (λ t. keeps_stays n w true e es (rw t) ∙ rw t (rw (cut-none e, keeps-without n w es (omega arith)) (sym (without_miss n e es t))))

-- ---- the sizes

sizes-none : (c : Record) (w : ℕ) → sizes c w [] ≡ record { wrote = 0; size = 0; all = true }
unfolding sizes
sizes-none c w = refl

frames-nil : frames [] ≡ []
unfolding W.frames
frames-nil = refl

wrote-go : (c : Record) (w : ℕ) (e : Entry) (es : List Entry) → stops_by (number_of c) w e.number (length e.bytes) ≡ false
    → ((flushed c w (e ∷ es)).wrote ≡ taken_by (number_of c) w e.number (length e.bytes) + (flushed c (w - taken_by (number_of c) w e.number (length e.bytes)) es).wrote)
    × ((flushed c w (e ∷ es)).all ≡ (flushed c (w - taken_by (number_of c) w e.number (length e.bytes)) es).all)
unfolding D.keeping D.sending
wrote-go c w e es t =
    by_test (eqb e.number (number_of c))
    (λ s.
    let u : ltb w (length e.bytes) ≡ false = rw s at t in
    let h : length e.bytes ≤ w = ltb-false w (length e.bytes) u in
    rw (s, min-eq_left h, flushed-whole c w e es s (le-leb _ _ h)) (refl, refl))
    (λ s. rw (s, flushed_skip c w e es s, sub-zero w) (sym (zero-add _), refl))

pub sizes-flushed : (c : Record) (w : ℕ) (es : List Entry) → 0 < c.recipient_maximum_packet_size → sizes c w (pending_of es) ≡ size_of (flushed c w es)
unfolding R.pending_of
sizes-flushed c w [] h = sizes-none c w ∙ rw (flushed-nil c w, frames-nil)
sizes-flushed c w (e ∷ es) h =
    let p : E.Entry = record { number = record { 0 = e.number }; kind = e.kind; left = length e.bytes } in
    let m : ℕ = taken_by (number_of c) w e.number (length e.bytes) in
    let lm : length (take m e.bytes) ≡ m = length-take-le m e.bytes (taken-left (number_of c) w e.number (length e.bytes)) in
    let lp : length (frames (packets (kind_of e.kind) (peer_of c) c.recipient_maximum_packet_size (take m e.bytes))) ≡ size_by c e.kind m =
    length_run (kind_of e.kind) (peer_of c) c.recipient_maximum_packet_size (take m e.bytes) h ∙ ap (size_by c e.kind) lm in
    by_test (stops_by (number_of c) w e.number (length e.bytes))
    (λ t.
    let f = flushed-part c w e es (stop_is c w e es t) (lt-leb _ _ (stop_less c w e es t)) in
    sizes_stop c w p (pending_of es) t
    ∙ (λ j. record {
      wrote = (stop_takes c w e es t ∙ sym (ap (λ (r : Flushed). r.wrote) f)) j;
      size = sym (ap length (out_stop c w e es t) ∙ lp) j;
      all = sym (ap (λ (r : Flushed). r.all) f) j;
    }))
    (λ t.
    let ih = sizes-flushed c (w - m) es h in
    let l = length-append (frames (packets (kind_of e.kind) (peer_of c) c.recipient_maximum_packet_size (take m e.bytes))) (frames (flushed c (w - m) es).out) in
    sizes-go c w p (pending_of es) t
    ∙ ap (adds m (size_by c e.kind m)) ih
    ∙ (λ j. record {
      wrote = sym (wrote-go c w e es t).0 j;
      size = sym (ap length (out-go c w e es t) ∙ l ∙ ap (λ (z : ℕ). z + length (frames (flushed c (w - m) es).out)) lp) j;
      all = sym (wrote-go c w e es t).1 j;
    }))

-- the window falls by the bytes framed
pub window-flushed : (c : Record) (w : ℕ) (es : List Entry) → (flushed c w es).window + (flushed c w es).wrote ≡ w
unfolding D.keeping D.sending
window-flushed c w [] = rw (flushed-nil c w) (add-zero w)
window-flushed c w (e ∷ es) =
    by_test (eqb e.number (number_of c))
    (λ t. by_test (leb (length e.bytes) w)
    (λ u. rw (flushed-whole c w e es t u) (omega (arith, window-flushed c (w - length e.bytes) es, leb-true (length e.bytes) w u)))
    (λ u. rw (flushed-part c w e es t u) (zero-add w)))
    (λ t. rw (flushed_skip c w e es t) (window-flushed c w es))

-- ---- the code's arrays

drop-take_le : (m used : ℕ) (q : List ℕ) → m ≤ used → drop m (take used q) ≡ take (used - m) (drop m q)
drop-take_le m used q h =
    let e : m + (used - m) ≡ used = omega arith in
    rw e at (drop-take m (used - m) q)

-- the bytes past the used part belong to no entry
pub entries-used : (k : ℕ) (ps : List E.Entry) (q : List ℕ) (used : ℕ) → sum_left k ps ≤ used → entries_of k ps (take used q) ≡ entries_of k ps q
unfolding R.entries_of C.sum_left
entries-used zero ps q used h = refl
entries-used (suc k) [] q used h = refl
entries-used (suc k) (p ∷ ps) q used h =
    let d : drop p.left (take used q) ≡ take (used - p.left) (drop p.left q) = drop-take_le p.left used q (omega arith) in
    rw (take-take p.left used q (omega arith), d, entries-used k ps (drop p.left q) (used - p.left) (omega arith))

-- ---- Limit: a limit of 0 and no byte pending

pub any_left_lem : (n : ℕ) (es : List Entry) → any_left n (pending_of es) ≡ any_byte n es
unfolding any_left D.any_byte R.pending_of
any_left_lem n [] = refl
any_left_lem n (e ∷ es) = rw (any_left_lem n es)

empty-bytes : (n number : ℕ) (bs : List ℕ) → eqb number n ≡ true → (eqb number n && ltb 0 (length bs)) ≡ false → bs ≡ []
empty-bytes n number [] t h = refl
empty-bytes n number (b ∷ bs) t h =
    let u : ltb 0 (suc (length bs)) ≡ false = rw t at h in
    absurd (omega (arith, ltb-false 0 (suc (length bs)) u))

-- then the limit does not matter
pub flushed-limit : (c : Record) (l w : ℕ) (es : List Entry) → any_byte (number_of c) es ≡ false → flushed (with_limit c l) w es ≡ flushed c w es
unfolding D.any_byte
flushed-limit c l w [] h = flushed-nil (with_limit c l) w ∙ sym (flushed-nil c w)
flushed-limit c l w (e ∷ es) h =
    let o = or_neither (eqb e.number (number_of c) && ltb 0 (length e.bytes)) (any_byte (number_of c) es) h in
    by_test (eqb e.number (number_of c))
    (λ t.
    let z : e.bytes ≡ [] = empty-bytes (number_of c) e.number e.bytes t o.0 in
    let u : leb (length e.bytes) w ≡ true = rw z (le-leb 0 w (omega arith)) in
    let a : flushed (with_limit c l) w (e ∷ es) ≡ sending [] 0 (flushed (with_limit c l) w es) =
    flushed-whole (with_limit c l) w e es t u ∙ rw (z, packets-nil (kind_of e.kind) (peer_of c) l, sub-zero w) in
    let b : flushed c w (e ∷ es) ≡ sending [] 0 (flushed c w es) =
    flushed-whole c w e es t u ∙ rw (z, packets-nil (kind_of e.kind) (peer_of c) c.recipient_maximum_packet_size, sub-zero w) in
    a ∙ ap (sending [] 0) (flushed-limit c l w es o.1) ∙ sym b)
    (λ t. flushed_skip (with_limit c l) w e es t ∙ rw (flushed-limit c l w es o.1) (sym (flushed_skip c w e es t)))

-- no entry is passed yet
pub any_start : (n : ℕ) (es : List E.Entry) (count : ℕ) → any_left n (take count es) ≡ any_left n (ahead es count 0)
any_start n es count = rw (sub-zero count)
