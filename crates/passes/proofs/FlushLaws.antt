-- Laws of what one channel's flush frames: one turn of the loops over the entries, and their ends.
-- Assumes nothing.
use mathlib.Core.Path.{◌≡◌, refl, ap, sym, ◌∙◌}
use mathlib.Core.Bool.{Bool, true, false, cond}
use mathlib.Core.List.{List, [], ◌∷◌, ◌++◌}
use Prim.Native.Nat.{ℕ, zero, suc, min, ◌+◌, ◌-◌, ◌*◌, ◌≤◌, ◌<◌}
use native.Mathlib.Nat.{add_assoc, add-zero, zero-add, sub-zero, min-eq_left, min-eq_right, le_of_lt}
use native.Mathlib.Omega.{arith}
use borrow.Author.Tests.{le-leb, lt-leb, ltb-true, ltb-false}
use lib.Dec.{ltb, eqb}
use lib.ListN.{length, take, drop, length-append, length-drop}
use lib.Seq.{length-take-le, take-take, take-length}
use Rattle.std.proofs.lemmas.List.{get_or-take}
use Rattle.laws.proofs.Tests.{by_test, shut}
use Rattle.laws.proofs.Lists.{next}
use Rattle.octets.specs.Buf.{write}
use Rattle.octets.proofs.Laws.{write-nil, write-append, length-write}
use Rattle.frames.proofs.Packets.{packets-nil, heads_le}
use Rattle.frames.proofs.Packets as P
use Rattle.channel.specs.declared.StoredKind.{StoredKind}
use Rattle.channel.specs.declared.Entry as E
use Rattle.channel.specs.declared.Record.{Record}
use Rattle.channel.specs.Wire as W
use Rattle.channel.specs.Wire.{frames, packets}
use Rattle.channel.specs.State.{Entry, number_of, peer_of, kind_of}
use Rattle.channel.specs.Decide as D
use Rattle.channel.specs.Decide.{flushed}
use Rattle.channel.specs.Raw.{entries_of}
use Rattle.channel.specs.Sound.{sum_left}
use Rattle.channel.specs.Sound as C
use Rattle.channel.proofs.Wire.{frames-append}
use Rattle.channel.proofs.Entries.{flushed_skip, flushed-whole, flushed-part}
use Rattle.passes.specs.declared.Size.{Size}
use Rattle.passes.specs.Keep.{rest, Base}
use Rattle.passes.specs.Flush.{taken_by, stops_by, size_by, adds, sizes, Framing, Sizing}
use Rattle.passes.proofs.KeepLaws.{at, nought, entry_at, rest-cons, rest-none, rest-start, sum-cons}

-- ---- what an entry adds, as the code tests it

pub flushed-nil : (c : Record) (w : ℕ) → flushed c w [] ≡ record { out = []; wrote = 0; window = w; kept = []; all = true }
unfolding D.flushed
flushed-nil c w = refl

-- what an entry adds, and the rest, where it does not stop the flush
module _ (c : Record) (w : ℕ) (e : Entry) (es : List Entry) (t : stops_by (number_of c) w e.number (length e.bytes) ≡ false) where
  abbrev taken : ℕ
  taken = taken_by (number_of c) w e.number (length e.bytes)

  pub out-go : frames (flushed c w (e ∷ es)).out ≡ frames (packets (kind_of e.kind) (peer_of c) c.recipient_maximum_packet_size (take taken e.bytes)) ++ frames (flushed c (w - taken) es).out
  unfolding D.keeping D.sending W.frames
  out-go =
      by_test (eqb e.number (number_of c))
      (λ s.
      let u : ltb w (length e.bytes) ≡ false = rw s at t in
      let h : length e.bytes ≤ w = ltb-false w (length e.bytes) u in
      rw (s, min-eq_left h, flushed-whole c w e es s (le-leb _ _ h), take-length e.bytes)
      (frames-append (packets (kind_of e.kind) (peer_of c) c.recipient_maximum_packet_size e.bytes) (flushed c (w - length e.bytes) es).out))
      (λ s. rw (s, flushed_skip c w e es s, packets-nil (kind_of e.kind) (peer_of c) c.recipient_maximum_packet_size, sub-zero w))

module _ (c : Record) (w : ℕ) (e : Entry) (es : List Entry) (t : stops_by (number_of c) w e.number (length e.bytes) ≡ true) where
  pub stop_is : eqb e.number (number_of c) ≡ true
  stop_is = by_test (eqb e.number (number_of c)) (λ s. s) (λ s. shut _ (rw s) t)

  pub stop_less : w < length e.bytes
  stop_less = ltb-true w (length e.bytes) (rw stop_is at t)

  pub stop_takes : taken_by (number_of c) w e.number (length e.bytes) ≡ w
  stop_takes = rw (stop_is, min-eq_right (le_of_lt stop_less))

  pub out_stop : frames (flushed c w (e ∷ es)).out ≡ frames (packets (kind_of e.kind) (peer_of c) c.recipient_maximum_packet_size (take (taken_by (number_of c) w e.number (length e.bytes)) e.bytes))
  out_stop = rw (stop_takes, flushed-part c w e es stop_is (lt-leb _ _ stop_less))

pub taken-left : (n w number left : ℕ) → taken_by n w number left ≤ left
taken-left n w number left = by (eqb number n)
  where
    by : (b : Bool) → cond b (min left w) 0 ≤ left
    by true = omega arith
    by false = omega arith

pub taken-window : (n w number left : ℕ) → taken_by n w number left ≤ w
taken-window n w number left = by (eqb number n)
  where
    by : (b : Bool) → cond b (min left w) 0 ≤ w
    by true = omega arith
    by false = omega arith

-- ---- the framing pass

module _ {c : Record} {es : List E.Entry} {count : ℕ} {q : List ℕ} {start : ℕ} {dst₀ dst : List ℕ} {i off w pos : ℕ}
    (b : Base es count q (sum_left count es)) (hl : 0 < c.recipient_maximum_packet_size)
    (g : Framing c es count q start dst₀ dst i off w pos) (h : i < count)
    (m : ℕ) (em : m ≡ taken_by (number_of c) w (at es i).number.0 (at es i).left) where
  -- what the code frames of the entry
  abbrev bs : List ℕ
  bs = frames (packets (kind_of (at es i).kind) (peer_of c) c.recipient_maximum_packet_size (take (off + m - off) (drop off q)))

  pub m_left : m ≤ (at es i).left
  m_left = rw em (taken-left (number_of c) w (at es i).number.0 (at es i).left)

  pub m_window : m ≤ w
  m_window = rw em (taken-window (number_of c) w (at es i).number.0 (at es i).left)

  pub f_sums : off + (at es i).left + sum_left (count - (i + 1)) (drop (i + 1) es) ≡ sum_left count es
  f_sums = let s = sum-cons es count i h (omega (arith, b.places, b.few)) in omega (arith, g.ahead)

  f_splits : rest es count q i off ≡ entry_at (at es i) (drop off q) ∷ rest es count q (i + 1) (off + (at es i).left)
  f_splits = rest-cons es count q i off h (omega (arith, b.places, b.few))

  f_measures : length (take (at es i).left (drop off q)) ≡ (at es i).left
  f_measures = length-take-le (at es i).left (drop off q) (simp length-drop (omega (arith, f_sums, b.fits)))

  -- the entry's part is the code's part of the queue
  f_part : frames (packets (kind_of (at es i).kind) (peer_of c) c.recipient_maximum_packet_size (take m (take (at es i).left (drop off q)))) ≡ bs
  f_part =
      let e : off + m - off ≡ m = omega arith in
      rw (e, take-take m (at es i).left (drop off q) m_left)

  f_go : stops_by (number_of c) w (at es i).number.0 (at es i).left ≡ false
      → frames (flushed c w (rest es count q i off)).out ≡ bs ++ frames (flushed c (w - m) (rest es count q (i + 1) (off + (at es i).left))).out
  f_go t =
      let o = out-go c w (entry_at (at es i) (drop off q)) (rest es count q (i + 1) (off + (at es i).left)) (rw f_measures t) in
      ap (λ (r : List Entry). frames (flushed c w r).out) f_splits ∙ (rw (f_measures, ← em) at o) ∙ rw f_part

  f_stop : stops_by (number_of c) w (at es i).number.0 (at es i).left ≡ true → frames (flushed c w (rest es count q i off)).out ≡ bs
  f_stop t =
      let o = out_stop c w (entry_at (at es i) (drop off q)) (rest es count q (i + 1) (off + (at es i).left)) (rw f_measures t) in
      ap (λ (r : List Entry). frames (flushed c w r).out) f_splits ∙ (rw (f_measures, ← em) at o) ∙ f_part

  pub frame-fits : pos + length bs ≤ start + length (frames (flushed c c.recipient_window_size (entries_of count es q)).out)
  frame-fits =
      by_test (stops_by (number_of c) w (at es i).number.0 (at es i).left)
      (λ t. omega (arith, g.next, ap length (f_stop t)))
      (λ t. omega (arith, g.next, simp length-append at (ap length (f_go t))))

  pub frame-go : (left : ℕ) (l : List ℕ) (p : ℕ) → left ≡ (at es i).left → stops_by (number_of c) w (at es i).number.0 (at es i).left ≡ false → l ≡ write pos bs dst → p ≡ pos + length bs
      → Framing c es count q start dst₀ l (i + 1) (off + left) (w - m) p
  frame-go left l p ef t e1 ep =
      rw ef
      (record {
        within = omega arith;
        ahead = f_sums;
        same = ap length e1 ∙ length-write pos bs dst ∙ g.same;
        next = omega (arith, g.next, simp length-append at (ap length (f_go t)));
        bytes = g.bytes ∙ rw (f_go t, e1, ep) (write-append pos bs (frames (flushed c (w - m) (rest es count q (i + 1) (off + (at es i).left))).out) dst);
      })

  pub frame_stop : (l : List ℕ) (p : ℕ) → stops_by (number_of c) w (at es i).number.0 (at es i).left ≡ true → l ≡ write pos bs dst → p ≡ pos + length bs
      → (l ≡ write start (frames (flushed c c.recipient_window_size (entries_of count es q)).out) dst₀) × (p ≡ start + length (frames (flushed c c.recipient_window_size (entries_of count es q)).out))
  frame_stop l p t e1 ep = (e1 ∙ sym (g.bytes ∙ rw (f_stop t)), omega (arith, g.next, ap length (f_stop t)))

-- no entry is framed yet
pub frame-start : (c : Record) (es : List E.Entry) (count : ℕ) (q : List ℕ) (start : ℕ) (dst : List ℕ) → Framing c es count q start dst dst 0 0 c.recipient_window_size start
frame-start c es count q start dst =
    let e = rest-start es count q in
    record {
      within = omega arith;
      ahead = rw (sub-zero count) (zero-add _);
      same = refl;
      next = rw e;
      bytes = rw e;
    }

module _ {c : Record} {es : List E.Entry} {count : ℕ} {q : List ℕ} {start : ℕ} {dst₀ dst : List ℕ} {i off w pos : ℕ}
    (g : Framing c es count q start dst₀ dst i off w pos) (h : count ≤ i) where
  f_none : frames (flushed c w (rest es count q i off)).out ≡ []
  unfolding W.frames D.flushed
  f_none = rw (rest-none es count q i off h)

  pub frame-end : (dst ≡ write start (frames (flushed c c.recipient_window_size (entries_of count es q)).out) dst₀) × (pos ≡ start + length (frames (flushed c c.recipient_window_size (entries_of count es q)).out))
  frame-end = (sym (g.bytes ∙ rw f_none (write-nil pos dst)), omega (arith, g.next, ap length f_none))

-- ---- the size pass

-- an entry among those in use
pub at_used : (es : List E.Entry) (count i : ℕ) → i < count → at (take count es) i ≡ at es i
at_used es count i h = get_or-take count es i _ h

abbrev pub ahead : List E.Entry → ℕ → ℕ → List E.Entry
ahead es count i = take (count - i) (drop i es)

pub ahead-cons : (es : List E.Entry) (count i : ℕ) → i < count → count ≤ length es → ahead es count i ≡ at es i ∷ ahead es count (i + 1)
ahead-cons es count i h l =
    let k : count - i ≡ suc (count - (i + 1)) = omega arith in
    let d : drop i es ≡ at es i ∷ drop (i + 1) es = next es i nought (omega arith) in
    rw (k, d)

pub sizes-go : (c : Record) (w : ℕ) (p : E.Entry) (ps : List E.Entry) → stops_by (number_of c) w p.number.0 p.left ≡ false
    → sizes c w (p ∷ ps) ≡ (let m = taken_by (number_of c) w p.number.0 p.left in adds m (size_by c p.kind m) (sizes c (w - m) ps))
unfolding sizes
sizes-go c w p ps t = rw (t, sizes)

pub sizes_stop : (c : Record) (w : ℕ) (p : E.Entry) (ps : List E.Entry) → stops_by (number_of c) w p.number.0 p.left ≡ true
    → sizes c w (p ∷ ps) ≡ (let m = taken_by (number_of c) w p.number.0 p.left in record { wrote = m; size = size_by c p.kind m; all = false })
unfolding sizes
sizes_stop c w p ps t = rw (t, sizes)

pub size_le : (c : Record) (k : StoredKind) (m : ℕ) → 0 < c.recipient_maximum_packet_size → size_by c k m ≤ 18 * m
unfolding P.run_size
size_le c k m h = omega (arith, heads_le m c.recipient_maximum_packet_size (kind_of k) h)

-- no more than 18 bytes for each byte held
pub sizes_le : (k : ℕ) (c : Record) (w : ℕ) (ps : List E.Entry) → 0 < c.recipient_maximum_packet_size → ((sizes c w (take k ps)).size ≤ 18 * sum_left k ps) × ((sizes c w (take k ps)).wrote ≤ sum_left k ps)
unfolding sizes C.sum_left
sizes_le zero c w ps h = (omega arith, omega arith)
sizes_le (suc k) c w [] h = (omega arith, omega arith)
sizes_le (suc k) c w (p ∷ ps) h =
    let m : ℕ = taken_by (number_of c) w p.number.0 p.left in
    let ml : m ≤ p.left = taken-left (number_of c) w p.number.0 p.left in
    let sl : size_by c p.kind m ≤ 18 * m = size_le c p.kind m h in
    let ih = sizes_le k c (w - m) ps h in
    by_test (stops_by (number_of c) w p.number.0 p.left)
    (λ t. rw (sizes_stop c w p (take k ps) t) (omega arith, omega arith))
    (λ t. rw (sizes-go c w p (take k ps) t) (omega arith, omega arith))

module _ {es : List E.Entry} {count : ℕ} {c : Record} {i w wrote size : ℕ} (few : count ≤ length es) (hl : 0 < c.recipient_maximum_packet_size)
    (g : Sizing c es count i w wrote size) (h : i < count)
    (m s : ℕ) (em : m ≡ taken_by (number_of c) w (at es i).number.0 (at es i).left) (size_is : s ≡ size_by c (at es i).kind m) where
  size_sum : stops_by (number_of c) w (at es i).number.0 (at es i).left ≡ false
      → sizes c c.recipient_window_size (take count es) ≡ adds (wrote + m) (size + s) (sizes c (w - m) (ahead es count (i + 1)))
  size_sum t =
      let o = sizes-go c w (at es i) (ahead es count (i + 1)) t in
      let r : Size = sizes c (w - m) (ahead es count (i + 1)) in
      let e : sizes c w (ahead es count i) ≡ adds m s r = ap (sizes c w) (ahead-cons es count i h few) ∙ (rw (← em, ← size_is) at o) in
      g.whole ∙ ap (adds wrote size) e
      ∙ (λ j. record { wrote = sym (add_assoc wrote m r.wrote) j; size = sym (add_assoc size s r.size) j; all = r.all })

  pub size_stop : stops_by (number_of c) w (at es i).number.0 (at es i).left ≡ true
      → sizes c c.recipient_window_size (take count es) ≡ record { wrote = wrote + m; size = size + s; all = false }
  size_stop t =
      let o = sizes_stop c w (at es i) (ahead es count (i + 1)) t in
      let e : sizes c w (ahead es count i) ≡ record { wrote = m; size = s; all = false } = ap (sizes c w) (ahead-cons es count i h few) ∙ (rw (← em, ← size_is) at o) in
      g.whole ∙ ap (adds wrote size) e

  -- no sum passes what all entries could take
  pub size_room : (size + s ≤ 18 * sum_left count es) × (wrote + m ≤ sum_left count es)
  size_room =
      let le = sizes_le count c c.recipient_window_size es hl in
      by_test (stops_by (number_of c) w (at es i).number.0 (at es i).left)
      (λ t. (omega (arith, le.0, ap (λ (r : Size). r.size) (size_stop t)), omega (arith, le.1, ap (λ (r : Size). r.wrote) (size_stop t))))
      (λ t. (omega (arith, le.0, ap (λ (r : Size). r.size) (size_sum t)), omega (arith, le.1, ap (λ (r : Size). r.wrote) (size_sum t))))

  pub size_go : stops_by (number_of c) w (at es i).number.0 (at es i).left ≡ false → Sizing c es count (i + 1) (w - m) (wrote + m) (size + s)
  size_go t = record { within = omega arith; whole = size_sum t }

-- no entry is counted yet
pub size_start : (es : List E.Entry) (count : ℕ) (c : Record) (w : ℕ) → w ≡ c.recipient_window_size → Sizing c es count 0 w 0 0
size_start es count c w e =
    let r : Size = sizes c w (take count es) in
    let a : r ≡ adds 0 0 (sizes c w (ahead es count 0)) =
    rw (sub-zero count) (λ j. record { wrote = sym (zero-add r.wrote) j; size = sym (zero-add r.size) j; all = r.all }) in
    record { within = omega arith; whole = ap (λ (v : ℕ). sizes c v (take count es)) (sym e) ∙ a }

pub size_end : {es : List E.Entry} {count : ℕ} {c : Record} {i w wrote size : ℕ} → Sizing c es count i w wrote size → count ≤ i
    → record { wrote = wrote; size = size; all = true } ≡ sizes c c.recipient_window_size (take count es)
unfolding sizes
size_end {es} {count} {c} {i} {w} {wrote} {size} g h =
    let k : count - i ≡ 0 = omega arith in
    let e : ahead es count i ≡ [] = rw k in
    sym (g.whole ∙ rw e (λ j. record { wrote = add-zero wrote j; size = add-zero size j; all = true }))
