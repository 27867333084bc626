-- Laws of what stays: one turn of the compaction's loop, and its end.
-- Assumes nothing.
use mathlib.Core.Path.{◌≡◌, refl, ap, sym, ◌∙◌}
use mathlib.Core.Bool.{Bool, true, false, ◌&&◌, cond}
use mathlib.Core.List.{append_assoc, List, [], ◌∷◌, ◌++◌}
use Prim.Native.Nat.{ℕ, suc, ◌+◌, ◌-◌, ◌≤◌, ◌<◌}
use native.Mathlib.Nat.{add-zero, zero-add, sub-zero}
use native.Mathlib.Numerals.{add-one}
use native.Mathlib.Omega.{arith}
use borrow.Author.Tests.{leb-true, leb-false}
use lib.Dec.{leb, eqb}
use lib.ListN.{length, take, drop, set, replicate, get_or, length-set, length-append, length-drop, length-replicate}
use lib.Seq.{sets, length-take-le, drop-drop, drop-set-lt, get_or-drop, sets-eq}
use Rattle.laws.proofs.Lists.{next}
use Rattle.octets.specs.Buf as B
use Rattle.octets.specs.Buf.{write}
use Rattle.octets.proofs.Laws.{write-nil, write-append, write_eq, length-write, drop-take}
use Rattle.channel.specs.declared.Entry as E
use Rattle.channel.specs.State.{Entry, queued}
use Rattle.channel.specs.State as S
use Rattle.channel.specs.Raw.{entries_of, pending_of, zero_entry}
use Rattle.channel.specs.Raw as R
use Rattle.channel.specs.Sound.{sum_left}
use Rattle.channel.specs.Sound as C
use Rattle.channel.proofs.Written.{length-pending}
use Rattle.passes.specs.Keep.{goes_by, cut_by, still_by, cut, keeps, rest, Base, Going, queue_with, entries_with}

-- ---- arrays

-- a part that is filled
pub sets_filled : (k n : ℕ) (z : E.Entry) (es part : List E.Entry) → part ≡ replicate (length (take n (drop k es))) z → k + n ≤ length es
    → take k es ++ (part ++ drop n (drop k es)) ≡ sets es k (replicate n z)
sets_filled k n z es part e h =
    let m : length (take n (drop k es)) ≡ n = length-take-le n (drop k es) (simp length-drop (omega arith)) in
    let l : length (replicate n z) ≡ n = length-replicate n z in
    rw (e, m, drop-drop n k es) (sym (sets-eq (replicate n z) es k (omega arith) ∙ ap (λ x. take k es ++ replicate n z ++ drop (k + x) es) l ∙ append_assoc (take k es) (replicate n z) (drop (k + n) es)))

-- no place is left to clear
pub sets_zero_end : (es : List E.Entry) (count j : ℕ) (z : E.Entry) → count ≤ j → sets es j (replicate (count - j) z) ≡ es
sets_zero_end es count j z h =
    let e : count - j ≡ 0 = omega arith in
    rw e

pub drop-write : (n at : ℕ) (xs l : List ℕ) → at + length xs ≤ n → drop n (write at xs l) ≡ drop n l
unfolding B.write
drop-write n at [] l h = refl
drop-write n at (x ∷ xs) l h = drop-write n (at + 1) xs (set l at x) (omega arith) ∙ drop-set-lt n l at x (omega arith)

-- two lists alike from `off` on are alike further on
pub drop_further : {A : Type 0} (off m n : ℕ) (l k : List A) → drop off l ≡ drop off k → off + m ≡ n → drop n l ≡ drop n k
drop_further off m n l k h e = rw (← e, ← drop-drop m off l, ← drop-drop m off k, h)

pub get_d_from : (i : ℕ) (l k : List E.Entry) (d : E.Entry) → drop i l ≡ drop i k → get_or l i d ≡ get_or k i d
get_d_from i l k d h =
    let e : get_or (drop i l) 0 d ≡ get_or l (i + 0) d = get_or-drop i l 0 d in
    let f : get_or (drop i k) 0 d ≡ get_or k (i + 0) d = get_or-drop i k 0 d in
    let z : i + 0 ≡ i = add-zero i in
    rw z at (sym e ∙ ap (λ (s : List E.Entry). get_or s 0 d) h ∙ f)

-- ---- the entries that are left

abbrev pub entry_at : E.Entry → List ℕ → Entry
entry_at p bs = record { number = p.number.0; kind = p.kind; bytes = take p.left bs }

abbrev pub nought : E.Entry
nought = record { number = record { 0 = 0 }; kind = record { extended = false; code = 0 }; left = 0 }

abbrev pub at : List E.Entry → ℕ → E.Entry
at es i = get_or es i nought

pub rest-cons : (es : List E.Entry) (count : ℕ) (q : List ℕ) (i off : ℕ) → i < count → count ≤ length es
    → rest es count q i off ≡ entry_at (at es i) (drop off q) ∷ rest es count q (i + 1) (off + (at es i).left)
unfolding R.entries_of
rest-cons es count q i off h l =
    let k : count - i ≡ suc (count - (i + 1)) = omega arith in
    let d : drop i es ≡ at es i ∷ drop (i + 1) es = next es i nought (omega arith) in
    rw (k, d, drop-drop (at es i).left off q)

pub rest-none : (es : List E.Entry) (count : ℕ) (q : List ℕ) (i off : ℕ) → count ≤ i → rest es count q i off ≡ []
unfolding R.entries_of
rest-none es count q i off h =
    let k : count - i ≡ 0 = omega arith in
    rw k

pub sum-cons : (es : List E.Entry) (count i : ℕ) → i < count → count ≤ length es
    → sum_left (count - i) (drop i es) ≡ (at es i).left + sum_left (count - (i + 1)) (drop (i + 1) es)
unfolding C.sum_left
sum-cons es count i h l =
    let k : count - i ≡ suc (count - (i + 1)) = omega arith in
    let d : drop i es ≡ at es i ∷ drop (i + 1) es = next es i nought (omega arith) in
    rw (k, d)

pub keeps-nil : (n w : ℕ) (live : Bool) → keeps n live w [] ≡ []
unfolding keeps
keeps-nil n w live = refl

pub keeps_goes : (n w : ℕ) (live : Bool) (e : Entry) (es : List Entry) → goes_by n live w e.number (length e.bytes) ≡ true
    → keeps n live w (e ∷ es) ≡ keeps n live (w - length e.bytes) es
unfolding keeps
keeps_goes n w live e es t = rw (t, keeps)

pub keeps_stays : (n w : ℕ) (live : Bool) (e : Entry) (es : List Entry) → goes_by n live w e.number (length e.bytes) ≡ false
    → keeps n live w (e ∷ es) ≡ cut (cut_by n live w e.number) e ∷ keeps n (still_by n live e.number) w es
unfolding keeps
keeps_stays n w live e es t = rw (t, keeps)

-- what leaves an entry that stays is no more than it has
pub cut_le : (n w : ℕ) (live : Bool) (number left : ℕ) → goes_by n live w number left ≡ false → cut_by n live w number ≤ left
cut_le n w live number left t = by (live && eqb number n) t
  where
    by : (b : Bool) → b && leb left w ≡ false → cond b w 0 ≤ left
    by true t = omega (arith, leb-false left w t)
    by false t = omega arith

-- an entry that goes is held by the window
pub goes_le : (n w : ℕ) (live : Bool) (number left : ℕ) → goes_by n live w number left ≡ true → left ≤ w
goes_le n w live number left t = by (live && eqb number n) t
  where
    by : (b : Bool) → b && leb left w ≡ true → left ≤ w
    by true t = leb-true left w t
    by false t = let z : ◌≡◌ {A = ℕ} 0 1 = cc in absurd (omega arith)

module _ {es₀ : List E.Entry} {count : ℕ} {q₀ : List ℕ} {used n : ℕ} {ks : List Entry}
    {es : List E.Entry} {q : List ℕ} {i k off to w : ℕ} {live : Bool}
    (b : Base es₀ count q₀ used) (g : Going es₀ count q₀ used n ks es q i k off to w live) (h : i < count) where
  -- the place is as it was, and its bytes lie in the queue
  pub same_place : at es i ≡ at es₀ i
  same_place = get_d_from i es es₀ nought g.rest_e

  pub sums : off + (at es i).left + sum_left (count - (i + 1)) (drop (i + 1) es₀) ≡ used
  sums =
      let s = sum-cons es₀ count i h (omega arith) in
      let e : (at es i).left ≡ (at es₀ i).left = ap (λ (p : E.Entry). p.left) same_place in
      omega arith

  pub splits : rest es₀ count q₀ i off ≡ entry_at (at es i) (drop off q₀) ∷ rest es₀ count q₀ (i + 1) (off + (at es i).left)
  splits = rw same_place (rest-cons es₀ count q₀ i off h (omega arith))

  pub measures : length (take (at es i).left (drop off q₀)) ≡ (at es i).left
  measures = length-take-le (at es i).left (drop off q₀) (simp length-drop (omega (arith, sums)))

  pub step_goes : goes_by n live w (at es i).number.0 (at es i).left ≡ true
      → Going es₀ count q₀ used n ks es q (i + 1) k (off + (at es i).left) to (w - (at es i).left) live
  step_goes t =
      let x : Entry = entry_at (at es i) (drop off q₀) in
      let r : List Entry = rest es₀ count q₀ (i + 1) (off + (at es i).left) in
      let e : keeps n live w (rest es₀ count q₀ i off) ≡ keeps n live (w - (at es i).left) r =
      ap (keeps n live w) splits ∙ keeps_goes n w live x r (rw measures t) ∙ ap (λ (m : ℕ). keeps n live (w - m) r) measures in
      record {
        within = omega arith;
        behind = omega (arith, g.behind);
        lower = omega (arith, g.lower);
        ahead = sums;
        same_q = g.same_q;
        same_e = g.same_e;
        rest_q = drop_further off (at es i).left (off + (at es i).left) q q₀ g.rest_q refl;
        rest_e = drop_further i 1 (i + 1) es es₀ g.rest_e refl;
        bytes = rw e at g.bytes;
        places = rw e at g.places;
        kept = rw e at g.kept;
        room = rw e at g.room;
      }

  -- the same, for the code's number of its bytes
  pub goes_by_lem : (left : ℕ) → left ≡ (at es i).left → goes_by n live w (at es i).number.0 (at es i).left ≡ true
      → Going es₀ count q₀ used n ks es q (i + 1) k (off + left) to (w - left) live
  goes_by_lem left el t = rw el (step_goes t)

  -- the entry stays, less the bytes that leave it, which are moved down
  pub step_stays : (d keep : ℕ) → goes_by n live w (at es i).number.0 (at es i).left ≡ false → d ≡ cut_by n live w (at es i).number.0 → keep ≡ (at es i).left - d
      → Going es₀ count q₀ used n ks
      (set es k (record { number = (at es i).number; kind = (at es i).kind; left = keep }))
      (write to (take keep (drop (to + (off + d - to)) q)) q)
      (i + 1) (k + 1) (off + (at es i).left) (to + keep) w (still_by n live (at es i).number.0)
  unfolding S.queued R.pending_of cut
  step_stays d keep t ed ek =
      let p : E.Entry = at es i in
      let x : Entry = entry_at p (drop off q₀) in
      let r : List Entry = rest es₀ count q₀ (i + 1) (off + p.left) in
      let K : List Entry = keeps n (still_by n live p.number.0) w r in
      let B : List ℕ = drop d (take p.left (drop off q₀)) in
      let le : d ≤ p.left = rw ed (cut_le n w live p.number.0 p.left t) in
      let sm : off + p.left + sum_left (count - (i + 1)) (drop (i + 1) es₀) ≡ used = sums in
      let e : keeps n live w (rest es₀ count q₀ i off) ≡ cut d x ∷ K =
      ap (keeps n live w) splits ∙ keeps_stays n w live x r (rw measures t) ∙ rw ed in
      let l_b : length B ≡ keep = length-drop d (take p.left (drop off q₀)) ∙ rw (measures, ek) in
      let e1 : to + (off + d - to) ≡ off + d = omega (arith, g.lower) in
      let e2 : p.left ≡ d + keep = omega arith in
      let m : take keep (drop (to + (off + d - to)) q) ≡ B =
      rw (e1, drop_further off d (off + d) q q₀ g.rest_q refl, e2, drop-take d keep (drop off q₀), drop-drop d off q₀) in
      let f_q : drop (off + p.left) (write to B q) ≡ drop (off + p.left) q = drop-write (off + p.left) to B q (omega (arith, g.lower)) in
      let f_e : drop (i + 1) (set es k (record { number = p.number; kind = p.kind; left = keep })) ≡ drop (i + 1) es = drop-set-lt (i + 1) es k _ (omega (arith, g.behind)) in
      rw m
      (record {
        within = omega arith;
        behind = omega (arith, g.behind);
        lower = omega (arith, g.lower);
        ahead = sums;
        same_q = length-write to B q ∙ g.same_q;
        same_e = length-set es k _ ∙ g.same_e;
        rest_q = f_q ∙ drop_further off p.left (off + p.left) q q₀ g.rest_q refl;
        rest_e = f_e ∙ drop_further i 1 (i + 1) es es₀ g.rest_e refl;
        bytes = g.bytes ∙ rw (e, write-append to B (queued K) q, l_b);
        places = g.places ∙ rw (e, l_b, add-one k);
        kept = omega (arith, g.kept, ap length e);
        room = omega (arith, g.room, ap (λ (l : List Entry). length (queued l)) e, length-append B (queued K));
      })

  -- the same, for what the calls of a turn ensure
  pub stays_by : (left d keep : ℕ) (x : E.Entry) (l : List ℕ) (more : Bool) → goes_by n live w (at es i).number.0 (at es i).left ≡ false
      → left ≡ (at es i).left → d ≡ cut_by n live w (at es i).number.0 → keep ≡ left - d
      → x ≡ record { number = (at es i).number; kind = (at es i).kind; left = keep }
      → l ≡ write to (take keep (drop (to + (off + d - to)) q)) q
      → more ≡ still_by n live (at es i).number.0
      → Going es₀ count q₀ used n ks (set es k x) l (i + 1) (k + 1) (off + left) (to + keep) w more
  stays_by left d keep x l more t ef ed ek ex el em = rw (ex, el, em, ef) (step_stays d keep t ed (ek ∙ ap (λ (m : ℕ). m - d) ef))

pub sets_append : (xs ys l : List E.Entry) (i : ℕ) → sets l i (xs ++ ys) ≡ sets (sets l i xs) (i + length xs) ys
sets_append [] ys l i = rw (add-zero i)
sets_append (x ∷ xs) ys l i =
    let e : i + suc (length xs) ≡ suc i + length xs = omega arith in
    rw e (sets_append xs ys (set l i x) (suc i))

pub rest-start : (es : List E.Entry) (count : ℕ) (q : List ℕ) → rest es count q 0 0 ≡ entries_of count es q
rest-start es count q = rw (sub-zero count)

-- no place is done
pub going_start : (es₀ : List E.Entry) (count : ℕ) (q₀ : List ℕ) (used n w : ℕ) → Base es₀ count q₀ used
    → Going es₀ count q₀ used n (keeps n true w (entries_of count es₀ q₀)) es₀ q₀ 0 0 0 0 w true
going_start es₀ count q₀ used n w b =
    let e = rest-start es₀ count q₀ in
    record {
      within = omega arith;
      behind = omega arith;
      lower = omega arith;
      ahead = rw (sub-zero count) (zero-add _ ∙ b.total);
      same_q = refl;
      same_e = b.places;
      rest_q = refl;
      rest_e = refl;
      bytes = rw e;
      places = rw e;
      kept = rw e (zero-add _);
      room = rw e (zero-add _);
    }

-- a front and a tail, written one after the other
pub front_write : (xs zs l : List ℕ) (used : ℕ) → length xs + length zs ≡ used → used ≤ length l
    → write (length xs) zs (write 0 xs l) ≡ xs ++ zs ++ drop used l
front_write xs zs l used e h =
    let a : write 0 (xs ++ zs) l ≡ write (0 + length xs) zs (write 0 xs l) = write-append 0 xs zs l in
    let y : 0 + length (xs ++ zs) ≡ used = omega (arith, length-append xs zs) in
    let v : write 0 (xs ++ zs) l ≡ (xs ++ zs) ++ drop (0 + length (xs ++ zs)) l = write_eq 0 (xs ++ zs) l (omega arith) in
    sym (rw (zero-add (length xs)) at a) ∙ v ∙ rw y

pub front_sets : (xs zs l : List E.Entry) (used : ℕ) → length xs + length zs ≡ used → used ≤ length l
    → sets (sets l 0 xs) (length xs) zs ≡ xs ++ zs ++ drop used l
front_sets xs zs l used e h =
    let a : sets l 0 (xs ++ zs) ≡ sets (sets l 0 xs) (0 + length xs) zs = sets_append xs zs l 0 in
    let y : 0 + length (xs ++ zs) ≡ used = omega (arith, length-append xs zs) in
    let v : sets l 0 (xs ++ zs) ≡ (xs ++ zs) ++ drop (0 + length (xs ++ zs)) l = sets-eq (xs ++ zs) l 0 (omega arith) in
    sym (rw (zero-add (length xs)) at a) ∙ v ∙ rw y

module _ {es₀ : List E.Entry} {count : ℕ} {q₀ : List ℕ} {used n : ℕ} {ks : List Entry}
    {es : List E.Entry} {q : List ℕ} {i k off to w : ℕ} {live : Bool}
    (b : Base es₀ count q₀ used) (g : Going es₀ count q₀ used n ks es q i k off to w live) (h : count ≤ i) where
  none : keeps n live w (rest es₀ count q₀ i off) ≡ []
  none = ap (keeps n live w) (rest-none es₀ count q₀ i off h) ∙ keeps-nil n w live

  pub end_count : k ≡ length ks
  end_count = omega (arith, g.kept, ap length none)

  pub end_used : to ≡ length (queued ks)
  unfolding S.queued
  end_used = omega (arith, g.room, ap (λ (l : List Entry). length (queued l)) none)

  pub end_below : to ≤ used
  end_below = omega (arith, g.lower, g.ahead)

  pub end_places : k ≤ count
  end_places = omega (arith, g.behind, g.within)

  same_queue : write 0 (queued ks) q₀ ≡ q
  unfolding S.queued
  same_queue = g.bytes ∙ rw none (write-nil to q)

  same_entries : sets es₀ 0 (pending_of ks) ≡ es
  unfolding R.pending_of
  same_entries = g.places ∙ rw none

  pub end_queue : write to (replicate (used - to) 0) q ≡ queue_with ks used q₀
  unfolding queue_with
  end_queue =
      let eb : to ≤ used = end_below in
      rw (end_used, ← same_queue)
      (front_write (queued ks) (replicate (used - length (queued ks)) 0) q₀ used
      (rw (length-replicate {A = ℕ} (used - length (queued ks)) 0) (omega (arith, end_used))) b.fits)

  pub end_entries : sets es k (replicate (count - k) zero_entry) ≡ entries_with ks count es₀
  unfolding entries_with
  end_entries =
      let eb : k ≤ count = end_places in
      rw (end_count, ← same_entries, ← length-pending ks)
      (front_sets (pending_of ks) (replicate (count - length (pending_of ks)) zero_entry) es₀ count
      (rw (length-replicate (count - length (pending_of ks)) zero_entry) (omega (arith, end_count, length-pending ks))) (omega (arith, b.few, b.places)))
