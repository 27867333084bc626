-- What a sound state is written as is sound, and a call on it is the rules' step.
-- Assumes nothing.
use Prim.Native.Nat.{ℕ, zero, suc, ◌+◌, ◌-◌, ◌*◌, ◌/◌, ◌%◌, ◌≤◌, ◌<◌}
use mathlib.Core.Path.{◌≡◌, refl, sym, ap, ◌∙◌}
use mathlib.Core.Bool.{true, ◌&&◌, ◌||◌, not, true≢false}
use mathlib.Core.List.{List, [], ◌∷◌, ◌++◌}
use lib.ListN.{length, drop, replicate, length-append}
use lib.Seq.{take-append_seam, drop-append_seam}
use lib.Dec.{leb, ltb, eqb}
use native.Mathlib.Omega.{arith}
use borrow.Author.Tests.{eqb-true, eq-eqb, ne_eqb, le-leb, lt-ltb}
use Rattle.laws.specs.Clauses.{every}
use Rattle.laws.proofs.Tests.{by_test, or_second, implies}
use Rattle.channel.specs.declared.Record.{Record}
use Rattle.channel.specs.declared.Entry as E
use Rattle.channel.specs.Wire.{read32, uint32, frame, frames}
use Rattle.channel.specs.State.{most_entries, most_bytes, number_of, Place, vacant, holds, Entry, World, Found, nowhere, found, look, is_used, any_entry, queued}
use Rattle.channel.specs.Call.{Call}
use Rattle.channel.specs.Step.{step}
use Rattle.channel.specs.Raw.{zero_record, zero_entry, word_of, records_of, pending_of, written}
use Rattle.channel.specs.Sound.{is_zero, is_zero_entry, unused_zero, entries_zero, distinct, found_confirmed, all_named, sum_left, is_marked, all_marked, whole_frames, is_sound}
use Rattle.channel.specs.Called.{when_sound, called}
use Rattle.channel.proofs.Wire.{NoneEmpty, length-frames, read_uint32}
use Rattle.channel.proofs.Lookup.{Apart, nothing-found, look_hit, look_miss, look_unused}
use Rattle.channel.proofs.Entries.{own, any_own}
use Rattle.channel.proofs.Sound.{fine_at, SoundTable, Sound, fine_of}
use Rattle.channel.proofs.Clauses.{by_clauses}
use Rattle.channel.proofs.Meaning.{four_more, meaning-written}

-- PLACES AND ENTRIES

unused_written : (ps : List Place) → unused_zero (word_of ps) (records_of ps) ≡ true
unfolding unused_zero word_of records_of zero_record is_zero every
unused_written [] = refl
unused_written (vacant ∷ ps) =
    let d : word_of ps * 2 / 2 ≡ word_of ps = omega arith in
    rw (ne_eqb (word_of ps * 2 % 2) 1 (λ e. omega arith), d) (unused_written ps)
unused_written (holds c ∷ ps) =
    let d : (word_of ps * 2 + 1) / 2 ≡ word_of ps = omega arith in
    rw (eq-eqb ((word_of ps * 2 + 1) % 2) 1 (omega arith), d) (unused_written ps)

pub length-pending : (es : List Entry) → length (pending_of es) ≡ length es
unfolding pending_of
length-pending [] = refl
length-pending (e ∷ es) = ap suc (length-pending es)

zeros : (n : ℕ) → entries_zero (replicate n zero_entry) ≡ true
unfolding entries_zero is_zero_entry zero_entry every
zeros zero = refl
zeros (suc n) = rw (zeros n)

drop-pending : (es : List Entry) (pad : List E.Entry) → drop (length es) (pending_of es ++ pad) ≡ pad
drop-pending es pad = ap (λ n. drop n (pending_of es ++ pad)) (sym (length-pending es)) ∙ drop-append_seam (pending_of es) pad

sum-written : (es : List Entry) (pad : List E.Entry) → sum_left (length es) (pending_of es ++ pad) ≡ length (queued es)
unfolding sum_left pending_of queued
sum-written [] pad = refl
sum-written (e ∷ es) pad = rw (sum-written es pad) (sym (length-append e.bytes (queued es)))

distinct_apart : (ps : List Place) → Apart ps → distinct ps ≡ true
unfolding Apart distinct
distinct_apart [] a = refl
distinct_apart (vacant ∷ ps) a = distinct_apart ps a
distinct_apart (holds c ∷ ps) a = rw a.0 (distinct_apart ps a.1)

all_named_lem : (ps : List Place) (es : List Entry) → ((n : ℕ) → any_entry n es ≡ true → found_confirmed (look n ps) ≡ true) → all_named ps es ≡ true
unfolding all_named any_entry
all_named_lem ps [] f = refl
all_named_lem ps (e ∷ es) f = rw (f e.number (rw (eq-eqb e.number e.number refl))) (all_named_lem ps es (λ n h. f n (or_second (eqb e.number n) h)))

named_one : (ps : List Place) (es : List Entry) → SoundTable ps es → (n : ℕ) → any_entry n es ≡ true → found_confirmed (look n ps) ≡ true
unfolding fine_at found_confirmed
named_one ps es s n a = at (look n ps) (s.each n)
  where
    at : (o : Found) → fine_at o (own n es) ≡ true → found_confirmed o ≡ true
    at nowhere e = absurd (true≢false (sym e ∙ ap not (sym (any_own n es) ∙ a)))
    at (found c) e = (fine_of c _ e).named (sym (any_own n es) ∙ a)

all-marked : (es : List Entry) (ps : List Place) → Apart ps → ((n : ℕ) (c : Record) → look n ps ≡ found c → not (is_marked c) || any_entry n es ≡ true) → all_marked es ps ≡ true
unfolding all_marked Apart
all-marked es [] a f = refl
all-marked es (vacant ∷ ps) a f = all-marked es ps a (λ n c e. f n c (unfold look in e))
all-marked es (holds c ∷ ps) a f = rw (f (number_of c) c (look_hit (number_of c) c ps (eq-eqb (number_of c) (number_of c) refl)), all-marked es ps a.1 tail)
  where
    tail : (n : ℕ) (d : Record) → look n ps ≡ found d → not (is_marked d) || any_entry n es ≡ true
    tail n d h =
        by_test (eqb (number_of c) n)
        (λ t. nothing-found d (sym (look_unused n ps (ap (λ m. is_used m ps) (sym (eqb-true (number_of c) n t)) ∙ a.0)) ∙ h))
        (λ t. f n d (look_miss n c ps t ∙ h))

marked_one : (ps : List Place) (es : List Entry) → SoundTable ps es → (n : ℕ) (c : Record) → look n ps ≡ found c → not (is_marked c) || any_entry n es ≡ true
unfolding fine_at
marked_one ps es s n c e = implies _ _ (λ m. any_own n es ∙ (fine_of c _ (sym (ap (λ x. fine_at x (own n es)) e) ∙ s.each n)).marked m)

-- FRAMES

pub whole-at : (k b : ℕ) (bs : List ℕ) → ltb 0 (read32 (b ∷ bs)) && leb (4 + read32 (b ∷ bs)) (length (b ∷ bs)) ≡ true → whole_frames (suc k) (b ∷ bs) ≡ whole_frames k (drop (4 + read32 (b ∷ bs)) (b ∷ bs))
unfolding whole_frames
whole-at k b bs t = rw (whole_frames, t)

whole_one : (k : ℕ) (p bs : List ℕ) → 1 ≤ length p → length p < 4294967296 → whole_frames (suc k) (frame p ++ bs) ≡ whole_frames k bs
unfolding frame uint32
whole_one k p bs f h =
    let r : read32 (uint32 (length p) ++ (p ++ bs)) ≡ length p = read_uint32 (length p) (p ++ bs) h in
    let d : drop (4 + length p) (frame p ++ bs) ≡ bs = rw four_more (drop-append_seam p bs) in
    let l : leb (4 + length p) (length (frame p ++ bs)) ≡ true = le-leb (4 + length p) (length (frame p ++ bs)) (omega (arith, length-append p bs)) in
    whole-at k _ _ (rw (r, lt-ltb 0 (length p) f) l) ∙ rw r (ap (whole_frames k) d)

whole-written : (ps : List (List ℕ)) (k : ℕ) → NoneEmpty ps → length (frames ps) < 4294967296 → whole_frames k (frames ps) ≡ true
unfolding frames NoneEmpty
whole-written [] zero f h = unfold whole_frames in refl
whole-written [] (suc k) f h = unfold whole_frames in refl
whole-written (p ∷ ps) zero f h = unfold whole_frames in refl
whole-written (p ∷ ps) (suc k) f h =
    let e = length-frames p ps in
    whole_one k p (frames ps) f.0 (omega arith) ∙ whole-written ps k f.1 (omega arith)

-- THE THEOREM: written soundly
pub written-sound : (w : World) → Sound w → is_sound (written w) ≡ true
written-sound w s = by_clauses (written w) (unfold written in
    let es = w.table.entries in
    let ps = w.table.places in
    let pad = replicate (most_entries - length es) zero_entry in
    let q = length-append (queued es) w.queue_rest in
    let t = length-append (frames w.staged) w.staged_rest in
    let u = length-append w.sent w.sent_rest in
    record {
      queue_long = le-leb (length (written w).queue) most_bytes (omega (arith, s.queue));
      staged_long = le-leb (length (written w).staged) most_bytes (omega (arith, s.staged_size));
      sent_long = le-leb (length (written w).sent) most_bytes (omega (arith, s.sent_size));
      queue_used = le-leb (written w).held.queue_used (length (written w).queue) (omega arith);
      staged_used = le-leb (written w).held.staged_used (length (written w).staged) (omega arith);
      sent_used = le-leb (written w).held.sent_used (length (written w).sent) (omega arith);
      few = le-leb (length es) most_entries s.few;
      places = unused_written ps;
      entries = ap entries_zero (drop-pending es pad) ∙ zeros (most_entries - length es);
      apart = rw (meaning-written w s) (distinct_apart ps s.table.apart);
      named = rw (meaning-written w s) (all_named_lem ps es (named_one ps es s.table));
      sum = eq-eqb (sum_left (length es) (pending_of es ++ pad)) (length (queued es)) (sum-written es pad);
      marked = rw (meaning-written w s) (all-marked es ps s.table.apart (marked_one ps es s.table));
      whole = ap (whole_frames (length (frames w.staged))) (take-append_seam (frames w.staged) w.staged_rest) ∙ whole-written w.staged (length (frames w.staged)) s.whole (omega (arith, s.staged_size));
    })

-- THE THEOREM: a call on it is the rules' step
pub called-written : (w : World) (c : Call) → Sound w → called (written w) c ≡ record { answer = (step w c).answer; state = written (step w c).world }
unfolding called when_sound
called-written w c s = rw (written-sound w s, meaning-written w s)
