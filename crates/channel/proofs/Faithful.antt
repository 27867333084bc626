-- A sound state of the code is what its meaning is written as, and its meaning is sound.
-- Assumes nothing.
use Prim.Native.Nat.{ℕ, zero, suc, ◌+◌, ◌-◌, ◌*◌, ◌/◌, ◌%◌, ◌^◌, ◌≤◌, ◌<◌}
use mathlib.Core.Path.{◌≡◌, refl, sym, ap, ap₂, ◌∙◌}
use mathlib.Core.Bool.{true, false, ◌&&◌, ◌||◌, not, true≢false}
use mathlib.Core.List.{List, [], ◌∷◌, ◌++◌}
use lib.ListN.{length, take, drop, replicate, length-append, length-take, length-drop, take-append-drop}
use lib.Seq.{take-add, take_all, length-take-le, get_or-drop}
use lib.Dec.{leb, ltb, eqb}
use native.Mathlib.Omega.{arith}
use native.Mathlib.Nat.{pow-suc}
use borrow.Author.Tests.{eqb-true, eqb-false, leb-true, ltb-true, not-true}
use Rattle.laws.proofs.Tests.{by_test, shut, and_both, implied}
use Rattle.laws.proofs.Clauses.{AllTrue, every_of}
use Rattle.channel.specs.declared.Record.{Record}
use Rattle.channel.specs.declared.Entry as E
use Rattle.channel.specs.Wire.{read32, uint32, frame, frames}
use Rattle.channel.specs.State.{most_entries, most_bytes, number_of, Place, vacant, holds, Entry, World, Found, nowhere, found, look, is_used, any_entry, queued}
use Rattle.channel.specs.Raw.{Raw, places_of, entries_of, messages_of, meaning, zero_record, zero_entry, word_of, records_of, pending_of, written}
use Rattle.channel.specs.Sound.{is_zero, is_zero_entry, unused_zero, entries_zero, distinct, found_confirmed, all_named, sum_left, is_marked, all_marked, whole_frames, is_sound}
use Rattle.channel.specs.Called.{AllBytes, Typed}
use Rattle.channel.proofs.Wire.{NoneEmpty, uint32_read}
use Rattle.channel.proofs.Lookup.{Apart, nothing-found, look_hit, look_miss}
use Rattle.channel.proofs.Entries.{own, some, any_own}
use Rattle.channel.proofs.Sound.{fine_at, Sound, fine-is}
use Rattle.channel.proofs.Clauses.{clauses}
use Rattle.channel.proofs.Written.{whole-at}

-- THE PLACES

zero_is : (r : Record) → is_zero r ≡ true → zero_record ≡ r
unfolding is_zero zero_record AllTrue
zero_is r e =
    let f = every_of (_ ∷ _ ∷ _ ∷ _ ∷ _ ∷ _ ∷ _ ∷ _ ∷ _ ∷ _ ∷ []) e in
    λ i. record {
      sender_channel = record { 0 = sym (eqb-true r.sender_channel.0 0 f.0) i };
      recipient_channel = record { 0 = sym (eqb-true r.recipient_channel.0 0 f.1.0) i };
      confirmed = sym (not-true r.confirmed f.1.1.0) i;
      sender_window_size = sym (eqb-true r.sender_window_size 0 f.1.1.1.0) i;
      sender_maximum_packet_size = sym (eqb-true r.sender_maximum_packet_size 0 f.1.1.1.1.0) i;
      recipient_window_size = sym (eqb-true r.recipient_window_size 0 f.1.1.1.1.1.0) i;
      recipient_maximum_packet_size = sym (eqb-true r.recipient_maximum_packet_size 0 f.1.1.1.1.1.1.0) i;
      wants_reply = sym (not-true r.wants_reply f.1.1.1.1.1.1.1.0) i;
      pending_eof = sym (not-true r.pending_eof f.1.1.1.1.1.1.1.1.0) i;
      pending_close = sym (not-true r.pending_close f.1.1.1.1.1.1.1.1.1.0) i;
    }

pub places_hit : (w : ℕ) (r : Record) (rs : List Record) → eqb (w % 2) 1 ≡ true → places_of w (r ∷ rs) ≡ holds r ∷ places_of (w / 2) rs
unfolding places_of
places_hit w r rs t = rw t

pub places_miss : (w : ℕ) (r : Record) (rs : List Record) → eqb (w % 2) 1 ≡ false → places_of w (r ∷ rs) ≡ vacant ∷ places_of (w / 2) rs
unfolding places_of
places_miss w r rs t = rw t

-- 2 to the length
span : List Record → ℕ
span [] = 1
span (r ∷ rs) = span rs * 2

span_32 : (rs : List Record) → span rs ≡ 2 ^ length rs
unfolding span
span_32 [] = refl
span_32 (r ∷ rs) = rw (span_32 rs) (sym (pow-suc 2 (length rs)))

word_back : (rs : List Record) (w : ℕ) → w < span rs → word_of (places_of w rs) ≡ w
unfolding word_of span places_of
word_back [] w h = omega arith
word_back (r ∷ rs) w h =
    by_test (eqb (w % 2) 1)
    (λ t. let e = eqb-true (w % 2) 1 t in rw (places_hit w r rs t, word_back rs (w / 2) (omega arith)) (omega arith))
    (λ t. let e = eqb-false (w % 2) 1 t in rw (places_miss w r rs t, word_back rs (w / 2) (omega arith)) (omega arith))

records_back : (rs : List Record) (w : ℕ) → unused_zero w rs ≡ true → records_of (places_of w rs) ≡ rs
unfolding records_of unused_zero places_of
records_back [] w u = refl
records_back (r ∷ rs) w u =
    let b = and_both (eqb (w % 2) 1 || is_zero r) (unused_zero (w / 2) rs) u in
    by_test (eqb (w % 2) 1)
    (λ t. rw (places_hit w r rs t) (ap (λ l. r ∷ l) (records_back rs (w / 2) b.1)))
    (λ t. rw (places_miss w r rs t) (ap₂ (λ x l. x ∷ l) (zero_is r (rw t at b.0)) (records_back rs (w / 2) b.1)))

pub length-places : (rs : List Record) (w : ℕ) → length (places_of w rs) ≡ length rs
unfolding places_of
length-places [] w = refl
length-places (r ∷ rs) w = ap suc (length-places rs (w / 2))

-- THE ENTRIES

pub length-entries : (k : ℕ) (ps : List E.Entry) (bs : List ℕ) → k ≤ length ps → length (entries_of k ps bs) ≡ k
unfolding entries_of
length-entries zero ps bs h = refl
length-entries (suc k) [] bs h = absurd (omega arith)
length-entries (suc k) (p ∷ ps) bs h = ap suc (length-entries k ps (drop p.left bs) (omega arith))

pub pending_back : (k : ℕ) (ps : List E.Entry) (bs : List ℕ) → k ≤ length ps → sum_left k ps ≤ length bs → pending_of (entries_of k ps bs) ≡ take k ps
unfolding entries_of pending_of sum_left
pending_back zero ps bs h l = refl
pending_back (suc k) [] bs h l = absurd (omega arith)
pending_back (suc k) (p ∷ ps) bs h l =
    let e : length (take p.left bs) ≡ p.left = length-take-le p.left bs (omega arith) in
    let d = length-drop p.left bs in
    λ i. record { number = p.number; kind = p.kind; left = e i } ∷ pending_back k ps (drop p.left bs) (omega arith) (omega arith) i

pub queued_back : (k : ℕ) (ps : List E.Entry) (bs : List ℕ) → k ≤ length ps → queued (entries_of k ps bs) ≡ take (sum_left k ps) bs
unfolding entries_of queued sum_left
queued_back zero ps bs h = refl
queued_back (suc k) [] bs h = absurd (omega arith)
queued_back (suc k) (p ∷ ps) bs h = ap (λ l. take p.left bs ++ l) (queued_back k ps (drop p.left bs) (omega arith)) ∙ sym (take-add p.left (sum_left k ps) bs)

zero-entry-is : (p : E.Entry) → is_zero_entry p ≡ true → zero_entry ≡ p
unfolding is_zero_entry zero_entry AllTrue
zero-entry-is p e =
    let f = every_of (_ ∷ _ ∷ _ ∷ _ ∷ []) e in
    λ i. record {
      number = record { 0 = sym (eqb-true p.number.0 0 f.0) i };
      kind = record { extended = sym (not-true p.kind.extended f.1.0) i; code = sym (eqb-true p.kind.code 0 f.1.1.0) i };
      left = sym (eqb-true p.left 0 f.1.1.1.0) i;
    }

padding : (ps : List E.Entry) → entries_zero ps ≡ true → replicate (length ps) zero_entry ≡ ps
unfolding entries_zero
padding [] e = refl
padding (p ∷ ps) e =
    let b = and_both (is_zero_entry p) (entries_zero ps) e in
    ap₂ (λ x xs. x ∷ xs) (zero-entry-is p b.0) (padding ps b.1)

-- STAGED

frame_back : (bs : List ℕ) → AllBytes bs → 4 + read32 bs ≤ length bs → frame (take (read32 bs) (drop 4 bs)) ≡ take (4 + read32 bs) bs
unfolding AllBytes frame
frame_back [] f l = absurd (omega arith)
frame_back (a ∷ []) f l = absurd (omega arith)
frame_back (a ∷ b ∷ []) f l = absurd (omega arith)
frame_back (a ∷ b ∷ c ∷ []) f l = absurd (omega arith)
frame_back (a ∷ b ∷ c ∷ d ∷ bs) f l =
    let n = read32 (a ∷ b ∷ c ∷ d ∷ bs) in
    let e : length (take n bs) ≡ n = length-take-le n bs (omega arith) in
    let m : 4 + n ≡ suc (suc (suc (suc n))) = omega arith in
    ap (λ q. uint32 q ++ take n bs) e ∙ ap (λ q. q ++ take n bs) (uint32_read a b c d bs (f 0) (f 1) (f 2) (f 3)) ∙ ap (λ q. take q (a ∷ b ∷ c ∷ d ∷ bs)) (sym m)

pub whole-not : (k b : ℕ) (bs : List ℕ) → ltb 0 (read32 (b ∷ bs)) && leb (4 + read32 (b ∷ bs)) (length (b ∷ bs)) ≡ false → whole_frames (suc k) (b ∷ bs) ≡ false
unfolding whole_frames
whole-not k b bs t = rw (whole_frames, t)

-- the front of whole frames is a frame
whole_front : (k b : ℕ) (bs : List ℕ) → whole_frames (suc k) (b ∷ bs) ≡ true → ltb 0 (read32 (b ∷ bs)) && leb (4 + read32 (b ∷ bs)) (length (b ∷ bs)) ≡ true
whole_front k b bs e = by_test (ltb 0 (read32 (b ∷ bs)) && leb (4 + read32 (b ∷ bs)) (length (b ∷ bs))) (λ x. x) (λ x. shut _ (whole-not k b bs x) e)

bytes_drop : (n : ℕ) (bs : List ℕ) → AllBytes bs → AllBytes (drop n bs)
unfolding AllBytes
bytes_drop n bs f i = rw (get_or-drop n bs i 0) (f (n + i))

bytes_take : (n : ℕ) (bs : List ℕ) → AllBytes bs → AllBytes (take n bs)
unfolding AllBytes
bytes_take zero bs f i = omega arith
bytes_take (suc n) [] f i = f i
bytes_take (suc n) (b ∷ bs) f zero = f 0
bytes_take (suc n) (b ∷ bs) f (suc i) = bytes_take n bs (λ j. f (suc j)) i

pub frames_back : (k : ℕ) (bs : List ℕ) → AllBytes bs → length bs ≤ k → whole_frames k bs ≡ true → frames (messages_of k bs) ≡ bs
unfolding messages_of frames
frames_back zero [] f l e = refl
frames_back zero (b ∷ bs) f l e = absurd (omega arith)
frames_back (suc k) [] f l e = refl
frames_back (suc k) (b ∷ bs) f l e =
    let t = whole_front k b bs e in
    let h = leb-true (4 + read32 (b ∷ bs)) (length (b ∷ bs)) (and_both (ltb 0 (read32 (b ∷ bs))) _ t).1 in
    let m = length-drop (4 + read32 (b ∷ bs)) (b ∷ bs) in
    ap₂ (λ x y. x ++ y) (frame_back (b ∷ bs) f h)
    (frames_back k (drop (4 + read32 (b ∷ bs)) (b ∷ bs)) (bytes_drop (4 + read32 (b ∷ bs)) (b ∷ bs) f) (omega arith) (sym (whole-at k b bs t) ∙ e))
    ∙ take-append-drop (4 + read32 (b ∷ bs)) (b ∷ bs)

none-empty : (k : ℕ) (bs : List ℕ) → whole_frames k bs ≡ true → NoneEmpty (messages_of k bs)
unfolding messages_of NoneEmpty
none-empty zero bs e = tt
none-empty (suc k) [] e = tt
none-empty (suc k) (b ∷ bs) e =
    let t = whole_front k b bs e in
    let u = and_both (ltb 0 (read32 (b ∷ bs))) _ t in
    let g = ltb-true 0 (read32 (b ∷ bs)) u.0 in
    let h = leb-true (4 + read32 (b ∷ bs)) (length (b ∷ bs)) u.1 in
    let m = length-take (read32 (b ∷ bs)) (drop 4 (b ∷ bs)) in
    let l = length-drop 4 (b ∷ bs) in
    (omega arith, none-empty k (drop (4 + read32 (b ∷ bs)) (b ∷ bs)) (sym (whole-at k b bs t) ∙ e))

-- THE THEOREM: written again
pub written-meaning : (r : Raw) → Typed r → is_sound r ≡ true → written (meaning r) ≡ r
unfolding written meaning
written-meaning r ty e =
    let a = clauses r e in
    let h = r.held in
    let hq = leb-true h.queue_used (length r.queue) a.queue_used in
    let hs = leb-true h.staged_used (length r.staged) a.staged_used in
    let hn = leb-true h.sent_used (length r.sent) a.sent_used in
    let hc = leb-true h.entry_count most_entries a.few in
    let su = eqb-true (sum_left h.entry_count h.entries) h.queue_used a.sum in
    let el = ty.entries in
    let lq : length (take h.queue_used r.queue) ≡ h.queue_used = length-take-le h.queue_used r.queue hq in
    let ls : length (take h.staged_used r.staged) ≡ h.staged_used = length-take-le h.staged_used r.staged hs in
    let es = entries_of h.entry_count h.entries (take h.queue_used r.queue) in
    let c₁ : length es ≡ h.entry_count = length-entries h.entry_count h.entries (take h.queue_used r.queue) (omega arith) in
    let c₂ : pending_of es ≡ take h.entry_count h.entries = pending_back h.entry_count h.entries (take h.queue_used r.queue) (omega arith) (omega arith) in
    let c₃ : queued es ≡ take h.queue_used r.queue =
    queued_back h.entry_count h.entries (take h.queue_used r.queue) (omega arith) ∙ take_all (sum_left h.entry_count h.entries) (take h.queue_used r.queue) (omega arith) in
    let d : most_entries - length es ≡ length (drop h.entry_count h.entries) = omega (arith, length-drop h.entry_count h.entries) in
    let pd : pending_of es ++ replicate (most_entries - length es) zero_entry ≡ h.entries =
    ap₂ (λ x y. x ++ y) c₂ (ap (λ k. replicate k zero_entry) d ∙ padding (drop h.entry_count h.entries) a.entries) ∙ take-append-drop h.entry_count h.entries in
    let fr : frames (messages_of h.staged_used (take h.staged_used r.staged)) ≡ take h.staged_used r.staged =
    frames_back h.staged_used (take h.staged_used r.staged) (bytes_take h.staged_used r.staged ty.bytes) (omega arith) a.whole in
    let sp : h.used < span h.records = rw (span_32 h.records, ty.places) ty.word in
    λ i. record {
      held =
          record {
            last = h.last;
            used = word_back h.records h.used sp i;
            records = records_back h.records h.used a.places i;
            entries = pd i;
            entry_count = c₁ i;
            queue_used = (ap length c₃ ∙ lq) i;
            staged_used = (ap length fr ∙ ls) i;
            sent_used = length-take-le h.sent_used r.sent hn i;
          };
      queue = (ap (λ l. l ++ drop h.queue_used r.queue) c₃ ∙ take-append-drop h.queue_used r.queue) i;
      staged = (ap (λ l. l ++ drop h.staged_used r.staged) fr ∙ take-append-drop h.staged_used r.staged) i;
      sent = take-append-drop h.sent_used r.sent i;
    }

-- ITS MEANING IS SOUND

apart_distinct : (ps : List Place) → distinct ps ≡ true → Apart ps
unfolding Apart distinct
apart_distinct [] e = tt
apart_distinct (vacant ∷ ps) e = apart_distinct ps e
apart_distinct (holds c ∷ ps) e = let b = and_both (not (is_used (number_of c) ps)) (distinct ps) e in (not-true (is_used (number_of c) ps) b.0, apart_distinct ps b.1)

named_all : (ps : List Place) (es : List Entry) → all_named ps es ≡ true → (n : ℕ) → any_entry n es ≡ true → found_confirmed (look n ps) ≡ true
unfolding all_named any_entry
named_all ps [] f n e = absurd (true≢false (sym e))
named_all ps (x ∷ es) f n e =
    let b = and_both (found_confirmed (look x.number ps)) (all_named ps es) f in
    by_test (eqb x.number n)
    (λ t. ap (λ m. found_confirmed (look m ps)) (sym (eqb-true x.number n t)) ∙ b.0)
    (λ t. named_all ps es b.1 n (rw t at e))

marked_all : (es : List Entry) (ps : List Place) → all_marked es ps ≡ true → (n : ℕ) (c : Record) → look n ps ≡ found c → not (is_marked c) || any_entry n es ≡ true
unfolding all_marked look
marked_all es [] f n c e = nothing-found c e
marked_all es (vacant ∷ ps) f n c e = marked_all es ps f n c e
marked_all es (holds d ∷ ps) f n c e =
    let b = and_both (not (is_marked d) || any_entry (number_of d) es) (all_marked es ps) f in
    by_test (eqb (number_of d) n)
    (λ t. let g : found d ≡ found c = sym (look_hit n d ps t) ∙ e in let h : d ≡ c = cc in
    ap (λ m. not (is_marked c) || any_entry m es) (sym (eqb-true (number_of d) n t)) ∙ ap (λ x. not (is_marked x) || any_entry (number_of d) es) (sym h) ∙ b.0)
    (λ t. marked_all es ps b.1 n c (sym (look_miss n d ps t) ∙ e))

each_fine : (ps : List Place) (es : List Entry) → all_named ps es ≡ true → all_marked es ps ≡ true → (n : ℕ) → fine_at (look n ps) (own n es) ≡ true
unfolding fine_at found_confirmed
each_fine ps es k f n = at (look n ps) refl
  where
    named : (o : Found) → look n ps ≡ o → some (own n es) ≡ true → found_confirmed o ≡ true
    named o e t = ap found_confirmed (sym e) ∙ named_all ps es k n (any_own n es ∙ t)

    at : (o : Found) → look n ps ≡ o → fine_at o (own n es) ≡ true
    at nowhere e = by_test (some (own n es)) (λ t. absurd (true≢false (sym (named nowhere e t)))) (λ t. rw t)
    at (found c) e = fine-is c _ (record { named = named (found c) e; marked = λ m. sym (any_own n es) ∙ implied (is_marked c) _ (marked_all es ps f n c e) m })

-- the sizes, from the writing back
pub record Sizes (w : World) (r : Raw) : Type 0 where
  pub count : length w.table.entries ≡ r.held.entry_count
  pub used : length (queued w.table.entries) ≡ r.held.queue_used
  pub queue : length (queued w.table.entries) + length w.queue_rest ≡ length r.queue
  pub staged : length (frames w.staged) + length w.staged_rest ≡ length r.staged
  pub sent : length w.sent + length w.sent_rest ≡ length r.sent

pub sizes : (w : World) (r : Raw) → written w ≡ r → Sizes w r
unfolding written
sizes w r e =
    record {
      count = ap (λ x. x.held.entry_count) e;
      used = ap (λ x. x.held.queue_used) e;
      queue = sym (length-append (queued w.table.entries) w.queue_rest) ∙ ap (λ x. length x.queue) e;
      staged = sym (length-append (frames w.staged) w.staged_rest) ∙ ap (λ x. length x.staged) e;
      sent = sym (length-append w.sent w.sent_rest) ∙ ap (λ x. length x.sent) e;
    }

-- THE THEOREM
pub sound-meaning : (r : Raw) → Typed r → is_sound r ≡ true → Sound (meaning r)
sound-meaning r ty e =
    let a = clauses r e in
    let z : Sizes (meaning r) r = sizes (meaning r) r (written-meaning r ty e) in
    let k = leb-true r.held.entry_count most_entries a.few in
    let q = leb-true (length r.queue) most_bytes a.queue_long in
    let st = leb-true (length r.staged) most_bytes a.staged_long in
    let se = leb-true (length r.sent) most_bytes a.sent_long in
    record {
      table =
          record {
            count = unfold meaning in length-places r.held.records r.held.used ∙ ty.places;
            apart = apart_distinct (meaning r).table.places a.apart;
            each = each_fine (meaning r).table.places (meaning r).table.entries a.named a.marked;
          };
      few = omega (arith, z.count);
      queue = omega (arith, z.queue);
      whole = unfold meaning in none-empty r.held.staged_used (take r.held.staged_used r.staged) a.whole;
      staged_size = omega (arith, z.staged);
      sent_size = omega (arith, z.sent);
    }
