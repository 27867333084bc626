-- Sound goes to sound, for every call: what each decision leaves, and then what room and the buffers make of it.
-- Assumes nothing.
use Rattle.channel.specs.declared.Record.{Record}
use Rattle.channel.specs.declared.Kind.{Kind}
use Prim.Native.Nat.{ℕ, ◌+◌, ◌-◌, ◌≤◌, ◌/◌}
use mathlib.Core.Path.{◌≡◌, refl, sym, ap, ◌∙◌}
use mathlib.Core.Bool.{Bool, true, false, ◌&&◌, ◌||◌, cond, true≢false}
use mathlib.Core.List.{List, [], ◌∷◌, ◌++◌, append-nil}
use lib.ListN.{length, take, drop, take-append-drop, length-append, length-drop, length-replicate}
use lib.Dec.{leb, ltb, eqb}
use native.Mathlib.Omega.{arith}
use borrow.Author.Tests.{leb-true}
use Rattle.laws.proofs.Tests.{by_test, shut, and_both, or_neither}
use Rattle.channel.specs.Wire.{frame, frames, eof_message, close_message, adjust_message}
use Rattle.channel.specs.State.{most_window, number_of, peer_of, stored, Place, Entry, Table, World, Found, nowhere, found, look, settle_in, any_vacant, is_used, any_entry, queued, refit}
use Rattle.channel.specs.Call.{Act, new_channel, new_channel_id, open_for_peer, eof, close, adjust, incoming, window_of, has_pending, Load, send, flush, Route, Call, act, put, flush_all, flush_staged, drain, Message, confirmation, failure, credit, received, ended, closed, Result}
use Rattle.channel.specs.Read.{Read, malformed, reads, read_message}
use Rattle.channel.specs.Change.{fresh, confirm, with_peer_window, with_window, with_marks, with_last, with_places, with_entries, altered, removed}
use Rattle.channel.specs.Decide.{for, Plan, Decision, refuse, go, quiet, queueing, staging, known, passing, is_confirmed, serves, next_number, remainder, queues_rest, send_now, send_on, eof_on, close_on, charged, adjust_on, flushed, any_byte, eofs, closes, unmarked, flushed_part, flushed_whole, flush_on, taken_in, taken_read, decide, load}
use Rattle.channel.specs.Step.{Reply, to_sent, to_staged, Room, enough, lacks, within, room_for, carried_out, with_room, apply, step_act, step_load, numbers, is_refusal, either, flush_each, fitting, move, drained, step}
use Rattle.channel.specs.Sound.{is_marked}
use Rattle.channel.proofs.Wire.{frames-append, NoneEmpty, full-append, full-drop, packets-full}
use Rattle.channel.proofs.Lookup.{look-number}
use Rattle.channel.proofs.Numbers.{next_unused}
use Rattle.channel.proofs.Entries.{own, some, any_own, Others, others_one, one_there, others_remainder, less_refl, Shrunk, shrunk, less_without, none-without, less_flushed, left}
use Rattle.channel.proofs.Sound.{fine, fine_at, SoundTable, Fits, queue_size, Sound, Fine, fine_of, fine-is, alter, remove, queue_more, opened}
use Rattle.channel.proofs.Room.{Roomy, roomy}

-- WHAT A DECISION LEAVES, in a queue of that size

pub record Keeps (size : ℕ) (p : Plan) : Type 0 where
  pub table : SoundTable p.table.places p.table.entries
  pub fits : within size p.table p.queues ≡ true → Fits size p.table.entries
  pub payload : NoneEmpty p.payload
  pub control : NoneEmpty p.control

unfoldable pub Good : ℕ → Decision → Type 0
Good size (refuse k) = Unit {0}
Good size (go p) = Keeps size p

good_if : (size : ℕ) (b : Bool) (x y : Decision) → (b ≡ true → Good size x) → (b ≡ false → Good size y) → Good size (elim b [ true ↦ x | false ↦ y ])
good_if size true x y f g = f refl
good_if size false x y f g = g refl

good_known : (size : ℕ) (o : Found) (k : Record → Decision) → ((c : Record) → o ≡ found c → Good size (k c)) → Good size (known o k)
unfolding known Good
good_known size nowhere k f = tt
good_known size (found c) k f = f c refl

good_passing : (size : ℕ) (test : Record → Bool) (o : Found) (k : Record → Decision) → ((c : Record) → o ≡ found c → test c ≡ true → Good size (k c)) → Good size (passing test o k)
unfolding passing Good
good_passing size test o k f = good_known size o _ (λ c e. good_if size (test c) (k c) (refuse 3) (f c e) (λ x. tt))

-- a record that serves is confirmed
pub serves-confirmed : (c : Record) → serves c ≡ true → c.confirmed ≡ true
unfolding serves is_confirmed
serves-confirmed c e = e

-- what is queued fits where there is room for it
within-fits : (size : ℕ) (t : Table) (n : ℕ) → within size t (for n) ≡ true → Fits size t.entries
unfolding within
within-fits size t n e = let b = and_both _ _ e in record { few = leb-true _ _ b.0; bytes = leb-true _ _ b.1 }

-- what leaves the queue leaves it fitting
fits_less : {size n : ℕ} {es fs : List Entry} → Shrunk n es fs → Fits size es → Fits size fs
fits_less r f = record { few = omega (arith, r.count, f.few); bytes = omega (arith, r.bytes, f.bytes) }

no_message : (b : Bool) (m : List ℕ) → 1 ≤ length m → NoneEmpty (cond b (m ∷ []) [])
unfolding NoneEmpty
no_message true m h = (h, tt)
no_message false m h = tt

marks-full : (c : Record) → NoneEmpty (eofs c ++ closes c)
unfolding eofs closes eof_message close_message
marks-full c = full-append (eofs c) (closes c) (no_message c.pending_eof (eof_message (peer_of c)) (omega arith)) (no_message c.pending_close (close_message (peer_of c)) (omega arith))

module _ (t : Table) (s : SoundTable t.places t.entries) (size : ℕ) (f : Fits size t.entries) where
  is-fine : (n : ℕ) (c : Record) → look n t.places ≡ found c → fine c (own n t.entries) ≡ true
  unfolding fine_at
  is-fine n c e = sym (ap (λ x. fine_at x (own n t.entries)) e) ∙ s.each n

  look_self : (n : ℕ) (c : Record) → look n t.places ≡ found c → look (number_of c) t.places ≡ found c
  look_self n c e = ap (λ m. look m t.places) (look-number n t.places c e) ∙ e

  facts : (c : Record) → look (number_of c) t.places ≡ found c → Fine c (own (number_of c) t.entries)
  facts c e = fine_of c _ (is-fine (number_of c) c e)

  -- a record without an entry has no mark
  no_mark : (c : Record) → look (number_of c) t.places ≡ found c → any_entry (number_of c) t.entries ≡ false → is_marked c ≡ false
  no_mark c e a = by_test (is_marked c) (λ q. shut _ (sym (any_own _ t.entries) ∙ a) ((facts c e).marked q)) (λ q. q)

  -- FORMS OF PLAN

  -- the table as it was, and messages
  good_same : (a : Result) (ms : List (List ℕ)) → NoneEmpty ms → Good size (staging a t ms)
  unfolding staging Good NoneEmpty
  good_same a ms m = record { table = s; fits = λ x. f; payload = tt; control = m }

  good_quiet : (a : Result) → Good size (quiet a t)
  unfolding quiet staging NoneEmpty
  good_quiet a = good_same a [] tt

  -- another record in its place, and messages
  good_altered : (a : Result) (c d : Record) (ms : List (List ℕ)) → look (number_of c) t.places ≡ found c → number_of d ≡ number_of c → fine d (own (number_of c) t.entries) ≡ true → NoneEmpty ms
      → Good size (staging a (altered t c d) ms)
  unfolding staging Good NoneEmpty altered with_places Others
  good_altered a c d ms e h q m = record { table = alter (number_of c) t.places t.entries t.entries c d s e h (λ m z. refl) q; fits = λ x. f; payload = tt; control = m }

  good_quietly : (a : Result) (c d : Record) → look (number_of c) t.places ≡ found c → number_of d ≡ number_of c → fine d (own (number_of c) t.entries) ≡ true → Good size (quiet a (altered t c d))
  unfolding quiet staging NoneEmpty
  good_quietly a c d e h q = good_altered a c d [] e h q tt

  -- its place freed with the entries that are left, and messages
  good_removed : (a : Result) (c : Record) (fs : List Entry) (ms : List (List ℕ)) → Shrunk (number_of c) t.entries fs → some (own (number_of c) fs) ≡ false → NoneEmpty ms
      → Good size (staging a (with_entries (removed t c) fs) ms)
  unfolding staging Good NoneEmpty removed with_places with_entries
  good_removed a c fs ms r k m = record { table = remove (number_of c) t.places t.entries fs s r.others k; fits = λ x. fits_less r f; payload = tt; control = m }

  good_gone : (a : Result) (c : Record) (ms : List (List ℕ)) → some (own (number_of c) t.entries) ≡ false → NoneEmpty ms → Good size (staging a (removed t c) ms)
  unfolding with_entries removed with_places
  good_gone a c ms k m = good_removed a c t.entries ms (shrunk _ (less_refl _ t.entries)) k m

  good_freed : (a : Result) (c : Record) → some (own (number_of c) t.entries) ≡ false → Good size (quiet a (removed t c))
  unfolding quiet staging NoneEmpty
  good_freed a c k = good_gone a c [] k tt

  -- a record opened
  good_opened : (a : Result) (c : Record) (last : ℕ) → is_used (number_of c) t.places ≡ false → any_vacant t.places ≡ true → fine c [] ≡ true
      → Good size (quiet a (record { last = last; places = settle_in c t.places; entries = t.entries }))
  unfolding quiet Good NoneEmpty
  good_opened a c last u v q = record { table = opened t.places t.entries c s u v q; fits = λ x. f; payload = tt; control = tt }

  -- DATA

  rest-fits : (n : ℕ) (kind : Kind) (bs : List ℕ) (last : ℕ) (ps : List Place) → within size (record { last = last; places = ps; entries = t.entries ++ remainder n kind bs }) (queues_rest n bs) ≡ true
      → Fits size (t.entries ++ remainder n kind bs)
  unfolding remainder queues_rest
  rest-fits n kind [] last ps e = rw append-nil f
  rest-fits n kind (b ∷ bs) last ps e = within-fits size (record { last = last; places = ps; entries = t.entries ++ record { number = n; kind = stored kind; bytes = b ∷ bs } ∷ [] }) n e

  good_send : (n : ℕ) (rekey : Bool) (kind : Kind) (bs : List ℕ) (c : Record) → look n t.places ≡ found c → c.confirmed ≡ true → Good size (send_on t rekey kind bs c)
  unfolding send_on queueing send_now altered with_places with_entries with_peer_window Good NoneEmpty
  good_send n rekey kind bs c e k =
      let g = look_self n c e in
      good_if size (any_entry (number_of c) t.entries || rekey) _ _
      (λ a. record {
        table = queue_more (number_of c) t.places t.entries _ c s g (others_one (number_of c) t.entries (stored kind) bs) (fine-is c _ (record { named = λ x. k; marked = λ x. one_there (number_of c) t.entries (stored kind) bs }));
        fits = λ x. within-fits size (record { last = t.last; places = t.places; entries = t.entries ++ record { number = number_of c; kind = stored kind; bytes = bs } ∷ [] }) (number_of c) x;
        payload = tt;
        control = tt;
      })
      (λ a. good_if size (eqb (length bs) 0) _ _
      (λ b. good_quiet _)
      (λ b. good_if size (eqb c.recipient_maximum_packet_size 0) _ _
      (λ d. tt)
      (λ d. record {
        table = alter (number_of c) t.places t.entries _ c _ s g refl (others_remainder (number_of c) t.entries kind _) (fine-is _ _ (record { named = λ x. k; marked = shut _ (no_mark c g (or_neither _ _ a).0) }));
        fits = rest-fits (number_of c) kind _ t.last _;
        payload = packets-full _ _ _ _;
        control = tt;
      })))

  -- EOF, CLOSE AND ADJUST

  good_eof : (n : ℕ) (c : Record) → look n t.places ≡ found c → c.confirmed ≡ true → Good size (eof_on t c)
  unfolding eof_on with_marks NoneEmpty eof_message
  good_eof n c e k =
      good_if size (any_entry (number_of c) t.entries) _ _
      (λ a. good_quietly _ c _ (look_self n c e) refl (fine-is _ _ (record { named = λ x. k; marked = λ x. sym (any_own _ _) ∙ a })))
      (λ a. good_same _ _ (omega arith, tt))

  good_close : (n : ℕ) (c : Record) → look n t.places ≡ found c → c.confirmed ≡ true → Good size (close_on t c)
  unfolding close_on with_marks NoneEmpty close_message
  good_close n c e k =
      good_if size (any_entry (number_of c) t.entries) _ _
      (λ a. good_quietly _ c _ (look_self n c e) refl (fine-is _ _ (record { named = λ x. k; marked = λ x. sym (any_own _ _) ∙ a })))
      (λ a. good_gone _ c _ (sym (any_own _ _) ∙ a) (omega arith, tt))

  good_adjust : (n count target : ℕ) (c : Record) → look n t.places ≡ found c → Good size (adjust_on t count target c)
  unfolding adjust_on with_window NoneEmpty adjust_message fine
  good_adjust n count target c e =
      let g = look_self n c e in
      good_if size (ltb (charged count c.sender_window_size) (target / 2)) _ _
      (λ a. good_altered _ c _ _ g refl (is-fine (number_of c) c g) (omega arith, tt))
      (λ a. good_quietly _ c _ g refl (is-fine (number_of c) c g))

  -- INCOMING

  good_in : (m : Message) → Good size (taken_in t m)
  unfolding taken_in confirm with_peer_window Good NoneEmpty close_message fine
  good_in (confirmation n peer window limit) =
      good_known size (look n t.places) _ (λ c e. good_if size c.confirmed _ _
      (λ a. tt)
      (λ a. let g = look_self n c e in good_quietly _ c _ g refl (fine-is (confirm c peer window limit) _ (record { named = λ x. refl; marked = (facts c g).marked }))))
  good_in (failure n reason at len at' len') =
      good_known size (look n t.places) _ (λ c e. good_if size c.confirmed _ _
      (λ a. tt)
      (λ a. let g = look_self n c e in good_freed _ c (by_test (some (own (number_of c) t.entries)) (λ y. shut _ a ((facts c g).named y)) (λ y. y))))
  good_in (credit n add) =
      good_passing size serves (look n t.places) _ (λ c e k. good_if size (leb (c.recipient_window_size + add) most_window) _ _
      (λ a. let g = look_self n c e in good_quietly _ c _ g refl (is-fine (number_of c) c g))
      (λ a. tt))
  good_in (received n kind at len) = good_passing size serves (look n t.places) _ (λ c e k. good_quiet _)
  good_in (ended n) = good_passing size serves (look n t.places) _ (λ c e k. good_quiet _)
  good_in (closed n) = good_passing size is_confirmed (look n t.places) _ (λ c e k.
      rw (← look-number n t.places c e) (good_removed _ c _ _ (shrunk _ (less_without (number_of c) t.entries)) (none-without (number_of c) t.entries) (omega arith, tt)))

  good_read : (r : Read) → Good size (taken_read t r)
  unfolding taken_read Good
  good_read malformed = tt
  good_read (reads m) = good_in m

  -- PENDING FLUSH

  unmarked-sound : (c : Record) (fs : List Entry) (window : ℕ) → look (number_of c) t.places ≡ found c → Shrunk (number_of c) t.entries fs → some (own (number_of c) fs) ≡ false
      → (b : Bool) → SoundTable (cond b (removed t c) (altered t c (with_marks (with_peer_window c window) false false))).places fs
  unfolding removed altered with_places with_marks with_peer_window
  unmarked-sound c fs window e r k true = remove (number_of c) t.places t.entries fs s r.others k
  unmarked-sound c fs window e r k false =
      alter (number_of c) t.places t.entries fs c _ s e refl r.others (fine-is _ _ (record { named = λ x. shut _ k x; marked = λ x. absurd (true≢false (sym x)) }))

  good_flush : (n : ℕ) (c : Record) → look n t.places ≡ found c → Good size (flush_on t c)
  unfolding flush_on flushed_part flushed_whole unmarked altered with_places with_entries with_peer_window Good NoneEmpty
  good_flush n c e =
      let g = look_self n c e in
      let r = shrunk _ (less_flushed c c.recipient_window_size t.entries) in
      let l = left c t.entries c.recipient_window_size in
      good_if size (eqb c.recipient_maximum_packet_size 0 && any_byte (number_of c) t.entries) _ _
      (λ a. tt)
      (λ a. good_if size (flushed c c.recipient_window_size t.entries).all _ _
      (λ b. record { table = unmarked-sound c _ _ g r (l.none b) c.pending_close; fits = λ x. fits_less r f; payload = l.full; control = marks-full c })
      (λ b. record {
        table = alter (number_of c) t.places t.entries _ c _ s g refl r.others (fine-is _ _ (record { named = λ x. (facts c g).named (r.was x); marked = λ x. l.one b }));
        fits = λ x. fits_less r f;
        payload = l.full;
        control = tt;
      }))

  -- EVERY CALL

  good : (a : Act) → Good size (decide t a)
  unfolding decide with_places with_last confirm fresh fine some
  good (new_channel window limit) =
      good_if size (any_vacant t.places) _ _
      (λ a. good_opened _ (fresh (next_number t) window limit) (next_number t) (next_unused t s.count) a refl)
      (λ a. unfold Good in tt)
  good new_channel_id =
      good_if size (any_vacant t.places) _ _
      (λ a. unfold Good quiet NoneEmpty in record { table = s; fits = λ x. f; payload = tt; control = tt })
      (λ a. unfold Good in tt)
  good (open_for_peer n peer window limit peer_window peer_limit) =
      good_if size (is_used n t.places) _ _
      (λ a. unfold Good in tt)
      (λ a. good_if size (any_vacant t.places) _ _
      (λ b. good_opened _ (confirm (fresh n window limit) peer peer_window peer_limit) t.last a b refl)
      (λ b. unfold Good in tt))
  good (eof n) = good_passing size serves (look n t.places) _ (λ c e k. good_eof n c e (serves-confirmed c k))
  good (close n) = good_passing size serves (look n t.places) _ (λ c e k. good_close n c e (serves-confirmed c k))
  good (adjust n count target) = good_passing size serves (look n t.places) _ (λ c e k. good_adjust n count target c e)
  good (incoming p) = good_read (read_message p)
  good (window_of n) = good_quiet _
  good (has_pending n) = good_quiet _

  good_load : (rekey : Bool) (l : Load) → Good size (load t rekey l)
  unfolding load
  good_load rekey (send kind n bs) = good_passing size serves (look n t.places) _ (λ c e k. good_send n rekey kind bs c e (serves-confirmed c k))
  good_load rekey (flush n) = good_known size (look n t.places) _ (λ c e. good_flush n c e)

-- THE WHOLE STATE

-- a plan's messages are whole wherever they go
staged-full : (b : Bool) (p : Plan) → NoneEmpty p.payload → NoneEmpty p.control → NoneEmpty (to_staged b p)
unfolding to_staged
staged-full true p f g = g
staged-full false p f g = full-append p.payload p.control f g

pub length-refit : (old new : ℕ) (rest : List ℕ) → new ≤ old + length rest → new + length (refit old new rest) ≡ old + length rest
unfolding refit
length-refit old new rest h = simp (length-drop, length-append, length-replicate) (omega arith)

carried-sound : (w : World) (p : Plan) (b : Bool) → Sound w → Roomy w p b → Keeps (queue_size w) p → Sound (carried_out w p b)
unfolding carried_out
carried-sound w p b s r g =
    let q = g.fits r.queue in
    let z = length-refit (length (queued w.table.entries)) (length (queued p.table.entries)) w.queue_rest q.bytes in
    let l₂ : length (frames (to_staged b p)) ≤ length w.staged_rest = leb-true _ _ r.staged in
    let l₃ : length (to_sent b p) ≤ length w.sent_rest = leb-true _ _ r.sent in
    record {
      table = g.table;
      few = q.few;
      queue = omega (arith, s.queue);
      whole = full-append w.staged (to_staged b p) s.whole (staged-full b p g.payload g.control);
      staged_size = simp (frames-append, length-append, length-drop) (omega (arith, s.staged_size));
      sent_size = simp (length-append, length-drop) (omega (arith, s.sent_size));
    }

applied-sound : (w : World) (b : Bool) (o : Decision) → Sound w → Good (queue_size w) o → Sound (apply w b o).world
unfolding apply with_room Good
applied-sound w b (refuse k) s g = s
applied-sound w b (go p) s g = roomed (room_for w p b) refl
  where
    roomed : (x : Room) → room_for w p b ≡ x → Sound (with_room x w p b).world
    roomed enough e = carried-sound w p b s (roomy w p b e) g
    roomed (lacks k) e = s

world-fits : (w : World) → Sound w → Fits (queue_size w) w.table.entries
world-fits w s = record { few = s.few; bytes = omega arith }

act-sound : (w : World) (a : Act) → Sound w → Sound (step_act w a).world
unfolding step_act
act-sound w a s = applied-sound w _ (decide w.table a) s (good w.table s.table _ (world-fits w s) a)

pub load-sound : (w : World) (r : Route) (l : Load) → Sound w → Sound (step_load w r l).world
unfolding step_load
load-sound w r l s = applied-sound w _ (load w.table r.rekey l) s (good_load w.table s.table _ (world-fits w s) r.rekey l)

either-sound : (b : Bool) (x y : Reply) → Sound x.world → Sound y.world → Sound (either b x y).world
unfolding either
either-sound true x y f g = f
either-sound false x y f g = g

each_sound : (r : Route) (ns : List ℕ) (w : World) → Sound w → Sound (flush_each r ns w).world
unfolding flush_each
each_sound r [] w s = s
each_sound r (n ∷ ns) w s =
    let a = load-sound w r (flush n) s in
    either-sound (is_refusal (step_load w r (flush n)).answer) _ _ a (each_sound r ns (step_load w r (flush n)).world a)

fitting_in : (room : ℕ) (st : List (List ℕ)) → length (frames (take (fitting room st) st)) ≤ room
unfolding fitting frames
fitting_in room [] = omega arith
fitting_in room (p ∷ ps) =
    by_test (leb (length (frame p)) room)
    (λ t. rw (fitting, t) (simp length-append (let h = fitting_in (room - length (frame p)) ps in let l = leb-true (length (frame p)) room t in omega arith)))
    (λ t. rw (fitting, t) (omega arith))

moved-sound : (k : ℕ) (w : World) → length (frames (take k w.staged)) ≤ length w.sent_rest → Sound w → Sound (move k w).world
unfolding move
moved-sound k w h s =
    let e : length (frames (take k w.staged)) + length (frames (drop k w.staged)) ≡ length (frames w.staged) =
    sym (length-append (frames (take k w.staged)) (frames (drop k w.staged))) ∙ ap length (sym (frames-append (take k w.staged) (drop k w.staged)) ∙ ap frames (take-append-drop k w.staged)) in
    record {
      table = s.table;
      few = s.few;
      queue = s.queue;
      whole = full-drop k w.staged s.whole;
      staged_size = simp (length-append, length-replicate) (omega (arith, s.staged_size));
      sent_size = simp (length-append, length-drop) (omega (arith, s.sent_size));
    }

drained-sound : (w : World) → Sound w → Sound (drained w)
unfolding drained
drained-sound w s = record { table = s.table; few = s.few; queue = s.queue; whole = s.whole; staged_size = s.staged_size; sent_size = simp (length-append, length-replicate) (omega (arith, s.sent_size)) }

pub step-sound : (w : World) (c : Call) → Sound w → Sound (step w c).world
unfolding step
step-sound w (act a) s = act-sound w a s
step-sound w (put r l) s = load-sound w r l s
step-sound w (flush_all r) s = each_sound r (numbers w.table.places) w s
step-sound w (flush_staged rekey) s = either-sound rekey _ _ s (moved-sound _ w (fitting_in (length w.sent_rest) w.staged) s)
step-sound w drain s = drained-sound w s
