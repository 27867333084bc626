-- The flush of all, by the lowest number that has an entry: the ascending numbers are walked, and those with no entry passed over.
-- Assumes nothing.
use Prim.Native.Nat.{ℕ, ◌+◌, ◌-◌, ◌≤◌, ◌<◌}
use mathlib.Core.Path.{◌≡◌, refl, sym, ap, ◌∙◌}
use mathlib.Core.Bool.{Bool, true, false, ◌&&◌, ◌||◌, not, cond, true≢false}
use mathlib.Core.List.{List, [], ◌∷◌, ◌++◌}
use lib.ListN.{length, take}
use lib.Dec.{leb, ltb, eqb}
use native.Mathlib.Nat.{sub-zero}
use native.Mathlib.Omega.{arith}
use borrow.Author.Tests.{leb-true, leb-false, ltb-true, ltb-false, le-leb, lt-ltb, le-ltb, eqb-true, eqb-false, eq-eqb}
use Rattle.laws.proofs.Tests.{by_test, shut, and_both, or_neither, or_second}
use Rattle.channel.specs.declared.Entry as E
use Rattle.channel.specs.declared.Record.{Record}
use Rattle.channel.specs.Wire.{eof_message, close_message}
use Rattle.channel.specs.State.{number_of, peer_of, Place, vacant, holds, Entry, Table, World, nowhere, found, look, replace, is_used, any_entry}
use Rattle.channel.specs.State as S
use Rattle.channel.specs.Call.{Route, direct, Call, put, flush, flush_all, Result, complete, done, Answer, gave}
use Rattle.channel.specs.Change.{with_peer_window, with_marks, with_entries, altered, removed}
use Rattle.channel.specs.Change as G
use Rattle.channel.specs.Decide.{Flushed, flushed, any_byte, Plan, none, Decision, go, refuse, quiet, load, flush_on, flushed_whole}
use Rattle.channel.specs.Decide as D
use Rattle.channel.specs.Step.{reply, Room, enough, lacks, room_for, with_room, goes_straight, apply, step_load, step, insert, numbers, is_refusal, stop_at, either, flush_each}
use Rattle.channel.specs.Step as P
use Rattle.channel.specs.Raw.{Raw, meaning, written, entries_of, pending_of}
use Rattle.channel.specs.Raw as R
use Rattle.channel.specs.Sound.{is_sound, is_marked}
use Rattle.channel.specs.Called.{Typed, Outcome, called}
use Rattle.channel.proofs.Lookup.{Apart, look-number, look_unused, look-nowhere, look_other}
use Rattle.channel.proofs.Lookup as L
use Rattle.channel.proofs.Entries.{own, some, any_own, flushed_skip}
use Rattle.channel.proofs.Entries as N
use Rattle.channel.proofs.Sound.{SoundTable, fine_at, fine_of, none-own}
use Rattle.channel.proofs.Sound as U
use Rattle.channel.proofs.SoundStep.{step-sound}
use Rattle.channel.proofs.Meaning.{meaning-written}
use Rattle.channel.proofs.Faithful.{written-meaning, sound-meaning}
use Rattle.lookup.specs.Held.{HeldAt, record_at}
use Rattle.lookup.proofs.Decided.{if_true, if_false, held-look, held_has}
use Rattle.lookup.proofs.Branch.{sound-step, same-is, unsound}
use Rattle.channel.proofs.Promises.{sound_stays}
use Rattle.std.specs.Prelude as Prelude
use Rattle.std.proofs.Common.{IsErrAnd, Ok, Err}
use Rattle.std.specs.Result.{MatchResult, is_ok}
use Rattle.channel.specs.declared.ChannelId.{ChannelId}
use Rattle.channel.specs.declared.Refusal.{Refusal}
use Rattle.channel.specs.declared.Stopped.{Stopped}
use Rattle.channel.specs.declared.Stopped.TheVariants as Stop
use Rattle.channel.specs.declared.ChannelFlushResult.{ChannelFlushResult}
use Rattle.channel.specs.declared.ChannelFlushResult.TheVariants as Flush
use Rattle.channel.specs.Answers as A
use Rattle.pending.specs.Plan.{charged_by, plan_of}
use Rattle.pending.specs.All.{Least, nearer_by, least_from, none_yet, at_least, Rising, Passed}
use Rattle.passes.proofs.KeepLaws.{at}
use Rattle.passes.proofs.FlushLaws.{ahead, ahead-cons, flushed-nil}
use Rattle.passes.proofs.Rows.{base_of}
use Rattle.passes.proofs.PassLaws.{rows}
use Rattle.pending.proofs.PlanLaws.{flush-limit, flush_goes, closed-place, open_place}

-- THE LOWEST NUMBER

-- one number, by the test of it
pub near_yes : (from n v : ℕ) (l : Least) → v ≡ n → leb from v && (not l.found || ltb n l.number) ≡ true → record { found = true; number = n } ≡ nearer_by from n l
near_yes from n v l e t = ap (λ b. cond b (record { found = true; number = n }) l) (sym t ∙ ap (λ m. leb from m && (not l.found || ltb n l.number)) e)

pub near_no : (from n v : ℕ) (l : Least) → v ≡ n → leb from v && (not l.found || ltb n l.number) ≡ false → l ≡ nearer_by from n l
near_no from n v l e t = ap (λ b. cond b (record { found = true; number = n }) l) (sym t ∙ ap (λ m. leb from m && (not l.found || ltb n l.number)) e)

pub least_cons : (from : ℕ) (l : Least) (es : List E.Entry) (count i : ℕ) → i < count → count ≤ length es
    → least_from from l (ahead es count i) ≡ least_from from (nearer_by from (at es i).number.0 l) (ahead es count (i + 1))
unfolding least_from
least_cons from l es count i h f = ap (least_from from l) (ahead-cons es count i h f)

pub least_none : (from : ℕ) (l : Least) (es : List E.Entry) (count i : ℕ) → count ≤ i → least_from from l (ahead es count i) ≡ l
unfolding least_from
least_none from l es count i h = let k : count - i ≡ 0 = omega arith in rw k

-- no entry is passed yet
pub least_start : (from : ℕ) (l : Least) (es : List E.Entry) (count : ℕ) → least_from from l (take count es) ≡ least_from from l (ahead es count 0)
least_start from l es count = rw (sub-zero count)

-- a number that is not passed is no nearer than the best after it, and the best only comes nearer
nearer_le : (from n : ℕ) (l : Least) → from ≤ n → ((nearer_by from n l).found ≡ true) × ((nearer_by from n l).number ≤ n)
nearer_le from n l h = at_test (leb from n) l.found (ltb n l.number) refl refl refl
  where
    at_test : (a f b : Bool) → leb from n ≡ a → l.found ≡ f → ltb n l.number ≡ b → ((nearer_by from n l).found ≡ true) × ((nearer_by from n l).number ≤ n)
    at_test false f b e g k = shut _ e (le-leb from n h)
    at_test true false b e g k = rw (e, g) (refl, omega arith)
    at_test true true true e g k = rw (e, g) (rw k (refl, omega arith))
    at_test true true false e g k = rw (e, g) (rw k (refl, omega (arith, ltb-false n l.number k)))

nearer_keeps : (from n : ℕ) (l : Least) → l.found ≡ true → ((nearer_by from n l).found ≡ true) × ((nearer_by from n l).number ≤ l.number)
nearer_keeps from n l g =
    by_test (leb from n && (not l.found || ltb n l.number))
    (λ t. rw t (refl, le (ltb n l.number) refl t))
    (λ t. rw t (g, omega arith))
  where
    le : (b : Bool) → ltb n l.number ≡ b → leb from n && (not l.found || ltb n l.number) ≡ true → n ≤ l.number
    le true e t = omega (arith, ltb-true n l.number e)
    le false e t = shut _ (rw (g, e)) (and_both (leb from n) (not l.found || ltb n l.number) t).1

least_keeps : (from : ℕ) (l : Least) (ps : List E.Entry) → l.found ≡ true → ((least_from from l ps).found ≡ true) × ((least_from from l ps).number ≤ l.number)
unfolding least_from
least_keeps from l [] g = (g, omega arith)
least_keeps from l (p ∷ ps) g =
    let a = nearer_keeps from p.number.0 l g in
    let b = least_keeps from (nearer_by from p.number.0 l) ps a.0 in
    (b.0, omega (arith, a.1, b.1))

-- from `from` up to the answer, or without an answer at all, no number has an entry
pub none_before : (from : ℕ) (l : Least) (m : ℕ) (es : List Entry) → from ≤ m → ((least_from from l (pending_of es)).found ≡ true → m < (least_from from l (pending_of es)).number)
    → any_entry m es ≡ false
unfolding least_from R.pending_of S.any_entry
none_before from l m [] h k = refl
none_before from l m (e ∷ es) h k =
    by_test (eqb e.number m)
    (λ t.
    let q : e.number ≡ m = eqb-true e.number m t in
    let a = nearer_le from e.number l (omega arith) in
    let b = least_keeps from (nearer_by from e.number l) (pending_of es) a.0 in
    absurd (omega (arith, a.1, b.1, k b.0)))
    (λ t. rw t (none_before from (nearer_by from e.number l) m es h k))

-- an answer is not passed, and has an entry
pub least_in : (from : ℕ) (l : Least) (es : List Entry) (Q : ℕ → Type 0) → (l.found ≡ true → Q l.number) → ((m : ℕ) → from ≤ m → any_entry m es ≡ true → Q m)
    → (least_from from l (pending_of es)).found ≡ true → Q (least_from from l (pending_of es)).number
unfolding least_from R.pending_of S.any_entry
least_in from l [] Q f g t = f t
least_in from l (e ∷ es) Q f g t =
    least_in from (nearer_by from e.number l) es Q now (λ m h a. g m h (or_second (eqb e.number m) a)) t
  where
    now : (nearer_by from e.number l).found ≡ true → Q (nearer_by from e.number l).number
    now u =
        by_test (leb from e.number && (not l.found || ltb e.number l.number))
        (λ b. rw b (g e.number (leb-true from e.number (and_both _ _ b).0) (rw (eq-eqb e.number e.number refl))))
        (λ b. rw b (f (rw b at u)))

-- THE NUMBERS

unfoldable among : ℕ → List ℕ → Bool
among m [] = false
among m (n ∷ ns) = eqb n m || among m ns

or_swap : (a b c : Bool) → a || (b || c) ≡ b || (a || c)
or_swap true true c = refl
or_swap true false c = refl
or_swap false b c = refl

insert-here : (n k : ℕ) (ks : List ℕ) → leb n k ≡ true → insert n (k ∷ ks) ≡ n ∷ k ∷ ks
unfolding P.insert
insert-here n k ks t = rw (t, insert)

insert-on : (n k : ℕ) (ks : List ℕ) → leb n k ≡ false → insert n (k ∷ ks) ≡ k ∷ insert n ks
unfolding P.insert
insert-on n k ks t = rw (t, insert)

insert-nil : (n : ℕ) → insert n [] ≡ n ∷ []
unfolding P.insert
insert-nil n = refl

among-insert : (m n : ℕ) (l : List ℕ) → among m (insert n l) ≡ eqb n m || among m l
unfolding among
among-insert m n [] = rw (insert-nil n)
among-insert m n (k ∷ ks) =
    by_test (leb n k)
    (λ t. rw (insert-here n k ks t))
    (λ t. rw (insert-on n k ks t) (rw (among-insert m n ks) (or_swap (eqb k m) (eqb n m) (among m ks))))

rising-insert : (lo n : ℕ) (l : List ℕ) → Rising lo l → lo ≤ n → among n l ≡ false → Rising lo (insert n l)
unfolding Rising among
rising-insert lo n [] r h a = rw (insert-nil n) (h, tt)
rising-insert lo n (k ∷ ks) r h a =
    let o = or_neither (eqb k n) (among n ks) a in
    by_test (leb n k)
    (λ t. rw (insert-here n k ks t) (h, (above n k (leb-true n k t) (eqb-false k n o.0), r.1)))
    (λ t. rw (insert-on n k ks t) (r.0, rising-insert (k + 1) n ks r.1 (omega (arith, leb-false n k t)) o.1))
  where
    above : (n k : ℕ) → n ≤ k → (k ≡ n → ⊥) → n + 1 ≤ k
    above n k h ne = omega arith

numbers-among : (n : ℕ) (ps : List Place) → among n (numbers ps) ≡ is_used n ps
unfolding P.numbers S.is_used among
numbers-among n [] = refl
numbers-among n (vacant ∷ ps) = numbers-among n ps
numbers-among n (holds c ∷ ps) = among-insert n (number_of c) (numbers ps) ∙ rw (numbers-among n ps)

pub numbers-rising : (ps : List Place) → Apart ps → Rising 0 (numbers ps)
unfolding P.numbers L.Apart Rising
numbers-rising [] a = tt
numbers-rising (vacant ∷ ps) a = numbers-rising ps a
numbers-rising (holds c ∷ ps) a = rising-insert 0 (number_of c) (numbers ps) (numbers-rising ps a.1) (omega arith) (numbers-among (number_of c) ps ∙ a.0)

rising-all : (from lo : ℕ) (ns : List ℕ) → from ≤ lo → Rising lo ns → at_least from ns ≡ ns
unfolding at_least Rising
rising-all from lo [] h r = refl
rising-all from lo (n ∷ ns) h r = rw (le-ltb n from (omega (arith, r.0)), at_least)

rising-among : (lo m : ℕ) (ns : List ℕ) → Rising lo ns → among m ns ≡ true → lo ≤ m
unfolding Rising among
rising-among lo m [] r a = absurd (true≢false (sym a))
rising-among lo m (n ∷ ns) r a =
    by_test (eqb n m)
    (λ t. omega (arith, eqb-true n m t, r.0))
    (λ t. omega (arith, rising-among (n + 1) m ns r.1 (rw t at a), r.0))

-- a number of the list is the first that is not below it
its_turn : (lo m : ℕ) (ns : List ℕ) → Rising lo ns → among m ns ≡ true → at_least m ns ≡ m ∷ at_least (m + 1) ns
unfolding at_least Rising among
its_turn lo m [] r a = absurd (true≢false (sym a))
its_turn lo m (n ∷ ns) r a =
    by_test (eqb n m)
    (λ t.
    let e : n ≡ m = eqb-true n m t in
    let r1 : Rising (m + 1) ns = rw e at r.1 in
    rw e (rw (le-ltb m m (omega arith), lt-ltb m (m + 1) (omega arith), at_least) (rw (rising-all (m + 1) (m + 1) ns (omega arith) r1))))
    (λ t.
    let b : among m ns ≡ true = rw t at a in
    let l : n + 1 ≤ m = rising-among (n + 1) m ns r.1 b in
    rw (lt-ltb n m (omega arith), lt-ltb n (m + 1) (omega arith), at_least) (its_turn (n + 1) m ns r.1 b))

-- ONE CHANNEL OF THE LIST

module _ (route : Route) (n : ℕ) (ns : List ℕ) (w : World) where
  each_go : {a : Answer} {v : World} → step_load w route (flush n) ≡ reply a v → is_refusal a ≡ false → flush_each route (n ∷ ns) w ≡ flush_each route ns v
  unfolding P.flush_each P.either
  each_go {a} {v} e t = ap (λ x. either (is_refusal x.answer) (reply (stop_at n x.answer) x.world) (flush_each route ns x.world)) e ∙ rw t

  each_stop : {a : Answer} {v : World} → step_load w route (flush n) ≡ reply a v → is_refusal a ≡ true → flush_each route (n ∷ ns) w ≡ reply (stop_at n a) v
  unfolding P.flush_each P.either
  each_stop {a} {v} e t = ap (λ x. either (is_refusal x.answer) (reply (stop_at n x.answer) x.world) (flush_each route ns x.world)) e ∙ rw t

no_refusal : (x : Result) → is_refusal (gave x) ≡ false
unfolding P.is_refusal
no_refusal x = refl

-- a call's outcome is the step of the rules' state
module _ (r : Raw) (ty : Typed r) (sd : is_sound r ≡ true) (k : Call) (o : Outcome) (e : o ≡ called r k) where
  stepped_to : o ≡ record { answer = (step (meaning r) k).answer; state = written (step (meaning r) k).world }
  stepped_to = e ∙ sound-step r k sd

  stepped : step (meaning r) k ≡ reply o.answer (meaning o.state)
  stepped =
      let m : meaning o.state ≡ (step (meaning r) k).world = ap (λ x. meaning x.state) stepped_to ∙ meaning-written (step (meaning r) k).world (step-sound (meaning r) k (sound-meaning r ty sd)) in
      λ j. reply (sym (ap (λ x. x.answer) stepped_to) j) (sym m j)

  back : written (meaning o.state) ≡ o.state
  back = ap (λ x. written x.world) (sym stepped) ∙ sym (ap (λ x. x.state) stepped_to)

module _ (r : Raw) (ty : Typed r) (sd : is_sound r ≡ true) (route : Route) (n : ℕ) (o : Outcome) (e : o ≡ called r (put route (flush n))) where
  flushed_to : step_load (meaning r) route (flush n) ≡ reply o.answer (meaning o.state)
  unfolding P.step
  flushed_to = stepped r ty sd (put route (flush n)) o e

  went_back : written (meaning o.state) ≡ o.state
  went_back = back r ty sd (put route (flush n)) o e

-- A CHANNEL WITH NO ENTRY is passed over

abbrev idle_flush : ℕ → List Entry → Flushed
idle_flush w es = record { out = []; wrote = 0; window = w; kept = es; all = true }

flushed_idle : (c : Record) (w : ℕ) (es : List Entry) → any_entry (number_of c) es ≡ false → flushed c w es ≡ idle_flush w es
unfolding S.any_entry D.keeping
flushed_idle c w [] h = flushed-nil c w
flushed_idle c w (e ∷ es) h =
    let o = or_neither (eqb e.number (number_of c)) (any_entry (number_of c) es) h in
    flushed_skip c w e es o.0 ∙ rw (flushed_idle c w es o.1)

byte_idle : (n : ℕ) (es : List Entry) → any_entry n es ≡ false → any_byte n es ≡ false
unfolding S.any_entry D.any_byte
byte_idle n [] h = refl
byte_idle n (e ∷ es) h = let o = or_neither (eqb e.number n) (any_entry n es) h in rw (o.0, byte_idle n es o.1)

replace-same : (n : ℕ) (c : Record) (ps : List Place) → look n ps ≡ found c → replace n (holds c) ps ≡ ps
unfolding S.look S.replace
replace-same n c [] f = refl
replace-same n c (vacant ∷ ps) f = rw (replace-same n c ps f)
replace-same n c (holds d ∷ ps) f =
    by_test (eqb (number_of d) n)
    (λ t. let g : found d ≡ found c = rw (t, look) at f in let e : d ≡ c = cc in rw (t, replace) (ap (λ (x : Record). holds x ∷ ps) (sym e)))
    (λ t. rw (t, replace) (ap (λ (l : List Place). holds d ∷ l) (replace-same n c ps (rw (t, look) at f))))

and-false : (b : Bool) → b && false ≡ false
and-false true = refl
and-false false = refl

flush_idle : (t : Table) (c : Record) → any_entry (number_of c) t.entries ≡ false → flush_on t c ≡ flushed_whole t c (idle_flush c.recipient_window_size t.entries)
unfolding D.flush_on
flush_idle t c h =
    let f = flushed_idle c c.recipient_window_size t.entries h in
    if_false _ _ _ (ap (λ b. eqb c.recipient_maximum_packet_size 0 && b) (byte_idle (number_of c) t.entries h) ∙ and-false (eqb c.recipient_maximum_packet_size 0))
    ∙ if_true _ _ _ (ap (λ x. x.all) f)
    ∙ ap (flushed_whole t c) f

module _ (t : Table) (c : Record) (e : c.pending_eof ≡ false) (k : c.pending_close ≡ false) (f : look (number_of c) t.places ≡ found c) where
  abbrev whole : Bool → Bool → Decision
  whole x y =
      go
      (record {
        answer = complete 0 x y;
        table = with_entries (cond y (removed t c) (altered t c (with_marks (with_peer_window c c.recipient_window_size) false false))) t.entries;
        payload = [];
        control = cond x (eof_message (peer_of c) ∷ []) [] ++ cond y (close_message (peer_of c) ∷ []) [];
        queues = none;
      })

  as_is : with_marks (with_peer_window c c.recipient_window_size) false false ≡ c
  unfolding G.with_marks G.with_peer_window
  as_is = λ i. record {
    sender_channel = c.sender_channel;
    recipient_channel = c.recipient_channel;
    confirmed = c.confirmed;
    sender_window_size = c.sender_window_size;
    sender_maximum_packet_size = c.sender_maximum_packet_size;
    recipient_window_size = c.recipient_window_size;
    recipient_maximum_packet_size = c.recipient_maximum_packet_size;
    wants_reply = c.wants_reply;
    pending_eof = sym e i;
    pending_close = sym k i;
  }

  whole_idle : flushed_whole t c (idle_flush c.recipient_window_size t.entries) ≡ quiet (complete 0 false false) t
  unfolding D.flushed_whole D.eofs D.closes D.unmarked D.quiet G.with_entries G.altered G.with_places
  whole_idle =
      ap (λ (x : Bool). whole x c.pending_close) e
      ∙ ap (λ (y : Bool). whole false y) k
      ∙ ap (λ (ps : List Place). go (record { answer = complete 0 false false; table = record { last = t.last; places = ps; entries = t.entries }; payload = []; control = []; queues = none }))
      (ap (λ (d : Record). replace (number_of c) (holds d) t.places) as_is ∙ replace-same (number_of c) c t.places f)

-- a sound table's channel that has no entry has no mark
no_marks : (ps : List Place) (es : List Entry) (c : Record) → SoundTable ps es → look (number_of c) ps ≡ found c → any_entry (number_of c) es ≡ false → (c.pending_eof ≡ false) × (c.pending_close ≡ false)
unfolding U.fine_at
no_marks ps es c s f h =
    let g = fine_of c (own (number_of c) es) (sym (ap (λ x. fine_at x (own (number_of c) es)) f) ∙ s.each (number_of c)) in
    or_neither c.pending_eof c.pending_close
    (by_test (is_marked c) (λ m. shut (some (own (number_of c) es)) (sym (any_own (number_of c) es) ∙ h) (g.marked m)) (λ m. m))

module _ (r : Raw) (ty : Typed r) (sd : is_sound r ≡ true) (route : Route) where
  idle_called : (c : Record) → look (number_of c) (meaning r).table.places ≡ found c → any_entry (number_of c) (meaning r).table.entries ≡ false
      → record { answer = gave (complete 0 false false); state = r } ≡ called r (put route (flush (number_of c)))
  unfolding P.step P.step_load D.load D.known
  idle_called c f h =
      let m = no_marks (meaning r).table.places (meaning r).table.entries c (sound-meaning r ty sd).table f h in
      let b = goes_straight (direct route) (meaning r) in
      let d : load (meaning r).table route.rekey (flush (number_of c)) ≡ quiet (complete 0 false false) (meaning r).table = rw f (flush_idle (meaning r).table c h ∙ whole_idle (meaning r).table c m.0 m.1 f) in
      sym (same-is r ty sd (put route (flush (number_of c))) b (complete 0 false false) (ap (apply (meaning r) b) d))

  -- as the code finds it
  pub idle_is : (n i : ℕ) → HeldAt r.held n i → any_entry n (entries_of r.held.entry_count r.held.entries []) ≡ false
      → record { answer = gave (complete 0 false false); state = r } ≡ called r (put route (flush n))
  idle_is n i h e =
      idle_called (record_at r.held i) (ap (λ m. look m (meaning r).table.places) h.number ∙ held-look r n i h) (held_has r n i h ∙ e)
      ∙ ap (λ m. called r (put route (flush m))) h.number

  pub skip : (n : ℕ) → is_used n (meaning r).table.places ≡ true → any_entry n (meaning r).table.entries ≡ false → (ns : List ℕ) → flush_each route (n ∷ ns) (meaning r) ≡ flush_each route ns (meaning r)
  skip n u h ns = pick (look n (meaning r).table.places) refl
    where
      pick : (f : S.Found) → look n (meaning r).table.places ≡ f → flush_each route (n ∷ ns) (meaning r) ≡ flush_each route ns (meaning r)
      pick nowhere e = shut _ (look-nowhere n (meaning r).table.places e) u
      pick (found c) e =
          let q : number_of c ≡ n = look-number n (meaning r).table.places c e in
          let o = idle_called c (ap (λ m. look m (meaning r).table.places) q ∙ e) (ap (λ m. any_entry m (meaning r).table.entries) q ∙ h) in
          each_go route n ns (meaning r) (flushed_to r ty sd route n _ (o ∙ ap (λ m. called r (put route (flush m))) q)) (no_refusal (complete 0 false false))

  -- up to a number m, or to the end
  walk : (from m lo : ℕ) (ns : List ℕ) → Rising lo ns → from ≤ m
      → ((k : ℕ) → among k ns ≡ true → from ≤ k → k < m → (is_used k (meaning r).table.places ≡ true) × (any_entry k (meaning r).table.entries ≡ false))
      → flush_each route (at_least from ns) (meaning r) ≡ flush_each route (at_least m ns) (meaning r)
  unfolding at_least Rising among
  walk from m lo [] g h i = refl
  walk from m lo (n ∷ ns) g h i =
      let ih = walk from m (n + 1) ns g.1 h (λ k a. i k (or_second (eqb n k) a)) in
      by_test (ltb n from)
      (λ t. rw (t, lt-ltb n m (omega (arith, ltb-true n from t)), at_least) ih)
      (λ t.
      by_test (ltb n m)
      (λ u.
      let d = i n (rw (eq-eqb n n refl)) (ltb-false n from t) (ltb-true n m u) in
      rw (t, u, at_least)
      (skip n d.0 d.1 ns ∙ ap (λ l. flush_each route l (meaning r)) (sym (rising-all from (n + 1) ns (omega (arith, ltb-false n from t)) g.1)) ∙ ih))
      (λ u. rw (t, u, at_least)))

  walk_all : (from lo : ℕ) (ns : List ℕ) → Rising lo ns
      → ((k : ℕ) → among k ns ≡ true → from ≤ k → (is_used k (meaning r).table.places ≡ true) × (any_entry k (meaning r).table.entries ≡ false))
      → flush_each route (at_least from ns) (meaning r) ≡ reply (gave done) (meaning r)
  unfolding at_least Rising among P.flush_each
  walk_all from lo [] g i = refl
  walk_all from lo (n ∷ ns) g i =
      let ih = walk_all from (n + 1) ns g.1 (λ k a. i k (or_second (eqb n k) a)) in
      by_test (ltb n from)
      (λ t. rw (t, at_least) ih)
      (λ t.
      let d = i n (rw (eq-eqb n n refl)) (ltb-false n from t) in
      rw (t, at_least)
      (skip n d.0 d.1 ns ∙ ap (λ l. flush_each route l (meaning r)) (sym (rising-all from (n + 1) ns (omega (arith, ltb-false n from t)) g.1)) ∙ ih))

-- THE OTHER CHANNELS stay in the table

look-applied : (w : World) (b : Bool) (o : Decision) (m : ℕ) → ((p : Plan) → o ≡ go p → look m p.table.places ≡ look m w.table.places) → look m (apply w b o).world.table.places ≡ look m w.table.places
unfolding P.apply
look-applied w b (refuse k) m f = refl
look-applied w b (go p) m f = by_room (room_for w p b)
  where
    by_room : (x : Room) → look m (with_room x w p b).world.table.places ≡ look m w.table.places
    by_room enough = unfold P.with_room P.carried_out in f p refl
    by_room (lacks k) = unfold P.with_room in refl

go-plan : (p q : Plan) (o : Decision) → o ≡ go p → o ≡ go q → p ≡ q
go-plan p q o e f = cc

-- a flush leaves every other number as it was
look-flushed : (t : Table) (c : Record) (n m : ℕ) → number_of c ≡ n → (m ≡ n → ⊥) → (p : Plan) → flush_on t c ≡ go p → look m p.table.places ≡ look m t.places
look-flushed t c n m q ne p e =
    by_test (eqb c.recipient_maximum_packet_size 0 && any_byte (number_of c) t.entries)
    (λ s. absurd (let z : refuse 4 ≡ go p = sym (flush-limit t c s) ∙ e in let y : ◌≡◌ {A = ℕ} 0 1 = cc in omega arith))
    (λ s.
    let f = flushed c c.recipient_window_size t.entries in
    let x : plan_of t c f ≡ p = go-plan (plan_of t c f) p (flush_on t c) (flush_goes t c s) e in
    ap (λ y. look m y.table.places) (sym x) ∙ placed_other f)
  where
    placed_other : (f : Flushed) → look m (plan_of t c f).table.places ≡ look m t.places
    placed_other f =
        by_test (f.all && c.pending_close)
        (λ a. ap (look m) (closed-place t c f a) ∙ look_other (number_of c) m vacant t.places (unfold L.For in tt) (λ z. ne (z ∙ q)))
        (λ a. ap (look m) (open_place t c f a) ∙ look_other (number_of c) m (holds (charged_by c f.window f.all)) t.places (unfold L.For charged_by G.with_marks G.with_peer_window in refl) (λ z. ne (z ∙ q)))

look_stepped : (w : World) (route : Route) (n m : ℕ) → (m ≡ n → ⊥) → look m (step_load w route (flush n)).world.table.places ≡ look m w.table.places
unfolding P.step_load D.load
look_stepped w route n m ne = look-applied w (goes_straight (direct route) w) (D.known (look n w.table.places) (flush_on w.table)) m (by_found (look n w.table.places) refl)
  where
    by_found : (x : S.Found) → look n w.table.places ≡ x → (p : Plan) → D.known x (flush_on w.table) ≡ go p → look m p.table.places ≡ look m w.table.places
    by_found nowhere e p f = absurd (unfold D.known in (let z : refuse 2 ≡ go p = f in let y : ◌≡◌ {A = ℕ} 0 1 = cc in omega arith))
    by_found (found c) e p f = look-flushed w.table c n m (look-number n w.table.places c e) ne p (unfold D.known in f)

used_alike : (m : ℕ) (ps qs : List Place) → look m ps ≡ look m qs → is_used m ps ≡ is_used m qs
used_alike m ps qs e =
    by_test (is_used m ps)
    (λ a. by_test (is_used m qs) (λ b. a ∙ sym b) (λ b. shut _ (look-nowhere m ps (e ∙ look_unused m qs b)) a))
    (λ a. a ∙ sym (look-nowhere m qs (sym e ∙ look_unused m ps a)))

-- a channel with an entry is in the table
entry-used : (ps : List Place) (es : List Entry) (n : ℕ) → SoundTable ps es → any_entry n es ≡ true → is_used n ps ≡ true
unfolding N.some
entry-used ps es n s a =
    by_test (is_used n ps)
    (λ u. u)
    (λ u. shut (any_entry n es) (any_own n es ∙ ap some (none-own ps es n s u)) a)

-- A TURN

-- the lowest number, as the code finds it
pub least_of : (r : Raw) → Typed r → is_sound r ≡ true → (from : ℕ) (l : Least) → l ≡ least_from from none_yet (take r.held.entry_count r.held.entries)
    → l ≡ least_from from none_yet (pending_of (meaning r).table.entries)
unfolding R.meaning
least_of r ty sd from l e = e ∙ ap (least_from from none_yet) (sym (rows r.held r.queue (base_of r ty sd)))

all-called : (r₀ : Raw) (route : Route) {a : Answer} {w : World} {s : Raw} → is_sound r₀ ≡ true
    → flush_each route (numbers (meaning r₀).table.places) (meaning r₀) ≡ reply a w → written w ≡ s → record { answer = a; state = s } ≡ called r₀ (flush_all route)
unfolding P.step
all-called r₀ route {a} sd e f =
    sym (sound-step r₀ (flush_all route) sd
    ∙ ap {B = Outcome} (λ x. record { answer = x.answer; state = written x.world }) e
    ∙ ap {B = Outcome} (λ x. record { answer = a; state = x }) f)

-- nothing is passed yet
pub passed_none : (r₀ : Raw) → Typed r₀ → is_sound r₀ ≡ true → (route : Route) → Passed route r₀ r₀ 0
passed_none r₀ ty sd route =
    let g = numbers-rising (meaning r₀).table.places (sound-meaning r₀ ty sd).table.apart in
    record {
      start = sd;
      sound = sd;
      rising = g;
      used = λ m h. refl;
      same = ap (λ l. flush_each route l (meaning r₀)) (sym (rising-all 0 0 (numbers (meaning r₀).table.places) (omega arith) g));
    }

module _ (r : Raw) (ty : Typed r) (sd : is_sound r ≡ true) (route : Route) (from : ℕ) (l : Least) (e : l ≡ least_from from none_yet (pending_of (meaning r).table.entries)) where
  pub turn_from : l.found ≡ true → (from ≤ l.number) × (any_entry l.number (meaning r).table.entries ≡ true)
  turn_from t =
      rw e
      (least_in from none_yet (meaning r).table.entries (λ m. (from ≤ m) × (any_entry m (meaning r).table.entries ≡ true)) (λ u. absurd (true≢false (sym u))) (λ m h a. (h, a)) (ap (λ x. x.found) (sym e) ∙ t))

  module _ (r₀ : Raw) (p : Passed route r₀ r from) where
    abbrev ns₀ : List ℕ
    ns₀ = numbers (meaning r₀).table.places

    still_used : (k : ℕ) → among k ns₀ ≡ true → from ≤ k → is_used k (meaning r).table.places ≡ true
    still_used k a h = p.used k h ∙ sym (numbers-among k (meaning r₀).table.places) ∙ a

    -- no entry is left from there on
    pub turn_done : l.found ≡ false → record { answer = gave done; state = r } ≡ called r₀ (flush_all route)
    turn_done t =
        all-called r₀ route p.start
        (p.same
        ∙ walk_all r ty sd route from 0 ns₀ p.rising
        (λ k a h. (still_used k a h, none_before from none_yet k (meaning r).table.entries h (λ u. shut _ (ap (λ x. x.found) (sym e) ∙ t) u))))
        (written-meaning r ty sd)

    module _ (t : l.found ≡ true) where
      listed : among l.number ns₀ ≡ true
      listed =
          numbers-among l.number (meaning r₀).table.places
          ∙ sym (p.used l.number (turn_from t).0)
          ∙ entry-used (meaning r).table.places (meaning r).table.entries l.number (sound-meaning r ty sd).table (turn_from t).1

      comes : flush_each route ns₀ (meaning r₀) ≡ flush_each route (l.number ∷ at_least (l.number + 1) ns₀) (meaning r)
      comes =
          p.same
          ∙ walk r ty sd route from l.number 0 ns₀ p.rising (turn_from t).0
          (λ k a h b. (still_used k a h, none_before from none_yet k (meaning r).table.entries h (λ u. rw (← e) b)))
          ∙ ap (λ x. flush_each route x (meaning r)) (its_turn 0 l.number ns₀ p.rising listed)

      module _ (o : Outcome) (f : o ≡ called r (put route (flush l.number))) where
        -- it is refused, and the whole stops
        pub turn_stop : is_refusal o.answer ≡ true → record { answer = stop_at l.number o.answer; state = o.state } ≡ called r₀ (flush_all route)
        turn_stop u =
            all-called r₀ route p.start
            (comes ∙ each_stop route l.number (at_least (l.number + 1) ns₀) (meaning r) (flushed_to r ty sd route l.number o f) u)
            (went_back r ty sd route l.number o f)

        -- it is not, and the next is tried
        pub turn_on : is_sound o.state ≡ true → is_refusal o.answer ≡ false → Passed route r₀ o.state (l.number + 1)
        turn_on s u =
            let g = flushed_to r ty sd route l.number o f in
            record {
              start = p.start;
              sound = s;
              rising = p.rising;
              used = λ m h.
                  used_alike m (meaning o.state).table.places (meaning r).table.places
                  (ap (λ x. look m x.world.table.places) (sym g) ∙ look_stepped (meaning r) route l.number m (λ z. omega arith))
                  ∙ p.used m (omega (arith, (turn_from t).0));
              same = comes ∙ each_go route l.number (at_least (l.number + 1) ns₀) (meaning r) g u;
            }

-- what a flush gives is no refusal
flushed-gives : (a : ChannelFlushResult) → is_refusal (A.flush_is a) ≡ false
unfolding A.flush_is P.is_refusal
flushed-gives (Flush.Incomplete k) = refl
flushed-gives (Flush.Complete m) = refl

-- a call on a sound state leaves it sound
pub still_sound : (r : Raw) → Typed r → is_sound r ≡ true → (k : Call) (o : Outcome) → o ≡ called r k → is_sound o.state ≡ true
still_sound r ty sd k o e = ap (λ x. is_sound x.state) e ∙ sound_stays r ty k ∙ sd

-- nothing is flushed of a state that is not sound
pub all_unsound : (r : Raw) (route : Route) (x : Prelude.Result (Unit {0}) Stopped) {k : Refusal} → IsErrAnd x (λ s. s ≡ Stop.Refused k) → (is_sound r ≡ false) × (k ≡ Refusal.State)
    → record { answer = A.all_flushed x; state = r } ≡ called r (flush_all route)
unfolding A.all_flushed A.refusal A.refusal_number
all_unsound r route (Ok u) e s = absurd e
all_unsound r route (Err j) e s = rw (e ∙ ap Stop.Refused s.1) (sym (unsound r (flush_all route) s.0))

-- a refusal, as the flush of all answers it
stopped_is : (n : ChannelId) (k : Refusal) → A.all_flushed (Err (Stop.At n k)) ≡ stop_at n.0 (A.refusal k)
unfolding A.all_flushed A.refusal P.stop_at
stopped_is n k = refl

refusal_is : (k : Refusal) → is_refusal (A.refusal k) ≡ true
unfolding A.refusal P.is_refusal
refusal_is k = refl

-- a refusal is handed on with the channel's number
pub handed_on : (n : ChannelId) (d : Stopped) (P : Refusal → Type 0) (x : Prelude.Result ChannelFlushResult Refusal) (y : Prelude.Result (Unit {0}) Stopped)
    → MatchResult x (λ v. ◌≡◌ {A = Prelude.Result ChannelFlushResult Stopped} (Err d) (Ok v)) P → false ≡ is_ok x → IsErrAnd y (λ e. e ≡ d)
    → ((k : Refusal) → P k → d ≡ Stop.At n k) → (A.all_flushed y ≡ stop_at n.0 (A.flushed x)) × (is_refusal (A.flushed x) ≡ true)
unfolding A.answer
handed_on n d q (Ok v) y m o e f = absurd (true≢false (sym o))
handed_on n d q (Err k) (Ok u) m o e f = absurd e
handed_on n d q (Err k) (Err s) m o e f = rw (e, f k m) (stopped_is n k, refusal_is k)

-- and what is no refusal is none
pub kept_on : (x : Prelude.Result ChannelFlushResult Refusal) → true ≡ is_ok x → is_refusal (A.flushed x) ≡ false
unfolding A.answer
kept_on (Ok v) o = flushed-gives v
kept_on (Err k) o = absurd (true≢false o)
