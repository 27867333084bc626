-- From a channel's flush, carried out, to `called`: refused, and carried out by either route.
-- Assumes nothing.
use Rattle.std.proofs.Common.{IsErrAnd, Result, Ok, Err}
use Prim.Native.Nat.{ℕ, ◌+◌, ◌-◌, ◌*◌, ◌^◌, ◌≤◌}
use mathlib.Core.Path.{◌≡◌, refl, sym, ap, ◌∙◌}
use mathlib.Core.Bool.{Bool, true, false, ◌&&◌, not, true≢false}
use mathlib.Core.List.{List, ◌++◌}
use lib.ListN.{length, set, take, length-append}
use lib.Dec.{leb, eqb}
use native.Mathlib.Omega.{arith}
use borrow.Author.Tests.{leb-true, leb-false}
use Rattle.laws.proofs.Tests.{by_test, and_both}
use Rattle.octets.specs.Buf.{write}
use Rattle.octets.proofs.Laws.{write_eq, write-append, length-write}
use Rattle.channel.specs.declared.Record.{Record}
use Rattle.channel.specs.declared.Refusal.{Refusal}
use Rattle.channel.specs.declared.Table as T
use Rattle.channel.specs.Wire.{frames}
use Rattle.channel.specs.State.{most_bytes, number_of, look, nowhere, queued, Entry}
use Rattle.channel.specs.Call.{Route, direct, Call, put, flush, Answer, gave, refused}
use Rattle.channel.specs.Change as G
use Rattle.channel.specs.Decide.{Flushed, any_byte, Plan, Decision, go, flush_on}
use Rattle.channel.specs.Decide as D
use Rattle.channel.specs.Step.{goes_straight, to_sent, to_staged, apply, step}
use Rattle.channel.specs.Step as P
use Rattle.channel.specs.Raw.{Raw, meaning, places_of, zero_record}
use Rattle.channel.specs.Raw as R
use Rattle.channel.specs.Sound.{is_sound}
use Rattle.channel.specs.Called.{Typed, Outcome, lent, called, outcome}
use Rattle.channel.specs.Answers as A
use Rattle.channel.proofs.Wire.{frames-append}
use Rattle.channel.proofs.Entries.{less_flushed}
use Rattle.lookup.specs.Held.{HeldAt, record_at}
use Rattle.lookup.specs.Update.{placed, filed, counted}
use Rattle.lookup.specs.Out.{out_of, out_used, framed}
use Rattle.lookup.proofs.Limits.{limits}
use Rattle.lookup.proofs.Decided.{by_load, none-known, held-known}
use Rattle.lookup.proofs.Bridge.{Put, put-none, put_as, Places, changed_places, freed_places}
use Rattle.lookup.proofs.Framed.{put_written}
use Rattle.lookup.proofs.Branch as B
use Rattle.lookup.proofs.Branch.{HasRoom, Lacks, sent, staged, refusing, lacking, gone}
use Rattle.passes.specs.declared.Size.{Size}
use Rattle.soundness.specs.Sees.{Missed, unsound, unknown}
use Rattle.passes.specs.Keep.{Base, queue_with, entries_with, table_with}
use Rattle.passes.specs.Keep as Keep
use Rattle.passes.specs.Flush.{size_of, stuck_by}
use Rattle.passes.specs.Pass.{entries_in, flushed_in, PlannedBy}
use Rattle.passes.proofs.PassLaws.{stuck_is}
use Rattle.passes.proofs.Definition.{window-flushed}
use Rattle.passes.proofs.Rows.{base_of, kept_rows}
use Rattle.pending.specs.Plan.{result_of, control_of, charged_by, settled_by, plan_of, after_flush, fits_by, carried, sent_by}
use Rattle.pending.proofs.PlanLaws.{flush-limit, flush_goes, closed-place, open_place, settled_closed, settled_open, plan-last}

-- two runs of bytes, one behind the other
written_two : (n : ℕ) (l xs ys : List ℕ) → n + (length xs + length ys) ≤ length l
    → Put n l (xs ++ ys) (n + length xs + length ys) (write (n + length xs) ys (write n xs l))
written_two n l xs ys h =
    let e = length-append xs ys in
    record {
      count = omega (arith, e);
      bytes = sym (write_eq n (xs ++ ys) l (omega arith)) ∙ write-append n xs ys l;
    }

-- no record has the number
pub unknown_is : (r : Raw) → Typed r → is_sound r ≡ true → (route : Route) (n : ℕ) → look n (places_of r.held.used r.held.records) ≡ nowhere
    → called r (put route (flush n)) ≡ record { answer = refused 2; state = r }
unfolding D.load
unknown_is r ty sd route n e =
    let b = goes_straight (direct route) (meaning r) in
    refusing r ty sd (put route (flush n)) b 2 (by_load r route (flush n) b refl (none-known r n e (flush_on (meaning r).table)))

module _ (r : Raw) (ty : Typed r) (sd : is_sound r ≡ true) (route : Route) (n i : ℕ) (h : HeldAt r.held n i) where
  abbrev C : Record
  C = record_at r.held i

  abbrev F : Flushed
  F = flushed_in r.held r.queue C

  abbrev K : Call
  K = put route (flush n)

  abbrev plan : Plan
  plan = plan_of (meaning r).table C F

  decided : (b : Bool) {o : Decision} → goes_straight (direct route) (meaning r) ≡ b → flush_on (meaning r).table C ≡ o → step (meaning r) K ≡ apply (meaning r) b o
  unfolding D.load
  decided b e d = by_load r route (flush n) b e (held-known r n i h (flush_on (meaning r).table) ∙ d)

  -- a byte is pending and the limit is 0
  pub limit_is : eqb C.recipient_maximum_packet_size 0 && any_byte (number_of C) (entries_in r.held r.queue) ≡ true → called r K ≡ record { answer = refused 4; state = r }
  unfolding R.meaning
  limit_is e =
      let b = goes_straight (direct route) (meaning r) in
      refusing r ty sd K b 4 (decided b refl (flush-limit (meaning r).table C e))

  module _ (b : Bool) (w : goes_straight (direct route) (meaning r) ≡ b)
      (free : eqb C.recipient_maximum_packet_size 0 && any_byte (number_of C) (entries_in r.held r.queue) ≡ false) where
    steps : step (meaning r) K ≡ apply (meaning r) b (go plan)
    unfolding R.meaning
    steps = decided b w (flush_goes (meaning r).table C free)

    -- whatever the buffers come to
    after : HasRoom r b plan → {su : ℕ} {st : List ℕ} → Put r.held.staged_used r.staged (frames (to_staged b plan)) su st
        → {se : ℕ} {so : List ℕ} → Put r.held.sent_used r.sent (to_sent b plan) se so
        → called r K ≡ outcome (gave (result_of C F.wrote F.all)) (counted (after_flush r.held r.queue i C) su se) (queue_with F.kept r.held.queue_used r.queue) st so
    unfolding plan_of G.with_entries R.meaning Keep.table_with
    after m {su} {st} ps {se} {so} qs =
        let rs = kept_rows r ty sd (less_flushed C C.recipient_window_size (entries_in r.held r.queue)) in
        let out : T.Table → Outcome = λ x. outcome (gave (result_of C F.wrote F.all))
        (counted (filed x (entries_with F.kept r.held.entry_count r.held.entries) (length F.kept) (length (queued F.kept))) su se)
        (queue_with F.kept r.held.queue_used r.queue) st so in
        let last = plan-last (meaning r).table C F in
        by_test (F.all && C.pending_close)
        (λ e.
        let pl : Places plan.table.places (r.held.used - 2 ^ i) (set r.held.records i zero_record) = rw (closed-place (meaning r).table C F e) (freed_places r ty sd n i h) in
        gone r ty sd K b plan steps m pl rs ps qs
        ∙ ap out (ap (λ x. placed r.held x (r.held.used - 2 ^ i) (set r.held.records i zero_record)) last ∙ sym (settled_closed r.held i C F.window F.all e)))
        (λ e.
        let d : Record = charged_by C F.window F.all in
        let pl : Places plan.table.places r.held.used (set r.held.records i d) = rw (open_place (meaning r).table C F e) (changed_places r ty sd n i h d) in
        gone r ty sd K b plan steps m pl rs ps qs
        ∙ ap out (ap (λ x. placed r.held x r.held.used (set r.held.records i d)) last ∙ sym (settled_open r.held i C F.window F.all e)))

    -- the bytes of the frames, and of the marks' messages
    abbrev outs : List ℕ
    outs = frames F.out

    abbrev marks : List ℕ
    marks = frames (control_of C F.all)

    both-size : length (frames (F.out ++ control_of C F.all)) ≡ length outs + length marks
    both-size = ap length (frames-append F.out (control_of C F.all)) ∙ length-append outs marks

    pub room_short : fits_by b r (length outs) (length marks) ≡ false → called r K ≡ record { answer = refused 5; state = r }
    unfolding plan_of P.to_sent P.to_staged
    room_short e = lacking r ty sd K b plan steps (short b e)
      where
        short : (d : Bool) → fits_by d r (length outs) (length marks) ≡ false → Lacks r d plan
        short true e =
            by_test (leb (length outs) (length r.sent - r.held.sent_used))
            (λ t. staged (omega (arith, leb-false (length marks) (length r.staged - r.held.staged_used) (rw t at e), (limits r sd).staged_used)))
            (λ t. sent (omega (arith, leb-false (length outs) (length r.sent - r.held.sent_used) t, (limits r sd).sent_used)))
        short false e = staged (omega (arith, leb-false (length outs + length marks) (length r.staged - r.held.staged_used) e, (limits r sd).staged_used, both-size))

    pub carried-is : fits_by b r (length outs) (length marks) ≡ true → called r K ≡ record { answer = gave (result_of C F.wrote F.all); state = carried b r i C }
    unfolding plan_of P.to_sent P.to_staged carried
    carried-is e = after (has_room b e) (marks-put b e) (outs_put b e)
      where
        fit : (d : Bool) → fits_by d r (length outs) (length marks) ≡ true
            → (r.held.sent_used + length (to_sent d plan) ≤ length r.sent) × (r.held.staged_used + length (frames (to_staged d plan)) ≤ length r.staged)
        fit true e =
            let z = and_both (leb (length outs) (length r.sent - r.held.sent_used)) (leb (length marks) (length r.staged - r.held.staged_used)) e in
            (omega (arith, leb-true (length outs) (length r.sent - r.held.sent_used) z.0, (limits r sd).sent_used), omega (arith, leb-true (length marks) (length r.staged - r.held.staged_used) z.1, (limits r sd).staged_used))
        fit false e =
            (omega (arith, (limits r sd).sent_used), omega (arith, leb-true (length outs + length marks) (length r.staged - r.held.staged_used) e, (limits r sd).staged_used, both-size))

        has_room : (d : Bool) → fits_by d r (length outs) (length marks) ≡ true → HasRoom r d plan
        has_room d e = record { sent = (fit d e).0; staged = (fit d e).1; queue = tt }

        marks-put : (d : Bool) → fits_by d r (length outs) (length marks) ≡ true
            → Put r.held.staged_used r.staged (frames (to_staged d plan)) (framed false (framed d r outs) marks).held.staged_used (framed false (framed d r outs) marks).staged
        marks-put true e = put_written r.held.staged_used r.staged marks (fit true e).1
        marks-put false e = put_as (frames-append F.out (control_of C F.all)) (written_two r.held.staged_used r.staged outs marks (omega (arith, (fit false e).1, both-size)))

        outs_put : (d : Bool) → fits_by d r (length outs) (length marks) ≡ true
            → Put r.held.sent_used r.sent (to_sent d plan) (framed false (framed d r outs) marks).held.sent_used (framed false (framed d r outs) marks).sent
        outs_put true e = put_written r.held.sent_used r.sent outs (fit true e).0
        outs_put false e = put-none r.held.sent_used r.sent

-- WHAT THE SIZE PASS SAYS

pub limit_passed : {B : Type 0} (r : Raw) (k : Call) (f : B → Answer) (x : Result B Refusal) {e : Refusal} → IsErrAnd x (λ y. y ≡ e) → e ≡ Refusal.Limit
    → called r k ≡ record { answer = refused 4; state = r } → record { answer = A.answer f x; state = r } ≡ called r k
unfolding A.answer A.refusal A.refusal_number
limit_passed r k f (Ok a) e u z = absurd e
limit_passed r k f (Err j) e u z = rw (e ∙ u) (sym z)

module _ (r : Raw) (c : Record) (s : Size) (p : PlannedBy c (entries_in r.held r.queue) (Ok s)) where
  abbrev E₁ : Flushed
  E₁ = flushed_in r.held r.queue c

  pub planned_free : eqb c.recipient_maximum_packet_size 0 && any_byte (number_of c) (entries_in r.held r.queue) ≡ false
  unfolding PlannedBy
  planned_free = p.0

  pub planned_sizes : s ≡ size_of E₁
  unfolding PlannedBy
  planned_sizes = p.1

  pub planned_few : s.size ≤ 18 * most_bytes
  unfolding PlannedBy
  planned_few = p.2

  pub not_stuck : Typed r → is_sound r ≡ true → stuck_by c (take r.held.entry_count r.held.entries) ≡ false
  not_stuck ty sd = stuck_is c r.held r.queue (base_of r ty sd) ∙ planned_free

  pub wrote_le : s.wrote ≤ c.recipient_window_size
  wrote_le = omega (arith, ap (λ x. x.wrote) planned_sizes, window-flushed c c.recipient_window_size (entries_in r.held r.queue))

  window-is : c.recipient_window_size - E₁.wrote ≡ E₁.window
  window-is = omega (arith, window-flushed c c.recipient_window_size (entries_in r.held r.queue))

  -- the code's test of room
  pub fits_is : (b : Bool) {m : ℕ} → m ≡ length (frames (control_of c s.all)) → fits_by b r s.size m ≡ fits_by b r (length (frames E₁.out)) (length (frames (control_of c E₁.all)))
  fits_is b e = ap (λ x. fits_by b r s.size x) e ∙ ap (λ x. fits_by b r x.size (length (frames (control_of c x.all)))) planned_sizes

  pub answer-is : {a : Answer} → a ≡ gave (result_of c s.wrote s.all) → a ≡ gave (result_of c E₁.wrote E₁.all)
  answer-is e = e ∙ ap (λ x. gave (result_of c x.wrote x.all)) planned_sizes

  -- the code's steps: the frames, the marks' messages, the rest of the entries, the record's place
  abbrev rest : ℕ → Raw → Size → Raw
  rest i x s =
      let m = framed false x (frames (control_of c s.all)) in
      let ks = (flushed_in m.held m.queue c).kept in
      lent (settled_by (table_with ks m.held) i c (c.recipient_window_size - s.wrote) s.all) (queue_with ks m.held.queue_used m.queue) m.staged m.sent

  pub steps_are : (b : Bool) (i : ℕ) (x : Raw) → x ≡ framed b r (frames E₁.out)
      → {u : ℕ} {st : List ℕ} → st ≡ write x.held.staged_used (frames (control_of c s.all)) x.staged → u ≡ x.held.staged_used + length (frames (control_of c s.all))
      → {t : T.Table} {q : List ℕ} → q ≡ queue_with (flushed_in x.held x.queue c).kept x.held.queue_used x.queue
      → t ≡ table_with (flushed_in x.held x.queue c).kept (counted x.held u x.held.sent_used)
      → {y : T.Table} → y ≡ settled_by t i c (c.recipient_window_size - s.wrote) s.all
      → lent y q st x.sent ≡ carried b r i c
  unfolding carried Keep.table_with
  steps_are b i x ex {u} {st} est eu {t} {q} eq et {y} ey =
      let m = framed false (framed b r (frames E₁.out)) (frames (control_of c E₁.all)) in
      let ks = (flushed_in x.held x.queue c).kept in
      let place = ey ∙ ap (λ z. settled_by z i c (c.recipient_window_size - s.wrote) s.all) (et ∙ ap (λ v. table_with ks (counted x.held v x.held.sent_used)) eu) in
      (λ j. lent (place j) (eq j) (est j) x.sent)
      ∙ (λ j. rest i (ex j) (planned_sizes j))
      ∙ ap (λ w. lent (counted (settled_by (table_with E₁.kept r.held) i c w E₁.all) m.held.staged_used m.held.sent_used) (queue_with E₁.kept r.held.queue_used r.queue) m.staged m.sent) window-is

-- THE CODE'S STEPS fit, by its test of room

pub frames_fit : (b : Bool) (r : Raw) → is_sound r ≡ true → (m : ℕ) {o n : ℕ} → o ≡ n → fits_by b r o m ≡ true → out_used b r.held + n ≤ length (out_of b r)
frames_fit true r sd m {o} k e =
    let z = and_both (leb o (length r.sent - r.held.sent_used)) (leb m (length r.staged - r.held.staged_used)) e in
    omega (arith, k, leb-true o (length r.sent - r.held.sent_used) z.0, (limits r sd).sent_used)
frames_fit false r sd m {o} k e = omega (arith, k, leb-true (o + m) (length r.staged - r.held.staged_used) e, (limits r sd).staged_used)

pub marks_fit : (b : Bool) (r x : Raw) (os : List ℕ) → is_sound r ≡ true → x ≡ framed b r os → {o m n : ℕ} → o ≡ length os → m ≡ n → fits_by b r o m ≡ true
    → x.held.staged_used + n ≤ length x.staged
marks_fit true r x os sd ex {o} {m} k l e =
    let z = and_both (leb o (length r.sent - r.held.sent_used)) (leb m (length r.staged - r.held.staged_used)) e in
    rw ex (omega (arith, l, leb-true m (length r.staged - r.held.staged_used) z.1, (limits r sd).staged_used))
marks_fit false r x os sd ex {o} {m} k l e =
    rw ex (omega (arith, k, l, length-write r.held.staged_used os r.staged, leb-true (o + m) (length r.staged - r.held.staged_used) e, (limits r sd).staged_used))

-- and leave the entries, and the places, as they were
pub same_base : (b : Bool) (r x : Raw) (os : List ℕ) → x ≡ framed b r os → Base r.held.entries r.held.entry_count r.queue r.held.queue_used
    → Base x.held.entries x.held.entry_count x.queue x.held.queue_used
same_base b r x os e h = rw e h

pub same_place : (b : Bool) (r x : Raw) (os : List ℕ) (ks : List Entry) (u : ℕ) (t : T.Table) → x ≡ framed b r os → t ≡ table_with ks (counted x.held u x.held.sent_used)
    → (t.records ≡ r.held.records) × (t.used ≡ r.held.used)
unfolding Keep.table_with
same_place b r x os ks u t ex et = (ap (λ y. y.records) et ∙ ap (λ y. y.held.records) ex, ap (λ y. y.used) et ∙ ap (λ y. y.held.used) ex)

-- WHAT WAS NOT FOUND

missed : (r : Raw) → Typed r → (route : Route) (n : ℕ) {k : Refusal} → Missed r n k → called r (put route (flush n)) ≡ record { answer = A.refusal k; state = r }
unfolding A.refusal A.refusal_number
missed r ty route n (unsound e) = B.unsound r (put route (flush n)) e
missed r ty route n (unknown s e) = unknown_is r ty s route n e

pub passed_on : {X : Type 0} (r : Raw) → Typed r → (route : Route) (n : ℕ) (f : X → Answer) (x : Result X Refusal) {k : Refusal} → IsErrAnd x (λ e. e ≡ k) → Missed r n k
    → record { answer = A.answer f x; state = r } ≡ called r (put route (flush n))
unfolding A.answer
passed_on r ty route n f (Ok a) e m = absurd e
passed_on r ty route n f (Err j) e m = sym (missed r ty route n (rw (sym e) at m))

-- WHERE SENT STANDS: frames go into it in the writer form alone

pub typed_by : (w : Bool) {t : T.Table} {queue st kept : List ℕ} (out : List ℕ) → Typed (lent t queue st kept) → Typed (sent_by w t queue st out kept)
typed_by w out x = record { word = x.word; places = x.places; entries = x.entries; bytes = x.bytes }

abbrev pub straight : Bool → Bool → Bool → Bool
straight w k e = (w && not k) && e

module _ (t : T.Table) (queue st out kept : List ℕ) where
  pub framed_by : (w k e : Bool) (bs : List ℕ) {v : T.Table} {s o : List ℕ} → lent v queue s o ≡ framed (straight w k e) (lent t queue st out) bs
      → sent_by w v queue s o kept ≡ framed (straight w k e) (sent_by w t queue st out kept) bs
  framed_by true k e bs f = f
  framed_by false k e bs f = ap (λ r. lent r.held r.queue r.staged kept) f

  pub out_by : (w k e : Bool) → out_of (straight w k e) (sent_by w t queue st out kept) ≡ out_of (straight w k e) (lent t queue st out)
  out_by true k e = refl
  out_by false k e = refl

  pub fits_as : (w k e : Bool) (x y : ℕ) → fits_by (straight w k e) (sent_by w t queue st out kept) x y ≡ fits_by (straight w k e) (lent t queue st out) x y
  fits_as true k e x y = refl
  fits_as false k e x y = refl

  pub sent_in : (w k e : Bool) → is_sound (sent_by w t queue st out kept) ≡ true → straight w k e ≡ true → t.sent_used ≤ length out
  sent_in true k e sd b = (limits (sent_by true t queue st out kept) sd).sent_used
  sent_in false k e sd b = absurd (true≢false (sym b))
