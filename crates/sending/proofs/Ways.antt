-- The data calls over the code's state: a law for each way out past the record.
-- Assumes nothing.
use Rattle.std.proofs.Common.{ℕ, ◌+◌, ◌-◌, ◌≤◌, ◌<◌, ◌≡◌, refl, sym, ap, ◌∙◌, min, Bool, true, false, cond, not, ◌&&◌, ◌||◌, List, [], ◌∷◌, ◌++◌, length, take, drop, length-drop, arith}
use lib.Dec.{ltb, leb, eqb}
use mathlib.Core.Bool.{true≢false}
use borrow.Author.Tests.{eq-eqb, ne_eqb, ltb-true, ltb-false, leb-true, leb-false}
use Rattle.laws.proofs.Tests.{by_test, and_both, or_neither}
use Rattle.octets.specs.Buf.{write}
use Rattle.octets.proofs.Laws.{write_eq}
use Rattle.channel.specs.declared.Kind.{Kind}
use Rattle.channel.specs.declared.Table as D
use Rattle.channel.specs.declared.Record.{Record}
use Rattle.channel.specs.declared.Refusal.{Refusal}
use Rattle.channel.specs.Wire.{frames, packets}
use Rattle.channel.specs.State.{most_entries, most_bytes, number_of, peer_of, any_entry}
use Rattle.channel.specs.Call.{Route, is_straight, direct, Call, send, put, gave}
use Rattle.channel.specs.Call as C
use Rattle.channel.specs.Change.{with_peer_window, with_entries}
use Rattle.channel.specs.Decide.{refuse, go, quiet, queueing, send_on}
use Rattle.channel.specs.Decide as I
use Rattle.channel.specs.Step.{goes_straight, apply, step}
use Rattle.channel.specs.Raw.{Raw, meaning}
use Rattle.channel.specs.Sound.{is_sound}
use Rattle.channel.specs.Called.{Typed, lent, called, outcome}
use Rattle.channel.specs.Answers.{refusal}
use Rattle.channel.specs.Answers as A
use Rattle.lookup.specs.Held.{record_at}
use Rattle.lookup.specs.Update.{record_set, entry_pushed, counted}
use Rattle.lookup.proofs.Limits.{limits}
use Rattle.lookup.proofs.Bridge.{entry, row}
use Rattle.lookup.proofs.Branch.{refusing, same-is}
use Rattle.lookup.proofs.Decided.{if_true, if_false, by_load}
use Rattle.lookup.proofs.Payload.{QueueFull, no_entry, no_bytes, staged_after, sent_after, OutFits, OutShort, send_plan, queued-is, queued-full, framed_is, framed-rest-is, framed-full, rest-full}
use Rattle.soundness.specs.declared.Found.{Found}
use Rattle.soundness.specs.Sees.{FoundIn}
use Rattle.soundness.proofs.Told.{Asks, confirmed, has_entry}
use Rattle.lookup.specs.Out.{route, out_used, out_more, framed, state_of}
use Rattle.lookup.proofs.Out.{goes, out_is, out_in, out_long}

pub asks : (r : Raw) (w k : Bool) (n : ℕ) (kind : Kind) (bs : List ℕ) {b : Bool} → goes_straight (direct (route w k)) (meaning r) ≡ b
    → Asks r n (put (route w k) (send kind n bs)) b (send_on (meaning r).table k kind bs)
unfolding I.load
asks r w k n kind bs {b = b} e = record { by = λ o d. by_load r (route w k) (send kind n bs) b e d }

-- what is queued during a rekey aside, the form and staged's used count say the way
by_form : (w k e : Bool) {b : Bool} → b ≡ w && e → k ≡ false → (w && not k) && e ≡ b
by_form true k e s z = rw z (sym s)
by_form false k e s z = sym s

-- one entry more, with its bytes
abbrev pub queued_in : Raw → ℕ → Kind → List ℕ → Raw
queued_in r n kind bs = lent (entry_pushed r.held (row n kind (length bs))) (write r.held.queue_used bs r.queue) r.staged r.sent

-- THE TESTS of room

abbrev pub room : Raw → ℕ → Bool
room r n = ltb r.held.entry_count most_entries && leb n (length r.queue - r.held.queue_used)

pub has_room : (r : Raw) → is_sound r ≡ true → (n : ℕ) → room r n ≡ true → (r.held.entry_count < most_entries) × (r.held.queue_used + n ≤ length r.queue)
has_room r sd n e =
    let z = and_both (ltb r.held.entry_count most_entries) (leb n (length r.queue - r.held.queue_used)) e in
    let a = ltb-true r.held.entry_count most_entries z.0 in
    let b = leb-true n (length r.queue - r.held.queue_used) z.1 in
    (a, omega (arith, b, (limits r sd).queue_used))

no_room : (r : Raw) → is_sound r ≡ true → (n : ℕ) → room r n ≡ false → QueueFull r n
no_room r sd n e =
    by_test (ltb r.held.entry_count most_entries)
    (λ t. let b = leb-false n (length r.queue - r.held.queue_used) (rw t at e) in no_bytes (omega (arith, b, (limits r sd).queue_used)))
    (λ t. no_entry (ltb-false r.held.entry_count most_entries t))

-- the buffer that frames go into
module _ (b : Bool) (t : D.Table) (queue out other : List ℕ) (sd : is_sound (state_of b t queue out other) ≡ true) where
  pub out_within : out_used b t ≤ length out
  out_within = rw (out_is b t queue out other) at (out_in b (state_of b t queue out other) sd)

  pub out_limited : length out ≤ most_bytes
  out_limited = rw (out_is b t queue out other) at (out_long b (state_of b t queue out other) sd)

  -- by what is free there and what the frames take
  module _ (n : ℕ) {size free : ℕ} (e : size ≡ n) (f : free ≡ length out - out_used b t) where
    pub fits_by : size ≤ free → out_used b t + n ≤ length out
    fits_by l = omega (arith, e, f, l, out_within)

    pub short_by : free < size → OutShort b (state_of b t queue out other) n
    short_by l = short b t (omega (arith, e, f, l, out_within))
      where
        short : (d : Bool) (u : D.Table) → length out < out_used d u + n → OutShort d (state_of d u queue out other) n
        short true u h = h
        short false u h = h

pub fits : (b : Bool) (t : D.Table) (queue out other : List ℕ) (n : ℕ) → out_used b t + n ≤ length out → OutFits b (state_of b t queue out other) n
fits true t queue out other n h = h
fits false t queue out other n h = h

-- frames put there, and its used count set, where the record at place i is d now
pub framed_at : (b : Bool) (t : D.Table) (i : ℕ) (d : Record) (queue out other bs : List ℕ) {u : D.Table} {new : List ℕ} {at end : ℕ} → at ≡ out_used b t → end ≡ at + length bs
    → new ≡ write at bs out → u ≡ counted (record_set t i d) (cond b t.staged_used end) (cond b end t.sent_used) → state_of b u queue new other ≡ framed b (state_of b (record_set t i d) queue out other) bs
framed_at true t i d queue out other bs a e w c = rw (c, w, e, a) refl
framed_at false t i d queue out other bs a e w c = rw (c, w, e, a) refl

pub or_right : (a b : Bool) → a || b ≡ true → a ≡ false → b ≡ true
or_right true b e z = absurd (true≢false z)
or_right false b e z = e

module _ {r : Raw} (ty : Typed r) {n : ℕ} {x : Found} (h : FoundIn r n x) (f : (record_at r.held x.place).confirmed ≡ true) (w k : Bool) (kind : Kind) (bs : List ℕ) where
  abbrev c : Record
  c = record_at r.held x.place

  abbrev call : Call
  call = put (route w k) (send kind n bs)

  -- a decision whose way does not show, since it puts nothing out
  abbrev any : Bool
  any = goes_straight (direct (route w k)) (meaning r)

  tested : {b : Bool} → x.waits || k ≡ b → any_entry (number_of c) (meaning r).table.entries || k ≡ b
  tested e = ap (λ y. y || k) (has_entry h refl) ∙ e

  -- QUEUED WHOLE

  queues : x.waits || k ≡ true
      → step (meaning r) call ≡ apply (meaning r) any (queueing (C.framed 0) (with_entries (meaning r).table ((meaning r).table.entries ++ entry (number_of c) kind bs ∷ [])) (number_of c))
  unfolding I.send_on
  queues e = confirmed ty (asks r w k n kind bs refl) h f ∙ ap (apply (meaning r) any) (if_true (any_entry (number_of c) (meaning r).table.entries || k) _ _ (tested e))

  pub queued : x.waits || k ≡ true → room r (length bs) ≡ true → called r call ≡ record { answer = gave (C.framed 0); state = queued_in r n kind bs }
  queued e g =
      let z = has_room r h.sound (length bs) g in
      queued-is r ty h.sound call (C.framed 0) n x.place h.held kind any bs (queues e) z.0 z.1
      ∙ ap (λ q. outcome (gave (C.framed 0)) (entry_pushed r.held (row n kind (length bs))) q r.staged r.sent) (sym (write_eq r.held.queue_used bs r.queue z.1))

  pub queue_full : x.waits || k ≡ true → room r (length bs) ≡ false → called r call ≡ record { answer = refusal Refusal.Room; state = r }
  unfolding A.refusal A.refusal_number
  queue_full e g = queued-full r ty h.sound call (C.framed 0) n x.place h.held kind any bs (queues e) (no_room r h.sound (length bs) g)

  module _ (e : x.waits || k ≡ false) where
    pub nothing : length bs ≡ 0 → called r call ≡ record { answer = gave (C.framed 0); state = r }
    unfolding I.send_on
    nothing z =
        same-is r ty h.sound call any (C.framed 0)
        (confirmed ty (asks r w k n kind bs refl) h f
        ∙ ap (apply (meaning r) any) (if_false (any_entry (number_of c) (meaning r).table.entries || k) _ _ (tested e) ∙ if_true (eqb (length bs) 0) _ _ (eq-eqb (length bs) 0 z)))

    module _ (some : length bs ≡ 0 → ⊥) where
      pub limited : c.recipient_maximum_packet_size ≡ 0 → called r call ≡ record { answer = refusal Refusal.Limit; state = r }
      unfolding I.send_on A.refusal A.refusal_number
      limited z =
          refusing r ty h.sound call any 4
          (confirmed ty (asks r w k n kind bs refl) h f
          ∙ ap (apply (meaning r) any)
          (if_false (any_entry (number_of c) (meaning r).table.entries || k) _ _ (tested e)
          ∙ if_false (eqb (length bs) 0) _ _ (ne_eqb (length bs) 0 some)
          ∙ if_true (eqb c.recipient_maximum_packet_size 0) _ _ (eq-eqb c.recipient_maximum_packet_size 0 z)))

      -- FRAMED

      module _ (l : c.recipient_maximum_packet_size ≡ 0 → ⊥) (m : ℕ) (now : m ≡ min (length bs) c.recipient_window_size) (b : Bool) (way : b ≡ w && eqb r.held.staged_used 0) where
        abbrev ms : List (List ℕ)
        ms = packets kind (peer_of c) c.recipient_maximum_packet_size (take m bs)

        abbrev d : Record
        d = with_peer_window c (c.recipient_window_size - m)

        abbrev charged : Raw
        charged = lent (record_set r.held x.place d) r.queue r.staged r.sent

        sends : step (meaning r) call ≡ apply (meaning r) b (go (send_plan r (C.framed m) x.place d kind ms (drop m bs)))
        unfolding I.send_on I.send_now
        sends =
            confirmed ty (asks r w k n kind bs (goes r h.sound w k ∙ by_form w k (eqb r.held.staged_used 0) way (or_neither x.waits k e).1)) h f
            ∙ ap (apply (meaning r) b)
            (if_false (any_entry (number_of c) (meaning r).table.entries || k) _ _ (tested e)
            ∙ if_false (eqb (length bs) 0) _ _ (ne_eqb (length bs) 0 some)
            ∙ if_false (eqb c.recipient_maximum_packet_size 0) _ _ (ne_eqb c.recipient_maximum_packet_size 0 l)
            ∙ ap (λ y. go (send_plan r (C.framed y) x.place (with_peer_window c (c.recipient_window_size - y)) kind (packets kind (peer_of c) c.recipient_maximum_packet_size (take y bs)) (drop y bs))) (sym now))

        pub out_full : OutShort b r (length (frames ms)) → called r call ≡ record { answer = refusal Refusal.Room; state = r }
        unfolding A.refusal A.refusal_number
        out_full o = framed-full r ty h.sound call (C.framed m) n x.place h.held kind d ms (drop m bs) b sends o

        pub rest_full : 0 < length bs - m → room r (length bs - m) ≡ false → called r call ≡ record { answer = refusal Refusal.Room; state = r }
        unfolding A.refusal A.refusal_number
        rest_full z g =
            let y : length (drop m bs) ≡ length bs - m = length-drop m bs in
            rest-full r ty h.sound call (C.framed m) n x.place h.held kind d ms (drop m bs) b sends (omega arith) (rw y (no_room r h.sound (length bs - m) g))

        module _ (o : OutFits b r (length (frames ms))) where
          -- nothing is left over
          pub framed_all : length bs - m ≡ 0 → called r call ≡ record { answer = gave (C.framed m); state = framed b charged (frames ms) }
          framed_all z =
              let y : length (drop m bs) ≡ 0 = length-drop m bs ∙ z in
              framed_is r ty h.sound call (C.framed m) n x.place h.held kind d ms (drop m bs) b sends y o ∙ ap (λ s. record { answer = gave (C.framed m); state = s }) (both b o)
            where
              both : (b : Bool) → OutFits b r (length (frames ms))
                  → lent (out_more b (record_set r.held x.place d) (length (frames ms))) r.queue (staged_after b r (frames ms)) (sent_after b r (frames ms)) ≡ framed b charged (frames ms)
              both true g = ap (λ s. lent (out_more true (record_set r.held x.place d) (length (frames ms))) r.queue r.staged s) (sym (write_eq r.held.sent_used (frames ms) r.sent g))
              both false g = ap (λ s. lent (out_more false (record_set r.held x.place d) (length (frames ms))) r.queue s r.sent) (sym (write_eq r.held.staged_used (frames ms) r.staged g))

          -- the rest is queued
          pub framed_rest : 0 < length bs - m → room r (length bs - m) ≡ true
              → called r call ≡ record { answer = gave (C.framed m); state = queued_in (framed b charged (frames ms)) n kind (drop m bs) }
          framed_rest z g =
              let y : length (drop m bs) ≡ length bs - m = length-drop m bs in
              let q = has_room r h.sound (length bs - m) g in
              let l : r.held.queue_used + length (drop m bs) ≤ length r.queue = omega (arith, q.1) in
              framed-rest-is r ty h.sound call (C.framed m) n x.place h.held kind d ms (drop m bs) b sends (omega arith) o q.0 l
              ∙ ap (λ s. record { answer = gave (C.framed m); state = s }) (both b o (sym (write_eq r.held.queue_used (drop m bs) r.queue l)))
            where
              both : (b : Bool) → OutFits b r (length (frames ms)) → {q : List ℕ} → q ≡ write r.held.queue_used (drop m bs) r.queue
                  → lent (out_more b (entry_pushed (record_set r.held x.place d) (row n kind (length (drop m bs)))) (length (frames ms))) q (staged_after b r (frames ms)) (sent_after b r (frames ms))
                  ≡ queued_in (framed b charged (frames ms)) n kind (drop m bs)
              both true g u = λ j. lent (out_more true (entry_pushed (record_set r.held x.place d) (row n kind (length (drop m bs)))) (length (frames ms))) (u j) r.staged (sym (write_eq r.held.sent_used (frames ms) r.sent g) j)
              both false g u = λ j. lent (out_more false (entry_pushed (record_set r.held x.place d) (row n kind (length (drop m bs)))) (length (frames ms))) (u j) (sym (write_eq r.held.staged_used (frames ms) r.staged g) j) r.sent
