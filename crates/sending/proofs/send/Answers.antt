-- Each way out is one law, by what was seen and tested.
use Rattle.std.proofs.Common.{◌≡◌, sym, ap, ◌∙◌, ◌+◌, ◌-◌, ◌≤◌, ◌<◌, length, take, drop, refl, rules, arith}
use lib.Dec.{eqb}
use borrow.Author.Tests.{ne_eqb, eqb-false}
use Rattle.std.proofs.lemmas.List.{length-take-le, take_all, length-drop}
use Rattle.laws.proofs.Tests.{or_neither}
use Rattle.channel.specs.Wire.{frames, packets}
use Rattle.channel.specs.State.{peer_of}
use Rattle.channel.specs.Call.{gave, framed}
use Rattle.channel.specs.Change as G
use Rattle.channel.specs.Answers as A
use Rattle.channel.specs.Raw as R
use Rattle.lookup.specs.Held.{record_at}
use Rattle.lookup.specs.Out.{out_used, state_of}
use Rattle.lookup.proofs.Limits.{limits}
use Rattle.soundness.proofs.Told.{passed_on, unconfirmed}
use Rattle.sending.proofs.Ways.{queued_in, asks, has_room, queued, queue_full, nothing, limited, out_within, out_limited, fits_by, short_by, fits, framed_at, or_right, out_full, rest_full, framed_all, framed_rest}
use Rattle.sending.proofs.send.Goals as goal
use Rattle.sending.proofs.send.Goals.{Else-out-at}

pub returns-in_err-found : goal.returns-in_err-found
returns-in_err-found c w way =
    let m = rw c.in_err-found.was at c.see_by.ensures.is in
    passed_on c.see_by.ensures.typed (asks _ _ _ _ _ _ refl) _ c.from_residual.result c.from_residual.ensures.1 m

pub returns-then-not-record : goal.returns-then-not-record
unfolding A.answer R.zero_record
returns-then-not-record c w way =
    let h = rw c.in_ok-found.was at c.see_by.ensures.is in
    sym (unconfirmed c.see_by.ensures.typed (asks _ _ _ _ _ _ refl) h c.if-not-record.true)

pub has_room-requires : goal.has_room-requires
has_room-requires c =
    let h = rw c.in_ok-found.was at c.see_by.ensures.is in
    (limits (state_of c.args.straight c.args.t.now c.args.queue.now c.args.out.now c.args.other.now) h.sound).queue_used

pub returns-then-not-has_room : goal.returns-then-not-has_room
unfolding A.answer R.zero_record
returns-then-not-has_room c w way =
    let h = rw c.in_ok-found.was at c.see_by.ensures.is in
    sym (queue_full c.see_by.ensures.typed h c.if-not-record.false w c.args.load.now.rekey c.args.kind c.args.load.now.buf.now c.if-found-load.true (sym c.has_room.ensures ∙ c.if-not-has_room.true))

pub enqueue-requires-clause-bytes : goal.enqueue-requires-clause-bytes
enqueue-requires-clause-bytes c =
    let h = rw c.in_ok-found.was at c.see_by.ensures.is in
    (has_room (state_of c.args.straight c.args.t.now c.args.queue.now c.args.out.now c.args.other.now) h.sound _ (sym c.has_room.ensures ∙ c.if-not-has_room.false)).1

pub enqueue-requires-clause-long : goal.enqueue-requires-clause-long
enqueue-requires-clause-long c =
    let h = rw c.in_ok-found.was at c.see_by.ensures.is in
    (limits (state_of c.args.straight c.args.t.now c.args.queue.now c.args.out.now c.args.other.now) h.sound).queue_long

pub returns-then-found-load : goal.returns-then-found-load
unfolding A.answer R.zero_record
returns-then-found-load c w way =
    let h = rw c.in_ok-found.was at c.see_by.ensures.is in
    rw (c.enqueue.ensures.table, c.enqueue.ensures.queue_after)
    (sym (queued c.see_by.ensures.typed h c.if-not-record.false w c.args.load.now.rekey c.args.kind c.args.load.now.buf.now c.if-found-load.true (sym c.has_room.ensures ∙ c.if-not-has_room.false)))

pub returns-then-is_empty : goal.returns-then-is_empty
unfolding A.answer R.zero_record
returns-then-is_empty c w way =
    let h = rw c.in_ok-found.was at c.see_by.ensures.is in
    let e : length c.args.load.now.buf.now ≡ 0 = search rules in
    sym (nothing c.see_by.ensures.typed h c.if-not-record.false w c.args.load.now.rekey c.args.kind c.args.load.now.buf.now c.if-found-load.false e)

pub returns-then-limit-eq0 : goal.returns-then-limit-eq0
unfolding A.answer R.zero_record
returns-then-limit-eq0 c w way =
    let h = rw c.in_ok-found.was at c.see_by.ensures.is in
    let some : length c.args.load.now.buf.now ≡ 0 → ⊥ = search rules in
    sym (limited c.see_by.ensures.typed h c.if-not-record.false w c.args.load.now.rekey c.args.kind c.args.load.now.buf.now c.if-found-load.false some c.if-limit-eq0.true)

pub overflow_sub-out : goal.overflow_sub-out
overflow_sub-out c =
    let h = rw c.in_ok-found.was at c.see_by.ensures.is in
    rw c.out_used-at.ensures (out_within _ _ _ _ _ h.sound)

pub returns-then-out-at : goal.returns-then-out-at
unfolding A.answer R.zero_record
returns-then-out-at c w way =
    let h = rw c.in_ok-found.was at c.see_by.ensures.is in
    let some : length c.args.load.now.buf.now ≡ 0 → ⊥ = search rules in
    let m = c.min-now.result in
    let part : m ≤ length c.args.load.now.buf.now = omega (arith, c.min-now.ensures) in
    let size = c.size_of_run.ensures _ (take m c.args.load.now.buf.now) (length-take-le m c.args.load.now.buf.now part) in
    sym (out_full c.see_by.ensures.typed h c.if-not-record.false w c.args.load.now.rekey c.args.kind c.args.load.now.buf.now c.if-found-load.false some c.if-limit-eq0.false m c.min-now.ensures c.args.straight way
    (short_by _ _ _ _ _ h.sound _ size (ap (λ n. length c.args.out.now - n) c.out_used-at.ensures) c.if-out-at.true))

pub rest_fits-requires : goal.rest_fits-requires
rest_fits-requires c =
    let h = rw c.in_ok-found.was at c.see_by.ensures.is in
    (limits (state_of c.args.straight c.args.t.now c.args.queue.now c.args.out.now c.args.other.now) h.sound).queue_used

pub returns-then-not-rest_fits : goal.returns-then-not-rest_fits
unfolding A.answer R.zero_record
returns-then-not-rest_fits c w way =
    let h = rw c.in_ok-found.was at c.see_by.ensures.is in
    let some : length c.args.load.now.buf.now ≡ 0 → ⊥ = search rules in
    let m = c.min-now.result in
    let none = or_neither (eqb (length c.args.load.now.buf.now - m) 0) _ (sym c.rest_fits.ensures ∙ c.if-not-rest_fits.true) in
    let left : length c.args.load.now.buf.now - m ≡ 0 → ⊥ = eqb-false (length c.args.load.now.buf.now - m) 0 none.0 in
    sym (rest_full c.see_by.ensures.typed h c.if-not-record.false w c.args.load.now.rekey c.args.kind c.args.load.now.buf.now c.if-found-load.false some c.if-limit-eq0.false m c.min-now.ensures c.args.straight way (omega (arith, left)) none.1)

-- the frames fit
fit : (c : Else-out-at) → (let x = c.in_ok-found.found in let d = record_at c.args.t.now x.place in
    out_used c.args.straight c.args.t.now + length (frames (packets c.args.kind (peer_of d) d.recipient_maximum_packet_size (take c.min-now.result c.args.load.now.buf.now)))
    ≤ length c.args.out.now)
unfolding R.zero_record
fit c =
    let h = rw c.in_ok-found.was at c.see_by.ensures.is in
    let m = c.min-now.result in
    let part : m ≤ length c.args.load.now.buf.now = omega (arith, c.min-now.ensures) in
    let size = c.size_of_run.ensures _ (take m c.args.load.now.buf.now) (length-take-le m c.args.load.now.buf.now part) in
    fits_by _ _ _ _ _ h.sound _ size (ap (λ n. length c.args.out.now - n) c.out_used-at.ensures) c.if-out-at.false

pub put_run-end-requires : goal.put_run-end-requires
unfolding R.zero_record
put_run-end-requires c =
    let h = rw c.in_ok-found.was at c.see_by.ensures.is in
    let limit : 0 < (record_at c.args.t.now c.in_ok-found.found.place).recipient_maximum_packet_size = search rules in
    (limit, out_limited c.args.straight c.args.t.now c.args.queue.now c.args.out.now c.args.other.now h.sound, rw c.out_used-at.ensures (fit (goal.at.put_run-end-requires c).Else-out-at))

pub returns-then-now-bytes : goal.returns-then-now-bytes
unfolding A.answer R.zero_record G.with_peer_window
returns-then-now-bytes c w way =
    let h = rw c.in_ok-found.was at c.see_by.ensures.is in
    let some : length c.args.load.now.buf.now ≡ 0 → ⊥ = search rules in
    let m = c.min-now.result in
    let all : length c.args.load.now.buf.now - m ≡ 0 = omega (arith, c.if-now-bytes.true) in
    ap (λ s. record { answer = gave (framed m); state = s }) (framed_at c.args.straight c.args.t.now c.in_ok-found.found.place _ c.args.queue.now c.args.out.now c.args.other.now _ c.out_used-at.ensures c.put_run-end.ensures.value c.put_run-end.ensures.dst_after c.set_out_used.ensures)
    ∙ sym (framed_all c.see_by.ensures.typed h c.if-not-record.false w c.args.load.now.rekey c.args.kind c.args.load.now.buf.now c.if-found-load.false some c.if-limit-eq0.false m c.min-now.ensures c.args.straight way (fits _ _ _ _ _ _ (fit (goal.at.returns-then-now-bytes c).Else-out-at)) all)

pub enqueue-requires-2-clause-long : goal.enqueue-requires-2-clause-long
enqueue-requires-2-clause-long c =
    let h = rw c.in_ok-found.was at c.see_by.ensures.is in
    (limits (state_of c.args.straight c.args.t.now c.args.queue.now c.args.out.now c.args.other.now) h.sound).queue_long

pub returns : goal.returns
unfolding A.answer R.zero_record G.with_peer_window
returns c w way =
    let h = rw c.in_ok-found.was at c.see_by.ensures.is in
    let some : length c.args.load.now.buf.now ≡ 0 → ⊥ = search rules in
    let m = c.min-now.result in
    let bytes = c.args.load.now.buf.now in
    let left : length bytes - m ≡ 0 → ⊥ = λ z. c.if-now-bytes.false (omega (arith, c.min-now.ensures, z)) in
    let rest : take (length bytes - m) (drop m bytes) ≡ drop m bytes = take_all (length bytes - m) (drop m bytes) (simp length-drop (omega arith)) in
    let room = or_right (eqb (length bytes - m) 0) _ (sym c.rest_fits.ensures ∙ c.if-not-rest_fits.false) (ne_eqb (length bytes - m) 0 left) in
    rw (c.enqueue-2.ensures.table, c.enqueue-2.ensures.queue_after)
    (ap (λ s. record { answer = gave (framed m); state = s }) (λ j. queued_in ((framed_at c.args.straight c.args.t.now c.in_ok-found.found.place _ c.args.queue.now c.args.out.now c.args.other.now _ c.out_used-at.ensures c.put_run-end.ensures.value c.put_run-end.ensures.dst_after c.set_out_used.ensures) j) c.args.load.now.number.0 c.args.kind (rest j)))
    ∙ sym (framed_rest c.see_by.ensures.typed h c.if-not-record.false w c.args.load.now.rekey c.args.kind c.args.load.now.buf.now c.if-found-load.false some c.if-limit-eq0.false m c.min-now.ensures c.args.straight way (fits _ _ _ _ _ _ (fit (goal.at.returns c).Else-out-at)) (omega (arith, left)) room)
