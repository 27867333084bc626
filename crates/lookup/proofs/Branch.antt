-- From the facts at a return to `called`: one law for each form of decision, over any call that is `apply` of it.
-- Assumes nothing.
use Prim.Native.Nat.{ℕ, ◌+◌, ◌-◌, ◌≤◌, ◌<◌}
use mathlib.Core.Path.{◌≡◌, refl, sym, ap, ap₂, ◌∙◌}
use mathlib.Core.Bool.{Bool, true, false, ◌&&◌}
use mathlib.Core.List.{List, [], ◌++◌}
use lib.ListN.{length, drop, replicate, length-append, length-drop}
use lib.Dec.{leb}
use native.Mathlib.Omega.{arith}
use borrow.Author.Tests.{le-leb, lt-leb}
use Rattle.laws.proofs.Tests.{by_test, and_of}
use Rattle.channel.specs.declared.Record.{Record}
use Rattle.channel.specs.declared.Entry as E
use Rattle.channel.specs.declared.Table as D
use Rattle.channel.specs.Wire.{frames}
use Rattle.channel.specs.Wire as W
use Rattle.channel.specs.State.{most_entries, Table, World, settle_in, queued, refit}
use Rattle.channel.specs.Call.{Call, Result, Answer, refused, gave}
use Rattle.channel.specs.Change.{with_last, with_places, altered, removed}
use Rattle.channel.specs.Change as G
use Rattle.channel.specs.Decide.{Queues, none, for, Plan, refuse, go, quiet, staging}
use Rattle.channel.specs.Decide as I
use Rattle.channel.specs.Step.{to_sent, to_staged, Room, enough, lacks, needs, within, room_for, carried_out, with_room, apply, step}
use Rattle.channel.specs.Step as T
use Rattle.channel.specs.Raw.{Raw, meaning, written, word_of, records_of, pending_of, zero_entry}
use Rattle.channel.specs.Raw as R
use Rattle.channel.specs.Sound.{is_sound}
use Rattle.channel.specs.Called.{Typed, Outcome, called, lent, outcome}
use Rattle.channel.specs.Called as C
use Rattle.channel.proofs.Wire.{frames-append}
use Rattle.channel.proofs.Room.{needs_true, needs_false}
use Rattle.channel.proofs.Faithful.{written-meaning, sizes}
use Rattle.lookup.specs.Held.{HeldAt, FreeAt, record_at}
use Rattle.lookup.specs.Update.{placed, filed, counted, last_set, record_set, place_freed, place_taken}
use Rattle.lookup.proofs.Limits.{limits}
use Rattle.lookup.proofs.Bridge.{behind, Put, put-none, put_as, behind_seam, Places, same-places, settled_places, changed_places, freed_places, Rows, same_rows}

-- ANSWER 1

pub unsound : (r : Raw) (c : Call) → is_sound r ≡ false → called r c ≡ record { answer = refused 1; state = r }
unfolding C.called C.when_sound
unsound r c e = rw e

-- a sound state: the definition's step
pub sound-step : (r : Raw) (c : Call) → is_sound r ≡ true → called r c ≡ record { answer = (step (meaning r) c).answer; state = written (step (meaning r) c).world }
unfolding C.called C.when_sound
sound-step r c e = rw e

-- the code's refusal of a state, as an outcome
pub refusal_is : {a b : Answer} {x : D.Table} (r : Raw) → a ≡ b → x ≡ r.held → ◌≡◌ {A = Outcome} (outcome a x r.queue r.staged r.sent) (record { answer = b; state = r })
refusal_is r e f = λ j. outcome (e j) (f j) r.queue r.staged r.sent

-- ROOM for a plan, over the code's state

-- what is queued finds an entry and its bytes
abbrev pub Enters : Raw → Table → Queues → Type 0
Enters r t none = Unit {0}
Enters r t (for n) = (length t.entries ≤ most_entries) × (length (queued t.entries) ≤ length r.queue)

pub record HasRoom (r : Raw) (b : Bool) (p : Plan) : Type 0 where
  pub sent : r.held.sent_used + length (to_sent b p) ≤ length r.sent
  pub staged : r.held.staged_used + length (frames (to_staged b p)) ≤ length r.staged
  pub queue : Enters r p.table p.queues

-- or one of the four is short
pub data Lacks (r : Raw) (b : Bool) (p : Plan) : Type 0 where
  sent : length r.sent < r.held.sent_used + length (to_sent b p) → Lacks r b p
  staged : length r.staged < r.held.staged_used + length (frames (to_staged b p)) → Lacks r b p
  entries : (n : ℕ) → p.queues ≡ for n → most_entries < length p.table.entries → Lacks r b p
  bytes : (n : ℕ) → p.queues ≡ for n → length r.queue < length (queued p.table.entries) → Lacks r b p

-- bytes fit a rest, or do not
fits-rest : (n used : ℕ) (l : List ℕ) → used + n ≤ length l → leb n (length (drop used l)) ≡ true
fits-rest n used l h = le-leb n (length (drop used l)) (simp length-drop (omega arith))

lacks_rest : (n used : ℕ) (l : List ℕ) → used ≤ length l → length l < used + n → leb n (length (drop used l)) ≡ false
lacks_rest n used l u h = lt-leb n (length (drop used l)) (simp length-drop (omega arith))

-- every need answers 5, so that their order does not show
short_later : (a : Bool) (m : Room) → m ≡ lacks 5 → needs a 5 m ≡ lacks 5
short_later a m e = by_test a (λ t. needs_true 5 m t ∙ e) (λ t. needs_false 5 m t)

and_short : (a b : Bool) → b ≡ false → a && b ≡ false
and_short true b e = e
and_short false b e = refl

module _ (r : Raw) (ty : Typed r) (sd : is_sound r ≡ true) (b : Bool) (p : Plan) where
  -- the queue's length, as the definition adds it up
  queue-size : length (queued (meaning r).table.entries) + length (meaning r).queue_rest ≡ length r.queue
  queue-size = (sizes (meaning r) r (written-meaning r ty sd)).queue

  enters : (q : Queues) → Enters r p.table q → within (length r.queue) p.table q ≡ true
  unfolding T.within
  enters none e = refl
  enters (for n) e = and_of _ _ (le-leb _ _ e.0) (le-leb _ _ e.1)

  has_room : HasRoom r b p → room_for (meaning r) p b ≡ enough
  unfolding T.room_for
  has_room h =
      needs_true 5 _ (unfold R.meaning in fits-rest (length (to_sent b p)) r.held.sent_used r.sent h.sent)
      ∙ needs_true 5 _ (unfold R.meaning in fits-rest (length (frames (to_staged b p))) r.held.staged_used r.staged h.staged)
      ∙ needs_true 5 _ (ap (λ n. within n p.table p.queues) queue-size ∙ enters p.queues h.queue)

  short_queue : (n : ℕ) → p.queues ≡ for n → leb (length p.table.entries) most_entries && leb (length (queued p.table.entries)) (length r.queue) ≡ false → room_for (meaning r) p b ≡ lacks 5
  unfolding T.room_for T.within
  short_queue n q e =
      short_later _ _ (short_later _ _ (needs_false 5 _
      (ap (λ k. within k p.table p.queues) queue-size ∙ ap (within (length r.queue) p.table) q ∙ e)))

  no_room : Lacks r b p → room_for (meaning r) p b ≡ lacks 5
  unfolding T.room_for
  no_room (sent h) = needs_false 5 _ (unfold R.meaning in lacks_rest (length (to_sent b p)) r.held.sent_used r.sent (limits r sd).sent_used h)
  no_room (staged h) = short_later _ _ (needs_false 5 _ (unfold R.meaning in lacks_rest (length (frames (to_staged b p))) r.held.staged_used r.staged (limits r sd).staged_used h))
  no_room (entries n q h) = short_queue n q (ap (λ x. x && leb (length (queued p.table.entries)) (length r.queue)) (lt-leb (length p.table.entries) most_entries h))
  no_room (bytes n q h) = short_queue n q (and_short (leb (length p.table.entries) most_entries) _ (lt-leb (length (queued p.table.entries)) (length r.queue) h))

-- THE GENERAL LAWS

-- the code's state after a plan, field by field
unfoldable pub carried : Raw → Bool → Plan → Raw
carried r b p =
    let ps = p.table.places in
    let es = p.table.entries in
    lent
    (record {
      last = p.table.last;
      used = word_of ps;
      records = records_of ps;
      entries = pending_of es ++ replicate (most_entries - length es) zero_entry;
      entry_count = length es;
      queue_used = length (queued es);
      staged_used = r.held.staged_used + length (frames (to_staged b p));
      sent_used = r.held.sent_used + length (to_sent b p);
    })
    (queued es ++ refit r.held.queue_used (length (queued es)) (drop r.held.queue_used r.queue))
    (behind r.held.staged_used (frames (to_staged b p)) r.staged)
    (behind r.held.sent_used (to_sent b p) r.sent)

-- a buffer whose used part grew
grown : (used bs rest l : List ℕ) (n : ℕ) → used ++ rest ≡ l → length used ≡ n → Put n l bs (length (used ++ bs)) (used ++ bs ++ drop (length bs) rest)
grown used bs rest l n e m =
    record {
      count = ap (λ k. k + length bs) (sym m) ∙ sym (length-append used bs);
      bytes = sym (behind_seam used bs rest ∙ ap₂ (λ k x. behind k bs x) m e);
    }

written-carried : (r : Raw) → Typed r → is_sound r ≡ true → (b : Bool) (p : Plan) → written (carried_out (meaning r) p b) ≡ carried r b p
unfolding R.written R.meaning T.carried_out carried
written-carried r ty sd b p =
    let w = meaning r in
    let e = written-meaning r ty sd in
    let es = p.table.entries in
    let ms = to_staged b p in
    let fa = frames-append w.staged ms in
    let st : Put r.held.staged_used r.staged (frames ms) (length (frames w.staged ++ frames ms)) (frames w.staged ++ frames ms ++ drop (length (frames ms)) w.staged_rest) =
    grown (frames w.staged) (frames ms) w.staged_rest r.staged r.held.staged_used (ap (λ x. x.staged) e) (ap (λ x. x.held.staged_used) e) in
    let se = grown w.sent (to_sent b p) w.sent_rest r.sent r.held.sent_used (ap (λ x. x.sent) e) (ap (λ x. x.held.sent_used) e) in
    let qu = ap (λ n. refit n (length (queued es)) w.queue_rest) (ap (λ x. x.held.queue_used) e) in
    λ i. lent
    (record {
      last = p.table.last;
      used = word_of p.table.places;
      records = records_of p.table.places;
      entries = pending_of es ++ replicate (most_entries - length es) zero_entry;
      entry_count = length es;
      queue_used = length (queued es);
      staged_used = (ap length fa ∙ sym st.count) i;
      sent_used = sym se.count i;
    })
    (queued es ++ qu i)
    ((ap (λ l. l ++ drop (length (frames ms)) w.staged_rest) fa ∙ sym st.bytes) i)
    (sym se.bytes i)

module _ (r : Raw) (ty : Typed r) (sd : is_sound r ≡ true) (k : Call) (b : Bool) where
  -- the call's outcome, by its reply
  replied : {a : Answer} {w : World} {s : Raw} → step (meaning r) k ≡ record { answer = a; world = w } → written w ≡ s → called r k ≡ record { answer = a; state = s }
  replied {a} d e =
      sound-step r k sd
      ∙ ap {B = Outcome} (λ x. record { answer = x.answer; state = written x.world }) d
      ∙ ap {B = Outcome} (λ x. record { answer = a; state = x }) e

  -- a refusal
  pub refusing : (n : ℕ) → step (meaning r) k ≡ apply (meaning r) b (refuse n) → called r k ≡ record { answer = refused n; state = r }
  unfolding T.apply
  refusing n d = replied d (written-meaning r ty sd)

  -- a plan without room
  pub lacking : (p : Plan) → step (meaning r) k ≡ apply (meaning r) b (go p) → Lacks r b p → called r k ≡ record { answer = refused 5; state = r }
  unfolding T.apply T.with_room
  lacking p d h = replied (d ∙ ap (λ x. with_room x (meaning r) p b) (no_room r ty sd b p h)) (written-meaning r ty sd)

  -- a plan with room
  pub going : (p : Plan) → step (meaning r) k ≡ apply (meaning r) b (go p) → HasRoom r b p → called r k ≡ record { answer = gave p.answer; state = carried r b p }
  unfolding T.apply T.with_room
  going p d h = replied (d ∙ ap (λ x. with_room x (meaning r) p b) (has_room r ty sd b p h)) (written-carried r ty sd b p)

  -- the same, with each part of the state as the code has it
  pub gone : (p : Plan) → step (meaning r) k ≡ apply (meaning r) b (go p) → HasRoom r b p
      → {used : ℕ} {rs : List Record} → Places p.table.places used rs
      → {rows : List E.Entry} {n m : ℕ} {q : List ℕ} → Rows r p.table.entries rows n m q
      → {su : ℕ} {st : List ℕ} → Put r.held.staged_used r.staged (frames (to_staged b p)) su st
      → {se : ℕ} {so : List ℕ} → Put r.held.sent_used r.sent (to_sent b p) se so
      → called r k ≡ outcome (gave p.answer) (counted (filed (placed r.held p.table.last used rs) rows n m) su se) q st so
  unfolding carried
  gone p d h ps es st se =
      going p d h
      ∙ (λ i. outcome (gave p.answer)
      (record {
        last = p.table.last;
        used = ps.word i;
        records = ps.records i;
        entries = es.entries i;
        entry_count = es.count i;
        queue_used = es.used i;
        staged_used = st.count i;
        sent_used = se.count i;
      })
      (es.queue i)
      (st.bytes i)
      (se.bytes i))

-- PLANS WITHOUT PAYLOAD

pub to-staged : (b : Bool) (p : Plan) → p.payload ≡ [] → to_staged b p ≡ p.control
unfolding T.to_staged
to-staged true p e = refl
to-staged false p e = ap (λ l. l ++ p.control) e

pub to-sent : (b : Bool) (p : Plan) → p.payload ≡ [] → to_sent b p ≡ []
unfolding T.to_sent W.frames
to-sent true p e = ap frames e
to-sent false p e = refl

abbrev control_plan : Result → Table → List (List ℕ) → Plan
control_plan ans t ms = record { answer = ans; table = t; payload = []; control = ms; queues = none }

module _ (r : Raw) (ty : Typed r) (sd : is_sound r ≡ true) (k : Call) (b : Bool) (ans : Result) where
  -- whatever the places and the entries come to
  pub control-is : (t : Table) (ms : List (List ℕ)) → step (meaning r) k ≡ apply (meaning r) b (staging ans t ms) → r.held.staged_used + length (frames ms) ≤ length r.staged
      → {used : ℕ} {rs : List Record} → Places t.places used rs
      → {rows : List E.Entry} {n m : ℕ} {q : List ℕ} → Rows r t.entries rows n m q
      → {su : ℕ} {st : List ℕ} → Put r.held.staged_used r.staged (frames ms) su st
      → called r k ≡ outcome (gave ans) (counted (filed (placed r.held t.last used rs) rows n m) su r.held.sent_used) q st r.sent
  unfolding I.staging
  control-is t ms d h ps es st =
      let p = control_plan ans t ms in
      let ts : to_staged b p ≡ ms = to-staged b p refl in
      let tn : to_sent b p ≡ [] = to-sent b p refl in
      let ls : length (frames (to_staged b p)) ≡ length (frames ms) = ap (λ l. length (frames l)) ts in
      let ln : length (to_sent b p) ≡ 0 = ap length tn in
      gone r ty sd k b p d
      (record { sent = omega (arith, (limits r sd).sent_used); staged = omega arith; queue = tt })
      ps
      es
      (put_as (ap frames ts) st)
      (put_as tn (put-none r.held.sent_used r.sent))

  -- no room for the messages
  pub full : (t : Table) (ms : List (List ℕ)) → step (meaning r) k ≡ apply (meaning r) b (staging ans t ms) → length r.staged < r.held.staged_used + length (frames ms)
      → called r k ≡ record { answer = refused 5; state = r }
  unfolding I.staging
  full t ms d h =
      let p = control_plan ans t ms in
      let ls : length (frames (to_staged b p)) ≡ length (frames ms) = ap (λ l. length (frames l)) (to-staged b p refl) in
      lacking r ty sd k b p d (staged (omega arith))

  -- nothing is put out, and the entries are as they were
  silent : (t : Table) → step (meaning r) k ≡ apply (meaning r) b (quiet ans t) → t.entries ≡ (meaning r).table.entries
      → {used : ℕ} {rs : List Record} → Places t.places used rs
      → called r k ≡ outcome (gave ans) (placed r.held t.last used rs) r.queue r.staged r.sent
  unfolding I.quiet I.staging W.frames
  silent t d e ps = control-is t [] d (omega (arith, (limits r sd).staged_used)) ps (rw e (same_rows r ty sd)) (put-none r.held.staged_used r.staged)

  -- nothing changes
  pub same-is : step (meaning r) k ≡ apply (meaning r) b (quiet ans (meaning r).table) → called r k ≡ record { answer = gave ans; state = r }
  unfolding R.meaning
  same-is d = silent (meaning r).table d refl (same-places r ty sd)

  -- messages are staged
  pub put_is : (ms : List (List ℕ)) → step (meaning r) k ≡ apply (meaning r) b (staging ans (meaning r).table ms) → r.held.staged_used + length (frames ms) ≤ length r.staged
      → {su : ℕ} {st : List ℕ} → Put r.held.staged_used r.staged (frames ms) su st
      → called r k ≡ outcome (gave ans) (counted r.held su r.held.sent_used) r.queue st r.sent
  unfolding R.meaning
  put_is ms d h = control-is (meaning r).table ms d h (same-places r ty sd) (same_rows r ty sd)

  -- the last number changes
  pub last-is : (n : ℕ) → step (meaning r) k ≡ apply (meaning r) b (quiet ans (with_last (meaning r).table n))
      → called r k ≡ outcome (gave ans) (last_set r.held n) r.queue r.staged r.sent
  unfolding G.with_last
  last-is n d = silent (with_last (meaning r).table n) d refl (same-places r ty sd)

  -- a record takes the lowest free place
  module _ (i : ℕ) (f : FreeAt r.held i) (d : Record) where
    pub taken_is : step (meaning r) k ≡ apply (meaning r) b (quiet ans (with_places (meaning r).table (settle_in d (meaning r).table.places)))
        → called r k ≡ outcome (gave ans) (place_taken r.held i d) r.queue r.staged r.sent
    unfolding G.with_places R.meaning
    taken_is e = silent (with_places (meaning r).table (settle_in d (meaning r).table.places)) e refl (settled_places r ty sd i d f)

    -- and the last number changes
    pub taken-last-is : (n : ℕ) → step (meaning r) k ≡ apply (meaning r) b (quiet ans (with_last (with_places (meaning r).table (settle_in d (meaning r).table.places)) n))
        → called r k ≡ outcome (gave ans) (last_set (place_taken r.held i d) n) r.queue r.staged r.sent
    unfolding G.with_last G.with_places
    taken-last-is n e = silent (with_last (with_places (meaning r).table (settle_in d (meaning r).table.places)) n) e refl (settled_places r ty sd i d f)

  -- the record with the number n
  module _ (n i : ℕ) (h : HeldAt r.held n i) where
    -- changes
    pub recorded-is : (d : Record) → step (meaning r) k ≡ apply (meaning r) b (quiet ans (altered (meaning r).table (record_at r.held i) d))
        → called r k ≡ outcome (gave ans) (record_set r.held i d) r.queue r.staged r.sent
    unfolding G.altered G.with_places R.meaning
    recorded-is d e = silent (altered (meaning r).table (record_at r.held i) d) e refl (changed_places r ty sd n i h d)

    pub recorded-put-is : (d : Record) (ms : List (List ℕ)) → step (meaning r) k ≡ apply (meaning r) b (staging ans (altered (meaning r).table (record_at r.held i) d) ms)
        → r.held.staged_used + length (frames ms) ≤ length r.staged
        → {su : ℕ} {st : List ℕ} → Put r.held.staged_used r.staged (frames ms) su st
        → called r k ≡ outcome (gave ans) (counted (record_set r.held i d) su r.held.sent_used) r.queue st r.sent
    unfolding G.altered G.with_places R.meaning
    recorded-put-is d ms e l = control-is (altered (meaning r).table (record_at r.held i) d) ms e l (changed_places r ty sd n i h d) (same_rows r ty sd)

    -- goes, and its place is free
    pub freed_is : step (meaning r) k ≡ apply (meaning r) b (quiet ans (removed (meaning r).table (record_at r.held i)))
        → called r k ≡ outcome (gave ans) (place_freed r.held i) r.queue r.staged r.sent
    unfolding G.removed G.with_places R.meaning
    freed_is e = silent (removed (meaning r).table (record_at r.held i)) e refl (freed_places r ty sd n i h)

    pub freed_put-is : (ms : List (List ℕ)) → step (meaning r) k ≡ apply (meaning r) b (staging ans (removed (meaning r).table (record_at r.held i)) ms)
        → r.held.staged_used + length (frames ms) ≤ length r.staged
        → {su : ℕ} {st : List ℕ} → Put r.held.staged_used r.staged (frames ms) su st
        → called r k ≡ outcome (gave ans) (counted (place_freed r.held i) su r.held.sent_used) r.queue st r.sent
    unfolding G.removed G.with_places R.meaning
    freed_put-is ms e l = control-is (removed (meaning r).table (record_at r.held i)) ms e l (freed_places r ty sd n i h) (same_rows r ty sd)
