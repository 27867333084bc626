-- The laws of Branch for the plans of data: one entry queued, or payload framed with what is left of it queued.
-- Assumes nothing.
use Prim.Native.Nat.{ℕ, ◌+◌, ◌≤◌, ◌<◌}
use mathlib.Core.Path.{◌≡◌, refl, ap, ◌∙◌}
use mathlib.Core.Bool.{Bool, true, false, ◌&&◌}
use mathlib.Core.List.{List, [], ◌∷◌, ◌++◌, append-nil}
use lib.ListN.{length, set}
use lib.Dec.{ltb, leb}
use native.Mathlib.Omega.{arith}
use borrow.Author.Tests.{ltb-false, leb-false}
use Rattle.laws.proofs.Tests.{by_test}
use Rattle.channel.specs.declared.Kind.{Kind}
use Rattle.channel.specs.declared.Record.{Record}
use Rattle.channel.specs.declared.Entry as E
use Rattle.channel.specs.Wire.{frames}
use Rattle.channel.specs.Wire as W
use Rattle.channel.specs.State.{most_entries, number_of, Table, queued}
use Rattle.channel.specs.Call.{Call, Result, refused, gave}
use Rattle.channel.specs.Change.{with_entries, altered}
use Rattle.channel.specs.Change as G
use Rattle.channel.specs.Decide.{none, for, Plan, go, queueing, remainder, queues_rest}
use Rattle.channel.specs.Decide as I
use Rattle.channel.specs.Step.{to_sent, to_staged, apply, step}
use Rattle.channel.specs.Step as T
use Rattle.channel.specs.Raw.{Raw, meaning}
use Rattle.channel.specs.Raw as R
use Rattle.channel.specs.Sound.{is_sound}
use Rattle.channel.specs.Called.{Typed, called, outcome}
use Rattle.lookup.specs.Held.{HeldAt, record_at}
use Rattle.lookup.specs.Update.{filed, record_set, entry_pushed}
use Rattle.lookup.specs.Out.{out_more}
use Rattle.lookup.proofs.Limits.{limits}
use Rattle.lookup.proofs.Bridge.{behind, put_some, put-none, put_as, same-places, changed_places, Rows, entry, row, same_rows, pushed-count, pushed-used, pushed_rows}
use Rattle.lookup.proofs.Branch.{Enters, Lacks, sent, staged, entries, bytes, lacking, gone, to-staged, to-sent}

-- what one entry more, of n bytes, lacks
pub data QueueFull (r : Raw) (n : ℕ) : Type 0 where
  no_entry : most_entries ≤ r.held.entry_count → QueueFull r n
  no_bytes : length r.queue < r.held.queue_used + n → QueueFull r n

-- by the code's test
pub queue-full : (r : Raw) (n : ℕ) → ltb r.held.entry_count most_entries && leb (r.held.queue_used + n) (length r.queue) ≡ false → QueueFull r n
queue-full r n e =
    by_test (ltb r.held.entry_count most_entries)
    (λ t. no_bytes (leb-false (r.held.queue_used + n) (length r.queue) (rw t at e)))
    (λ t. no_entry (ltb-false r.held.entry_count most_entries t))

-- what is left over: no entry where it is empty, otherwise one
rest-none : (n : ℕ) (kind : Kind) (bs : List ℕ) → length bs ≡ 0 → (remainder n kind bs ≡ []) × (queues_rest n bs ≡ none)
unfolding I.remainder I.queues_rest
rest-none n kind [] h = (refl, refl)
rest-none n kind (b ∷ bs) h = absurd (omega arith)

rest_some : (n : ℕ) (kind : Kind) (bs : List ℕ) → 0 < length bs → (remainder n kind bs ≡ entry n kind bs ∷ []) × (queues_rest n bs ≡ for n)
unfolding I.remainder I.queues_rest
rest_some n kind [] h = absurd (omega arith)
rest_some n kind (b ∷ bs) h = (refl, refl)

-- MESSAGES THAT MAY GO STRAIGHT: into sent where b is true, else into staged

abbrev pub staged_after : Bool → Raw → List ℕ → List ℕ
staged_after true r bs = r.staged
staged_after false r bs = behind r.held.staged_used bs r.staged

abbrev pub sent_after : Bool → Raw → List ℕ → List ℕ
sent_after true r bs = behind r.held.sent_used bs r.sent
sent_after false r bs = r.sent

-- n bytes fit there, or do not
abbrev pub OutFits : Bool → Raw → ℕ → Type 0
OutFits true r n = r.held.sent_used + n ≤ length r.sent
OutFits false r n = r.held.staged_used + n ≤ length r.staged

abbrev pub OutShort : Bool → Raw → ℕ → Type 0
OutShort true r n = length r.sent < r.held.sent_used + n
OutShort false r n = length r.staged < r.held.staged_used + n

-- THE PLANS, over the record at place i

abbrev queue_plan : Raw → Result → ℕ → Kind → List ℕ → Plan
queue_plan r ans i kind bs =
    record {
      answer = ans;
      table = with_entries (meaning r).table ((meaning r).table.entries ++ entry (number_of (record_at r.held i)) kind bs ∷ []);
      payload = [];
      control = [];
      queues = for (number_of (record_at r.held i));
    }

-- the record is d now, ms is put out, and the rest is queued
abbrev pub send_plan : Raw → Result → ℕ → Record → Kind → List (List ℕ) → List ℕ → Plan
send_plan r ans i d kind ms rest =
    record {
      answer = ans;
      table = with_entries (altered (meaning r).table (record_at r.held i) d) ((meaning r).table.entries ++ remainder (number_of (record_at r.held i)) kind rest);
      payload = ms;
      control = [];
      queues = queues_rest (number_of (record_at r.held i)) rest;
    }

module _ (r : Raw) (ty : Typed r) (sd : is_sound r ≡ true) (m : ℕ) (kind : Kind) (bs : List ℕ) where
  -- one entry more fits, or does not
  fits : r.held.entry_count < most_entries → r.held.queue_used + length bs ≤ length r.queue → (t : Table) → t.entries ≡ (meaning r).table.entries ++ entry m kind bs ∷ []
      → Enters r t (for m)
  fits c l t e =
      let a : length t.entries ≡ r.held.entry_count + 1 = ap length e ∙ pushed-count r ty sd (entry m kind bs) in
      let b : length (queued t.entries) ≡ r.held.queue_used + length bs = ap (λ x. length (queued x)) e ∙ pushed-used r ty sd (entry m kind bs) in
      (omega arith, omega arith)

  overfull : (b : Bool) (p : Plan) → p.queues ≡ for m → p.table.entries ≡ (meaning r).table.entries ++ entry m kind bs ∷ [] → QueueFull r (length bs) → Lacks r b p
  overfull b p q e f =
      let a : length p.table.entries ≡ r.held.entry_count + 1 = ap length e ∙ pushed-count r ty sd (entry m kind bs) in
      let c : length (queued p.table.entries) ≡ r.held.queue_used + length bs = ap (λ x. length (queued x)) e ∙ pushed-used r ty sd (entry m kind bs) in
      pick a c f
    where
      pick : length p.table.entries ≡ r.held.entry_count + 1 → length (queued p.table.entries) ≡ r.held.queue_used + length bs → QueueFull r (length bs) → Lacks r b p
      pick a c (no_entry h) = entries m q (omega arith)
      pick a c (no_bytes h) = bytes m q (omega arith)

  -- the entries with what is left over
  rows_none : length bs ≡ 0 → Rows r ((meaning r).table.entries ++ remainder m kind bs) r.held.entries r.held.entry_count r.held.queue_used r.queue
  rows_none z = rw ((rest-none m kind bs z).0, append-nil) (same_rows r ty sd)

  rows_some : 0 < length bs → r.held.entry_count < most_entries
      → Rows r ((meaning r).table.entries ++ remainder m kind bs) (set r.held.entries r.held.entry_count (row m kind (length bs))) (r.held.entry_count + 1)
      (r.held.queue_used + length bs) (behind r.held.queue_used bs r.queue)
  rows_some z c = rw (rest_some m kind bs z).0 (pushed_rows r ty sd m kind bs c)

module _ (r : Raw) (ty : Typed r) (sd : is_sound r ≡ true) (k : Call) (ans : Result) (n i : ℕ) (h : HeldAt r.held n i) (kind : Kind) where
  -- QUEUED WHOLE

  module _ (b : Bool) (bs : List ℕ)
      (d : step (meaning r) k ≡ apply (meaning r) b (queueing ans (with_entries (meaning r).table ((meaning r).table.entries ++ entry (number_of (record_at r.held i)) kind bs ∷ [])) (number_of (record_at r.held i)))) where
    pub queued-is : r.held.entry_count < most_entries → r.held.queue_used + length bs ≤ length r.queue
        → called r k ≡ outcome (gave ans) (entry_pushed r.held (row n kind (length bs))) (behind r.held.queue_used bs r.queue) r.staged r.sent
    unfolding I.queueing G.with_entries R.meaning
    queued-is c l =
        let p = queue_plan r ans i kind bs in
        let ts : frames (to_staged b p) ≡ [] = unfold W.frames in ap frames (to-staged b p refl) in
        let tn : to_sent b p ≡ [] = to-sent b p refl in
        let ls : length (frames (to_staged b p)) ≡ 0 = ap length ts in
        let ln : length (to_sent b p) ≡ 0 = ap length tn in
        let lm = limits r sd in
        gone r ty sd k b p d
        (record { sent = omega (arith, lm.sent_used); staged = omega (arith, lm.staged_used); queue = fits r ty sd (number_of (record_at r.held i)) kind bs c l p.table refl })
        (same-places r ty sd)
        (pushed_rows r ty sd (number_of (record_at r.held i)) kind bs c)
        (put_as ts (put-none r.held.staged_used r.staged))
        (put_as tn (put-none r.held.sent_used r.sent))
        ∙ ap (λ m. outcome (gave ans) (entry_pushed r.held (row m kind (length bs))) (behind r.held.queue_used bs r.queue) r.staged r.sent) h.number

    pub queued-full : QueueFull r (length bs) → called r k ≡ record { answer = refused 5; state = r }
    unfolding I.queueing G.with_entries
    queued-full f = let p = queue_plan r ans i kind bs in lacking r ty sd k b p d (overfull r ty sd (number_of (record_at r.held i)) kind bs b p refl refl f)

  -- FRAMED: the record changes, the messages are sent or staged, and what is left over is queued

  module _ (d : Record) (ms : List (List ℕ)) (rest : List ℕ) where
    -- room in the queue for what is left over
    enters_none : length rest ≡ 0 → Enters r (send_plan r ans i d kind ms rest).table (send_plan r ans i d kind ms rest).queues
    enters_none z = rw (rest-none (number_of (record_at r.held i)) kind rest z).1 tt

    enters-some : 0 < length rest → r.held.entry_count < most_entries → r.held.queue_used + length rest ≤ length r.queue
        → Enters r (send_plan r ans i d kind ms rest).table (send_plan r ans i d kind ms rest).queues
    unfolding G.with_entries
    enters-some z c l =
        let m = number_of (record_at r.held i) in
        let e = rest_some m kind rest z in
        rw e.1 (fits r ty sd m kind rest c l (send_plan r ans i d kind ms rest).table (ap (λ x. (meaning r).table.entries ++ x) e.0))

    out-is : (b : Bool) → step (meaning r) k ≡ apply (meaning r) b (go (send_plan r ans i d kind ms rest)) → OutFits b r (length (frames ms))
        → Enters r (send_plan r ans i d kind ms rest).table (send_plan r ans i d kind ms rest).queues
        → {rows : List E.Entry} {c m : ℕ} {q : List ℕ} → Rows r ((meaning r).table.entries ++ remainder (number_of (record_at r.held i)) kind rest) rows c m q
        → called r k ≡ outcome (gave ans) (out_more b (filed (record_set r.held i d) rows c m) (length (frames ms))) q (staged_after b r (frames ms)) (sent_after b r (frames ms))
    unfolding T.to_sent T.to_staged W.frames G.with_entries G.altered G.with_places R.meaning
    out-is true e l q rs =
        gone r ty sd k true (send_plan r ans i d kind ms rest) e
        (record { sent = l; staged = omega (arith, (limits r sd).staged_used); queue = q })
        (changed_places r ty sd n i h d)
        rs
        (put-none r.held.staged_used r.staged)
        (put_some r.held.sent_used r.sent (frames ms))
    out-is false e l q rs =
        let z : length (frames (ms ++ [])) ≡ length (frames ms) = ap (λ x. length (frames x)) (append-nil ms) in
        gone r ty sd k false (send_plan r ans i d kind ms rest) e
        (record { sent = omega (arith, (limits r sd).sent_used); staged = omega arith; queue = q })
        (changed_places r ty sd n i h d)
        rs
        (put_as (ap frames (append-nil ms)) (put_some r.held.staged_used r.staged (frames ms)))
        (put-none r.held.sent_used r.sent)

    -- all of it
    pub framed_is : (b : Bool) → step (meaning r) k ≡ apply (meaning r) b (go (send_plan r ans i d kind ms rest)) → length rest ≡ 0 → OutFits b r (length (frames ms))
        → called r k ≡ outcome (gave ans) (out_more b (record_set r.held i d) (length (frames ms))) r.queue (staged_after b r (frames ms)) (sent_after b r (frames ms))
    framed_is b e z l = out-is b e l (enters_none z) (rows_none r ty sd (number_of (record_at r.held i)) kind rest z)

    -- the rest queued
    pub framed-rest-is : (b : Bool) → step (meaning r) k ≡ apply (meaning r) b (go (send_plan r ans i d kind ms rest)) → 0 < length rest → OutFits b r (length (frames ms))
        → r.held.entry_count < most_entries → r.held.queue_used + length rest ≤ length r.queue
        → called r k
        ≡ outcome (gave ans) (out_more b (entry_pushed (record_set r.held i d) (row n kind (length rest))) (length (frames ms)))
        (behind r.held.queue_used rest r.queue) (staged_after b r (frames ms)) (sent_after b r (frames ms))
    framed-rest-is b e z l c q =
        out-is b e l (enters-some z c q) (rows_some r ty sd (number_of (record_at r.held i)) kind rest z c)
        ∙ ap (λ m. outcome (gave ans) (out_more b (entry_pushed (record_set r.held i d) (row m kind (length rest))) (length (frames ms)))
        (behind r.held.queue_used rest r.queue) (staged_after b r (frames ms)) (sent_after b r (frames ms))) h.number

    -- no room for the messages
    pub framed-full : (b : Bool) → step (meaning r) k ≡ apply (meaning r) b (go (send_plan r ans i d kind ms rest)) → OutShort b r (length (frames ms))
        → called r k ≡ record { answer = refused 5; state = r }
    unfolding T.to_sent T.to_staged
    framed-full true e l = lacking r ty sd k true (send_plan r ans i d kind ms rest) e (sent l)
    framed-full false e l = lacking r ty sd k false (send_plan r ans i d kind ms rest) e (staged (rw append-nil l))

    -- no room for what is left over
    pub rest-full : (b : Bool) → step (meaning r) k ≡ apply (meaning r) b (go (send_plan r ans i d kind ms rest)) → 0 < length rest → QueueFull r (length rest)
        → called r k ≡ record { answer = refused 5; state = r }
    unfolding G.with_entries
    rest-full b e z f =
        let m = number_of (record_at r.held i) in
        let p = send_plan r ans i d kind ms rest in
        let o = rest_some m kind rest z in
        lacking r ty sd k b p e (overfull r ty sd m kind rest b p o.1 (ap (λ x. (meaning r).table.entries ++ x) o.0) f)
