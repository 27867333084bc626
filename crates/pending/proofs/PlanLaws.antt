-- From the carry-out to the definition's plan, and from the plan to `called`.
-- Assumes nothing.
use Prim.Native.Nat.{ℕ, ◌+◌, ◌≤◌}
use mathlib.Core.Path.{◌≡◌, refl, sym, ap, ap₂, ◌∙◌}
use mathlib.Core.Bool.{Bool, true, false, ◌&&◌, not, cond, true≢false}
use mathlib.Core.List.{List, [], ◌++◌}
use lib.ListN.{length, set, length-append}
use lib.Dec.{eqb}
use native.Mathlib.Omega.{arith}
use Rattle.laws.proofs.Tests.{by_test, and_both}
use Rattle.octets.specs.Buf.{write}
use Rattle.octets.proofs.Laws.{write-nil, write-append}
use Rattle.frames.proofs.Packets.{length-eof, length-close, frames_one}
use Rattle.channel.specs.declared.Record.{Record}
use Rattle.channel.specs.declared.Table as T
use Rattle.channel.specs.Wire.{frame, frames, eof_message, close_message}
use Rattle.channel.specs.Wire as W
use Rattle.channel.specs.State.{number_of, vacant, holds, Table, replace}
use Rattle.channel.specs.Change.{with_peer_window, with_marks, altered, removed}
use Rattle.channel.specs.Change as G
use Rattle.channel.specs.Decide.{Flushed, flushed, any_byte, go, refuse, flush_on, flushed_whole, flushed_part}
use Rattle.channel.specs.Decide as D
use Rattle.channel.specs.Raw.{zero_record}
use Rattle.lookup.specs.Update.{placed, record_set, place_freed}
use Rattle.lookup.proofs.Decided.{if_true, if_false}
use Rattle.pending.specs.Plan.{result_of, marked, charged_by, word_by, record_by, settled_by, plan_of}

-- THE MARKS

pub marks-length : (peer : ℕ) (eof close : Bool) → length (frames (marked peer eof close)) ≡ cond eof 9 0 + cond close 9 0
unfolding marked W.frames
marks-length peer true true = omega (arith, length-append (frame (eof_message peer)) (frame (close_message peer) ++ []), length-append (frame (close_message peer)) [], length-eof peer, length-close peer)
marks-length peer true false = omega (arith, length-append (frame (eof_message peer)) [], length-eof peer)
marks-length peer false true = omega (arith, length-append (frame (close_message peer)) [], length-close peer)
marks-length peer false false = refl

pub marks-none : (peer : ℕ) → frames (marked peer false false) ≡ []
unfolding marked W.frames
marks-none peer = refl

pub marks-close : (peer : ℕ) → frames (marked peer false true) ≡ frame (close_message peer)
unfolding marked
marks-close peer = frames_one (close_message peer)

pub marks-eof : (peer : ℕ) (close : Bool) → frames (marked peer true close) ≡ frame (eof_message peer) ++ frames (marked peer false close)
unfolding marked W.frames
marks-eof peer close = refl

-- CLOSE, as the code puts it
pub close-room : (peer at n : ℕ) (close : Bool) → close ≡ true → at + length (frames (marked peer false close)) ≤ n → at + 9 ≤ n
close-room peer at n true e h = omega (arith, marks-length peer false true)
close-room peer at n false e h = absurd (true≢false (sym e))

pub close-put : (peer at : ℕ) (close : Bool) (l d : List ℕ) → close ≡ true → d ≡ write at (frame (close_message peer)) l → d ≡ write at (frames (marked peer false close)) l
close-put peer at true l d e f = f ∙ ap (λ x. write at x l) (sym (marks-close peer))
close-put peer at false l d e f = absurd (true≢false (sym e))

pub close-none : (peer at : ℕ) (close : Bool) (l : List ℕ) → close ≡ false → l ≡ write at (frames (marked peer false close)) l
close-none peer at true l e = absurd (true≢false e)
close-none peer at false l e = sym (ap (λ x. write at x l) (marks-none peer) ∙ write-nil at l)

-- and EOF before it
pub eof-room : (peer at n : ℕ) (eof close : Bool) → eof ≡ true → at + length (frames (marked peer eof close)) ≤ n → (at + 9 ≤ n) × (at + 9 + length (frames (marked peer false close)) ≤ n)
eof-room peer at n true close e h =
    let a = marks-length peer true close in
    let b = marks-length peer false close in
    (omega arith, omega arith)
eof-room peer at n false close e h = absurd (true≢false (sym e))

pub eof-put : (peer at : ℕ) (eof close : Bool) (l d₁ d₂ : List ℕ) → eof ≡ true → d₁ ≡ write at (frame (eof_message peer)) l → d₂ ≡ write (at + 9) (frames (marked peer false close)) d₁
    → d₂ ≡ write at (frames (marked peer eof close)) l
eof-put peer at true close l d₁ d₂ e f g =
    g
    ∙ ap₂ (λ k x. write (at + k) (frames (marked peer false close)) x) (sym (length-eof peer)) f
    ∙ sym (write-append at (frame (eof_message peer)) (frames (marked peer false close)) l)
    ∙ ap (λ x. write at x l) (sym (marks-eof peer close))
eof-put peer at false close l d₁ d₂ e f g = absurd (true≢false (sym e))

pub eof-none : (peer at : ℕ) (eof close : Bool) (l d : List ℕ) → eof ≡ false → d ≡ write at (frames (marked peer false close)) l → d ≡ write at (frames (marked peer eof close)) l
eof-none peer at true close l d e f = absurd (true≢false e)
eof-none peer at false close l d e f = f

pub none-room : (peer at n : ℕ) (eof close : Bool) → eof ≡ false → at + length (frames (marked peer eof close)) ≤ n → at + length (frames (marked peer false close)) ≤ n
none-room peer at n true close e h = absurd (true≢false e)
none-room peer at n false close e h = h

-- and where they end
pub close-count : (peer at : ℕ) (close : Bool) → close ≡ true → at + 9 ≡ at + length (frames (marked peer false close))
close-count peer at true e = omega (arith, marks-length peer false true)
close-count peer at false e = absurd (true≢false (sym e))

pub none-count : (peer at : ℕ) (close : Bool) → close ≡ false → at ≡ at + length (frames (marked peer false close))
none-count peer at true e = absurd (true≢false e)
none-count peer at false e = omega (arith, marks-length peer false false)

pub eof-count : (peer at m : ℕ) (eof close : Bool) → eof ≡ true → m ≡ at + 9 + length (frames (marked peer false close)) → m ≡ at + length (frames (marked peer eof close))
eof-count peer at m true close e f =
    let a = marks-length peer true close in
    let b = marks-length peer false close in
    omega arith
eof-count peer at m false close e f = absurd (true≢false (sym e))

pub no_eof-count : (peer at m : ℕ) (eof close : Bool) → eof ≡ false → m ≡ at + length (frames (marked peer false close)) → m ≡ at + length (frames (marked peer eof close))
no_eof-count peer at m true close e f = absurd (true≢false e)
no_eof-count peer at m false close e f = f

-- THE DECISION

decided_whole : (t : Table) (c : Record) (f : Flushed) → f.all ≡ true → flushed_whole t c f ≡ go (plan_of t c f)
unfolding D.flushed_whole D.eofs D.closes plan_of result_of marked
decided_whole t c f e = rw e

decided_part : (t : Table) (c : Record) (f : Flushed) → f.all ≡ false → flushed_part t c f ≡ go (plan_of t c f)
unfolding D.flushed_part plan_of result_of marked
decided_part t c f e = rw e

module _ (t : Table) (c : Record) where
  abbrev Stuck : Bool
  Stuck = eqb c.recipient_maximum_packet_size 0 && any_byte (number_of c) t.entries

  pub flush-limit : Stuck ≡ true → flush_on t c ≡ refuse 4
  unfolding D.flush_on
  flush-limit h = if_true Stuck _ _ h

  pub flush_goes : Stuck ≡ false → flush_on t c ≡ go (plan_of t c (flushed c c.recipient_window_size t.entries))
  unfolding D.flush_on
  flush_goes h =
      let f = flushed c c.recipient_window_size t.entries in
      if_false Stuck _ _ h
      ∙ by_test f.all
      (λ a. if_true f.all _ _ a ∙ decided_whole t c f a)
      (λ a. if_false f.all _ _ a ∙ decided_part t c f a)

-- THE RECORD'S PLACE

and_not : (a : Bool) → (a && not true ≡ false) × (a && not false ≡ a)
and_not true = (refl, refl)
and_not false = (refl, refl)

charged-whole : (c : Record) (w : ℕ) → charged_by c w true ≡ with_marks (with_peer_window c w) false false
unfolding charged_by
charged-whole c w = ap₂ (λ x y. with_marks (with_peer_window c w) x y) (and_not c.pending_eof).0 (and_not c.pending_close).0

charged-part : (c : Record) (w : ℕ) → charged_by c w false ≡ with_peer_window c w
unfolding charged_by G.with_marks G.with_peer_window
charged-part c w = ap₂ (λ x y. with_marks (with_peer_window c w) x y) (and_not c.pending_eof).1 (and_not c.pending_close).1

-- the places after, where CLOSE is handed over, and where not
pub closed-place : (t : Table) (c : Record) (f : Flushed) → f.all && c.pending_close ≡ true → (plan_of t c f).table.places ≡ replace (number_of c) vacant t.places
unfolding plan_of G.with_entries D.unmarked G.removed G.with_places
closed-place t c f e = let b = and_both f.all c.pending_close e in rw b.0 (rw b.1)

pub open_place : (t : Table) (c : Record) (f : Flushed) → f.all && c.pending_close ≡ false
    → (plan_of t c f).table.places ≡ replace (number_of c) (holds (charged_by c f.window f.all)) t.places
unfolding plan_of G.with_entries D.unmarked G.altered G.with_places
open_place t c f e =
    by_test f.all
    (λ a.
    let k : c.pending_close ≡ false = rw a at e in
    rw a
    (ap (λ x. (cond x (removed t c) (altered t c (with_marks (with_peer_window c f.window) false false))).places) k
    ∙ ap (λ d. replace (number_of c) (holds d) t.places) (sym (charged-whole c f.window))))
    (λ a. rw (a, charged-part c f.window))

-- as the code settles it
pub settled_closed : (t : T.Table) (i : ℕ) (c : Record) (w : ℕ) (all : Bool) → all && c.pending_close ≡ true → settled_by t i c w all ≡ place_freed t i
unfolding word_by record_by
settled_closed t i c w all e =
    ap (λ x. placed t t.last (word_by t.used i x) (set t.records i (cond x zero_record (charged_by c w all)))) e

pub settled_open : (t : T.Table) (i : ℕ) (c : Record) (w : ℕ) (all : Bool) → all && c.pending_close ≡ false → settled_by t i c w all ≡ record_set t i (charged_by c w all)
unfolding word_by record_by
settled_open t i c w all e =
    ap (λ x. placed t t.last (word_by t.used i x) (set t.records i (cond x zero_record (charged_by c w all)))) e

pub plan-last : (t : Table) (c : Record) (f : Flushed) → (plan_of t c f).table.last ≡ t.last
unfolding plan_of G.with_entries D.unmarked G.altered G.removed G.with_places
plan-last t c f = by f.all c.pending_close
  where
    by : (all close : Bool) → (cond all (cond close (removed t c) (altered t c (with_marks (with_peer_window c f.window) false false))) (altered t c (with_peer_window c f.window))).last ≡ t.last
    by true true = refl
    by true false = refl
    by false close = refl
