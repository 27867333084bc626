-- Demand 3, over the state as the code holds it, for any list of calls and any three buffers.
-- Assumes nothing.
use Prim.Native.Nat.{ℕ, ◌-◌, ◌≤◌}
use mathlib.Core.Path.{◌≡◌, refl, sym, ap, ap₂, ◌∙◌}
use mathlib.Core.Bool.{true, false, cond}
use mathlib.Core.List.{List, [], ◌∷◌, ◌++◌, append-nil}
use lib.ListN.{length, replicate}
use lib.Seq.{take-append_seam}
use native.Mathlib.Omega.{arith}
use borrow.Author.Tests.{leb-true}
use Rattle.laws.proofs.Tests.{by_test}
use Rattle.channel.specs.Wire.{frames}
use Rattle.channel.specs.State.{most_entries, most_bytes, World, empty, look, queued}
use Rattle.channel.specs.Call.{Call, act, put, flush_all, flush_staged, drain, refused}
use Rattle.channel.specs.Raw.{Raw, empty_table, zero_entry, word_of, records_of, pending_of, written}
use Rattle.channel.specs.Sound.{is_sound}
use Rattle.channel.specs.Called.{when_sound, called, lent}
use Rattle.channel.specs.Demand.{sent_part, staged_part, Shown, takes, following, calls, finally, start, ever_sent, staged_call, staged_calls, NeverRoom, Equal, AllEqual, during_rekey}
use Rattle.channel.proofs.Wire.{NoneEmpty}
use Rattle.channel.proofs.Lookup.{Apart}
use Rattle.channel.proofs.Entries.{own, some}
use Rattle.channel.proofs.Sound.{fine_at, Sound}
use Rattle.channel.proofs.SoundStep.{step-sound}
use Rattle.channel.proofs.Clauses.{clauses}
use Rattle.channel.proofs.Written.{written-sound, called-written}
use Rattle.channel.proofs.Run.{taken_by, Seen, next, run, final, before, NoRoom, Alike, AllAlike}
use Rattle.channel.proofs.Routes.{straight_or_staged, rekey_sends_nothing}

-- A SOUND STATE: what the code shows of what the rules' step sees

shown : Seen → Shown
shown s = record { answer = s.answer; state = written s.world; gone = s.gone }

all_shown : List Seen → List Shown
all_shown [] = []
all_shown (s ∷ ss) = shown s ∷ all_shown ss

sent-part : (w : World) → sent_part (written w) ≡ w.sent
unfolding sent_part written
sent-part w = take-append_seam w.sent w.sent_rest

staged-part : (w : World) → staged_part (written w) ≡ frames w.staged
unfolding staged_part written
staged-part w = take-append_seam (frames w.staged) w.staged_rest

takes_shown : (w : World) (c : Call) → Sound w → takes (written w) c ≡ taken_by w c
unfolding takes taken_by
takes_shown w (act a) d = refl
takes_shown w (put route l) d = refl
takes_shown w (flush_all route) d = refl
takes_shown w (flush_staged rekey) d = refl
takes_shown w drain d = ap (λ b. cond b (sent_part (written w)) []) (written-sound w d) ∙ sent-part w

following_shown : (s : Seen) (c : Call) → Sound s.world → following (shown s) c ≡ shown (next s c)
unfolding following shown next
following_shown s c d = rw (called-written s.world c d, takes_shown s.world c d)

next-sound : (s : Seen) (c : Call) → Sound s.world → Sound (next s c).world
unfolding next
next-sound s c d = step-sound s.world c d

calls_shown : (cs : List Call) (s : Seen) → Sound s.world → calls (shown s) cs ≡ all_shown (run s cs)
unfolding calls run all_shown
calls_shown [] s d = refl
calls_shown (c ∷ cs) s d =
    let e : following (shown s) c ≡ shown (next s c) = following_shown s c d in
    rw e (ap (λ l. shown (next s c) ∷ l) (calls_shown cs (next s c) (next-sound s c d)))

room_shown : (ss : List Seen) → NeverRoom (all_shown ss) → NoRoom ss
unfolding NeverRoom NoRoom all_shown shown
room_shown [] n = tt
room_shown (s ∷ ss) n = (n.0, room_shown ss n.1)

equal_shown : (s r : Seen) → Alike s r → Equal (shown s) (shown r)
unfolding shown ever_sent written
equal_shown s r a =
    let t = a.worlds.tables in
    record {
      answers = a.answers;
      last = ap (λ t. t.last) t;
      used = ap (λ t. word_of t.places) t;
      records = ap (λ t. records_of t.places) t;
      entries = ap (λ t. pending_of t.entries ++ replicate (most_entries - length t.entries) zero_entry) t;
      count = ap (λ t. length t.entries) t;
      queued = ap (λ t. length (queued t.entries)) t;
      queue = ap₂ (λ t q. queued t.entries ++ q) t a.worlds.queues;
      bytes = rw (sent-part s.world, staged-part s.world, sent-part r.world, staged-part r.world) a.worlds.bytes;
    }

all_equal : (ss rs : List Seen) → AllAlike ss rs → AllEqual (all_shown ss) (all_shown rs)
unfolding AllAlike AllEqual all_shown
all_equal [] [] a = tt
all_equal [] (r ∷ rs) a = a
all_equal (s ∷ ss) [] a = a
all_equal (s ∷ ss) (r ∷ rs) a = (equal_shown s r a.0, all_equal ss rs a.1)

from_sound : (w : World) (cs : List Call) → Sound w
    → NeverRoom (calls (shown (before w)) cs) → NeverRoom (calls (shown (before w)) (staged_calls cs)) → AllEqual (calls (shown (before w)) cs) (calls (shown (before w)) (staged_calls cs))
from_sound w cs d =
    let s : Sound (before w).world = unfold before in d in
    rw (calls_shown cs (before w) s, calls_shown (staged_calls cs) (before w) s)
    (λ i j. all_equal _ _ (straight_or_staged w cs (room_shown _ i) (room_shown _ j)))

-- AN UNSOUND STATE: every call is refused and nothing moves

still : Shown → Shown
still s = record { answer = refused 1; state = s.state; gone = s.gone }

takes-nothing : (r : Raw) (c : Call) → is_sound r ≡ false → takes r c ≡ []
unfolding takes
takes-nothing r (act a) e = refl
takes-nothing r (put route l) e = refl
takes-nothing r (flush_all route) e = refl
takes-nothing r (flush_staged rekey) e = refl
takes-nothing r drain e = rw e

following_still : (s : Shown) (c : Call) → is_sound s.state ≡ false → following s c ≡ still s
unfolding following called when_sound still
following_still s c e = rw (e, takes-nothing s.state c e, append-nil)

from_unsound : (s : Shown) (cs : List Call) → is_sound s.state ≡ false → AllEqual (calls s cs) (calls s (staged_calls cs))
unfolding calls staged_calls AllEqual
from_unsound s [] e = tt
from_unsound s (c ∷ cs) e =
    rw (following_still s c e, following_still s (staged_call c) e)
    (record { answers = refl; last = refl; used = refl; records = refl; entries = refl; count = refl; queued = refl; queue = refl; bytes = refl }, from_unsound (still s) cs (unfold still in e))

-- FROM THE EMPTY TABLE

empty-sound : (q st se : List ℕ) → length q ≤ most_bytes → length st ≤ most_bytes → length se ≤ most_bytes → Sound (empty q st se)
unfolding empty queued frames NoneEmpty Apart look own some fine_at
empty-sound q st se h i j =
    record {
      table = record { count = refl; apart = tt; each = λ n. refl };
      few = omega arith;
      queue = omega arith;
      whole = tt;
      staged_size = omega arith;
      sent_size = omega arith;
    }

empty_shown : (q st se : List ℕ) → shown (before (empty q st se)) ≡ start q st se
unfolding shown before empty start empty_table written word_of records_of pending_of queued frames
empty_shown q st se = refl

-- the buffers are short enough
start-sound : (q st se : List ℕ) → is_sound (start q st se).state ≡ true → Sound (empty q st se)
unfolding start
start-sound q st se e =
    let c = clauses (lent empty_table q st se) e in
    empty-sound q st se (leb-true (length q) most_bytes c.queue_long) (leb-true (length st) most_bytes c.staged_long) (leb-true (length se) most_bytes c.sent_long)

-- THE THEOREM: demand 3, first half
pub demand_three : (q st se : List ℕ) (cs : List Call)
    → NeverRoom (calls (start q st se) cs) → NeverRoom (calls (start q st se) (staged_calls cs))
    → AllEqual (calls (start q st se) cs) (calls (start q st se) (staged_calls cs))
demand_three q st se cs =
    by_test (is_sound (start q st se).state)
    (λ e. rw (← empty_shown) (from_sound (empty q st se) cs (start-sound q st se e)))
    (λ e i j. from_unsound (start q st se) cs e)

final-sound : (cs : List Call) (s : Seen) → Sound s.world → Sound (final s cs).world
unfolding final
final-sound [] s d = d
final-sound (c ∷ cs) s d = final-sound cs (next s c) (next-sound s c d)

final_shown : (cs : List Call) (s : Seen) → Sound s.world → finally (shown s) cs ≡ shown (final s cs)
unfolding finally final
final_shown [] s d = refl
final_shown (c ∷ cs) s d = ap (λ x. finally x cs) (following_shown s c d) ∙ final_shown cs (next s c) (next-sound s c d)

ever_shown : (s : Seen) → ever_sent (shown s) ≡ s.gone ++ s.world.sent
unfolding ever_sent shown
ever_shown s = ap (λ l. s.gone ++ l) (sent-part s.world)

final_still : (s : Shown) (cs : List Call) → is_sound s.state ≡ false → (finally s cs).state ≡ s.state
unfolding finally
final_still s [] e = refl
final_still s (c ∷ cs) e = ap (λ x. (finally x cs).state) (following_still s c e) ∙ final_still (still s) cs (unfold still in e) ∙ (unfold still in refl)

-- THE THEOREM: demand 3, second half: after any list of calls, a call made during rekey adds nothing to the bytes ever sent
pub rekey-adds-nothing : (q st se : List ℕ) (cs : List Call) (c : Call) → during_rekey c ≡ true
    → ever_sent (following (finally (start q st se) cs) c) ≡ ever_sent (finally (start q st se) cs)
rekey-adds-nothing q st se cs c d =
    by_test (is_sound (start q st se).state)
    (λ e. let w = before (empty q st se) in
    let s : Sound w.world = unfold before in start-sound q st se e in
    rw (← empty_shown, final_shown cs w s, following_shown (final w cs) c (final-sound cs w s))
    (ever_shown (next (final w cs) c) ∙ rekey_sends_nothing (final w cs) c d ∙ sym (ever_shown (final w cs))))
    (λ e. rw (following_still (finally (start q st se) cs) c (ap is_sound (final_still (start q st se) cs e) ∙ e)) (unfold ever_sent still in refl))
