-- Demand 3 over the rules' steps: a plan adds the same bytes wherever its messages go, since they go straight only past nothing staged.
-- Assumes nothing.
use Prim.Native.Nat.{ℕ}
use mathlib.Core.Path.{◌≡◌, refl, sym, ap, ◌∙◌}
use mathlib.Core.Bool.{Bool, true, false, ◌&&◌, not, true≢false}
use mathlib.Core.List.{List, [], ◌∷◌, ◌++◌, append_assoc, append-nil}
use lib.ListN.{length, take, drop, take-append-drop}
use native.Mathlib.Omega.{arith}
use Rattle.channel.specs.Wire.{frames}
use Rattle.channel.specs.State.{World}
use Rattle.channel.specs.Call.{is_straight, direct, Route, Load, flush, Act, Call, act, put, flush_all, flush_staged, drain, Answer, refused, gave, stopped, moved}
use Rattle.channel.specs.Decide.{Plan, Decision, refuse, go, decide, load}
use Rattle.channel.specs.Step.{Reply, reply, none_staged, goes_straight, to_sent, to_staged, Room, enough, lacks, needs, room_for, carried_out, with_room, apply, step_act, step_load, numbers, is_refusal, stop_at, either, flush_each, fitting, move, drained, step}
use Rattle.channel.specs.Demand.{staged_route, staged_call, staged_calls, room_number, is_room, apart_from_counts, during_rekey}
use Rattle.channel.proofs.Wire.{frames-append}
use Rattle.channel.proofs.Run.{taken_by, Seen, next, run, before, NoRoom, Same, Alike, AllAlike}

-- what a plan adds to the bytes sent, then those staged, is the same wherever it goes
placed : (want : Bool) (g se : List ℕ) (st : List (List ℕ)) (p : Plan)
    → g ++ (se ++ to_sent (want && none_staged st) p) ++ frames (st ++ to_staged (want && none_staged st) p)
    ≡ g ++ se ++ frames st ++ frames (p.payload ++ p.control)
unfolding to_sent to_staged none_staged frames
placed true g se [] p = simp (frames-append, append_assoc, append-nil)
placed false g se [] p = simp (frames-append, append_assoc, append-nil)
placed true g se (x ∷ xs) p = simp (frames-append, append_assoc, append-nil)
placed false g se (x ∷ xs) p = simp (frames-append, append_assoc, append-nil)

record Both (r q : Reply) (g h : List ℕ) : Type 0 where
  pub answers : r.answer ≡ q.answer
  pub worlds : Same r.world q.world g h

-- WHAT LACKS ROOM IS REFUSED WITH A NUMBER OF ROOM

needs-lacks : (b : Bool) (j : ℕ) (m : Room) (k : ℕ) → room_number j ≡ true → (m ≡ lacks k → room_number k ≡ true) → needs b j m ≡ lacks k → room_number k ≡ true
unfolding needs
needs-lacks true j m k r f e = f e
needs-lacks false j m k r f e = let z : j ≡ k = cc in rw (← z) r

enough-lacks : {A : Type 0} (k : ℕ) → enough ≡ lacks k → A
enough-lacks k e = absurd (let z : ◌≡◌ {A = ℕ} 0 1 = cc in omega arith)

lacks-room : (w : World) (p : Plan) (s : Bool) (k : ℕ) → room_for w p s ≡ lacks k → room_number k ≡ true
unfolding room_for room_number
lacks-room w p s k = needs-lacks _ _ _ k refl (needs-lacks _ _ _ k refl (needs-lacks _ _ _ k refl (enough-lacks k)))

no_room : {A : Type 0} (w : World) (p : Plan) (s : Bool) (k : ℕ) → room_for w p s ≡ lacks k → is_room (refused k) ≡ false → A
unfolding is_room
no_room w p s k e i = absurd (true≢false (sym (lacks-room w p s k e) ∙ i))

-- ONE CALL

module _ (w v : World) (g h : List ℕ) (same : Same w v g h) where
  carried : (x y : Bool) (p : Plan) → Same (carried_out w p (goes_straight x w)) (carried_out v p (goes_straight y v)) g h
  unfolding carried_out goes_straight
  carried x y p =
      record {
        tables = refl;
        queues = rw (same.tables, same.queues);
        bytes = placed x g w.sent w.staged p ∙ ap (λ l. l ++ frames (p.payload ++ p.control)) same.bytes ∙ sym (placed y h v.sent v.staged p);
      }

  room : (x y : Bool) (b d : Room) (p : Plan) → room_for w p (goes_straight x w) ≡ b → room_for v p (goes_straight y v) ≡ d
      → is_room (with_room b w p (goes_straight x w)).answer ≡ false
      → is_room (with_room d v p (goes_straight y v)).answer ≡ false
      → Both (with_room b w p (goes_straight x w)) (with_room d v p (goes_straight y v)) g h
  unfolding with_room
  room x y enough enough p r q i j = record { answers = refl; worlds = carried x y p }
  room x y enough (lacks k) p r q i j = no_room v p _ k q j
  room x y (lacks k) d p r q i j = no_room w p _ k r i

  applied : (x y : Bool) (o : Decision)
      → is_room (apply w (goes_straight x w) o).answer ≡ false
      → is_room (apply v (goes_straight y v) o).answer ≡ false
      → Both (apply w (goes_straight x w) o) (apply v (goes_straight y v) o) g h
  unfolding apply
  applied x y (refuse k) i j = record { answers = refl; worlds = same }
  applied x y (go p) i j = room x y _ _ p refl refl i j

  -- one that is always staged
  acted : (a : Act) → is_room (step_act w a).answer ≡ false → is_room (step_act v a).answer ≡ false → Both (step_act w a) (step_act v a) g h
  unfolding step_act goes_straight
  acted a = rw (ap (λ t. decide t a) same.tables) (applied false false (decide v.table a))

  -- one in either form
  loaded : (route : Route) (l : Load) → is_room (step_load w route l).answer ≡ false → is_room (step_load v (staged_route route) l).answer ≡ false → Both (step_load w route l) (step_load v (staged_route route) l) g h
  unfolding step_load staged_route
  loaded route l = rw (ap (λ t. load t route.rekey l) same.tables) (applied (direct route) (direct (staged_route route)) (load v.table route.rekey l))

-- FLUSH OF ALL

pick : (g h : List ℕ) (b d : Bool) (x₁ x₂ y₁ y₂ : Reply) → b ≡ d → is_room (either b x₁ y₁).answer ≡ false → is_room (either d x₂ y₂).answer ≡ false
    → Both x₁ x₂ g h → (is_room y₁.answer ≡ false → is_room y₂.answer ≡ false → Both y₁ y₂ g h) → Both (either b x₁ y₁) (either d x₂ y₂) g h
unfolding either
pick g h true true x₁ x₂ y₁ y₂ s i j e f = e
pick g h true false x₁ x₂ y₁ y₂ s i j e f = absurd (true≢false s)
pick g h false true x₁ x₂ y₁ y₂ s i j e f = absurd (true≢false (sym s))
pick g h false false x₁ x₂ y₁ y₂ s i j e f = f i j

-- where a flush of all does not answer Room, neither did the flush of its first channel
first_room : (n : ℕ) (a : Answer) (u : World) (m : Reply) → is_room (either (is_refusal a) (reply (stop_at n a) u) m).answer ≡ false → is_room a ≡ false
unfolding is_room either is_refusal stop_at
first_room n (refused k) u m e = e
first_room n (stopped k l) u m e = e
first_room n (gave r) u m e = refl
first_room n (moved k l) u m e = refl

flushed_each : (route : Route) (ns : List ℕ) (w v : World) (g h : List ℕ) → Same w v g h
    → is_room (flush_each route ns w).answer ≡ false → is_room (flush_each (staged_route route) ns v).answer ≡ false
    → Both (flush_each route ns w) (flush_each (staged_route route) ns v) g h
unfolding flush_each
flushed_each route [] w v g h same i j = record { answers = refl; worlds = same }
flushed_each route (n ∷ ns) w v g h same i j =
    let b : Both (step_load w route (flush n)) (step_load v (staged_route route) (flush n)) g h = loaded w v g h same route (flush n) (first_room n _ _ _ i) (first_room n _ _ _ j) in
    pick g h _ _ _ _ _ _ (ap is_refusal b.answers) i j
    (record { answers = ap (stop_at n) b.answers; worlds = b.worlds })
    (flushed_each route ns (step_load w route (flush n)).world (step_load v (staged_route route) (flush n)).world g h b.worlds)

flushed-all : (route : Route) (ns ms : List ℕ) (w v : World) (g h : List ℕ) → ms ≡ ns → Same w v g h
    → is_room (flush_each route ns w).answer ≡ false → is_room (flush_each (staged_route route) ms v).answer ≡ false
    → Both (flush_each route ns w) (flush_each (staged_route route) ms v) g h
flushed-all route ns ms w v g h e same = rw e (flushed_each route ns w v g h same)

-- staged flush keeps the bytes sent, then staged
moved-bytes : (k : ℕ) (g se : List ℕ) (st : List (List ℕ)) → g ++ (se ++ frames (take k st)) ++ frames (drop k st) ≡ g ++ se ++ frames st
moved-bytes k g se st =
    let e : frames (take k st) ++ frames (drop k st) ≡ frames st = sym (frames-append (take k st) (drop k st)) ∙ ap frames (take-append-drop k st) in
    simp append_assoc (ap (λ l. g ++ (se ++ l)) e)

-- ANY LIST OF CALLS

-- a call that drains nothing
both_alike : (p q : Reply) (g h : List ℕ) → Both p q g h → Alike (record { answer = p.answer; world = p.world; gone = g ++ [] }) (record { answer = q.answer; world = q.world; gone = h ++ [] })
both_alike p q g h b =
    record { answers = ap apart_from_counts b.answers; worlds = record { tables = b.worlds.tables; queues = b.worlds.queues; bytes = simp append-nil b.worlds.bytes } }

stepped : (s r : Seen) (c : Call) → Same s.world r.world s.gone r.gone
    → is_room (next s c).answer ≡ false → is_room (next r (staged_call c)).answer ≡ false
    → Alike (next s c) (next r (staged_call c))
unfolding next staged_call step taken_by move either drained apart_from_counts
stepped s r (act a) same i j = both_alike _ _ _ _ (acted _ _ _ _ same a i j)
stepped s r (put route l) same i j = both_alike _ _ _ _ (loaded _ _ _ _ same route l i j)
stepped s r (flush_all route) same i j = both_alike _ _ _ _ (flushed-all route _ _ _ _ _ _ (ap (λ t. numbers t.places) (sym same.tables)) same i j)
stepped s r (flush_staged true) same i j = record { answers = refl; worlds = record { tables = same.tables; queues = same.queues; bytes = simp append-nil same.bytes } }
stepped s r (flush_staged false) same i j =
    record {
      answers = refl;
      worlds =
          record {
            tables = same.tables;
            queues = same.queues;
            bytes = simp append-nil (moved-bytes (fitting (length s.world.sent_rest) s.world.staged) s.gone s.world.sent s.world.staged ∙ same.bytes ∙ sym (moved-bytes (fitting (length r.world.sent_rest) r.world.staged) r.gone r.world.sent r.world.staged));
          };
    }
stepped s r drain same i j = record { answers = refl; worlds = record { tables = same.tables; queues = same.queues; bytes = simp append-nil same.bytes } }

ran : (cs : List Call) (s r : Seen) → Same s.world r.world s.gone r.gone → NoRoom (run s cs) → NoRoom (run r (staged_calls cs)) → AllAlike (run s cs) (run r (staged_calls cs))
unfolding run staged_calls NoRoom AllAlike
ran [] s r same i j = tt
ran (c ∷ cs) s r same i j =
    let a : Alike (next s c) (next r (staged_call c)) = stepped s r c same i.0 j.0 in
    (a, ran cs (next s c) (next r (staged_call c)) a.worlds i.1 j.1)

pub straight_or_staged : (w : World) (cs : List Call) → NoRoom (run (before w) cs) → NoRoom (run (before w) (staged_calls cs)) → AllAlike (run (before w) cs) (run (before w) (staged_calls cs))
straight_or_staged w cs = ran cs (before w) (before w) (record { tables = refl; queues = refl; bytes = refl })

-- DURING REKEY: a call that does not ask to go straight adds nothing to sent

kept-room : (b : Room) (w : World) (p : Plan) → (with_room b w p false).world.sent ≡ w.sent
unfolding with_room carried_out to_sent
kept-room enough w p = append-nil w.sent
kept-room (lacks k) w p = refl

kept : (o : Decision) (w : World) → (apply w false o).world.sent ≡ w.sent
unfolding apply
kept (refuse k) w = refl
kept (go p) w = kept-room (room_for w p false) w p

no_direct : (r : Route) → r.rekey ≡ true → direct r ≡ false
unfolding direct
no_direct r e = no_and (is_straight r.form) (not r.rekey) (rw e)
  where
    no_and : (a b : Bool) → b ≡ false → a && b ≡ false
    no_and true b e = e
    no_and false b e = refl

kept-load : (r : Route) (l : Load) (w : World) → r.rekey ≡ true → (step_load w r l).world.sent ≡ w.sent
unfolding step_load goes_straight
kept-load r l w e = rw (no_direct r e) (kept (load w.table r.rekey l) w)

kept_either : (w : World) (b : Bool) (x y : Reply) → x.world.sent ≡ w.sent → y.world.sent ≡ w.sent → (either b x y).world.sent ≡ w.sent
unfolding either
kept_either w true x y e f = e
kept_either w false x y e f = f

kept_each : (r : Route) (ns : List ℕ) (w : World) → r.rekey ≡ true → (flush_each r ns w).world.sent ≡ w.sent
unfolding flush_each
kept_each r [] w k = refl
kept_each r (n ∷ ns) w k =
    let e = kept-load r (flush n) w k in
    kept_either w _ _ _ e (kept_each r ns (step_load w r (flush n)).world k ∙ e)

pub rekey_sends_nothing : (s : Seen) (c : Call) → during_rekey c ≡ true → (next s c).gone ++ (next s c).world.sent ≡ s.gone ++ s.world.sent
unfolding next step taken_by during_rekey drained either step_act
rekey_sends_nothing s (act a) e = rw (append-nil, kept (decide s.world.table a) s.world)
rekey_sends_nothing s (put route l) e = rw (append-nil, kept-load route l s.world e)
rekey_sends_nothing s (flush_all route) e = rw (append-nil, kept_each route (numbers s.world.table.places) s.world e)
rekey_sends_nothing s (flush_staged true) e = rw append-nil
rekey_sends_nothing s (flush_staged false) e = absurd (true≢false (sym e))
rekey_sends_nothing s drain e = rw append-nil
