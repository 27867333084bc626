-- What a decision comes to, by the facts that the lookups ensure.
-- Assumes nothing.
use Prim.Native.Nat.{ℕ, zero, suc, ◌≤◌}
use mathlib.Core.Path.{◌≡◌, refl, sym, ap, ◌∙◌}
use mathlib.Core.Bool.{Bool, true, false, ◌&&◌, true≢false}
use mathlib.Core.List.{List, [], ◌∷◌}
use lib.ListN.{length, take}
use lib.Dec.{eqb}
use native.Mathlib.Omega.{arith}
use borrow.Author.Tests.{ne_eqb}
use Rattle.laws.proofs.Tests.{by_test}
use Rattle.channel.specs.declared.Record.{Record}
use Rattle.channel.specs.State.{number_of, nowhere, found, look, is_used, any_entry}
use Rattle.channel.specs.Call.{Act, Load, Route, direct, act, put}
use Rattle.channel.specs.Decide.{Decision, refuse, known, passing, is_confirmed, serves, decide, load}
use Rattle.channel.specs.Decide as D
use Rattle.channel.specs.Step.{none_staged, goes_straight, apply, step}
use Rattle.channel.specs.Step as T
use Rattle.channel.specs.Raw.{Raw, places_of, entries_of, messages_of, meaning}
use Rattle.channel.specs.Raw as R
use Rattle.channel.specs.Sound.{is_sound}
use Rattle.channel.proofs.Lookup.{nothing-found, look_unused, look-nowhere}
use Rattle.lookup.specs.Held.{HeldAt, record_at}
use Rattle.lookup.proofs.Walk.{any_bytes}
use Rattle.lookup.proofs.Limits.{limits}

-- A TEST in a decision

pub if_true : (b : Bool) (x y : Decision) → b ≡ true → elim b [ true ↦ x | false ↦ y ] ≡ x
if_true true x y e = refl
if_true false x y e = absurd (true≢false (sym e))

pub if_false : (b : Bool) (x y : Decision) → b ≡ false → elim b [ true ↦ x | false ↦ y ] ≡ y
if_false true x y e = absurd (true≢false e)
if_false false x y e = refl

-- the gates
pub serves-is : (c : Record) → serves c ≡ c.confirmed
unfolding D.serves D.is_confirmed
serves-is c = refl

pub confirmed-is : (c : Record) → is_confirmed c ≡ c.confirmed
unfolding D.is_confirmed
confirmed-is c = refl

-- THE STATE'S PLACES AND ENTRIES, by what the code found

module _ (r : Raw) (n : ℕ) where
  pub has_is : any_entry n (meaning r).table.entries ≡ any_entry n (entries_of r.held.entry_count r.held.entries [])
  unfolding R.meaning
  has_is = any_bytes r.held.entry_count r.held.entries _ _ n

  -- no record has the number
  module _ (e : look n (places_of r.held.used r.held.records) ≡ nowhere) where
    pub none-look : look n (meaning r).table.places ≡ nowhere
    unfolding R.meaning
    none-look = e

    pub none-used : is_used n (meaning r).table.places ≡ false
    none-used = look-nowhere n (meaning r).table.places none-look

    pub none-known : (f : Record → Decision) → known (look n (meaning r).table.places) f ≡ refuse 2
    unfolding D.known
    none-known f = ap (λ o. known o f) none-look

    pub none_passes : (test : Record → Bool) (f : Record → Decision) → passing test (look n (meaning r).table.places) f ≡ refuse 2
    unfolding D.passing
    none_passes test f = none-known _

  -- the record at place i has it
  module _ (i : ℕ) (h : HeldAt r.held n i) where
    pub held-look : look n (meaning r).table.places ≡ found (record_at r.held i)
    unfolding R.meaning
    held-look = h.here

    pub held-used : is_used n (meaning r).table.places ≡ true
    held-used =
        by_test (is_used n (meaning r).table.places)
        (λ u. u)
        (λ u. nothing-found (record_at r.held i) (sym (look_unused n (meaning r).table.places u) ∙ held-look))

    -- whether it has an entry, as a decision asks
    pub held_has : any_entry (number_of (record_at r.held i)) (meaning r).table.entries ≡ any_entry n (entries_of r.held.entry_count r.held.entries [])
    held_has = ap (λ m. any_entry m (meaning r).table.entries) h.number ∙ has_is

    pub held-known : (f : Record → Decision) → known (look n (meaning r).table.places) f ≡ f (record_at r.held i)
    unfolding D.known
    held-known f = ap (λ o. known o f) held-look

    pub held_fails : (test : Record → Bool) (f : Record → Decision) → test (record_at r.held i) ≡ false → passing test (look n (meaning r).table.places) f ≡ refuse 3
    unfolding D.passing
    held_fails test f e = held-known _ ∙ if_false (test (record_at r.held i)) _ _ e

    pub held_passes : (test : Record → Bool) (f : Record → Decision) → test (record_at r.held i) ≡ true → passing test (look n (meaning r).table.places) f ≡ f (record_at r.held i)
    unfolding D.passing
    held_passes test f e = held-known _ ∙ if_true (test (record_at r.held i)) _ _ e

-- THE TWO WAYS to a decision

pub by_act : (r : Raw) (a : Act) {o : Decision} → decide (meaning r).table a ≡ o → step (meaning r) (act a) ≡ apply (meaning r) false o
unfolding T.step T.step_act
by_act r a d = ap (apply (meaning r) false) d

pub by_load : (r : Raw) (route : Route) (l : Load) (b : Bool) {o : Decision} → goes_straight (direct route) (meaning r) ≡ b → load (meaning r).table route.rekey l ≡ o
    → step (meaning r) (put route l) ≡ apply (meaning r) b o
unfolding T.step T.step_load
by_load r route l b {o} e d = ap (apply (meaning r) (goes_straight (direct route) (meaning r))) d ∙ ap (λ x. apply (meaning r) x o) e

-- nothing is staged where staged's used count is 0
none-staged : (k : ℕ) (bs : List ℕ) → k ≤ length bs → none_staged (messages_of k (take k bs)) ≡ eqb k 0
unfolding T.none_staged R.messages_of
none-staged zero bs h = refl
none-staged (suc k) [] h = absurd (omega arith)
none-staged (suc k) (b ∷ bs) h = sym (ne_eqb (suc k) 0 (λ e. omega arith))

pub straight-is : (r : Raw) → is_sound r ≡ true → (want : Bool) → goes_straight want (meaning r) ≡ want && eqb r.held.staged_used 0
unfolding T.goes_straight R.meaning
straight-is r sd want = ap (λ b. want && b) (none-staged r.held.staged_used r.staged (limits r sd).staged_used)
