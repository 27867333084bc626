-- The definition's test in the parts that the code decides.
-- Assumes nothing.
use Rattle.std.proofs.lemmas.List.{length-take-le, take_all, length-drop}
use native.Mathlib.Omega.{arith}
use Prim.Native.Nat.{ℕ, zero, suc, ◌-◌, ◌+◌, ◌≤◌, ◌<◌}
use mathlib.Core.Path.{◌≡◌, refl, sym, ap, ◌∙◌}
use mathlib.Core.Bool.{Bool, true, false, ◌&&◌, ◌||◌, and_assoc, and-true, and-false, or_assoc}
use mathlib.Core.List.{List, [], ◌∷◌}
use lib.ListN.{length, drop, take, get_or}
use lib.Dec.{leb, eqb}
use borrow.Author.Tests.{eq-eqb, ne_eqb, eqb-true, eqb-false, leb-true}
use Rattle.laws.proofs.Tests.{by_test, and_both}
use Rattle.laws.specs.Clauses as Cl
use Rattle.channel.specs.declared.Table as D
use Rattle.channel.specs.declared.Entry as E
use Rattle.channel.specs.State.{most_entries, any_entry}
use Rattle.channel.specs.Raw.{Raw, entries_of, meaning}
use Rattle.channel.specs.Raw as R
use Rattle.channel.specs.Sound.{unused_zero, entries_zero, distinct, all_named, all_marked, sum_left, whole_frames, is_sound}
use Rattle.channel.specs.Sound as O
use Rattle.lookup.proofs.Walk.{any_next, any_bytes, named_bytes, marked-same}
use Rattle.soundness.specs.Tested.{Sized, sizes, limited, listed, places_in, entries_in, tidy, entries_sound, marks_sound}
use Rattle.soundness.specs.Tested as T

eqb_swap : (a b : ℕ) → eqb a b ≡ eqb b a
eqb_swap a b =
    by_test (eqb a b)
    (λ t. t ∙ sym (eq-eqb b a (sym (eqb-true a b t))))
    (λ t. t ∙ sym (ne_eqb b a (λ e. eqb-false a b t (sym e))))

-- THE LOOK OVER THE TABLE, at each way out

module _ (t : D.Table) where
  pub tidy-places : unused_zero t.used t.records ≡ false → tidy t ≡ false
  unfolding T.tidy
  tidy-places p = rw p

  pub tidy-numbers : distinct (places_in t) ≡ false → tidy t ≡ false
  unfolding T.tidy
  tidy-numbers d = rw (d, and-false (entries_zero (drop t.entry_count t.entries))) (and-false (unused_zero t.used t.records))

  pub tidy-entries : entries_zero (drop t.entry_count t.entries) ≡ false → tidy t ≡ false
  unfolding T.tidy
  tidy-entries z = rw z (and-false (unused_zero t.used t.records))

  pub tidy-is : unused_zero t.used t.records ≡ true → distinct (places_in t) ≡ true → entries_zero (drop t.entry_count t.entries) ≡ true → tidy t ≡ true
  unfolding T.tidy
  tidy-is p d z = rw (p, d, z)

  pub tidy-distinct : tidy t ≡ true → distinct (places_in t) ≡ true
  unfolding T.tidy
  tidy-distinct e =
      let a = and_both (unused_zero t.used t.records) (entries_zero (drop t.entry_count t.entries) && distinct (places_in t)) e in
      (and_both (entries_zero (drop t.entry_count t.entries)) (distinct (places_in t)) a.1).1

-- THE ENTRIES in use, and those past them

part : (c : ℕ) (es : List E.Entry) (bs : List ℕ) → entries_of c (take c es) bs ≡ entries_of c es bs
unfolding R.entries_of
part zero es bs = refl
part (suc c) [] bs = refl
part (suc c) (e ∷ es) bs = ap (λ l. record { number = e.number.0; kind = e.kind; bytes = take e.left bs } ∷ l) (part c es (drop e.left bs))

listed_part : (c : ℕ) (es : List E.Entry) → c ≤ length es → listed (take c es) ≡ entries_of c es []
listed_part c es h = ap (λ k. entries_of k (take c es) []) (length-take-le c es h) ∙ part c es []

sum_part : (c : ℕ) (es : List E.Entry) → sum_left c (take c es) ≡ sum_left c es
unfolding O.sum_left
sum_part zero es = refl
sum_part (suc c) [] = refl
sum_part (suc c) (e ∷ es) = ap (λ n. e.left + n) (sum_part c es)

-- an entry more, and whether it has the number
pub entry_more : (es : List E.Entry) (n k : ℕ) (z : E.Entry) (waits : Bool) → k < length es
    → any_entry n (listed es) ≡ waits || any_entry n (drop k (listed es)) → any_entry n (listed es) ≡ (waits || eqb (get_or es k z).number.0 n) || any_entry n (drop (k + 1) (listed es))
entry_more es n k z waits h w =
    w ∙ ap (λ x. waits || x) (any_next (length es) es [] k n z h (omega arith))
    ∙ sym (or_assoc waits (eqb (get_or es k z).number.0 n) (any_entry n (drop (k + 1) (listed es))))

module _ (t : D.Table) (s : Sized t) where
  -- those in use, and the sum of their lengths
  pub listed_is : listed (take t.entry_count t.entries) ≡ entries_in t
  listed_is = listed_part t.entry_count t.entries (omega (arith, s.few, s.entries))

  pub sum_is : sum_left (length (take t.entry_count t.entries)) (take t.entry_count t.entries) ≡ sum_left t.entry_count t.entries
  sum_is = ap (λ k. sum_left k (take t.entry_count t.entries)) (length-take-le t.entry_count t.entries (omega (arith, s.few, s.entries))) ∙ sum_part t.entry_count t.entries

  -- what the walk over them says of the table
  pub any_is : (n : ℕ) (b : Bool) → any_entry n (listed (take t.entry_count t.entries)) ≡ b → any_entry n (entries_in t) ≡ b
  any_is n b e = ap (any_entry n) (sym listed_is) ∙ e

  pub not_named : all_named (places_in t) (listed (take t.entry_count t.entries)) ≡ false → entries_sound t ≡ false
  unfolding T.entries_sound
  not_named e = rw (ap (all_named (places_in t)) (sym listed_is) ∙ e)

  pub named_sum : (sum : ℕ) (b : Bool) → all_named (places_in t) (listed (take t.entry_count t.entries)) ≡ true
      → sum_left (length (take t.entry_count t.entries)) (take t.entry_count t.entries) ≡ sum → eqb sum t.queue_used ≡ b → entries_sound t ≡ b
  unfolding T.entries_sound
  named_sum sum b a e q = rw (ap (all_named (places_in t)) (sym listed_is) ∙ a) (ap (λ x. eqb x t.queue_used) (sym sum_is ∙ e) ∙ q)

  -- the rest
  pub unused_is : take (64 - t.entry_count) (drop t.entry_count t.entries) ≡ drop t.entry_count t.entries
  unused_is = take_all (64 - t.entry_count) (drop t.entry_count t.entries) (simp length-drop (omega (arith, s.few, s.entries)))

-- THE WHOLE

-- what is left to test of a tidy table within its limits
abbrev rest : Raw → Bool
rest r = entries_sound r.held && marks_sound r.held && whole_frames r.held.staged_used (take r.held.staged_used r.staged)

module _ (r : Raw) where
  parts : is_sound r ≡ limited r && (tidy r.held && rest r)
  unfolding O.is_sound Cl.every R.meaning T.tidy T.entries_sound T.marks_sound
  parts =
      let es = entries_of r.held.entry_count r.held.entries (take r.held.queue_used r.queue) in
      let n : all_named (places_in r.held) es ≡ all_named (places_in r.held) (entries_in r.held) =
      named_bytes r.held.entry_count r.held.entries _ _ (places_in r.held) in
      let m : all_marked es (places_in r.held) ≡ all_marked (entries_in r.held) (places_in r.held) =
      marked-same es (entries_in r.held) (places_in r.held) (any_bytes r.held.entry_count r.held.entries _ _) in
      rw (n, m) (simp (and_assoc, and-true))

  -- within its limits
  pub limits_few : limited r ≡ true → r.held.entry_count ≤ most_entries
  limits_few l =
      leb-true _ _ (and_both (sizes r && leb r.held.staged_used (length r.staged) && leb r.held.sent_used (length r.sent)) _ l).1

  pub limits_staged : limited r ≡ true → r.held.staged_used ≤ length r.staged
  limits_staged l =
      let a = and_both (sizes r && leb r.held.staged_used (length r.staged) && leb r.held.sent_used (length r.sent)) _ l in
      let b = and_both (sizes r && leb r.held.staged_used (length r.staged)) _ a.0 in
      leb-true _ _ (and_both (sizes r) _ b.0).1

  -- each way out
  pub sound_limits : limited r ≡ false → is_sound r ≡ false
  sound_limits l = parts ∙ ap (λ b. b && (tidy r.held && rest r)) l

  pub sound-tidy : tidy r.held ≡ false → is_sound r ≡ false
  sound-tidy t = parts ∙ simp (t, and-false)

  pub sound-rest : (entries marks frames b : Bool) → limited r ≡ true → tidy r.held ≡ true → entries ≡ entries_sound r.held → marks ≡ marks_sound r.held
      → frames ≡ whole_frames r.held.staged_used (take r.held.staged_used r.staged) → entries && marks && frames ≡ b → is_sound r ≡ b
  sound-rest entries marks frames b l t e m w z = parts ∙ ap (λ x. x && (tidy r.held && rest r)) l ∙ rw (t, ← e, ← m, ← w) z
