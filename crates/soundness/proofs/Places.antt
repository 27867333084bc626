-- The places from the last to the first: what a look over those from a place on leaves, and how one place more changes it.
-- Assumes nothing.
use Prim.Native.Nat.{ℕ, zero, suc, ◌+◌, ◌/◌, ◌%◌, ◌^◌, ◌≤◌, ◌<◌}
use mathlib.Core.Path.{◌≡◌, refl, sym, ap, subst, ◌∙◌}
use mathlib.Core.Bool.{Bool, true, false, ◌&&◌, ◌||◌, not, cond, true≢false, and-false}
use mathlib.Core.List.{List, [], ◌∷◌}
use lib.ListN.{length, drop, get_or, set}
use lib.Seq.{get_or-set_same, get_or-set_other}
use lib.Dec.{eqb}
use native.Mathlib.Omega.{arith}
use Rattle.std.specs.Prelude.{Option, Some, None}
use Rattle.std.specs.Option.{MatchOption}
use Rattle.std.specs.List.{list_any, range_with_len}
use native.Mathlib.Nat.{div-one}
use borrow.Author.Tests.{eqb-true, eqb-false, eq-eqb, ne_eqb, not-true}
use Rattle.laws.specs.Bits.{bit}
use Rattle.laws.proofs.Tests.{by_test, shut, and_both, or_neither, or_second}
use Rattle.laws.proofs.Bits.{half_first}
use Rattle.channel.specs.declared.Record.{Record}
use Rattle.channel.specs.State.{place_count, number_of, Place, vacant, holds, Entry, nowhere, found, look, is_used}
use Rattle.channel.specs.State as S
use Rattle.channel.specs.Raw.{places_of, zero_record}
use Rattle.channel.specs.Sound.{is_zero, unused_zero, distinct, all_marked}
use Rattle.channel.specs.Sound as O
use Rattle.channel.proofs.Lookup.{look_miss, look_unused}
use Rattle.channel.specs.declared.Table as D
use Rattle.lookup.specs.Held.{HeldAt, PlaceIs}
use Rattle.soundness.specs.declared.Look.{Look}
use Rattle.soundness.specs.Tested.{Hinted, places_in}
use Rattle.lookup.proofs.Walk.{place-next, place-past, look-here, look-next, look-past, held_at, number-held, used-next, used-past, used_stop, unused_start, unused_go, unused_stop}

-- what a look has left so far
abbrev look_of : List ℕ → Bool → Look
look_of hints marked = record { hints = hints; marked = marked }

abbrev pub Seen : List Place → List ℕ → Bool → Type 0
Seen ps hints marked = Hinted ps (look_of hints marked)

seen_none : (hints : List ℕ) → Seen [] hints false
unfolding O.distinct S.is_used O.all_marked
seen_none hints = record { apart = refl; hinted = λ n e. absurd (true≢false (sym e)); unmarked = λ e es. refl }

seen-vacant : (ps : List Place) (hints : List ℕ) (marked : Bool) → Seen ps hints marked → Seen (vacant ∷ ps) hints marked
unfolding O.distinct S.is_used O.all_marked
seen-vacant ps hints marked s = record { apart = s.apart; hinted = s.hinted; unmarked = s.unmarked }

seen-holds : (c : Record) (ps : List Place) (hints : List ℕ) (marked : Bool) (h : ℕ) → length hints ≡ 64 → is_used (number_of c) ps ≡ false → 0 < h → Seen ps hints marked
    → Seen (holds c ∷ ps) (set hints (number_of c % 64) h) (marked || c.pending_eof || c.pending_close)
unfolding O.distinct S.is_used O.all_marked
seen-holds c ps hints marked h l u p s =
    let s64 : number_of c % 64 < length hints = omega arith in
    record {
      apart = rw u s.apart;
      hinted = λ n e.
          by_test (eqb (n % 64) (number_of c % 64))
          (λ t. rw (eqb-true (n % 64) (number_of c % 64) t, get_or-set_same hints (number_of c % 64) h 0 s64) (ne_eqb h 0 (λ z. omega arith)))
          (λ t. let z : n % 64 ≡ number_of c % 64 → ⊥ = eqb-false (n % 64) (number_of c % 64) t in
          let m : eqb (number_of c) n ≡ false = ne_eqb (number_of c) n (λ y. z (ap (λ x. x % 64) (sym y))) in
          rw (get_or-set_other hints (number_of c % 64) (n % 64) h 0 z) (s.hinted n (rw m at e)));
      unmarked = λ e es.
          let a = or_neither (marked || c.pending_eof) c.pending_close e in
          let b = or_neither marked c.pending_eof a.0 in
          rw (b.1, a.1) (s.unmarked b.0 es);
    }

module _ (rs : List Record) (w : ℕ) where
  pub seen-past : (i : ℕ) (hints : List ℕ) → length rs ≤ i → Seen (drop i (places_of w rs)) hints false
  seen-past i hints h = rw (place-past rs w i h) (seen_none hints)

  -- place p looked at, after those from i on
  pub seen-free : (p i : ℕ) (hints : List ℕ) (marked : Bool) → p + 1 ≡ i → i ≤ length rs → bit w p ≡ false
      → Seen (drop i (places_of w rs)) hints marked → Seen (drop p (places_of w rs)) hints marked
  seen-free p i hints marked e h t s =
      subst (λ l. Seen l hints marked) (sym (place-next rs w p zero_record (omega arith) ∙ ap (λ b. cond b (holds (get_or rs p zero_record)) vacant ∷ drop (p + 1) (places_of w rs)) t))
      (seen-vacant _ hints marked (subst (λ k. Seen (drop k (places_of w rs)) hints marked) (sym e) s))

  pub seen-used : (p i : ℕ) (z : Record) (hints : List ℕ) (marked : Bool) (at h : ℕ) → p + 1 ≡ i → i ≤ length rs → bit w p ≡ true → length hints ≡ 64
      → is_used (number_of (get_or rs p z)) (drop (p + 1) (places_of w rs)) ≡ false → at ≡ number_of (get_or rs p z) % 64 → h ≡ p + 1 → Seen (drop i (places_of w rs)) hints marked
      → Seen (drop p (places_of w rs)) (set hints at h) (marked || (get_or rs p z).pending_eof || (get_or rs p z).pending_close)
  seen-used p i z hints marked at h e l t m u a g s =
      let more = seen-holds (get_or rs p z) (drop (p + 1) (places_of w rs)) hints marked h m u (omega arith) (subst (λ k. Seen (drop k (places_of w rs)) hints marked) (sym e) s) in
      let marks = marked || (get_or rs p z).pending_eof || (get_or rs p z).pending_close in
      subst (λ k. Seen (drop p (places_of w rs)) (set hints k h) marks) (sym a)
      (subst (λ l. Seen l (set hints (number_of (get_or rs p z) % 64) h) marks)
      (sym (place-next rs w p z (omega arith) ∙ ap (λ b. cond b (holds (get_or rs p z)) vacant ∷ drop (p + 1) (places_of w rs)) t)) more)

  pub seen_all : (i : ℕ) (hints : List ℕ) (marked : Bool) → i ≤ 0 → Seen (drop i (places_of w rs)) hints marked → Seen (places_of w rs) hints marked
  seen_all i hints marked h s = let e : i ≡ 0 = omega arith in subst (λ k. Seen (drop k (places_of w rs)) hints marked) e s

  -- and the unused ones are zero
  pub unused_down : (p i : ℕ) (z : Record) → p + 1 ≡ i → i ≤ length rs → bit w p || is_zero (get_or rs p z) ≡ true
      → unused_zero (w / 2 ^ i) (drop i rs) ≡ true → unused_zero (w / 2 ^ p) (drop p rs) ≡ true
  unused_down p i z e h t u = unused_go rs w p z (omega arith) t ∙ ap (λ k. unused_zero (w / 2 ^ k) (drop k rs)) e ∙ u

  pub unused_all : (i : ℕ) → i ≤ 0 → unused_zero (w / 2 ^ i) (drop i rs) ≡ true → unused_zero w rs ≡ true
  unused_all i h u = let e : i ≡ 0 = omega arith in unused_start rs w ∙ ap (λ k. unused_zero (w / 2 ^ k) (drop k rs)) (sym e) ∙ u

-- a number without a hint is not used
pub unhinted : (n : ℕ) (ps : List Place) (l : Look) → Hinted ps l → get_or l.hints (n % 64) 0 ≡ 0 → is_used n ps ≡ false
unhinted n ps l s z =
    by_test (is_used n ps)
    (λ v. shut (eqb (get_or l.hints (n % 64) 0) 0) (s.hinted n v) (eq-eqb _ 0 z))
    (λ v. v)

pub unhinted_none : (n : ℕ) (ps : List Place) (l : Look) → Hinted ps l → get_or l.hints (n % 64) 0 ≡ 0 → look n ps ≡ nowhere
unhinted_none n ps l s z = look_unused n ps (unhinted n ps l s z)

-- what fails from a place on fails of the whole
pub distinct_back : (ps : List Place) (i : ℕ) → distinct (drop i ps) ≡ false → distinct ps ≡ false
unfolding O.distinct
distinct_back ps zero e = e
distinct_back [] (suc i) e = absurd (true≢false e)
distinct_back (vacant ∷ ps) (suc i) e = distinct_back ps i e
distinct_back (holds c ∷ ps) (suc i) e = rw (distinct_back ps i e) (and-false (not (is_used (number_of c) ps)))

unused_back : (rs : List Record) (w i : ℕ) → unused_zero (w / 2 ^ i) (drop i rs) ≡ false → unused_zero w rs ≡ false
unfolding O.unused_zero
unused_back rs w zero e = ap (λ x. unused_zero x rs) (sym (div-one w)) ∙ e
unused_back [] w (suc i) e = absurd (true≢false e)
unused_back (r ∷ rs) w (suc i) e = rw (unused_back rs (w / 2) i (ap (λ x. unused_zero x (drop i rs)) (half_first w i) ∙ e)) (and-false (eqb (w % 2) 1 || is_zero r))

pub unused_fails : (rs : List Record) (w p : ℕ) (z : Record) → p < length rs → bit w p ≡ false → is_zero (get_or rs p z) ≡ false → unused_zero w rs ≡ false
unused_fails rs w p z h f e = unused_back rs w p (unused_stop rs w p z h (ap (λ b. b || is_zero (get_or rs p z)) f ∙ e))

-- where numbers are distinct, any place that has the number is the one that is found
used_back : (ps : List Place) (i n : ℕ) → is_used n (drop i ps) ≡ true → is_used n ps ≡ true
unfolding S.is_used
used_back ps zero n e = e
used_back [] (suc i) n e = e
used_back (vacant ∷ ps) (suc i) n e = used_back ps i n e
used_back (holds c ∷ ps) (suc i) n e = or_second (eqb (number_of c) n) (used_back ps i n e)

look_later : (ps : List Place) (i n : ℕ) → distinct ps ≡ true → is_used n (drop i ps) ≡ true → look n ps ≡ look n (drop i ps)
unfolding O.distinct S.look S.is_used
look_later ps zero n d u = refl
look_later [] (suc i) n d u = refl
look_later (vacant ∷ ps) (suc i) n d u = look_later ps i n d u
look_later (holds c ∷ ps) (suc i) n d u =
    let a = and_both (not (is_used (number_of c) ps)) (distinct ps) d in
    by_test (eqb (number_of c) n)
    (λ t. shut (is_used (number_of c) ps) (not-true (is_used (number_of c) ps) a.0) (ap (λ m. is_used m ps) (eqb-true (number_of c) n t) ∙ used_back ps i n u))
    (λ t. look_miss n c ps t ∙ look_later ps i n a.1 u)

pub found_at : (rs : List Record) (w i n : ℕ) (z : Record) → i < length rs → distinct (places_of w rs) ≡ true → bit w i && eqb (number_of (get_or rs i z)) n ≡ true
    → look n (places_of w rs) ≡ found (get_or rs i z)
found_at rs w i n z h d t = look_later (places_of w rs) i n d (used_stop rs w i n z h t) ∙ look-here rs w i n z h t

-- a used place with the number is where its record stands
pub place_found : (t : D.Table) (i n : ℕ) → i < place_count → length t.records ≡ place_count → distinct (places_in t) ≡ true → bit t.used i && eqb (number_of (get_or t.records i zero_record)) n ≡ true → HeldAt t n i
place_found t i n h l d b =
    record {
      place = h;
      used = (and_both (bit t.used i) _ b).0;
      at = held_at t.records t.used i n zero_record (omega arith) b;
      number = number-held t.used i n (get_or t.records i zero_record) b;
      here = found_at t.records t.used i n zero_record (omega arith) d b;
    }

-- THE PLACES BY INDEX, as a range gives them

-- place i is used and has the number
abbrev pub has : D.Table → ℕ → ℕ → Bool
has t n i = bit t.used i && eqb (number_of (get_or t.records i zero_record)) n

-- some place of the k from i on has it
pub used_listed : (t : D.Table) (n i k : ℕ) → i + k ≡ length t.records → list_any (has t n) (range_with_len i k) ≡ is_used n (drop i (places_in t))
used_listed t n i zero h = sym (used-past t.records t.used i n (omega arith))
used_listed t n i (suc k) h = ap (λ b. has t n i || b) (used_listed t n (i + 1) k (omega arith)) ∙ sym (used-next t.records t.used i n zero_record (omega arith))

-- none of those before i has it
none_before : (t : D.Table) (n i : ℕ) → i ≤ length t.records → ((k : ℕ) → k < i → has t n k ≡ false) → look n (places_in t) ≡ look n (drop i (places_in t))
none_before t n zero h out = refl
none_before t n (suc i) h out =
    let e : i + 1 ≡ suc i = omega arith in
    none_before t n i (omega arith) (λ k l. out k (omega arith)) ∙ look-next t.records t.used i n zero_record (omega arith) (out i (omega arith)) ∙ ap (λ m. look n (drop m (places_in t))) e

-- what a search of all of them finds
pub first_is : (t : D.Table) (n : ℕ) (r : Option ℕ) → length t.records ≡ place_count
    → MatchOption r ((k : ℕ) → 0 ≤ k → k < place_count → has t n k ≡ false) (λ i. (0 ≤ i) × (i < place_count) × (has t n i ≡ true) × ((k : ℕ) → 0 ≤ k → k < i → has t n k ≡ false)) → PlaceIs t n r
first_is t n None h out = none_before t n place_count (omega arith) (λ k l. out k (omega arith) l) ∙ look-past t.records t.used place_count n (omega arith)
first_is t n (Some i) h f =
    let below : i < length t.records = omega (arith, f.1) in
    record {
      place = f.1;
      used = (and_both (bit t.used i) _ f.2).0;
      at = held_at t.records t.used i n zero_record below f.2;
      number = number-held t.used i n (get_or t.records i zero_record) f.2;
      here = none_before t n i (omega (arith, f.1)) (λ k l. f.3 k (omega arith) l) ∙ look-here t.records t.used i n zero_record below f.2;
    }
