-- A walk over the code's arrays, place by place and entry by entry, against the definition's lists. Of each definition: what one step
-- says (`-next`), the step that goes on (`-go`), the one that stops (`-stop`), and the end (`-past`).
-- Assumes nothing.
use Prim.Native.Nat.{ℕ, zero, suc, ◌+◌, ◌-◌, ◌/◌, ◌%◌, ◌^◌, ◌≤◌, ◌<◌}
use mathlib.Core.Path.{◌≡◌, refl, sym, ap, ap₂, ◌∙◌}
use mathlib.Core.Bool.{Bool, true, false, ◌&&◌, ◌||◌, not, cond, true≢false, and_assoc, and-true}
use mathlib.Core.List.{List, [], ◌∷◌}
use lib.ListN.{length, drop, get_or, drop_of_length-le}
use lib.Dec.{eqb}
use native.Mathlib.Omega.{arith}
use native.Mathlib.Nat.{div-one}
use borrow.Author.Tests.{eqb-true}
use Rattle.laws.specs.Bits.{bit}
use Rattle.laws.specs.Clauses.{every}
use Rattle.laws.specs.Clauses as Cl
use Rattle.laws.proofs.Tests.{and_both}
use Rattle.laws.proofs.Lists.{next}
use Rattle.laws.proofs.Bits.{half_first, half_last}
use Rattle.channel.specs.declared.Record.{Record}
use Rattle.channel.specs.declared.Entry as E
use Rattle.channel.specs.State.{number_of, Place, vacant, holds, Entry, nowhere, found, look, is_used, any_entry}
use Rattle.channel.specs.State as S
use Rattle.channel.specs.Raw.{places_of, entries_of}
use Rattle.channel.specs.Raw as R
use Rattle.channel.specs.Sound.{is_zero, is_zero_entry, unused_zero, entries_zero, distinct, found_confirmed, all_named, sum_left, is_marked, all_marked}
use Rattle.channel.specs.Sound as O
use Rattle.channel.proofs.Lookup.{look_hit, look_miss}
use Rattle.channel.proofs.Faithful.{length-places, length-entries}

-- PLACES

pub place_is : (rs : List Record) (w i : ℕ) (z : Record) → i < length rs → get_or (places_of w rs) i vacant ≡ cond (bit w i) (holds (get_or rs i z)) vacant
unfolding R.places_of
place_is [] w i z l = absurd (omega arith)
place_is (r ∷ rs) w zero z l = ap (λ x. cond (eqb (x % 2) 1) (holds r) vacant) (sym (div-one w))
place_is (r ∷ rs) w (suc i) z l = place_is rs (w / 2) i z (omega arith) ∙ ap (λ x. cond (eqb (x % 2) 1) (holds (get_or rs i z)) vacant) (half_first w i)

pub place-next : (rs : List Record) (w i : ℕ) (z : Record) → i < length rs
    → drop i (places_of w rs) ≡ cond (bit w i) (holds (get_or rs i z)) vacant ∷ drop (i + 1) (places_of w rs)
place-next rs w i z h =
    let l : i < length (places_of w rs) = omega (arith, length-places rs w) in
    next (places_of w rs) i vacant l ∙ ap (λ p. p ∷ drop (i + 1) (places_of w rs)) (place_is rs w i z h)

pub place-past : (rs : List Record) (w i : ℕ) → length rs ≤ i → drop i (places_of w rs) ≡ []
place-past rs w i h = drop_of_length-le (places_of w rs) {i = i} (omega (arith, length-places rs w))

-- looking a number up
pub look-next : (rs : List Record) (w i n : ℕ) (z : Record) → i < length rs → bit w i && eqb (number_of (get_or rs i z)) n ≡ false
    → look n (drop i (places_of w rs)) ≡ look n (drop (i + 1) (places_of w rs))
unfolding S.look
look-next rs w i n z h t = ap (look n) (place-next rs w i z h) ∙ step (bit w i) t
  where
    step : (b : Bool) → b && eqb (number_of (get_or rs i z)) n ≡ false
        → look n (cond b (holds (get_or rs i z)) vacant ∷ drop (i + 1) (places_of w rs)) ≡ look n (drop (i + 1) (places_of w rs))
    step true u = look_miss n (get_or rs i z) (drop (i + 1) (places_of w rs)) u
    step false u = refl

pub look-here : (rs : List Record) (w i n : ℕ) (z : Record) → i < length rs → bit w i && eqb (number_of (get_or rs i z)) n ≡ true
    → look n (drop i (places_of w rs)) ≡ found (get_or rs i z)
look-here rs w i n z h t = ap (look n) (place-next rs w i z h) ∙ step (bit w i) t
  where
    step : (b : Bool) → b && eqb (number_of (get_or rs i z)) n ≡ true
        → look n (cond b (holds (get_or rs i z)) vacant ∷ drop (i + 1) (places_of w rs)) ≡ found (get_or rs i z)
    step true u = look_hit n (get_or rs i z) (drop (i + 1) (places_of w rs)) u
    step false u = absurd (true≢false (sym u))

pub look-past : (rs : List Record) (w i n : ℕ) → length rs ≤ i → look n (drop i (places_of w rs)) ≡ nowhere
unfolding S.look
look-past rs w i n h = rw (place-past rs w i h)

pub held_at : (rs : List Record) (w i n : ℕ) (z : Record) → i < length rs → bit w i && eqb (number_of (get_or rs i z)) n ≡ true
    → get_or (places_of w rs) i vacant ≡ holds (get_or rs i z)
held_at rs w i n z h t = place_is rs w i z h ∙ ap (λ b. cond b (holds (get_or rs i z)) vacant) (and_both (bit w i) _ t).0

pub number-held : (w i n : ℕ) (r : Record) → bit w i && eqb (number_of r) n ≡ true → number_of r ≡ n
number-held w i n r t = eqb-true (number_of r) n (and_both (bit w i) _ t).1

-- whether a number is used
pub used-next : (rs : List Record) (w i n : ℕ) (z : Record) → i < length rs
    → is_used n (drop i (places_of w rs)) ≡ bit w i && eqb (number_of (get_or rs i z)) n || is_used n (drop (i + 1) (places_of w rs))
unfolding S.is_used
used-next rs w i n z h = ap (is_used n) (place-next rs w i z h) ∙ step (bit w i)
  where
    step : (b : Bool) → is_used n (cond b (holds (get_or rs i z)) vacant ∷ drop (i + 1) (places_of w rs))
        ≡ b && eqb (number_of (get_or rs i z)) n || is_used n (drop (i + 1) (places_of w rs))
    step true = refl
    step false = refl

pub used-go : (rs : List Record) (w i n : ℕ) (z : Record) → i < length rs → bit w i && eqb (number_of (get_or rs i z)) n ≡ false
    → is_used n (drop i (places_of w rs)) ≡ is_used n (drop (i + 1) (places_of w rs))
used-go rs w i n z h t = used-next rs w i n z h ∙ ap (λ b. b || is_used n (drop (i + 1) (places_of w rs))) t

pub used_stop : (rs : List Record) (w i n : ℕ) (z : Record) → i < length rs → bit w i && eqb (number_of (get_or rs i z)) n ≡ true
    → is_used n (drop i (places_of w rs)) ≡ true
used_stop rs w i n z h t = used-next rs w i n z h ∙ ap (λ b. b || is_used n (drop (i + 1) (places_of w rs))) t

pub used-past : (rs : List Record) (w i n : ℕ) → length rs ≤ i → is_used n (drop i (places_of w rs)) ≡ false
unfolding S.is_used
used-past rs w i n h = rw (place-past rs w i h)

-- distinct numbers
pub distinct-next : (rs : List Record) (w i : ℕ) (z : Record) → i < length rs
    → distinct (drop i (places_of w rs)) ≡ not (bit w i && is_used (number_of (get_or rs i z)) (drop (i + 1) (places_of w rs))) && distinct (drop (i + 1) (places_of w rs))
unfolding O.distinct
distinct-next rs w i z h = ap distinct (place-next rs w i z h) ∙ step (bit w i)
  where
    step : (b : Bool) → distinct (cond b (holds (get_or rs i z)) vacant ∷ drop (i + 1) (places_of w rs))
        ≡ not (b && is_used (number_of (get_or rs i z)) (drop (i + 1) (places_of w rs))) && distinct (drop (i + 1) (places_of w rs))
    step true = refl
    step false = refl

pub distinct-free : (rs : List Record) (w i : ℕ) (z : Record) → i < length rs → bit w i ≡ false
    → distinct (drop i (places_of w rs)) ≡ distinct (drop (i + 1) (places_of w rs))
distinct-free rs w i z h t = distinct-next rs w i z h
    ∙ ap (λ b. not (b && is_used (number_of (get_or rs i z)) (drop (i + 1) (places_of w rs))) && distinct (drop (i + 1) (places_of w rs))) t

pub distinct-go : (rs : List Record) (w i : ℕ) (z : Record) → i < length rs → bit w i ≡ true → is_used (number_of (get_or rs i z)) (drop (i + 1) (places_of w rs)) ≡ false
    → distinct (drop i (places_of w rs)) ≡ distinct (drop (i + 1) (places_of w rs))
distinct-go rs w i z h t u = distinct-next rs w i z h ∙ ap₂ (λ b d. not (b && d) && distinct (drop (i + 1) (places_of w rs))) t u

pub distinct_stop : (rs : List Record) (w i : ℕ) (z : Record) → i < length rs → bit w i ≡ true → is_used (number_of (get_or rs i z)) (drop (i + 1) (places_of w rs)) ≡ true
    → distinct (drop i (places_of w rs)) ≡ false
distinct_stop rs w i z h t u = distinct-next rs w i z h ∙ ap₂ (λ b d. not (b && d) && distinct (drop (i + 1) (places_of w rs))) t u

pub distinct-past : (rs : List Record) (w i : ℕ) → length rs ≤ i → distinct (drop i (places_of w rs)) ≡ true
unfolding O.distinct
distinct-past rs w i h = rw (place-past rs w i h)

-- marks
pub marked_next : (rs : List Record) (w i : ℕ) (z : Record) (es : List Entry) → i < length rs
    → all_marked es (drop i (places_of w rs))
    ≡ (not (bit w i && is_marked (get_or rs i z)) || any_entry (number_of (get_or rs i z)) es) && all_marked es (drop (i + 1) (places_of w rs))
unfolding O.all_marked
marked_next rs w i z es h = ap (all_marked es) (place-next rs w i z h) ∙ step (bit w i)
  where
    step : (b : Bool) → all_marked es (cond b (holds (get_or rs i z)) vacant ∷ drop (i + 1) (places_of w rs))
        ≡ (not (b && is_marked (get_or rs i z)) || any_entry (number_of (get_or rs i z)) es) && all_marked es (drop (i + 1) (places_of w rs))
    step true = refl
    step false = refl

pub marked-free : (rs : List Record) (w i : ℕ) (z : Record) (es : List Entry) → i < length rs → bit w i && is_marked (get_or rs i z) ≡ false
    → all_marked es (drop i (places_of w rs)) ≡ all_marked es (drop (i + 1) (places_of w rs))
marked-free rs w i z es h t = marked_next rs w i z es h
    ∙ ap (λ b. (not b || any_entry (number_of (get_or rs i z)) es) && all_marked es (drop (i + 1) (places_of w rs))) t

pub marked-go : (rs : List Record) (w i : ℕ) (z : Record) (es : List Entry) → i < length rs → bit w i && is_marked (get_or rs i z) ≡ true
    → any_entry (number_of (get_or rs i z)) es ≡ true
    → all_marked es (drop i (places_of w rs)) ≡ all_marked es (drop (i + 1) (places_of w rs))
marked-go rs w i z es h t u = marked_next rs w i z es h ∙ ap₂ (λ b d. (not b || d) && all_marked es (drop (i + 1) (places_of w rs))) t u

pub marked_stop : (rs : List Record) (w i : ℕ) (z : Record) (es : List Entry) → i < length rs → bit w i && is_marked (get_or rs i z) ≡ true
    → any_entry (number_of (get_or rs i z)) es ≡ false
    → all_marked es (drop i (places_of w rs)) ≡ false
marked_stop rs w i z es h t u = marked_next rs w i z es h ∙ ap₂ (λ b d. (not b || d) && all_marked es (drop (i + 1) (places_of w rs))) t u

pub marked-past : (rs : List Record) (w i : ℕ) (es : List Entry) → length rs ≤ i → all_marked es (drop i (places_of w rs)) ≡ true
unfolding O.all_marked
marked-past rs w i es h = rw (place-past rs w i h)

-- unused places are zero
pub unused_next : (rs : List Record) (w i : ℕ) (z : Record) → i < length rs
    → unused_zero (w / 2 ^ i) (drop i rs) ≡ (bit w i || is_zero (get_or rs i z)) && unused_zero (w / 2 ^ (i + 1)) (drop (i + 1) rs)
unfolding O.unused_zero
unused_next rs w i z h = rw (next rs i z h, half_last w i)

pub unused_go : (rs : List Record) (w i : ℕ) (z : Record) → i < length rs → bit w i || is_zero (get_or rs i z) ≡ true
    → unused_zero (w / 2 ^ i) (drop i rs) ≡ unused_zero (w / 2 ^ (i + 1)) (drop (i + 1) rs)
unused_go rs w i z h t = unused_next rs w i z h ∙ ap (λ b. b && unused_zero (w / 2 ^ (i + 1)) (drop (i + 1) rs)) t

pub unused_stop : (rs : List Record) (w i : ℕ) (z : Record) → i < length rs → bit w i || is_zero (get_or rs i z) ≡ false → unused_zero (w / 2 ^ i) (drop i rs) ≡ false
unused_stop rs w i z h t = unused_next rs w i z h ∙ ap (λ b. b && unused_zero (w / 2 ^ (i + 1)) (drop (i + 1) rs)) t

pub unused_start : (rs : List Record) (w : ℕ) → unused_zero w rs ≡ unused_zero (w / 2 ^ 0) (drop 0 rs)
unused_start rs w = ap (λ x. unused_zero x rs) (sym (div-one w))

pub unused_past : (rs : List Record) (w i : ℕ) → length rs ≤ i → unused_zero (w / 2 ^ i) (drop i rs) ≡ true
unfolding O.unused_zero
unused_past rs w i h = rw (drop_of_length-le rs {i = i} h)

-- a zero record, test by test
pub zero_flat : (r : Record)
    → eqb (number_of r) 0
    && eqb r.recipient_channel.0 0
    && not r.confirmed
    && eqb r.sender_window_size 0
    && eqb r.sender_maximum_packet_size 0
    && eqb r.recipient_window_size 0
    && eqb r.recipient_maximum_packet_size 0
    && not r.wants_reply
    && not r.pending_eof
    && not r.pending_close
    ≡ is_zero r
unfolding O.is_zero Cl.every
zero_flat r = simp (and_assoc, and-true)

-- the record that is found
pub confirmed_of : (n : ℕ) (ps : List Place) (c : Record) → look n ps ≡ found c → found_confirmed (look n ps) ≡ c.confirmed
unfolding O.found_confirmed
confirmed_of n ps c e = ap found_confirmed e

pub confirmed-none : (n : ℕ) (ps : List Place) → look n ps ≡ nowhere → found_confirmed (look n ps) ≡ false
unfolding O.found_confirmed
confirmed-none n ps e = ap found_confirmed e

-- ENTRIES

-- an unused entry, test by test
pub zero-entry_flat : (p : E.Entry) → eqb p.number.0 0 && not p.kind.extended && eqb p.kind.code 0 && eqb p.left 0 ≡ is_zero_entry p
unfolding O.is_zero_entry Cl.every
zero-entry_flat p = simp (and_assoc, and-true)

pub zero-next : (es : List E.Entry) (k : ℕ) (z : E.Entry) → k < length es
    → entries_zero (drop k es) ≡ is_zero_entry (get_or es k z) && entries_zero (drop (k + 1) es)
unfolding O.entries_zero
zero-next es k z h = rw (next es k z h)

pub zero-go : (es : List E.Entry) (k : ℕ) (z : E.Entry) → k < length es → is_zero_entry (get_or es k z) ≡ true
    → entries_zero (drop k es) ≡ entries_zero (drop (k + 1) es)
zero-go es k z h t = zero-next es k z h ∙ ap (λ b. b && entries_zero (drop (k + 1) es)) t

pub zero_stop : (es : List E.Entry) (k : ℕ) (z : E.Entry) → k < length es → is_zero_entry (get_or es k z) ≡ false
    → entries_zero (drop k es) ≡ false
zero_stop es k z h t = zero-next es k z h ∙ ap (λ b. b && entries_zero (drop (k + 1) es)) t

pub zero-past : (es : List E.Entry) (k : ℕ) → length es ≤ k → entries_zero (drop k es) ≡ true
unfolding O.entries_zero
zero-past es k h = rw (drop_of_length-le es {i = k} h)

pub sum-next : (es : List E.Entry) (n k : ℕ) (z : E.Entry) → k < n → k < length es → sum_left (n - k) (drop k es) ≡ (get_or es k z).left + sum_left (n - (k + 1)) (drop (k + 1) es)
unfolding O.sum_left
sum-next es n k z h l =
    let e : n - k ≡ suc (n - (k + 1)) = omega arith in
    rw (e, next es k z l)

pub sum-start : (es : List E.Entry) (n : ℕ) → sum_left n es ≡ 0 + sum_left (n - 0) (drop 0 es)
sum-start es n =
    let e : n - 0 ≡ n = omega arith in
    let z : sum_left (n - 0) es ≡ sum_left n es = ap (λ k. sum_left k es) e in
    omega arith

pub sum_past : (es : List E.Entry) (n k : ℕ) → n ≤ k → sum_left (n - k) (drop k es) ≡ 0
unfolding O.sum_left
sum_past es n k h = let e : n - k ≡ 0 = omega arith in rw e

-- the bytes of the entries do not matter to these
pub any_bytes : (k : ℕ) (es : List E.Entry) (bs cs : List ℕ) (n : ℕ) → any_entry n (entries_of k es bs) ≡ any_entry n (entries_of k es cs)
unfolding R.entries_of S.any_entry
any_bytes zero es bs cs n = refl
any_bytes (suc k) [] bs cs n = refl
any_bytes (suc k) (p ∷ es) bs cs n = ap (λ b. eqb p.number.0 n || b) (any_bytes k es (drop p.left bs) (drop p.left cs) n)

pub named_bytes : (k : ℕ) (es : List E.Entry) (bs cs : List ℕ) (ps : List Place) → all_named ps (entries_of k es bs) ≡ all_named ps (entries_of k es cs)
unfolding R.entries_of O.all_named
named_bytes zero es bs cs ps = refl
named_bytes (suc k) [] bs cs ps = refl
named_bytes (suc k) (p ∷ es) bs cs ps = ap (λ b. found_confirmed (look p.number.0 ps) && b) (named_bytes k es (drop p.left bs) (drop p.left cs) ps)

pub marked-same : (es fs : List Entry) (ps : List Place) → ((n : ℕ) → any_entry n es ≡ any_entry n fs) → all_marked es ps ≡ all_marked fs ps
unfolding O.all_marked
marked-same es fs [] f = refl
marked-same es fs (vacant ∷ ps) f = marked-same es fs ps f
marked-same es fs (holds c ∷ ps) f = rw (f (number_of c), marked-same es fs ps f)

no_entry : Entry
no_entry = record { number = 0; kind = record { extended = false; code = 0 }; bytes = [] }

number_at : (c : ℕ) (es : List E.Entry) (bs : List ℕ) (k : ℕ) (z : E.Entry) → k < c → c ≤ length es → (get_or (entries_of c es bs) k no_entry).number ≡ (get_or es k z).number.0
unfolding R.entries_of
number_at zero es bs k z h l = absurd (omega arith)
number_at (suc c) [] bs k z h l = absurd (omega arith)
number_at (suc c) (p ∷ es) bs zero z h l = refl
number_at (suc c) (p ∷ es) bs (suc k) z h l = number_at c es (drop p.left bs) k z (omega arith) (omega arith)

pub any_next : (c : ℕ) (es : List E.Entry) (bs : List ℕ) (k n : ℕ) (z : E.Entry) → k < c → c ≤ length es
    → any_entry n (drop k (entries_of c es bs)) ≡ eqb (get_or es k z).number.0 n || any_entry n (drop (k + 1) (entries_of c es bs))
unfolding S.any_entry
any_next c es bs k n z h l =
    let m : k < length (entries_of c es bs) = omega (arith, length-entries c es bs l) in
    ap (any_entry n) (next (entries_of c es bs) k no_entry m) ∙ ap (λ x. eqb x n || any_entry n (drop (k + 1) (entries_of c es bs))) (number_at c es bs k z h l)

pub any_go : (c : ℕ) (es : List E.Entry) (bs : List ℕ) (k n : ℕ) (z : E.Entry) → k < c → c ≤ length es → eqb (get_or es k z).number.0 n ≡ false
    → any_entry n (drop k (entries_of c es bs)) ≡ any_entry n (drop (k + 1) (entries_of c es bs))
any_go c es bs k n z h l t = any_next c es bs k n z h l ∙ ap (λ b. b || any_entry n (drop (k + 1) (entries_of c es bs))) t

pub any_stop : (c : ℕ) (es : List E.Entry) (bs : List ℕ) (k n : ℕ) (z : E.Entry) → k < c → c ≤ length es → eqb (get_or es k z).number.0 n ≡ true
    → any_entry n (drop k (entries_of c es bs)) ≡ true
any_stop c es bs k n z h l t = any_next c es bs k n z h l ∙ ap (λ b. b || any_entry n (drop (k + 1) (entries_of c es bs))) t

pub any_past : (c : ℕ) (es : List E.Entry) (bs : List ℕ) (k n : ℕ) → c ≤ k → c ≤ length es → any_entry n (drop k (entries_of c es bs)) ≡ false
unfolding S.any_entry
any_past c es bs k n h l = rw (drop_of_length-le (entries_of c es bs) {i = k} (omega (arith, length-entries c es bs l)))

pub named_next : (c : ℕ) (es : List E.Entry) (bs : List ℕ) (k : ℕ) (ps : List Place) (z : E.Entry) → k < c → c ≤ length es
    → all_named ps (drop k (entries_of c es bs)) ≡ found_confirmed (look (get_or es k z).number.0 ps) && all_named ps (drop (k + 1) (entries_of c es bs))
unfolding O.all_named
named_next c es bs k ps z h l =
    let m : k < length (entries_of c es bs) = omega (arith, length-entries c es bs l) in
    ap (all_named ps) (next (entries_of c es bs) k no_entry m) ∙ ap (λ x. found_confirmed (look x ps) && all_named ps (drop (k + 1) (entries_of c es bs))) (number_at c es bs k z h l)

pub named_go : (c : ℕ) (es : List E.Entry) (bs : List ℕ) (k : ℕ) (ps : List Place) (z : E.Entry) → k < c → c ≤ length es → found_confirmed (look (get_or es k z).number.0 ps) ≡ true
    → all_named ps (drop k (entries_of c es bs)) ≡ all_named ps (drop (k + 1) (entries_of c es bs))
named_go c es bs k ps z h l t = named_next c es bs k ps z h l ∙ ap (λ b. b && all_named ps (drop (k + 1) (entries_of c es bs))) t

pub named_stop : (c : ℕ) (es : List E.Entry) (bs : List ℕ) (k : ℕ) (ps : List Place) (z : E.Entry) → k < c → c ≤ length es → found_confirmed (look (get_or es k z).number.0 ps) ≡ false
    → all_named ps (drop k (entries_of c es bs)) ≡ false
named_stop c es bs k ps z h l t = named_next c es bs k ps z h l ∙ ap (λ b. b && all_named ps (drop (k + 1) (entries_of c es bs))) t

pub named_past : (c : ℕ) (es : List E.Entry) (bs : List ℕ) (k : ℕ) (ps : List Place) → c ≤ k → c ≤ length es → all_named ps (drop k (entries_of c es bs)) ≡ true
unfolding O.all_named
named_past c es bs k ps h l = rw (drop_of_length-le (entries_of c es bs) {i = k} (omega (arith, length-entries c es bs l)))
