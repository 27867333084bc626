-- A channel's own entries, and what a call leaves of them: one relation (`Less`) for all that leaves the queue.
-- Assumes nothing.
use Rattle.channel.specs.declared.Record.{Record}
use Rattle.channel.specs.declared.Kind.{Kind}
use Rattle.channel.specs.declared.Kind.TheVariants.{Extended, Plain}
use Rattle.channel.specs.declared.StoredKind.{StoredKind}
use Prim.Native.Nat.{ℕ, ◌+◌, ◌-◌, ◌≤◌}
use mathlib.Core.Path.{◌≡◌, refl, sym, ap, ◌∙◌}
use mathlib.Core.Bool.{Bool, true, false, true≢false}
use mathlib.Core.List.{List, [], ◌∷◌, ◌++◌, append-nil}
use lib.ListN.{length, take, drop, length-append, length-drop}
use lib.Dec.{leb, eqb}
use native.Mathlib.Omega.{arith}
use borrow.Author.Tests.{eqb-true, eq-eqb, ne_eqb}
use Rattle.laws.proofs.Tests.{by_test}
use Rattle.channel.specs.Wire.{packets}
use Rattle.channel.specs.State.{number_of, peer_of, stored, kind_of, Entry, any_entry, without, queued}
use Rattle.channel.specs.Decide.{remainder, Flushed, keeping, sending, flushed}
use Rattle.channel.proofs.Wire.{NoneEmpty, full-append, packets-full}

-- a channel's own entries, in order
unfoldable pub own : ℕ → List Entry → List Entry
own n [] = []
own n (e ∷ es) = elim (eqb e.number n) [ true ↦ e ∷ own n es | false ↦ own n es ]

unfoldable pub some : List Entry → Bool
some [] = false
some (e ∷ es) = true

pub own_hit : (n : ℕ) (e : Entry) (es : List Entry) → eqb e.number n ≡ true → own n (e ∷ es) ≡ e ∷ own n es
unfolding own
own_hit n e es t = rw (t, own)

pub own_miss : (n : ℕ) (e : Entry) (es : List Entry) → eqb e.number n ≡ false → own n (e ∷ es) ≡ own n es
unfolding own
own_miss n e es t = rw (t, own)

pub any_own : (n : ℕ) (es : List Entry) → any_entry n es ≡ some (own n es)
unfolding any_entry some own
any_own n [] = refl
any_own n (e ∷ es) =
    by_test (eqb e.number n)
    (λ t. rw t (ap some (sym (own_hit n e es t))))
    (λ t. rw t (any_own n es ∙ ap some (sym (own_miss n e es t))))

own-append : (m : ℕ) (es fs : List Entry) → own m (es ++ fs) ≡ own m es ++ own m fs
unfolding own
own-append m [] fs = refl
own-append m (e ∷ es) fs =
    by_test (eqb e.number m)
    (λ t. own_hit m e (es ++ fs) t ∙ ap (λ l. e ∷ l) (own-append m es fs) ∙ ap (λ l. l ++ own m fs) (sym (own_hit m e es t)))
    (λ t. own_miss m e (es ++ fs) t ∙ own-append m es fs ∙ ap (λ l. l ++ own m fs) (sym (own_miss m e es t)))

hit_some : (n : ℕ) (e : Entry) (es : List Entry) → eqb e.number n ≡ true → some (own n (e ∷ es)) ≡ true
unfolding some
hit_some n e es t = ap some (own_hit n e es t)

-- two numbers that differ are not both an entry's
other_number : (n m x : ℕ) → (m ≡ n → ⊥) → eqb x n ≡ true → eqb x m ≡ false
other_number n m x h t = ne_eqb x m (λ e. h (sym e ∙ eqb-true x n t))

-- the same entry in front
own-cons : (m : ℕ) (e : Entry) (es fs : List Entry) → own m fs ≡ own m es → own m (e ∷ fs) ≡ own m (e ∷ es)
own-cons m e es fs h =
    by_test (eqb e.number m)
    (λ t. own_hit m e fs t ∙ ap (λ l. e ∷ l) h ∙ sym (own_hit m e es t))
    (λ t. own_miss m e fs t ∙ h ∙ sym (own_miss m e es t))

-- entries of other channels than n are the same
unfoldable pub Others : ℕ → List Entry → List Entry → Type 0
Others n es fs = (m : ℕ) → (m ≡ n → ⊥) → own m fs ≡ own m es

-- ONE ENTRY MORE

-- its data goes out under the kind that it came in with
pub kind_back : (kind : Kind) → kind_of (stored kind) ≡ kind
unfolding stored kind_of
kind_back Plain = refl
kind_back (Extended code) = refl

pub others_one : (n : ℕ) (es : List Entry) (kind : StoredKind) (bs : List ℕ) → Others n es (es ++ record { number = n; kind = kind; bytes = bs } ∷ [])
unfolding Others own
others_one n es kind bs m h = own-append m es _ ∙ ap (λ l. own m es ++ l) (own_miss m _ [] (ne_eqb n m (λ e. h (sym e)))) ∙ append-nil (own m es)

pub one_there : (n : ℕ) (es : List Entry) (kind : StoredKind) (bs : List ℕ) → some (own n (es ++ record { number = n; kind = kind; bytes = bs } ∷ [])) ≡ true
unfolding own
one_there n es kind bs = ap some (own-append n es _ ∙ ap (λ l. own n es ++ l) (own_hit n _ [] (eq-eqb n n refl))) ∙ more (own n es) _
  where
    more : (es : List Entry) (e : Entry) → some (es ++ e ∷ []) ≡ true
    more [] e = unfold some in refl
    more (x ∷ es) e = unfold some in refl

pub others_remainder : (n : ℕ) (es : List Entry) (kind : Kind) (bs : List ℕ) → Others n es (es ++ remainder n kind bs)
unfolding remainder Others
others_remainder n es kind [] m h = rw append-nil
others_remainder n es kind (b ∷ bs) m h = unfold Others in others_one n es (stored kind) (b ∷ bs) m h

-- WHAT LEAVES THE QUEUE: of channel n's entries some go, some are cut in front; the others stay

pub data Less (n : ℕ) : List Entry → List Entry → Type 0 where
  end : Less n [] []
  stays : (e : Entry) {es fs : List Entry} → Less n es fs → Less n (e ∷ es) (e ∷ fs)
  goes : (e : Entry) {es fs : List Entry} → eqb e.number n ≡ true → Less n es fs → Less n (e ∷ es) fs
  cut : (e : Entry) (k : ℕ) {es fs : List Entry} → eqb e.number n ≡ true → Less n es fs → Less n (e ∷ es) (record { number = e.number; kind = e.kind; bytes = drop k e.bytes } ∷ fs)

pub less_refl : (n : ℕ) (es : List Entry) → Less n es es
less_refl n [] = end
less_refl n (e ∷ es) = stays e (less_refl n es)

-- what it gives
pub record Shrunk (n : ℕ) (es fs : List Entry) : Type 0 where
  pub others : Others n es fs
  pub was : some (own n fs) ≡ true → some (own n es) ≡ true
  pub count : length fs ≤ length es
  pub bytes : length (queued fs) ≤ length (queued es)

queued-cons : (e : Entry) (es : List Entry) → length (queued (e ∷ es)) ≡ length e.bytes + length (queued es)
unfolding queued
queued-cons e es = length-append e.bytes (queued es)

pub shrunk : (n : ℕ) {es fs : List Entry} → Less n es fs → Shrunk n es fs
unfolding Others
shrunk n end = record { others = λ m h. refl; was = λ a. a; count = omega arith; bytes = omega arith }
shrunk n (stays e {es} {fs} l) =
    let r = shrunk n l in
    let a = queued-cons e es in
    let b = queued-cons e fs in
    record {
      others = λ m h. own-cons m e es fs (r.others m h);
      was = λ x. by_test (eqb e.number n) (λ t. hit_some n e es t) (λ t. ap some (own_miss n e es t) ∙ r.was (ap some (sym (own_miss n e fs t)) ∙ x));
      count = omega arith;
      bytes = omega arith;
    }
shrunk n (goes e {es} {fs} t l) =
    let r = shrunk n l in
    let a = queued-cons e es in
    record { others = λ m h. r.others m h ∙ sym (own_miss m e es (other_number n m e.number h t)); was = λ x. hit_some n e es t; count = omega arith; bytes = omega arith }
shrunk n (cut e k {es} {fs} t l) =
    let r = shrunk n l in
    let g : Entry = record { number = e.number; kind = e.kind; bytes = drop k e.bytes } in
    let a = queued-cons e es in
    let b = queued-cons g fs in
    let z = length-drop k e.bytes in
    record {
      others = λ m h. own_miss m g fs (other_number n m e.number h t) ∙ r.others m h ∙ sym (own_miss m e es (other_number n m e.number h t));
      was = λ x. hit_some n e es t;
      count = omega arith;
      bytes = omega arith;
    }

-- A CHANNEL'S ENTRIES DROPPED

pub without_hit : (n : ℕ) (e : Entry) (es : List Entry) → eqb e.number n ≡ true → without n (e ∷ es) ≡ without n es
unfolding without
without_hit n e es t = rw (t, without)

pub without_miss : (n : ℕ) (e : Entry) (es : List Entry) → eqb e.number n ≡ false → without n (e ∷ es) ≡ e ∷ without n es
unfolding without
without_miss n e es t = rw (t, without)

pub less_without : (n : ℕ) (es : List Entry) → Less n es (without n es)
less_without n [] = unfold without in end
less_without n (e ∷ es) =
    by_test (eqb e.number n)
    (λ t. rw (without_hit n e es t) (goes e t (less_without n es)))
    (λ t. rw (without_miss n e es t) (stays e (less_without n es)))

pub none-without : (n : ℕ) (es : List Entry) → some (own n (without n es)) ≡ false
unfolding own without some
none-without n [] = refl
none-without n (e ∷ es) =
    by_test (eqb e.number n)
    (λ t. rw (without_hit n e es t) (none-without n es))
    (λ t. rw (without_miss n e es t) (ap some (own_miss n e (without n es) t) ∙ none-without n es))

-- PENDING FLUSH: the three things that can happen at an entry

pub flushed_skip : (c : Record) (w : ℕ) (e : Entry) (es : List Entry) → eqb e.number (number_of c) ≡ false → flushed c w (e ∷ es) ≡ keeping e (flushed c w es)
unfolding flushed
flushed_skip c w e es t = rw (t, flushed)

pub flushed-whole : (c : Record) (w : ℕ) (e : Entry) (es : List Entry) → eqb e.number (number_of c) ≡ true → leb (length e.bytes) w ≡ true
    → flushed c w (e ∷ es) ≡ sending (packets (kind_of e.kind) (peer_of c) c.recipient_maximum_packet_size e.bytes) (length e.bytes) (flushed c (w - length e.bytes) es)
unfolding flushed
flushed-whole c w e es t u = rw (flushed, t) (rw u)

pub flushed-part : (c : Record) (w : ℕ) (e : Entry) (es : List Entry) → eqb e.number (number_of c) ≡ true → leb (length e.bytes) w ≡ false
    → flushed c w (e ∷ es)
    ≡ record {
      out = packets (kind_of e.kind) (peer_of c) c.recipient_maximum_packet_size (take w e.bytes);
      wrote = w;
      window = 0;
      kept = record { number = e.number; kind = e.kind; bytes = drop w e.bytes } ∷ es;
      all = false;
    }
unfolding flushed
flushed-part c w e es t u = rw (flushed, t) (rw u)

pub less_flushed : (c : Record) (w : ℕ) (es : List Entry) → Less (number_of c) es (flushed c w es).kept
less_flushed c w [] = unfold flushed in end
less_flushed c w (e ∷ es) = pick (λ v. less_flushed c v es)
  where
    pick : ((v : ℕ) → Less (number_of c) es (flushed c v es).kept) → Less (number_of c) (e ∷ es) (flushed c w (e ∷ es)).kept
    pick l =
        by_test (eqb e.number (number_of c))
        (λ t. by_test (leb (length e.bytes) w)
        (λ u. rw (flushed-whole c w e es t u) (unfold sending in goes e t (l (w - length e.bytes))))
        (λ u. rw (flushed-part c w e es t u) (cut e w t (less_refl (number_of c) es))))
        (λ t. rw (flushed_skip c w e es t) (unfold keeping in stays e (l w)))

-- whether any is left, and what is put out
pub record Left (n : ℕ) (r : Flushed) : Type 0 where
  pub none : r.all ≡ true → some (own n r.kept) ≡ false
  pub one : r.all ≡ false → some (own n r.kept) ≡ true
  pub full : NoneEmpty r.out

left-keeping : (n : ℕ) (e : Entry) (r : Flushed) → eqb e.number n ≡ false → Left n r → Left n (keeping e r)
unfolding keeping
left-keeping n e r t l = let k = own_miss n e r.kept t in record { none = λ a. rw k (l.none a); one = λ a. rw k (l.one a); full = l.full }

left-sending : (n k : ℕ) (r : Flushed) (ms : List (List ℕ)) → NoneEmpty ms → Left n r → Left n (sending ms k r)
unfolding sending
left-sending n k r ms f l = record { none = l.none; one = l.one; full = full-append ms r.out f l.full }

pub left : (c : Record) (es : List Entry) (w : ℕ) → Left (number_of c) (flushed c w es)
unfolding flushed NoneEmpty
left c [] w = unfold own some in record { none = λ a. refl; one = λ a. absurd (true≢false a); full = tt }
left c (e ∷ es) w =
    by_test (eqb e.number (number_of c))
    (λ t. by_test (leb (length e.bytes) w)
    (λ u. rw (flushed-whole c w e es t u) (left-sending (number_of c) _ _ _ (packets-full _ _ _ _) (left c es (w - length e.bytes))))
    (λ u. rw (flushed-part c w e es t u) (record { none = λ a. absurd (true≢false (sym a)); one = λ a. hit_some (number_of c) _ es t; full = packets-full _ _ _ _ })))
    (λ t. rw (flushed_skip c w e es t) (left-keeping (number_of c) e _ t (left c es w)))
