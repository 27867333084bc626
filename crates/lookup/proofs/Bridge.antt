-- From the rules' lists to the code's arrays: places, entries and bytes after a change, as the code stores them.
-- Assumes nothing.
use Prim.Native.Nat.{ℕ, zero, suc, ◌+◌, ◌-◌, ◌*◌, ◌^◌, ◌≤◌, ◌<◌}
use mathlib.Core.Path.{◌≡◌, refl, sym, ap, ap₂, ◌∙◌}
use mathlib.Core.Bool.{Bool, true, false, cond, true≢false}
use mathlib.Core.List.{List, [], ◌∷◌, ◌++◌, append_assoc, append-nil}
use lib.ListN.{length, take, drop, replicate, get_or, set, length-append, take-append-drop}
use lib.Seq.{set_at, take-append_seam, drop-append-add}
use lib.Dec.{eqb}
use native.Mathlib.Omega.{arith}
use native.Mathlib.Nat.{pow-suc}
use borrow.Author.Tests.{eqb-true, eq-eqb}
use Rattle.laws.specs.Bits.{bit}
use Rattle.laws.proofs.Tests.{by_test, shut, or_second}
use Rattle.laws.proofs.Marks.{set_le}
use Rattle.channel.specs.declared.Kind.{Kind}
use Rattle.channel.specs.declared.Record.{Record}
use Rattle.channel.specs.declared.Entry as E
use Rattle.channel.specs.State.{place_count, most_entries, number_of, stored, Place, vacant, holds, Entry, replace, settle_in, any_vacant, is_used, queued, refit}
use Rattle.channel.specs.State as S
use Rattle.channel.specs.Raw.{Raw, places_of, meaning, written, word_of, records_of, pending_of, zero_record, zero_entry}
use Rattle.channel.specs.Raw as R
use Rattle.channel.specs.Sound.{is_sound}
use Rattle.channel.specs.Called.{Typed}
use Rattle.channel.proofs.Written.{length-pending}
use Rattle.channel.proofs.Lookup.{Apart, replace_hit, replace_miss}
use Rattle.channel.proofs.Lookup as L
use Rattle.channel.proofs.Faithful.{written-meaning, sound-meaning}
use Rattle.lookup.specs.Held.{HeldAt, FreeAt, record_at}
use Rattle.lookup.proofs.Walk.{place_is}

-- ONE PLACE of a list

nothing-held : {A : Type 0} (c : Record) → vacant ≡ holds c → A
nothing-held c e = absurd (let z : ◌≡◌ {A = ℕ} 0 1 = cc in omega arith)

-- a place that holds a record has its number in use
used-at : (ps : List Place) (i : ℕ) (c : Record) → get_or ps i vacant ≡ holds c → is_used (number_of c) ps ≡ true
unfolding S.is_used
used-at [] i c e = nothing-held c e
used-at (vacant ∷ ps) zero c e = nothing-held c e
used-at (vacant ∷ ps) (suc i) c e = used-at ps i c e
used-at (holds d ∷ ps) zero c e = let z : d ≡ c = cc in rw (eq-eqb (number_of d) (number_of c) (ap (λ x. number_of x) z))
used-at (holds d ∷ ps) (suc i) c e = or_second (eqb (number_of d) (number_of c)) (used-at ps i c e)

-- an earlier place holds another number
earlier : (d : Record) (ps : List Place) (i : ℕ) (c : Record) → is_used (number_of d) ps ≡ false → get_or ps i vacant ≡ holds c → eqb (number_of d) (number_of c) ≡ false
earlier d ps i c u e =
    by_test (eqb (number_of d) (number_of c))
    (λ t. shut _ (ap (λ n. is_used n ps) (sym (eqb-true (number_of d) (number_of c) t)) ∙ u) (used-at ps i c e))
    (λ t. t)

pub replace-at : (ps : List Place) (i : ℕ) (c : Record) (new : Place) → Apart ps → get_or ps i vacant ≡ holds c → replace (number_of c) new ps ≡ set ps i new
unfolding S.replace L.Apart
replace-at [] i c new a e = refl
replace-at (vacant ∷ ps) zero c new a e = nothing-held c e
replace-at (vacant ∷ ps) (suc i) c new a e = ap (λ l. vacant ∷ l) (replace-at ps i c new a e)
replace-at (holds d ∷ ps) zero c new a e = let z : d ≡ c = cc in replace_hit (number_of c) new d ps (eq-eqb (number_of d) (number_of c) (ap (λ x. number_of x) z))
replace-at (holds d ∷ ps) (suc i) c new a e = replace_miss (number_of c) new d ps (earlier d ps i c a.0 e) ∙ ap (λ l. holds d ∷ l) (replace-at ps i c new a.1 e)

-- what a place is written as: its record, and its part of the word
abbrev record_of : Place → Record
record_of vacant = zero_record
record_of (holds c) = c

abbrev weight : Place → ℕ → ℕ
weight vacant n = 0
weight (holds c) n = n

weight_double : (p : Place) (n : ℕ) → weight p (n * 2) ≡ weight p n * 2
weight_double vacant n = refl
weight_double (holds c) n = refl

records-cons : (p : Place) (ps : List Place) → records_of (p ∷ ps) ≡ record_of p ∷ records_of ps
unfolding R.records_of
records-cons vacant ps = refl
records-cons (holds c) ps = refl

word-cons : (p : Place) (ps : List Place) → word_of (p ∷ ps) ≡ word_of ps * 2 + weight p 1
unfolding R.word_of
word-cons vacant ps = omega arith
word-cons (holds c) ps = refl

records-set : (ps : List Place) (i : ℕ) (p : Place) → records_of (set ps i p) ≡ set (records_of ps) i (record_of p)
records-set [] i p = unfold R.records_of in refl
records-set (x ∷ ps) zero p = records-cons p ps ∙ ap (λ l. set l 0 (record_of p)) (sym (records-cons x ps))
records-set (x ∷ ps) (suc i) p =
    records-cons x (set ps i p) ∙ ap (λ l. record_of x ∷ l) (records-set ps i p) ∙ ap (λ l. set l (suc i) (record_of p)) (sym (records-cons x ps))

word_set : (ps : List Place) (i : ℕ) (p : Place) → i < length ps → word_of (set ps i p) + weight (get_or ps i vacant) (2 ^ i) ≡ word_of ps + weight p (2 ^ i)
word_set [] i p h = absurd (omega arith)
word_set (x ∷ ps) zero p h =
    let a = word-cons p ps in
    let b = word-cons x ps in
    omega arith
word_set (x ∷ ps) (suc i) p h =
    let a = word-cons x (set ps i p) in
    let b = word-cons x ps in
    let d : weight p (2 ^ suc i) ≡ weight p (2 ^ i) * 2 = ap (weight p) (pow-suc 2 i) ∙ weight_double p (2 ^ i) in
    let f : weight (get_or ps i vacant) (2 ^ suc i) ≡ weight (get_or ps i vacant) (2 ^ i) * 2 = ap (weight (get_or ps i vacant)) (pow-suc 2 i) ∙ weight_double (get_or ps i vacant) (2 ^ i) in
    let ih = word_set ps i p (omega arith) in
    omega arith

-- THE LOWEST FREE PLACE

abbrev is_held : Place → Bool
is_held vacant = false
is_held (holds c) = true

held-bit : (rs : List Record) (w i : ℕ) → i < length rs → is_held (get_or (places_of w rs) i vacant) ≡ bit w i
held-bit rs w i h = ap is_held (place_is rs w i zero_record h) ∙ by_bit (bit w i)
  where
    by_bit : (b : Bool) → is_held (cond b (holds (get_or rs i zero_record)) vacant) ≡ b
    by_bit true = refl
    by_bit false = refl

settled_at : (ps : List Place) (i : ℕ) (c : Record) → i < length ps → is_held (get_or ps i vacant) ≡ false → ((k : ℕ) → k < i → is_held (get_or ps k vacant) ≡ true)
    → settle_in c ps ≡ set ps i (holds c)
unfolding S.settle_in
settled_at [] i c h f b = absurd (omega arith)
settled_at (vacant ∷ ps) zero c h f b = refl
settled_at (vacant ∷ ps) (suc i) c h f b = absurd (true≢false (sym (b 0 (omega arith))))
settled_at (holds d ∷ ps) zero c h f b = absurd (true≢false f)
settled_at (holds d ∷ ps) (suc i) c h f b = ap (λ l. holds d ∷ l) (settled_at ps i c (omega arith) f (λ k l. b (suc k) (omega arith)))

vacant-at : (ps : List Place) (i : ℕ) → i < length ps → is_held (get_or ps i vacant) ≡ false → any_vacant ps ≡ true
unfolding S.any_vacant
vacant-at [] i h f = absurd (omega arith)
vacant-at (vacant ∷ ps) i h f = refl
vacant-at (holds d ∷ ps) zero h f = absurd (true≢false f)
vacant-at (holds d ∷ ps) (suc i) h f = vacant-at ps i (omega arith) f

none-vacant : (ps : List Place) → ((k : ℕ) → k < length ps → is_held (get_or ps k vacant) ≡ true) → any_vacant ps ≡ false
unfolding S.any_vacant
none-vacant [] f = refl
none-vacant (vacant ∷ ps) f = absurd (true≢false (sym (f 0 (omega arith))))
none-vacant (holds d ∷ ps) f = none-vacant ps (λ k h. f (suc k) (omega arith))

-- PLACES as the code holds them: the word and the records

pub record Places (ps : List Place) (used : ℕ) (rs : List Record) : Type 0 where
  pub word : word_of ps ≡ used
  pub records : records_of ps ≡ rs

module _ (r : Raw) (ty : Typed r) (sd : is_sound r ≡ true) where
  pub same-places : Places (meaning r).table.places r.held.used r.held.records
  unfolding R.written
  same-places = let e = written-meaning r ty sd in record { word = ap (λ x. x.held.used) e; records = ap (λ x. x.held.records) e }

  -- one place set: the word without the old one's part and with the new one's
  set-places : (i u : ℕ) (p : Place) → i < place_count → u + weight (get_or (meaning r).table.places i vacant) (2 ^ i) ≡ r.held.used + weight p (2 ^ i)
      → Places (set (meaning r).table.places i p) u (set r.held.records i (record_of p))
  set-places i u p h e =
      let ps = (meaning r).table.places in
      let l : i < length ps = omega (arith, (sound-meaning r ty sd).table.count) in
      let w = word_set ps i p l in
      let s : word_of ps ≡ r.held.used = same-places.word in
      record { word = omega arith; records = records-set ps i p ∙ ap (λ l. set l i (record_of p)) same-places.records }

  place-bit : (k : ℕ) → k < place_count → is_held (get_or (meaning r).table.places k vacant) ≡ bit r.held.used k
  unfolding R.meaning
  place-bit k h = held-bit r.held.records r.held.used k (omega (arith, ty.places))

  -- a place is free, or none is
  pub free-vacant : (i : ℕ) → FreeAt r.held i → any_vacant (meaning r).table.places ≡ true
  free-vacant i f = vacant-at (meaning r).table.places i (omega (arith, f.place, (sound-meaning r ty sd).table.count)) (place-bit i f.place ∙ f.free)

  pub none_free : ((k : ℕ) → k < place_count → bit r.held.used k ≡ true) → any_vacant (meaning r).table.places ≡ false
  none_free f =
      none-vacant (meaning r).table.places
      (λ k h. let l : k < place_count = omega (arith, (sound-meaning r ty sd).table.count) in place-bit k l ∙ f k l)

  -- a record settled in the lowest free place
  pub settled_places : (i : ℕ) (d : Record) → FreeAt r.held i → Places (settle_in d (meaning r).table.places) (r.held.used + 2 ^ i) (set r.held.records i d)
  settled_places i d f =
      let ps = (meaning r).table.places in
      let z : is_held (get_or ps i vacant) ≡ false = place-bit i f.place ∙ f.free in
      let s = settled_at ps i d (omega (arith, f.place, (sound-meaning r ty sd).table.count)) z (λ k h. place-bit k (omega (arith, f.place)) ∙ f.below k h) in
      rw s (set-places i (r.held.used + 2 ^ i) (holds d) f.place (empty (get_or ps i vacant) z))
    where
      empty : (p : Place) → is_held p ≡ false → r.held.used + 2 ^ i + weight p (2 ^ i) ≡ r.held.used + 2 ^ i
      empty vacant e = omega arith
      empty (holds c) e = absurd (true≢false e)

  -- the record with a number changed, and its place freed
  module _ (n i : ℕ) (h : HeldAt r.held n i) where
    held_place : get_or (meaning r).table.places i vacant ≡ holds (record_at r.held i)
    unfolding R.meaning
    held_place = h.at

    replaced : (u : ℕ) (p : Place) → u + 2 ^ i ≡ r.held.used + weight p (2 ^ i) → Places (replace (number_of (record_at r.held i)) p (meaning r).table.places) u (set r.held.records i (record_of p))
    replaced u p e =
        rw (replace-at (meaning r).table.places i (record_at r.held i) p (sound-meaning r ty sd).table.apart held_place)
        (set-places i u p h.place (ap (λ x. u + weight x (2 ^ i)) held_place ∙ e))

    pub changed_places : (d : Record) → Places (replace (number_of (record_at r.held i)) (holds d) (meaning r).table.places) r.held.used (set r.held.records i d)
    changed_places d = replaced r.held.used (holds d) refl

    pub freed_places : Places (replace (number_of (record_at r.held i)) vacant (meaning r).table.places) (r.held.used - 2 ^ i) (set r.held.records i zero_record)
    freed_places = let l = set_le r.held.used i h.used in replaced (r.held.used - 2 ^ i) vacant (omega arith)

-- BYTES put behind a buffer's used part

abbrev pub behind : ℕ → List ℕ → List ℕ → List ℕ
behind n bs l = take n l ++ bs ++ drop (n + length bs) l

-- bs put behind n used bytes of l: the used count and the buffer after
pub record Put (n : ℕ) (l bs : List ℕ) (m : ℕ) (after : List ℕ) : Type 0 where
  pub count : n + length bs ≡ m
  pub bytes : behind n bs l ≡ after

pub put_some : (n : ℕ) (l bs : List ℕ) → Put n l bs (n + length bs) (behind n bs l)
put_some n l bs = record { count = refl; bytes = refl }

pub put-none : (n : ℕ) (l : List ℕ) → Put n l [] n l
put-none n l =
    let e : n + 0 ≡ n = omega arith in
    record { count = e; bytes = rw (append-nil, e) (take-append-drop n l) }

pub put_as : {n m : ℕ} {l bs cs after : List ℕ} → bs ≡ cs → Put n l cs m after → Put n l bs m after
put_as e p = rw e p

-- the same of a used part and its rest
pub behind_seam : (used bs rest : List ℕ) → used ++ bs ++ drop (length bs) rest ≡ behind (length used) bs (used ++ rest)
behind_seam used bs rest = ap₂ (λ x y. x ++ bs ++ y) (sym (take-append_seam used rest)) (sym (drop-append-add used rest (length bs)))

-- the rest of the queue: the same, grown over, or freed
pub refit-same : (n : ℕ) (rest : List ℕ) → refit n n rest ≡ rest
unfolding S.refit
refit-same n rest = let e : n - n ≡ 0 = omega arith in rw e

pub refit_more : (old more : ℕ) (rest : List ℕ) → refit old (old + more) rest ≡ drop more rest
unfolding S.refit
refit_more old more rest =
    let a : old + more - old ≡ more = omega arith in
    let b : old - (old + more) ≡ 0 = omega arith in
    rw (a, b)

pub refit_less : (old new : ℕ) (rest : List ℕ) → new ≤ old → refit old new rest ≡ replicate (old - new) 0 ++ rest
unfolding S.refit
refit_less old new rest h = let e : new - old ≡ 0 = omega arith in rw e

-- ENTRIES as the code holds them: the rows, their count, and the queue with its used count

abbrev pub entry : ℕ → Kind → List ℕ → Entry
entry n kind bs = record { number = n; kind = stored kind; bytes = bs }

abbrev pub row : ℕ → Kind → ℕ → E.Entry
row n kind left = record { number = record { 0 = n }; kind = stored kind; left = left }

abbrev row_of : Entry → E.Entry
row_of e = record { number = record { 0 = e.number }; kind = e.kind; left = length e.bytes }

pub record Rows (r : Raw) (es : List Entry) (rows : List E.Entry) (n m : ℕ) (q : List ℕ) : Type 0 where
  pub entries : pending_of es ++ replicate (most_entries - length es) zero_entry ≡ rows
  pub count : length es ≡ n
  pub used : length (queued es) ≡ m
  pub queue : queued es ++ refit r.held.queue_used (length (queued es)) (drop r.held.queue_used r.queue) ≡ q

queued-append : (es fs : List Entry) → queued (es ++ fs) ≡ queued es ++ queued fs
unfolding S.queued
queued-append [] fs = refl
queued-append (e ∷ es) fs = ap (λ l. e.bytes ++ l) (queued-append es fs) ∙ sym (append_assoc e.bytes (queued es) (queued fs))

queued_one : (es : List Entry) (e : Entry) → queued (es ++ e ∷ []) ≡ queued es ++ e.bytes
unfolding S.queued
queued_one es e = queued-append es (e ∷ []) ∙ ap (λ l. queued es ++ l) (append-nil e.bytes)

pending_one : (es : List Entry) (e : Entry) → pending_of (es ++ e ∷ []) ≡ pending_of es ++ row_of e ∷ []
unfolding R.pending_of
pending_one [] e = refl
pending_one (x ∷ es) e = ap (λ l. row_of x ∷ l) (pending_one es e)

-- one row is stored behind those in use
row-stored : (xs : List E.Entry) (p z : E.Entry) (n k : ℕ) → length xs ≡ k → k < n → set (xs ++ replicate (n - k) z) k p ≡ xs ++ p ∷ replicate (n - suc k) z
row-stored xs p z n k q h =
    let e : n - k ≡ suc (n - suc k) = omega arith in
    rw e (set_at xs z (replicate (n - suc k) z) p k q)

rows_stored : (es : List Entry) (e : Entry) → length es < most_entries
    → pending_of (es ++ e ∷ []) ++ replicate (most_entries - length (es ++ e ∷ [])) zero_entry
    ≡ set (pending_of es ++ replicate (most_entries - length es) zero_entry) (length es) (row_of e)
rows_stored es e h =
    let c : most_entries - length (es ++ e ∷ []) ≡ most_entries - suc (length es) = omega (arith, length-append es (e ∷ [])) in
    ap₂ (λ x k. x ++ replicate k zero_entry) (pending_one es e) c
    ∙ append_assoc (pending_of es) _ _
    ∙ sym (row-stored (pending_of es) _ zero_entry most_entries (length es) (length-pending es) h)

-- entries of no more bytes than there were: the queue closed up, and the freed tail zeroed
pub closed_rows : (r : Raw) (es : List Entry) → length (queued es) ≤ r.held.queue_used
    → Rows r es (pending_of es ++ replicate (most_entries - length es) zero_entry) (length es) (length (queued es))
    (queued es ++ (replicate (r.held.queue_used - length (queued es)) 0 ++ drop r.held.queue_used r.queue))
closed_rows r es h =
    record {
      entries = refl;
      count = refl;
      used = refl;
      queue = ap (λ l. queued es ++ l) (refit_less r.held.queue_used (length (queued es)) (drop r.held.queue_used r.queue) h);
    }

module _ (r : Raw) (ty : Typed r) (sd : is_sound r ≡ true) where
  back : (queued (meaning r).table.entries ++ drop r.held.queue_used r.queue ≡ r.queue) × (length (queued (meaning r).table.entries) ≡ r.held.queue_used)
  unfolding R.written R.meaning
  back = let e = written-meaning r ty sd in (ap (λ x. x.queue) e, ap (λ x. x.held.queue_used) e)

  pub same_rows : Rows r (meaning r).table.entries r.held.entries r.held.entry_count r.held.queue_used r.queue
  unfolding R.written
  same_rows =
      let e = written-meaning r ty sd in
      record {
        entries = ap (λ x. x.held.entries) e;
        count = ap (λ x. x.held.entry_count) e;
        used = back.1;
        queue =
            ap (λ m. queued (meaning r).table.entries ++ refit r.held.queue_used m (drop r.held.queue_used r.queue)) back.1
            ∙ ap (λ l. queued (meaning r).table.entries ++ l) (refit-same r.held.queue_used (drop r.held.queue_used r.queue))
            ∙ back.0;
      }

  -- one entry pushed behind the entries: the sizes, and all of it where there is a free one
  pub pushed-count : (e : Entry) → length ((meaning r).table.entries ++ e ∷ []) ≡ r.held.entry_count + 1
  pushed-count e = length-append (meaning r).table.entries (e ∷ []) ∙ ap (λ k. k + 1) same_rows.count

  pub pushed-used : (e : Entry) → length (queued ((meaning r).table.entries ++ e ∷ [])) ≡ r.held.queue_used + length e.bytes
  pushed-used e = ap length (queued_one (meaning r).table.entries e) ∙ length-append (queued (meaning r).table.entries) e.bytes ∙ ap (λ k. k + length e.bytes) back.1

  pub pushed_rows : (n : ℕ) (kind : Kind) (bs : List ℕ) → r.held.entry_count < most_entries
      → Rows r ((meaning r).table.entries ++ entry n kind bs ∷ []) (set r.held.entries r.held.entry_count (row n kind (length bs))) (r.held.entry_count + 1)
      (r.held.queue_used + length bs) (behind r.held.queue_used bs r.queue)
  pushed_rows n kind bs h =
      let es = (meaning r).table.entries in
      let e = entry n kind bs in
      let rest = drop r.held.queue_used r.queue in
      let c : length es ≡ r.held.entry_count = same_rows.count in
      record {
        entries = rows_stored es e (omega arith) ∙ ap₂ (λ x k. set x k (row n kind (length bs))) same_rows.entries c;
        count = pushed-count e;
        used = pushed-used e;
        queue =
            ap₂ (λ x k. x ++ refit r.held.queue_used k rest) (queued_one es e) (pushed-used e)
            ∙ ap (λ l. queued es ++ bs ++ l) (refit_more r.held.queue_used (length bs) rest)
            ∙ behind_seam (queued es) bs rest
            ∙ ap₂ (λ k l. behind k bs l) back.1 back.0;
      }
