-- A sound state as the rules' reader sees it, by each channel's own entries. What `meaning` says by itself is not repeated: that the
-- entries' lengths sum to the queue's used count, that staged is whole frames, and that unused places and entries are zero.
-- Assumes nothing.
use Rattle.channel.specs.declared.Record.{Record}
use Prim.Native.Nat.{ℕ, ◌+◌, ◌≤◌}
use mathlib.Core.Path.{◌≡◌, refl, sym, ap, ◌∙◌}
use mathlib.Core.Bool.{Bool, true, false, ◌&&◌, ◌||◌, not, true≢false}
use mathlib.Core.List.{List, [], ◌∷◌}
use lib.ListN.{length}
use lib.Dec.{eqb}
use borrow.Author.Tests.{eqb-true, eqb-false}
use Rattle.laws.proofs.Tests.{by_test, and_both, and_of, implied, implies}
use Rattle.channel.specs.Wire.{frames}
use Rattle.channel.specs.State.{place_count, most_entries, most_bytes, number_of, Place, vacant, holds, Entry, World, Found, nowhere, found, look, replace, settle_in, any_vacant, is_used, queued}
use Rattle.channel.specs.Sound.{is_marked}
use Rattle.channel.proofs.Wire.{NoneEmpty}
use Rattle.channel.proofs.Lookup.{Apart, For, look_unused, look_replaced, look_other, look_freed, apart_replace, length-replace, look_settled, apart_settled, length_settled, look_settled_self}
use Rattle.channel.proofs.Entries.{own, some, Others}

-- what is asked of a record with the entries of its channel: they name a confirmed record, and a mark stands only with an entry
unfoldable pub fine : Record → List Entry → Bool
fine c es = (not (some es) || c.confirmed) && (not (is_marked c) || some es)

-- and of a number: in no record, it has no entry
unfoldable pub fine_at : Found → List Entry → Bool
fine_at nowhere es = not (some es)
fine_at (found c) es = fine c es

pub record SoundTable (ps : List Place) (es : List Entry) : Type 0 where
  pub count : length ps ≡ place_count
  pub apart : Apart ps
  pub each : (n : ℕ) → fine_at (look n ps) (own n es) ≡ true

-- at most 64 entries, and their bytes within a queue of that size
pub record Fits (size : ℕ) (es : List Entry) : Type 0 where
  pub few : length es ≤ most_entries
  pub bytes : length (queued es) ≤ size

-- the queue's length
abbrev pub queue_size : World → ℕ
queue_size w = length (queued w.table.entries) + length w.queue_rest

pub record Sound (w : World) : Type 0 where
  pub table : SoundTable w.table.places w.table.entries
  pub few : length w.table.entries ≤ most_entries
  pub queue : queue_size w ≤ most_bytes
  pub whole : NoneEmpty w.staged
  pub staged_size : length (frames w.staged) + length w.staged_rest ≤ most_bytes
  pub sent_size : length w.sent + length w.sent_rest ≤ most_bytes

-- what `fine` says
pub record Fine (c : Record) (es : List Entry) : Type 0 where
  pub named : some es ≡ true → c.confirmed ≡ true
  pub marked : is_marked c ≡ true → some es ≡ true

pub fine_of : (c : Record) (es : List Entry) → fine c es ≡ true → Fine c es
unfolding fine
fine_of c es e = let b = and_both _ _ e in record { named = implied _ _ b.0; marked = implied _ _ b.1 }

pub fine-is : (c : Record) (es : List Entry) → Fine c es → fine c es ≡ true
unfolding fine
fine-is c es f = and_of _ _ (implies _ _ f.named) (implies _ _ f.marked)

-- a number in no record has no entry
pub none-own : (ps : List Place) (es : List Entry) (n : ℕ) → SoundTable ps es → is_used n ps ≡ false → own n es ≡ []
unfolding fine_at some
none-own ps es n s u = empty-own (own n es) (sym (ap (λ x. fine_at x (own n es)) (look_unused n ps u)) ∙ s.each n)
  where
    empty-own : (fs : List Entry) → not (some fs) ≡ true → fs ≡ []
    empty-own [] e = refl
    empty-own (x ∷ fs) e = absurd (true≢false (sym e))

-- ONE NUMBER'S RECORD AND ENTRIES CHANGED

-- all but the number n is as it was, and n is fine
changed : (n : ℕ) (ps qs : List Place) (es fs : List Entry) → SoundTable ps es → length qs ≡ length ps → Apart qs → ((m : ℕ) → (m ≡ n → ⊥) → look m qs ≡ look m ps) → Others n es fs
    → fine_at (look n qs) (own n fs) ≡ true → SoundTable qs fs
unfolding Others
changed n ps qs es fs s l a p o f =
    record {
      count = l ∙ s.count;
      apart = a;
      each = λ m.
          by_test (eqb m n)
          (λ t. ap (λ k. fine_at (look k qs) (own k fs)) (eqb-true m n t) ∙ f)
          (λ t. let z : m ≡ n → ⊥ = eqb-false m n t in ap (λ x. fine_at x (own m fs)) (p m z) ∙ ap (λ x. fine_at (look m ps) x) (o m z) ∙ s.each m);
    }

-- another record in its place
pub alter : (n : ℕ) (ps : List Place) (es fs : List Entry) (c d : Record) → SoundTable ps es → look n ps ≡ found c → number_of d ≡ n → Others n es fs
    → fine d (own n fs) ≡ true → SoundTable (replace n (holds d) ps) fs
unfolding For fine_at
alter n ps es fs c d s e h o f =
    changed n ps _ es fs s (length-replace n (holds d) ps) (apart_replace n (holds d) ps h s.apart) (λ m z. look_other n m (holds d) ps h z) o
    (ap (λ x. fine_at x (own n fs)) (look_replaced n ps c d e h) ∙ f)

-- its place freed
pub remove : (n : ℕ) (ps : List Place) (es fs : List Entry) → SoundTable ps es → Others n es fs → some (own n fs) ≡ false → SoundTable (replace n vacant ps) fs
unfolding For fine_at
remove n ps es fs s o k =
    changed n ps _ es fs s (length-replace n vacant ps) (apart_replace n vacant ps tt s.apart) (λ m z. look_other n m vacant ps tt z) o
    (ap (λ x. fine_at x (own n fs)) (look_freed n ps s.apart) ∙ ap not k)

-- only its entries changed
pub queue_more : (n : ℕ) (ps : List Place) (es fs : List Entry) (c : Record) → SoundTable ps es → look n ps ≡ found c → Others n es fs → fine c (own n fs) ≡ true → SoundTable ps fs
unfolding fine_at
queue_more n ps es fs c s e o f = changed n ps ps es fs s refl s.apart (λ m z. refl) o (ap (λ x. fine_at x (own n fs)) e ∙ f)

-- opened at an unused number
pub opened : (ps : List Place) (es : List Entry) (c : Record) → SoundTable ps es → is_used (number_of c) ps ≡ false → any_vacant ps ≡ true → fine c [] ≡ true → SoundTable (settle_in c ps) es
unfolding Others fine_at
opened ps es c s u v q =
    changed (number_of c) ps _ es es s (length_settled c ps) (apart_settled c ps u s.apart) (λ m z. look_settled m c ps z) (λ m z. refl)
    (ap (λ x. fine_at x (own (number_of c) es)) (look_settled_self c ps u v) ∙ ap (fine c) (none-own ps es (number_of c) s u) ∙ q)
