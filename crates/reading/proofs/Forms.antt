-- The forms of a payload, from what the code read of it.
-- Assumes nothing.
use Prim.Native.Nat.{ℕ, ◌+◌, ◌≤◌, ◌<◌}
use mathlib.Core.Path.{◌≡◌, refl, sym, ap, ◌∙◌}
use mathlib.Core.Bool.{Bool, true, false, ◌&&◌, and-false}
use mathlib.Core.List.{List}
use lib.ListN.{length, get_or}
use lib.Dec.{leb, eqb}
use native.Mathlib.Omega.{arith}
use borrow.Author.Tests.{leb-true, le-leb, lt-leb, ne_eqb}
use Rattle.laws.proofs.Tests.{by_test, and_both, and_of}
use Rattle.std.specs.Prelude.{Option, Some, None, MatchOption, IsSomeAnd, slice_get, unwrap_or}
use Rattle.std.proofs.lemmas.Option.{unwrap_or-slice_get}
use Rattle.std.specs.Bool.{then_some}
use Rattle.octets.specs.Buf.{de32}
use Rattle.frames.proofs.Packets.{read32-at}
use Rattle.channel.specs.declared.ChannelId.{ChannelId}
use Rattle.channel.specs.declared.Message as C
use Rattle.channel.specs.Answers.{message_of}
use Rattle.channel.specs.declared.Kind.TheVariants.{Plain, Extended}
use Rattle.channel.specs.Call.{Message, failure, ended, closed}
use Rattle.channel.specs.Read.{malformed, reads, int, string_ends, or_else, read_message}
use Rattle.channel.specs.Read as R
use Rattle.reading.specs.Reads.{read_of, confirmation_at, failure_at, credit_at, received_at, IsLastString, IsAlone}

-- AN INTEGER that was read
pub int_is : (p : List ℕ) (at n : ℕ) → n ≡ de32 p at → n ≡ int p at
unfolding R.int
int_is p at n e = e ∙ sym (read32-at p at)

-- A FORM that is there, or not
pub there : (b : Bool) {m k : Message} → b ≡ true → m ≡ k → reads m ≡ or_else b k malformed
unfolding R.or_else
there b {m} {k} e f = ap reads f ∙ sym (ap (λ x. or_else x k malformed) e)

pub not_there : (b : Bool) (k : Message) → b ≡ false → malformed ≡ or_else b k malformed
unfolding R.or_else
not_there b k e = sym (ap (λ x. or_else x k malformed) e)

-- A STRING at the end
pub string_is : (p : List ℕ) (at n : ℕ) → at + 4 ≤ length p → n ≡ de32 p at → IsLastString p at (then_some (eqb (at + 4 + n) (length p)) record { start = at + 4; length = n })
unfolding R.string_ends
string_is p at n h e =
    let s : eqb (at + 4 + n) (length p) ≡ string_ends p at = rw (le-leb (at + 4) (length p) h) (ap (λ x. eqb (at + 4 + x) (length p)) (int_is p at n e)) in
    by_test (eqb (at + 4 + n) (length p))
    (λ t. rw t (sym s ∙ t, refl, int_is p at n e))
    (λ t. rw t (sym s ∙ t))

pub ends_not : (p : List ℕ) (at : ℕ) → length p < at + 4 → string_ends p at ≡ false
unfolding R.string_ends
ends_not p at h = rw (lt-leb (at + 4) (length p) h)

pub ends_room : (p : List ℕ) (at : ℕ) → string_ends p at ≡ true → at + 4 ≤ length p
unfolding R.string_ends
ends_room p at e = leb-true (at + 4) (length p) (and_both _ _ e).0

-- A RECIPIENT ALONE, made a message
pub ended_as : (p : List ℕ) (made : ChannelId → C.Message) (said : ℕ → Message) → ((n : ChannelId) → message_of (made n) ≡ said n.0) → (o : Option ChannelId) (r : Option C.Message)
    → IsAlone p o → MatchOption o (r ≡ None) (λ n. IsSomeAnd r (λ m. m ≡ made n)) → read_of r ≡ or_else (eqb (length p) 5) (said (int p 1)) malformed
unfolding read_of
ended_as p made said f None r a b = ap read_of b ∙ not_there _ _ a
ended_as p made said f (Some n) None a b = absurd b
ended_as p made said f (Some n) (Some m) a b = there _ a.0 (ap message_of b ∙ f n ∙ ap said a.1)

-- A FAILURE: the second string begins where the first one, of n bytes, ends
module _ (p : List ℕ) (n : ℕ) (e : n ≡ int p 9) where
  pub failure_there : {a b d k : ℕ} → 13 ≤ length p → a ≡ int p 1 → b ≡ int p 5 → string_ends p (13 + n) ≡ true → k ≡ 13 + n + 4 → d ≡ int p (13 + n) → reads (failure a b 13 n k d) ≡ failure_at p
  failure_there h f g s u k = rw (← e) (there _ (and_of _ _ (le-leb 13 (length p) h) s) (λ i. failure (f i) (g i) 13 n (u i) (k i)))

  pub failure-cut : string_ends p (13 + n) ≡ false → malformed ≡ failure_at p
  failure-cut s = rw (← e) (not_there _ _ (ap (λ x. leb 13 (length p) && x) s ∙ and-false (leb 13 (length p))))

pub failure_short : (p : List ℕ) → length p < 13 → malformed ≡ failure_at p
failure_short p h = not_there _ _ (ap (λ x. x && string_ends p (13 + int p 9)) (lt-leb 13 (length p) h))

-- THE TYPE BYTE picks the form

-- the first byte, or 0 of none
pub first_is : {o : Option ℕ} (p : List ℕ) → o ≡ slice_get p 0 → get_or p 0 0 ≡ unwrap_or o 0
first_is p e = sym (unwrap_or-slice_get p 0 0) ∙ ap (λ o. unwrap_or o 0) (sym e)

module _ (p : List ℕ) where
  pub is_91 : get_or p 0 0 ≡ 91 → read_message p ≡ confirmation_at p
  unfolding R.read_message R.or_else
  is_91 e = rw e

  pub is_92 : get_or p 0 0 ≡ 92 → read_message p ≡ failure_at p
  unfolding R.read_message R.or_else
  is_92 e = rw e

  pub is_93 : get_or p 0 0 ≡ 93 → read_message p ≡ credit_at p
  unfolding R.read_message R.or_else
  is_93 e = rw e

  pub is_94 : get_or p 0 0 ≡ 94 → read_message p ≡ received_at p Plain 5
  unfolding R.read_message R.or_else
  is_94 e = rw e

  pub is_95 : get_or p 0 0 ≡ 95 → read_message p ≡ received_at p (Extended (int p 5)) 9
  unfolding R.read_message R.or_else
  is_95 e = rw e

  pub is_96 : get_or p 0 0 ≡ 96 → read_message p ≡ or_else (eqb (length p) 5) (ended (int p 1)) malformed
  unfolding R.read_message R.or_else
  is_96 e = rw e

  pub is_97 : get_or p 0 0 ≡ 97 → read_message p ≡ or_else (eqb (length p) 5) (closed (int p 1)) malformed
  unfolding R.read_message R.or_else
  is_97 e = rw e

  -- every other number, and the empty payload
  pub is_other : (n : ℕ) → get_or p 0 0 ≡ n → (n ≡ 91 → ⊥) → (n ≡ 92 → ⊥) → (n ≡ 93 → ⊥) → (n ≡ 94 → ⊥) → (n ≡ 95 → ⊥) → (n ≡ 96 → ⊥) → (n ≡ 97 → ⊥) → read_message p ≡ malformed
  unfolding R.read_message R.or_else
  is_other n e a b c d f g h = rw (e, ne_eqb n 91 a, ne_eqb n 92 b, ne_eqb n 93 c, ne_eqb n 94 d, ne_eqb n 95 f, ne_eqb n 96 g, ne_eqb n 97 h)

  pub is_none : None ≡ slice_get p 0 → read_message p ≡ malformed
  is_none e = is_other 0 (first_is p e) (λ e. omega arith) (λ e. omega arith) (λ e. omega arith) (λ e. omega arith) (λ e. omega arith) (λ e. omega arith) (λ e. omega arith)
