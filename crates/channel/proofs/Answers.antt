-- No two answers of a call have the same number and values, so that a promise allows one answer alone.
-- Assumes nothing.
use Prim.Native.Nat.{ℕ}
use mathlib.Core.Path.{◌≡◌, refl, sym, ap, ap₂, ◌∙◌}
use mathlib.Core.Bool.{Bool, true, false}
use lib.Dec.{eqb}
use Rattle.std.specs.Prelude.{Result, Ok, Err}
use native.Mathlib.Omega.{arith}
use Rattle.channel.specs.declared.ChannelId.{ChannelId}
use Rattle.channel.specs.declared.Refusal.{Refusal}
use Rattle.channel.specs.declared.Message as M
use Rattle.channel.specs.declared.Message.TheVariants as Message
use Rattle.channel.specs.declared.Completed.{Completed}
use Rattle.channel.specs.declared.ChannelFlushResult.{ChannelFlushResult}
use Rattle.channel.specs.declared.ChannelFlushResult.TheVariants.{Incomplete, Complete}
use Rattle.channel.specs.declared.Stopped.{Stopped}
use Rattle.channel.specs.declared.Stopped.TheVariants as Stop
use Rattle.channel.specs.declared.Moved.{Moved}
use Rattle.channel.specs.declared.Moved.TheVariants.{Held, Run}
use Rattle.channel.specs.Call as C
use Rattle.channel.specs.Answers.{refusal_number, refusal, message_of, answer, flush_is, move_is, picked, acted, sent, charged, flushed, all_flushed, moved, taken, window_size, pending_data}

-- the refusal with a number, and back
refusal_of : ℕ → Refusal
refusal_of n =
    elim (eqb n 1) [
      | true ↦ Refusal.State
      | false ↦ elim (eqb n 2) [
        | true ↦ Refusal.Unknown
        | false ↦ elim (eqb n 3) [
          | true ↦ Refusal.Unconfirmed
          | false ↦ elim (eqb n 4) [
            | true ↦ Refusal.Limit
            | false ↦ elim (eqb n 5) [
              | true ↦ Refusal.Room
              | false ↦ elim (eqb n 6) [ true ↦ Refusal.Credit | false ↦ elim (eqb n 7) [ true ↦ Refusal.Malformed | false ↦ Refusal.Already ] ]
            ]
          ]
        ]
      ]
    ]

refusal_back : (k : Refusal) → refusal_of (refusal_number k) ≡ k
unfolding refusal_of refusal_number
refusal_back Refusal.State = refl
refusal_back Refusal.Unknown = refl
refusal_back Refusal.Unconfirmed = refl
refusal_back Refusal.Limit = refl
refusal_back Refusal.Room = refl
refusal_back Refusal.Credit = refl
refusal_back Refusal.Malformed = refl
refusal_back Refusal.Already = refl

number_one : (k j : Refusal) → refusal_number k ≡ refusal_number j → k ≡ j
number_one k j e = sym (refusal_back k) ∙ ap refusal_of e ∙ refusal_back j

refusal_one : (k j : Refusal) → refusal k ≡ refusal j → k ≡ j
unfolding refusal
refusal_one k j e = let z : refusal_number k ≡ refusal_number j = cc in number_one k j z

message_back : C.Message → M.Message
message_back (C.confirmation n peer window limit) = Message.OpenConfirmation (record { recipient = record { 0 = n }; sender = record { 0 = peer }; window = window; limit = limit })
message_back (C.failure n reason at size at' size') = Message.OpenFailure (record { recipient = record { 0 = n }; reason = reason; description = record { start = at; length = size }; language = record { start = at'; length = size' } })
message_back (C.credit n add) = Message.WindowAdjust (record { recipient = record { 0 = n }; add = add })
message_back (C.received n kind at size) = Message.Data (record { recipient = record { 0 = n }; kind = kind; text = record { start = at; length = size } })
message_back (C.ended n) = Message.Eof (record { 0 = n })
message_back (C.closed n) = Message.Close (record { 0 = n })

message_one : (a b : M.Message) → message_of a ≡ message_of b → a ≡ b
unfolding message_back message_of
message_one a b e = sym (is a) ∙ ap message_back e ∙ is b
  where
    is : (a : M.Message) → message_back (message_of a) ≡ a
    is (Message.OpenConfirmation m) = refl
    is (Message.OpenFailure m) = refl
    is (Message.WindowAdjust m) = refl
    is (Message.Data m) = refl
    is (Message.Eof n) = refl
    is (Message.Close n) = refl

id_one : (n m : ChannelId) → n.0 ≡ m.0 → n ≡ m
id_one n m e = λ i. record { 0 = e i }

-- a result is no refusal
gave-refusal : {A : Type 0} (r : C.Result) (k : Refusal) → C.gave r ≡ refusal k → A
unfolding refusal
gave-refusal r k e = absurd (let z : ◌≡◌ {A = ℕ} 0 1 = cc in omega arith)

-- what a call gives is told apart, and from every refusal
answer_one : {A : Type 0} (f : A → C.Answer) → ((a b : A) → f a ≡ f b → a ≡ b) → ((a : A) (k : Refusal) → f a ≡ refusal k → ⊥) → (a b : Result A Refusal) → answer f a ≡ answer f b → a ≡ b
unfolding answer
answer_one f one apart (Ok a) (Ok b) e = ap Ok (one a b e)
answer_one f one apart (Ok a) (Err k) e = absurd (apart a k e)
answer_one f one apart (Err k) (Ok b) e = absurd (apart b k (sym e))
answer_one f one apart (Err k) (Err j) e = ap Err (refusal_one k j e)

-- THE THEOREMS, one for each kind of call

pub picked_one : (a b : Result ChannelId Refusal) → picked a ≡ picked b → a ≡ b
picked_one = answer_one _ (λ n m e. id_one n m cc) (λ n k e. gave-refusal _ k e)

pub acted_one : (a b : Result (Unit {0}) Refusal) → acted a ≡ acted b → a ≡ b
acted_one = answer_one _ (λ n m e. refl) (λ n k e. gave-refusal _ k e)

pub sent_one : (a b : Result ℕ Refusal) → sent a ≡ sent b → a ≡ b
sent_one = answer_one _ (λ n m e. cc) (λ n k e. gave-refusal _ k e)

pub charged_one : (a b : Result Bool Refusal) → charged a ≡ charged b → a ≡ b
charged_one = answer_one _ (λ n m e. cc) (λ n k e. gave-refusal _ k e)

completed_one : (n m : Completed) → n.wrote ≡ m.wrote → n.pending_eof ≡ m.pending_eof → n.pending_close ≡ m.pending_close → n ≡ m
completed_one n m e f g = λ i. record { wrote = e i; pending_eof = f i; pending_close = g i }

flush_one : (a b : ChannelFlushResult) → flush_is a ≡ flush_is b → a ≡ b
unfolding flush_is
flush_one (Incomplete n) (Incomplete m) e = let z : n ≡ m = cc in ap Incomplete z
flush_one (Incomplete n) (Complete m) e = absurd (let z : ◌≡◌ {A = ℕ} 0 1 = cc in omega arith)
flush_one (Complete n) (Incomplete m) e = absurd (let z : ◌≡◌ {A = ℕ} 0 1 = cc in omega arith)
flush_one (Complete n) (Complete m) e =
    let x : n.wrote ≡ m.wrote = cc in
    let y : n.pending_eof ≡ m.pending_eof = cc in
    let z : n.pending_close ≡ m.pending_close = cc in
    ap Complete (completed_one n m x y z)

flush_apart : (a : ChannelFlushResult) (k : Refusal) → flush_is a ≡ refusal k → ⊥
unfolding flush_is
flush_apart (Incomplete n) k e = gave-refusal _ k e
flush_apart (Complete m) k e = gave-refusal _ k e

pub flushed_one : (a b : Result ChannelFlushResult Refusal) → flushed a ≡ flushed b → a ≡ b
flushed_one = answer_one flush_is flush_one flush_apart

pub all-flushed_one : (a b : Result (Unit {0}) Stopped) → all_flushed a ≡ all_flushed b → a ≡ b
unfolding all_flushed refusal
all-flushed_one (Ok u) (Ok v) e = refl
all-flushed_one (Ok u) (Err (Stop.At n k)) e = absurd (let z : ◌≡◌ {A = ℕ} 0 1 = cc in omega arith)
all-flushed_one (Ok u) (Err (Stop.Refused k)) e = absurd (let z : ◌≡◌ {A = ℕ} 0 1 = cc in omega arith)
all-flushed_one (Err (Stop.At n k)) (Ok u) e = absurd (let z : ◌≡◌ {A = ℕ} 0 1 = cc in omega arith)
all-flushed_one (Err (Stop.At n k)) (Err (Stop.At m j)) e =
    let y : n.0 ≡ m.0 = cc in
    let z : refusal_number k ≡ refusal_number j = cc in
    ap Err (ap₂ Stop.At (id_one n m y) (number_one k j z))
all-flushed_one (Err (Stop.At n k)) (Err (Stop.Refused j)) e = absurd (let z : ◌≡◌ {A = ℕ} 0 1 = cc in omega arith)
all-flushed_one (Err (Stop.Refused k)) (Ok u) e = absurd (let z : ◌≡◌ {A = ℕ} 0 1 = cc in omega arith)
all-flushed_one (Err (Stop.Refused k)) (Err (Stop.At m j)) e = absurd (let z : ◌≡◌ {A = ℕ} 0 1 = cc in omega arith)
all-flushed_one (Err (Stop.Refused k)) (Err (Stop.Refused j)) e = ap Err (ap Stop.Refused (unfold refusal in refusal_one k j e))

move_one : (a b : Moved) → move_is a ≡ move_is b → a ≡ b
unfolding move_is
move_one Held Held e = refl
move_one Held (Run n m) e = absurd (let z : ◌≡◌ {A = ℕ} 0 1 = cc in omega arith)
move_one (Run n m) Held e = absurd (let z : ◌≡◌ {A = ℕ} 0 1 = cc in omega arith)
move_one (Run n m) (Run i j) e = let y : n ≡ i = cc in let z : m ≡ j = cc in ap₂ Run y z

move_apart : (a : Moved) (k : Refusal) → move_is a ≡ refusal k → ⊥
unfolding move_is refusal
move_apart Held k e = let z : ◌≡◌ {A = ℕ} 0 1 = cc in omega arith
move_apart (Run n m) k e = let z : ◌≡◌ {A = ℕ} 0 1 = cc in omega arith

pub moved_one : (a b : Result Moved Refusal) → moved a ≡ moved b → a ≡ b
moved_one = answer_one move_is move_one move_apart

pub taken_one : (a b : Result M.Message Refusal) → taken a ≡ taken b → a ≡ b
taken_one = answer_one _ (λ n m e. message_one n m cc) (λ n k e. gave-refusal _ k e)

pub window_size_one : (a b : Result ℕ Refusal) → window_size a ≡ window_size b → a ≡ b
window_size_one = answer_one _ (λ n m e. cc) (λ n k e. gave-refusal _ k e)

pub pending-data_one : (a b : Result Bool Refusal) → pending_data a ≡ pending_data b → a ≡ b
pending-data_one = answer_one _ (λ n m e. cc) (λ n k e. gave-refusal _ k e)
