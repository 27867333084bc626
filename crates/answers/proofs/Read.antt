-- The numbers lose nothing: every answer that a call can give is read back from them.
-- Assumes nothing.
use Rattle.std.proofs.Common.{◌≡◌, ℕ, Bool, true, false, Result, Ok, Err, refl}
use Rattle.channel.specs.declared.Kind.{Kind}
use Rattle.channel.specs.declared.Kind.TheVariants.{Plain, Extended}
use Rattle.channel.specs.declared.Refusal.{Refusal}
use Rattle.channel.specs.declared.Refusal.TheVariants as R
use Rattle.channel.specs.declared.Message as M
use Rattle.channel.specs.declared.Message.TheVariants as Message
use Rattle.channel.specs.declared.ChannelId.{ChannelId}
use Rattle.channel.specs.declared.ChannelFlushResult.{ChannelFlushResult}
use Rattle.channel.specs.declared.ChannelFlushResult.TheVariants.{Incomplete, Complete}
use Rattle.channel.specs.declared.Stopped.{Stopped}
use Rattle.channel.specs.declared.Stopped.TheVariants as Stop
use Rattle.channel.specs.declared.Moved.{Moved}
use Rattle.channel.specs.declared.Moved.TheVariants.{Held, Run}
use Rattle.channel.specs.Answers.{refusal_number, refusal, message_of, answer, flush_is, move_is}
use Rattle.channel.specs.Answers.{picked, acted, sent, charged, flushed, all_flushed, moved, taken, window_size, pending_data}
use Rattle.channel.specs.Call as C
use Rattle.answers.specs.declared.Numbers.{Numbers}
use Rattle.answers.specs.Numbers.{numbers_of}
use Rattle.answers.specs.Read.{read_as, as_picked, as_acted, as_sent, as_charged, as_flushed, as_moved, as_taken, as_window, as_pending}

-- a refusal is read back, of whatever kind of call
refusal_read : (f : Numbers → C.Answer) (k : Refusal) → read_as f (numbers_of (refusal k)) ≡ refusal k
unfolding read_as refusal refusal_number
refusal_read f R.State = refl
refusal_read f R.Unknown = refl
refusal_read f R.Unconfirmed = refl
refusal_read f R.Limit = refl
refusal_read f R.Room = refl
refusal_read f R.Credit = refl
refusal_read f R.Malformed = refl
refusal_read f R.Already = refl

-- and so is the whole answer, where what the call gives is
answer_read : {A : Type 0} (f : A → C.Answer) (own : Numbers → C.Answer) → ((a : A) → read_as own (numbers_of (f a)) ≡ f a)
    → (r : Result A Refusal) → read_as own (numbers_of (answer f r)) ≡ answer f r
unfolding answer
answer_read f own given (Ok a) = given a
answer_read f own given (Err k) = refusal_read own k

-- THE THEOREMS, one for each kind of call

pub picked_read : (p : Result ChannelId Refusal) → read_as as_picked (numbers_of (picked p)) ≡ picked p
unfolding read_as as_picked
picked_read = answer_read _ as_picked (λ n. refl)

pub acted_read : (a : Result (Unit {0}) Refusal) → read_as as_acted (numbers_of (acted a)) ≡ acted a
unfolding read_as as_acted
acted_read = answer_read _ as_acted (λ u. refl)

pub sent_read : (s : Result ℕ Refusal) → read_as as_sent (numbers_of (sent s)) ≡ sent s
unfolding read_as as_sent
sent_read = answer_read _ as_sent (λ n. refl)

adjusted_read : (b : Bool) → read_as as_charged (numbers_of (C.gave (C.adjusted b))) ≡ C.gave (C.adjusted b)
unfolding read_as as_charged
adjusted_read true = refl
adjusted_read false = refl

pub charged_read : (c : Result Bool Refusal) → read_as as_charged (numbers_of (charged c)) ≡ charged c
charged_read = answer_read _ as_charged adjusted_read

complete_read : (n : ℕ) (eof close : Bool)
    → read_as as_flushed (numbers_of (C.gave (C.complete n eof close))) ≡ C.gave (C.complete n eof close)
unfolding read_as as_flushed
complete_read n true true = refl
complete_read n true false = refl
complete_read n false true = refl
complete_read n false false = refl

flush_read : (f : ChannelFlushResult) → read_as as_flushed (numbers_of (flush_is f)) ≡ flush_is f
unfolding read_as as_flushed flush_is
flush_read (Incomplete n) = refl
flush_read (Complete m) = complete_read m.wrote m.pending_eof m.pending_close

pub flushed_read : (f : Result ChannelFlushResult Refusal) → read_as as_flushed (numbers_of (flushed f)) ≡ flushed f
flushed_read = answer_read flush_is as_flushed flush_read

stopped_read : (n : ℕ) (k : Refusal) → read_as as_acted (numbers_of (C.stopped n (refusal_number k))) ≡ C.stopped n (refusal_number k)
unfolding read_as refusal_number
stopped_read n R.State = refl
stopped_read n R.Unknown = refl
stopped_read n R.Unconfirmed = refl
stopped_read n R.Limit = refl
stopped_read n R.Room = refl
stopped_read n R.Credit = refl
stopped_read n R.Malformed = refl
stopped_read n R.Already = refl

pub all_read : (a : Result (Unit {0}) Stopped) → read_as as_acted (numbers_of (all_flushed a)) ≡ all_flushed a
unfolding all_flushed read_as as_acted
all_read (Ok u) = refl
all_read (Err (Stop.At n k)) = stopped_read n.0 k
all_read (Err (Stop.Refused k)) = refusal_read as_acted k

move_read : (m : Moved) → read_as as_moved (numbers_of (move_is m)) ≡ move_is m
unfolding read_as as_moved move_is
move_read Held = refl
move_read (Run frames bytes) = refl

pub moved_read : (m : Result Moved Refusal) → read_as as_moved (numbers_of (moved m)) ≡ moved m
moved_read = answer_read move_is as_moved move_read

pub window_read : (w : Result ℕ Refusal) → read_as as_window (numbers_of (window_size w)) ≡ window_size w
unfolding read_as as_window
window_read = answer_read _ as_window (λ n. refl)

has_read : (b : Bool) → read_as as_pending (numbers_of (C.gave (C.pending_is b))) ≡ C.gave (C.pending_is b)
unfolding read_as as_pending
has_read true = refl
has_read false = refl

pub pending_read : (p : Result Bool Refusal) → read_as as_pending (numbers_of (pending_data p)) ≡ pending_data p
pending_read = answer_read _ as_pending has_read

received_read : (n : ℕ) (k : Kind) (start size : ℕ)
    → read_as as_taken (numbers_of (C.gave (C.message (C.received n k start size)))) ≡ C.gave (C.message (C.received n k start size))
unfolding read_as as_taken
received_read n Plain start size = refl
received_read n (Extended code) start size = refl

message_read : (m : M.Message) → read_as as_taken (numbers_of (C.gave (C.message (message_of m)))) ≡ C.gave (C.message (message_of m))
unfolding read_as as_taken message_of
message_read (Message.OpenConfirmation m) = refl
message_read (Message.OpenFailure m) = refl
message_read (Message.WindowAdjust m) = refl
message_read (Message.Data m) = received_read m.recipient.0 m.kind m.text.start m.text.length
message_read (Message.Eof n) = refl
message_read (Message.Close n) = refl

pub taken-read : (t : Result M.Message Refusal) → read_as as_taken (numbers_of (taken t)) ≡ taken t
taken-read = answer_read _ as_taken message_read

-- ONE TYPE FOR TWO KINDS: the numbers of a window are those of the bytes framed, and those of whether data is pending those of whether an
-- adjust was staged

pub as_window_size : (r : Result ℕ Refusal) → numbers_of (sent r) ≡ numbers_of (window_size r)
unfolding answer
as_window_size (Ok n) = refl
as_window_size (Err k) = refl

pub as_pending_data : (r : Result Bool Refusal) → numbers_of (charged r) ≡ numbers_of (pending_data r)
unfolding answer
as_pending_data (Ok b) = refl
as_pending_data (Err k) = refl
