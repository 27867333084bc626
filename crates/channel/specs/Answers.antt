-- The rules' number and values for what the calls answer.
-- Assumes nothing.
use Rattle.std.specs.Prelude.{ℕ, Bool, Result, Ok, Err}
use Rattle.channel.specs.declared.Refusal.{Refusal}
use Rattle.channel.specs.declared.Message as M
use Rattle.channel.specs.declared.Message.TheVariants as Message
use Rattle.channel.specs.declared.ChannelId.{ChannelId}
use Rattle.channel.specs.declared.ChannelFlushResult.{ChannelFlushResult}
use Rattle.channel.specs.declared.ChannelFlushResult.TheVariants.{Incomplete, Complete}
use Rattle.channel.specs.declared.Stopped.{Stopped}
use Rattle.channel.specs.declared.Stopped.TheVariants as Stop
use Rattle.channel.specs.declared.Moved.{Moved}
use Rattle.channel.specs.declared.Moved.TheVariants.{Held, Run}
use Rattle.channel.specs.Call as C

-- docs/RULES.md, "Answer numbers"
unfoldable pub refusal_number : Refusal → ℕ
refusal_number Refusal.State = 1
refusal_number Refusal.Unknown = 2
refusal_number Refusal.Unconfirmed = 3
refusal_number Refusal.Limit = 4
refusal_number Refusal.Room = 5
refusal_number Refusal.Credit = 6
refusal_number Refusal.Malformed = 7
refusal_number Refusal.Already = 8

unfoldable pub refusal : Refusal → C.Answer
refusal k = C.refused (refusal_number k)

-- the fields of an incoming message
unfoldable pub message_of : M.Message → C.Message
message_of (Message.OpenConfirmation m) = C.confirmation m.recipient.0 m.sender.0 m.window m.limit
message_of (Message.OpenFailure m) = C.failure m.recipient.0 m.reason m.description.start m.description.length m.language.start m.language.length
message_of (Message.WindowAdjust m) = C.credit m.recipient.0 m.add
message_of (Message.Data m) = C.received m.recipient.0 m.kind m.text.start m.text.length
message_of (Message.Eof n) = C.ended n.0
message_of (Message.Close n) = C.closed n.0

-- whom a message is for
unfoldable pub to_whom : M.Message → ℕ
to_whom (Message.OpenConfirmation m) = m.recipient.0
to_whom (Message.OpenFailure m) = m.recipient.0
to_whom (Message.WindowAdjust m) = m.recipient.0
to_whom (Message.Data m) = m.recipient.0
to_whom (Message.Eof n) = n.0
to_whom (Message.Close n) = n.0

-- what a call gives, or why it is refused
unfoldable pub answer : {A : Type 0} → (A → C.Answer) → Result A Refusal → C.Answer
answer f (Ok a) = f a
answer f (Err k) = refusal k

-- new_channel, new_channel_id
abbrev pub picked : Result ChannelId Refusal → C.Answer
picked r = answer (λ n. C.gave (C.number n.0)) r

-- open_for_peer, eof, close, drain
abbrev pub acted : Result (Unit {0}) Refusal → C.Answer
acted r = answer (λ u. C.gave C.done) r

-- the data calls: the bytes framed now
abbrev pub sent : Result ℕ Refusal → C.Answer
sent r = answer (λ n. C.gave (C.framed n)) r

-- adjust_window_size: whether an adjust was staged
abbrev pub charged : Result Bool Refusal → C.Answer
charged r = answer (λ b. C.gave (C.adjusted b)) r

-- the pending flush of one channel
unfoldable pub flush_is : ChannelFlushResult → C.Answer
flush_is (Incomplete n) = C.gave (C.incomplete n)
flush_is (Complete m) = C.gave (C.complete m.wrote m.pending_eof m.pending_close)

abbrev pub flushed : Result ChannelFlushResult Refusal → C.Answer
flushed r = answer flush_is r

-- and of all
unfoldable pub all_flushed : Result (Unit {0}) Stopped → C.Answer
all_flushed (Ok u) = C.gave C.done
all_flushed (Err (Stop.At n k)) = C.stopped n.0 (refusal_number k)
all_flushed (Err (Stop.Refused k)) = refusal k

-- the staged flush
unfoldable pub move_is : Moved → C.Answer
move_is Held = C.gave C.held
move_is (Run frames bytes) = C.moved frames bytes

abbrev pub moved : Result Moved Refusal → C.Answer
moved r = answer move_is r

-- incoming
abbrev pub taken : Result M.Message Refusal → C.Answer
taken r = answer (λ m. C.gave (C.message (message_of m))) r

-- the queries
abbrev pub window_size : Result ℕ Refusal → C.Answer
window_size r = answer (λ n. C.gave (C.window_is n)) r

abbrev pub pending_data : Result Bool Refusal → C.Answer
pending_data r = answer (λ b. C.gave (C.pending_is b)) r
