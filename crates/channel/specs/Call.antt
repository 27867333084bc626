-- The calls and their answers.
-- Assumes nothing.
use Rattle.channel.specs.declared.Kind.{Kind}
use Rattle.std.specs.Prelude.{ℕ, Bool, true, false, ◌&&◌, not, List}

-- THE CALLS

-- the straight form (`_with_writer`) or the staged form of a call
pub data Form : Type 0 where
  straight staged : Form

-- the form, and whether a rekey is on
pub record Route : Type 0 where
  pub form : Form
  pub rekey : Bool

-- the calls with no data messages; what they put out is always staged
pub data Act : Type 0 where
  -- window, limit
  new_channel : ℕ → ℕ → Act
  new_channel_id : Act
  -- number, the peer's number, our window and limit, the peer's window and limit
  open_for_peer : ℕ → ℕ → ℕ → ℕ → ℕ → ℕ → Act
  eof : ℕ → Act
  close : ℕ → Act
  -- number, bytes received, target
  adjust : ℕ → ℕ → ℕ → Act
  -- one payload
  incoming : List ℕ → Act
  window_of : ℕ → Act
  has_pending : ℕ → Act

-- the calls with data messages; they take a route
pub data Load : Type 0 where
  send : Kind → ℕ → List ℕ → Load
  flush : ℕ → Load

pub data Call : Type 0 where
  act : Act → Call
  put : Route → Load → Call
  flush_all : Route → Call
  -- whether a rekey is on
  flush_staged : Bool → Call
  drain : Call

-- THE ANSWERS

-- an incoming message; a string is its start and its length within the payload
pub data Message : Type 0 where
  -- 91: recipient, sender, window, limit
  confirmation : ℕ → ℕ → ℕ → ℕ → Message
  -- 92: recipient, reason, description, language tag
  failure : ℕ → ℕ → ℕ → ℕ → ℕ → ℕ → Message
  -- 93: recipient, bytes to add
  credit : ℕ → ℕ → Message
  -- 94 and 95: recipient, kind, data
  received : ℕ → Kind → ℕ → ℕ → Message
  -- 96 and 97: recipient
  ended : ℕ → Message
  closed : ℕ → Message

-- what a call that is not refused answers
pub data Result : Type 0 where
  done : Result
  -- a staged flush during rekey
  held : Result
  number : ℕ → Result
  framed : ℕ → Result
  adjusted : Bool → Result
  -- bytes framed
  incomplete : ℕ → Result
  -- bytes framed, and the two marks
  complete : ℕ → Bool → Bool → Result
  message : Message → Result
  window_is : ℕ → Result
  pending_is : Bool → Result

pub data Answer : Type 0 where
  -- with the rules' number
  refused : ℕ → Answer
  -- a flush of all: the channel, and its refusal
  stopped : ℕ → ℕ → Answer
  gave : Result → Answer
  -- a staged flush: frames and bytes
  moved : ℕ → ℕ → Answer

-- the call asks to send straight: the writer form, and no rekey
unfoldable pub is_straight : Form → Bool
is_straight straight = true
is_straight staged = false

unfoldable pub direct : Route → Bool
direct r = is_straight r.form && not r.rekey
