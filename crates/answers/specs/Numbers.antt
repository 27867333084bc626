-- What a call answers, as numbers: the refusal's, or 0, and the values after it.
-- Assumes nothing.
use Rattle.std.specs.Prelude.{ℕ, Bool, true, false, List, [], ◌∷◌, ◌++◌, length, take, replicate}
use Rattle.channel.specs.declared.Kind.{Kind}
use Rattle.channel.specs.declared.Kind.TheVariants.{Plain, Extended}
use Rattle.channel.specs.Call as C
use Rattle.answers.specs.declared.Numbers.{Numbers}

-- the rules' number; 0 is no refusal
abbrev pub refusal_in : C.Answer → ℕ
refusal_in (C.refused k) = k
refusal_in (C.stopped n k) = k
refusal_in (C.gave r) = 0
refusal_in (C.moved frames bytes) = 0

-- yes is 1
abbrev pub digit : Bool → ℕ
digit true = 1
digit false = 0

-- the number at an incoming payload's front; only extended data has a code
abbrev pub received : ℕ → Kind → ℕ → ℕ → List ℕ
received n Plain start size = 94 ∷ n ∷ start ∷ size ∷ []
received n (Extended code) start size = 95 ∷ n ∷ code ∷ start ∷ size ∷ []

-- a message's type and its fields, in their order
abbrev pub message_values : C.Message → List ℕ
message_values (C.confirmation n peer window limit) = 91 ∷ n ∷ peer ∷ window ∷ limit ∷ []
message_values (C.failure n reason start size start' size') = 92 ∷ n ∷ reason ∷ start ∷ size ∷ start' ∷ size' ∷ []
message_values (C.credit n add) = 93 ∷ n ∷ add ∷ []
message_values (C.received n kind start size) = received n kind start size
message_values (C.ended n) = 96 ∷ n ∷ []
message_values (C.closed n) = 97 ∷ n ∷ []

-- a pending flush that is complete starts with 1, one that is not with 0
abbrev pub result_values : C.Result → List ℕ
result_values C.done = []
result_values C.held = 0 ∷ []
result_values (C.number n) = n ∷ []
result_values (C.framed n) = n ∷ []
result_values (C.adjusted b) = digit b ∷ []
result_values (C.incomplete n) = 0 ∷ n ∷ []
result_values (C.complete n eof close) = 1 ∷ n ∷ digit eof ∷ digit close ∷ []
result_values (C.message m) = message_values m
result_values (C.window_is n) = n ∷ []
result_values (C.pending_is b) = digit b ∷ []

-- a refusal has no value, save the channel that a flush of all stopped at; a staged flush that was not held starts with 1
abbrev pub values_in : C.Answer → List ℕ
values_in (C.refused k) = []
values_in (C.stopped n k) = n ∷ []
values_in (C.gave r) = result_values r
values_in (C.moved frames bytes) = 1 ∷ frames ∷ bytes ∷ []

-- seven places, those past the values 0
abbrev pub padded : List ℕ → List ℕ
padded vs = take 7 (vs ++ replicate 7 0)

-- a refusal's number, and the values counted and padded
abbrev pub listed : ℕ → List ℕ → Numbers
listed k vs = record { refusal = k; count = length vs; values = padded vs }

abbrev pub numbers_of : C.Answer → Numbers
numbers_of a = listed (refusal_in a) (values_in a)
