-- Where frames go: the form of a call, the buffer that it puts frames into, and the state by that buffer and the other.
-- Assumes nothing.
use Rattle.std.specs.Prelude.{ℕ, ◌+◌, Bool, true, false, cond, List, length}
use Rattle.octets.specs.Buf.{write}
use Rattle.channel.specs.declared.Table as D
use Rattle.channel.specs.Call.{Form, straight, staged, Route, Answer}
use Rattle.channel.specs.Raw.{Raw}
use Rattle.channel.specs.Called.{lent, Outcome}
use Rattle.lookup.specs.Update.{counted}

-- the form: with a writer or staged
abbrev pub form_of : Bool → Form
form_of true = straight
form_of false = staged

abbrev pub route : Bool → Bool → Route
route w k = record { form = form_of w; rekey = k }

-- the buffer that frames go into, and its used count
abbrev pub out_of : Bool → Raw → List ℕ
out_of true r = r.sent
out_of false r = r.staged

abbrev pub out_used : Bool → D.Table → ℕ
out_used true t = t.sent_used
out_used false t = t.staged_used

-- n bytes more there
abbrev pub out_more : Bool → D.Table → ℕ → D.Table
out_more b t n = counted t (cond b t.staged_used (t.staged_used + n)) (cond b (t.sent_used + n) t.sent_used)

-- frames behind what is there
abbrev pub framed : Bool → Raw → List ℕ → Raw
framed b r bs =
    lent (out_more b r.held (length bs)) r.queue
    (cond b r.staged (write r.held.staged_used bs r.staged)) (cond b (write r.held.sent_used bs r.sent) r.sent)

-- the state by the buffer that frames go into and the other one
abbrev pub state_of : Bool → D.Table → List ℕ → List ℕ → List ℕ → Raw
state_of b t queue out other = lent t queue (cond b other out) (cond b out other)

abbrev pub outcome_of : Bool → Answer → D.Table → List ℕ → List ℕ → List ℕ → Outcome
outcome_of b a t queue out other = record { answer = a; state = state_of b t queue out other }
