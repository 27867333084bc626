-- The plan of one channel's flush, in the parts that the code carries out: the answer, the record after, and the marks' messages.
-- Assumes nothing.
use Rattle.std.specs.Prelude.{ℕ, ◌+◌, ◌-◌, ◌^◌, Bool, true, false, ◌&&◌, not, cond, List, [], ◌∷◌, ◌++◌, length, set, leb}
use Rattle.channel.specs.declared.Record.{Record}
use Rattle.channel.specs.declared.Table as D
use Rattle.channel.specs.Wire.{frames, eof_message, close_message}
use Rattle.channel.specs.State.{Table, peer_of}
use Rattle.channel.specs.Call.{Result, incomplete, complete}
use Rattle.channel.specs.Change.{with_peer_window, with_marks, with_entries, altered}
use Rattle.channel.specs.Decide.{Plan, none, Flushed, unmarked}
use Rattle.channel.specs.Raw.{Raw, zero_record}
use Rattle.channel.specs.Called.{lent}
use Rattle.lookup.specs.Update.{placed, counted}
use Rattle.lookup.specs.Out.{framed}
use Rattle.passes.specs.Keep.{queue_with, table_with}
use Rattle.passes.specs.Pass.{flushed_in}

-- the answer by the bytes framed and whether none is left
unfoldable pub result_of : Record → ℕ → Bool → Result
result_of c wrote all = cond all (complete wrote c.pending_eof c.pending_close) (incomplete wrote)

-- EOF and CLOSE, where their marks are handed over
unfoldable pub marked : ℕ → Bool → Bool → List (List ℕ)
marked peer eof close = cond eof (eof_message peer ∷ []) [] ++ cond close (close_message peer ∷ []) []

abbrev pub control_of : Record → Bool → List (List ℕ)
control_of c all = marked (peer_of c) (all && c.pending_eof) (all && c.pending_close)

-- the record with the window after, and without its marks where none is left
unfoldable pub charged_by : Record → ℕ → Bool → Record
charged_by c window all = with_marks (with_peer_window c window) (c.pending_eof && not all) (c.pending_close && not all)

-- its place after: freed and zero where CLOSE is handed over
unfoldable pub word_by : ℕ → ℕ → Bool → ℕ
word_by used i gone = cond gone (used - 2 ^ i) used

unfoldable pub record_by : Record → ℕ → Bool → Record
record_by c window all = cond (all && c.pending_close) zero_record (charged_by c window all)

abbrev pub settled_by : D.Table → ℕ → Record → ℕ → Bool → D.Table
settled_by t i c window all = placed t t.last (word_by t.used i (all && c.pending_close)) (set t.records i (record_by c window all))

-- the whole plan
unfoldable pub plan_of : Table → Record → Flushed → Plan
plan_of t c f =
    record {
      answer = result_of c f.wrote f.all;
      table = with_entries (cond f.all (unmarked t c f.window) (altered t c (with_peer_window c f.window))) f.kept;
      payload = f.out;
      control = control_of c f.all;
      queues = none;
    }

-- the entries and the record's place after the flush
abbrev pub after_flush : D.Table → List ℕ → ℕ → Record → D.Table
after_flush t q i c = let f = flushed_in t q c in settled_by (table_with f.kept t) i c f.window f.all

-- the state of a flush: sent is lent as `out` to the writer form, and as `kept`, only to be looked at, to the staged form
abbrev pub sent_by : Bool → D.Table → List ℕ → List ℕ → List ℕ → List ℕ → Raw
sent_by writer t queue staged out kept = lent t queue staged (cond writer out kept)

-- room for frames and for the marks' messages, by what is free
abbrev pub fits_by : Bool → Raw → ℕ → ℕ → Bool
fits_by true r out marks = leb out (length r.sent - r.held.sent_used) && leb marks (length r.staged - r.held.staged_used)
fits_by false r out marks = leb (out + marks) (length r.staged - r.held.staged_used)

-- the whole flush of the record at place i carried out
unfoldable pub carried : Bool → Raw → ℕ → Record → Raw
carried b r i c =
    let f = flushed_in r.held r.queue c in
    let o = framed b r (frames f.out) in
    let m = framed false o (frames (control_of c f.all)) in
    lent (counted (after_flush r.held r.queue i c) m.held.staged_used m.held.sent_used) (queue_with f.kept r.held.queue_used r.queue) m.staged m.sent
