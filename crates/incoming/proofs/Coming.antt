-- A payload that is refused before its message is taken in, and how the call hands the answer on.
-- Assumes nothing.
use Rattle.std.proofs.Common.{ℕ, ◌≡◌, sym, ap, ◌∙◌, true, false, List, Result, Ok, Err, IsErrAnd}
use Rattle.channel.specs.declared.Message as M
use Rattle.channel.specs.declared.Message.TheVariants.{OpenConfirmation, OpenFailure, WindowAdjust, Data, Eof, Close}
use Rattle.channel.specs.declared.Refusal.{Refusal}
use Rattle.channel.specs.State.{nowhere, look}
use Rattle.channel.specs.Call.{act, incoming}
use Rattle.channel.specs.Decide.{refuse, serves, is_confirmed, taken_in, taken_read}
use Rattle.channel.specs.Decide as G
use Rattle.channel.specs.Step.{apply}
use Rattle.channel.specs.Raw.{Raw, places_of, meaning}
use Rattle.channel.specs.Read.{malformed, read_message}
use Rattle.channel.specs.Sound.{is_sound}
use Rattle.channel.specs.Called.{Typed, called}
use Rattle.channel.specs.Answers.{message_of, taken, refusal}
use Rattle.channel.specs.Answers as A
use Rattle.lookup.proofs.Decided.{none-known, none_passes, by_act}
use Rattle.lookup.proofs.Branch as B
use Rattle.soundness.specs.Sees.{Missed, unsound, unknown}
use Rattle.channel.specs.Answers.{to_whom}
use Rattle.incoming.specs.Takes.{Comes}
use Rattle.incoming.proofs.Taking.{read_is}

-- an error is handed on by `?`
pub handed : (x : Result M.Message Refusal) (k : Refusal) → IsErrAnd x (λ e. e ≡ k) → taken x ≡ refusal k
unfolding A.answer
handed (Ok m) k e = absurd e
handed (Err j) k e = ap refusal e

-- MALFORMED, in a sound state

pub malformed-is : (r : Raw) → Typed r → is_sound r ≡ true → (p : List ℕ) → malformed ≡ read_message p → called r (act (incoming p)) ≡ record { answer = refusal Refusal.Malformed; state = r }
unfolding G.decide G.taken_read A.refusal A.refusal_number
malformed-is r ty sd p e = B.refusing r ty sd (act (incoming p)) false 7 (by_act r (incoming p) (ap (taken_read (meaning r).table) (sym e)))

-- NO RECORD HAS THE NUMBER

pub unknown_is : (r : Raw) (m : M.Message) → look (to_whom m) (places_of r.held.used r.held.records) ≡ nowhere → taken_in (meaning r).table (message_of m) ≡ refuse 2
unfolding G.taken_in A.message_of A.to_whom
unknown_is r (OpenConfirmation m) e = none-known r _ e _
unknown_is r (OpenFailure m) e = none-known r _ e _
unknown_is r (WindowAdjust m) e = none_passes r _ e serves _
unknown_is r (Data m) e = none_passes r _ e serves _
unknown_is r (Eof n) e = none_passes r _ e serves _
unknown_is r (Close n) e = none_passes r _ e is_confirmed _

pub missed : {r : Raw} → Typed r → (m : M.Message) {k : Refusal} → Missed r (to_whom m) k → Comes r m (record { answer = refusal k; state = r })
unfolding A.refusal A.refusal_number
missed {r} ty m (unsound s) p e = sym (B.unsound r (act (incoming p)) s)
missed {r} ty m (unknown s h) p e = sym (B.refusing r ty s (act (incoming p)) false 2 (read_is r p m e ∙ ap (apply (meaning r) false) (unknown_is r m h)))
