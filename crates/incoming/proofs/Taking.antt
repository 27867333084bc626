-- What taking a message in comes to, from what was seen of its channel: one law for each message but a 97.
-- Assumes nothing.
use Rattle.std.proofs.Common.{ℕ, ◌+◌, ◌≡◌, refl, sym, ap, ◌∙◌, Bool, true, false, cond, List, Result, Ok, Err}
use mathlib.Core.Logic.{◌⊎◌, inl, inr}
use Rattle.std.proofs.lemmas.List.{set-get_or}
use lib.Dec.{leb}
use Rattle.laws.proofs.Tests.{by_test}
use Rattle.channel.specs.declared.Message as M
use Rattle.channel.specs.declared.Message.TheVariants.{OpenConfirmation, OpenFailure, WindowAdjust, Data, Eof}
use Rattle.channel.specs.declared.Record.{Record}
use Rattle.channel.specs.declared.Table as D
use Rattle.channel.specs.declared.Confirmation.{Confirmation}
use Rattle.channel.specs.declared.Failure.{Failure}
use Rattle.channel.specs.declared.Adjust.{Adjust}
use Rattle.channel.specs.declared.ChannelData.{ChannelData}
use Rattle.channel.specs.declared.ChannelId.{ChannelId}
use Rattle.channel.specs.declared.Refusal.{Refusal}
use Rattle.channel.specs.State.{most_window, look}
use Rattle.channel.specs.Call.{message, act, incoming}
use Rattle.channel.specs.Change.{altered, removed, with_peer_window}
use Rattle.channel.specs.Decide.{Decision, refuse, quiet, passing, serves, taken_in, taken_read}
use Rattle.channel.specs.Decide as G
use Rattle.channel.specs.Step.{step, apply}
use Rattle.channel.specs.Raw.{Raw, meaning, zero_record}
use Rattle.channel.specs.Read.{reads, read_message}
use Rattle.channel.specs.Called.{outcome}
use Rattle.channel.specs.Answers.{refusal_number, message_of}
use Rattle.channel.specs.Answers as A
use Rattle.lookup.specs.Held.{record_at}
use Rattle.lookup.specs.Update.{placed, record_set, place_freed}
use Rattle.lookup.proofs.Decided.{if_true, if_false, serves-is, held-known, held_fails, held_passes, by_act}
use Rattle.lookup.proofs.Branch as B
use Rattle.soundness.specs.declared.Found.{Found}
use Rattle.soundness.specs.Sees.{Sees}
use Rattle.credit.specs.Credit as C
use Rattle.channel.specs.Answers.{to_whom}
use Rattle.incoming.specs.Takes.{After, after, done, refused, confirming, crediting, hearing, heard, Comes}
use Rattle.incoming.specs.Takes as T

-- a message was read
pub read_is : (r : Raw) (p : List ℕ) (m : M.Message) → reads (message_of m) ≡ read_message p → step (meaning r) (act (incoming p)) ≡ apply (meaning r) false (taken_in (meaning r).table (message_of m))
unfolding G.decide G.taken_read
read_is r p m e = by_act r (incoming p) (ap (taken_read (meaning r).table) (sym e))

-- the record that is there, set again
same-record : (t : D.Table) (i : ℕ) → record_set t i (record_at t i) ≡ t
same-record t i = ap (λ rs. placed t t.last t.used rs) (set-get_or t.records i zero_record)

-- BY WHAT THE DEFINITION DECIDES

-- the credit, as the decision says it
credited_as : (c : Record) (add : ℕ) → after (C.credit_answer c add) (C.credit_record c add)
    ≡ cond (C.fits c add) (done (with_peer_window c (c.recipient_window_size + add))) (refused Refusal.Credit c)
unfolding C.credit_answer C.credit_record
credited_as c add = by_test (C.fits c add) (λ z. rw z) (λ z. rw z)

module _ {r : Raw} (m : M.Message) {n : ℕ} {x : Found} (s : Sees r n (Ok x)) where
  pub refuses : (k : Refusal) → taken_in (meaning r).table (message_of m) ≡ refuse (refusal_number k) → Comes r m (outcome (heard m (Err k)) r.held r.queue r.staged r.sent)
  unfolding A.answer A.refusal
  refuses k d p e = sym (B.refusing r s.typed s.is.sound (act (incoming p)) false _ (read_is r p m e ∙ ap (apply (meaning r) false) d))

  -- nothing changes
  hands : taken_in (meaning r).table (message_of m) ≡ quiet (message (message_of m)) (meaning r).table → Comes r m (outcome (heard m (Ok tt)) r.held r.queue r.staged r.sent)
  unfolding A.answer
  hands d p e = sym (B.same-is r s.typed s.is.sound (act (incoming p)) false _ (read_is r p m e ∙ ap (apply (meaning r) false) d))

  -- the record changes
  alters : (c : Record) → taken_in (meaning r).table (message_of m) ≡ quiet (message (message_of m)) (altered (meaning r).table (record_at r.held x.place) c)
      → Comes r m (outcome (heard m (Ok tt)) (record_set r.held x.place c) r.queue r.staged r.sent)
  unfolding A.answer
  alters c d p e = sym (B.recorded-is r s.typed s.is.sound (act (incoming p)) false _ n x.place s.is.held c (read_is r p m e ∙ ap (apply (meaning r) false) d))

  -- it goes
  frees : taken_in (meaning r).table (message_of m) ≡ quiet (message (message_of m)) (removed (meaning r).table (record_at r.held x.place))
      → Comes r m (outcome (heard m (Ok tt)) (place_freed r.held x.place) r.queue r.staged r.sent)
  unfolding A.answer
  frees d p e = sym (B.freed_is r s.typed s.is.sound (act (incoming p)) false _ n x.place s.is.held (read_is r p m e ∙ ap (apply (meaning r) false) d))

-- EACH MESSAGE

pub yes : {A : Type 0} {b : Bool} (x y : A) → b ≡ true → cond b x y ≡ x
yes x y e = ap (λ c. cond c x y) e

pub no : {A : Type 0} {b : Bool} (x y : A) → b ≡ false → cond b x y ≡ y
no x y e = ap (λ c. cond c x y) e

abbrev record_in : Raw → Found → Record
record_in r x = record_at r.held x.place

module _ {r : Raw} {x : Found} where
  pub confirms : (m : Confirmation) → Sees r m.recipient.0 (Ok x) → (o : After) → o ≡ confirming (record_in r x) m
      → Comes r (OpenConfirmation m) (outcome (heard (OpenConfirmation m) o.answer) (record_set r.held x.place o.left) r.queue r.staged r.sent)
  unfolding G.taken_in A.message_of A.refusal_number T.confirming
  confirms m s o f =
      by_test (record_in r x).confirmed
      (λ y. rw (f ∙ yes _ _ y, same-record r.held x.place) (refuses (OpenConfirmation m) s Refusal.Already (held-known r _ x.place s.is.held _ ∙ if_true _ _ _ y)))
      (λ y. rw (f ∙ no _ _ y) (alters (OpenConfirmation m) s _ (held-known r _ x.place s.is.held _ ∙ if_false _ _ _ y)))

  module _ (m : Failure) (s : Sees r m.recipient.0 (Ok x)) where
    pub already : (record_in r x).confirmed ≡ true → Comes r (OpenFailure m) (outcome (heard (OpenFailure m) (Err Refusal.Already)) r.held r.queue r.staged r.sent)
    unfolding G.taken_in A.message_of A.refusal_number
    already y = refuses (OpenFailure m) s Refusal.Already (held-known r _ x.place s.is.held _ ∙ if_true _ _ _ y)

    pub fails : (record_in r x).confirmed ≡ false → Comes r (OpenFailure m) (outcome (heard (OpenFailure m) (Ok tt)) (place_freed r.held x.place) r.queue r.staged r.sent)
    unfolding G.taken_in A.message_of
    fails y = frees (OpenFailure m) s (held-known r _ x.place s.is.held _ ∙ if_false _ _ _ y)

  pub credits : (m : Adjust) → Sees r m.recipient.0 (Ok x) → (o : After) → o ≡ crediting (record_in r x) m.add
      → Comes r (WindowAdjust m) (outcome (heard (WindowAdjust m) o.answer) (record_set r.held x.place o.left) r.queue r.staged r.sent)
  unfolding G.taken_in A.message_of A.refusal_number T.crediting
  credits m s o f =
      by_test (record_in r x).confirmed
      (λ y. let on : (d : Record → Decision) → passing serves (look m.recipient.0 (meaning r).table.places) d ≡ d (record_in r x) = λ d. held_passes r m.recipient.0 x.place s.is.held serves d (serves-is (record_in r x) ∙ y) in
      by_test (leb ((record_in r x).recipient_window_size + m.add) most_window)
      (λ z. rw (f ∙ yes _ _ y ∙ credited_as _ _ ∙ yes _ _ z) (alters (WindowAdjust m) s _ (on _ ∙ if_true _ _ _ z)))
      (λ z. rw (f ∙ yes _ _ y ∙ credited_as _ _ ∙ no _ _ z, same-record r.held x.place) (refuses (WindowAdjust m) s Refusal.Credit (on _ ∙ if_false _ _ _ z))))
      (λ y. rw (f ∙ no _ _ y, same-record r.held x.place)
      (refuses (WindowAdjust m) s Refusal.Unconfirmed (held_fails r m.recipient.0 x.place s.is.held serves _ (serves-is (record_in r x) ∙ y))))

  -- a 94, 95 or 96
  hears : (m : M.Message) {n : ℕ} → Sees r n (Ok x) → taken_in (meaning r).table (message_of m) ≡ passing serves (look n (meaning r).table.places) (λ d. quiet (message (message_of m)) (meaning r).table)
      → (o : Result (Unit {0}) Refusal) → o ≡ hearing (record_in r x) → Comes r m (outcome (heard m o) r.held r.queue r.staged r.sent)
  unfolding A.refusal_number T.hearing
  hears m {n} s d o f =
      by_test (record_in r x).confirmed
      (λ y. rw (f ∙ yes _ _ y) (hands m s (d ∙ held_passes r n x.place s.is.held serves _ (serves-is (record_in r x) ∙ y))))
      (λ y. rw (f ∙ no _ _ y) (refuses m s Refusal.Unconfirmed (d ∙ held_fails r n x.place s.is.held serves _ (serves-is (record_in r x) ∙ y))))

  pub hears_either : {m : M.Message} → ((d : ChannelData) × (m ≡ Data d)) ⊎ ((n : ChannelId) × (m ≡ Eof n)) → Sees r (to_whom m) (Ok x)
      → (o : Result (Unit {0}) Refusal) → o ≡ hearing (record_in r x) → Comes r m (outcome (heard m o) r.held r.queue r.staged r.sent)
  unfolding G.taken_in A.message_of A.to_whom
  hears_either (inl e) s = rw e.1 (hears (Data e.0) (rw e.1 at s) refl)
  hears_either (inr e) s = rw e.1 (hears (Eof e.0) (rw e.1 at s) refl)
