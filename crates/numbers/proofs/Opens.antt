-- What each opening comes to, from what the code found: one law for each way out.
-- Assumes nothing.
use Rattle.std.proofs.Common.{◌≡◌, ℕ, true, false, sym, ◌∙◌, Option, Some, None, Ok}
use mathlib.Core.Bool.{true≢false}
use Rattle.std.specs.Option.{is_some}
use Rattle.channel.specs.declared.Refusal.{Refusal}
use Rattle.channel.specs.State.{look, nowhere}
use Rattle.channel.specs.Call.{act, new_channel, new_channel_id, open_for_peer, done, number, gave}
use Rattle.channel.specs.Change.{fresh, confirm}
use Rattle.channel.specs.Decide.{next_number}
use Rattle.channel.specs.Decide as D
use Rattle.channel.specs.Raw.{Raw, places_of, meaning}
use Rattle.channel.specs.Raw as R
use Rattle.channel.specs.Sound.{is_sound}
use Rattle.channel.specs.Called.{Typed, called, outcome}
use Rattle.channel.specs.Answers.{refusal}
use Rattle.channel.specs.Answers as A
use Rattle.lookup.specs.Held.{HeldAt, FreeAt}
use Rattle.lookup.specs.Update.{last_set, place_taken}
use Rattle.lookup.proofs.Bridge.{free-vacant, none_free}
use Rattle.lookup.proofs.Decided.{if_true, if_false, by_act, none-used, held-used}
use Rattle.lookup.proofs.Branch.{refusing, last-is, taken_is, taken-last-is}
use Rattle.soundness.specs.declared.Found.{Found}
use Rattle.soundness.specs.Sees.{LookedUp}
use Rattle.numbers.specs.Picks.{pick_of, Full, Frees}

module _ (r : Raw) (ty : Typed r) (sd : is_sound r ≡ true) where
  -- the number that the code picks is the definition's
  picked-is : (n : ℕ) → n ≡ pick_of r.held → n ≡ next_number (meaning r).table
  unfolding D.next_number R.meaning
  picked-is n e = e

  -- NO PLACE IS FREE
  module _ (none : Full r.held) where
    pub new_full : (window limit : ℕ) → called r (act (new_channel window limit)) ≡ record { answer = refusal Refusal.Room; state = r }
    unfolding D.decide A.refusal A.refusal_number
    new_full window limit = refusing r ty sd _ false 5 (by_act r _ (if_false _ _ _ (none_free r ty sd none)))

    id_full : called r (act new_channel_id) ≡ record { answer = refusal Refusal.Room; state = r }
    unfolding D.decide A.refusal A.refusal_number
    id_full = refusing r ty sd _ false 5 (by_act r _ (if_false _ _ _ (none_free r ty sd none)))

    pub peer_full : (n peer w l pw pl : ℕ) → look n (places_of r.held.used r.held.records) ≡ nowhere → called r (act (open_for_peer n peer w l pw pl)) ≡ record { answer = refusal Refusal.Room; state = r }
    unfolding D.decide A.refusal A.refusal_number
    peer_full n peer w l pw pl e = refusing r ty sd _ false 5 (by_act r _ (if_false _ _ _ (none-used r n e) ∙ if_false _ _ _ (none_free r ty sd none)))

  -- PLACE i IS
  module _ (i : ℕ) (f : FreeAt r.held i) where
    pub new_is : (window limit n : ℕ) → n ≡ pick_of r.held
        → called r (act (new_channel window limit)) ≡ outcome (gave (number n)) (last_set (place_taken r.held i (fresh n window limit)) n) r.queue r.staged r.sent
    unfolding D.decide
    new_is window limit n e = rw (picked-is n e) (taken-last-is r ty sd _ false _ i f _ _ (by_act r _ (if_true _ _ _ (free-vacant r ty sd i f))))

    id_is : (n : ℕ) → n ≡ pick_of r.held → called r (act new_channel_id) ≡ outcome (gave (number n)) (last_set r.held n) r.queue r.staged r.sent
    unfolding D.decide
    id_is n e = rw (picked-is n e) (last-is r ty sd _ false _ _ (by_act r _ (if_true _ _ _ (free-vacant r ty sd i f))))

    pub peer_is : (n peer w l pw pl : ℕ) → look n (places_of r.held.used r.held.records) ≡ nowhere
        → called r (act (open_for_peer n peer w l pw pl)) ≡ outcome (gave done) (place_taken r.held i (confirm (fresh n w l) peer pw pl)) r.queue r.staged r.sent
    unfolding D.decide
    peer_is n peer w l pw pl e = taken_is r ty sd _ false _ i f _ (by_act r _ (if_false _ _ _ (none-used r n e) ∙ if_true _ _ _ (free-vacant r ty sd i f)))

  -- THE NUMBER IS USED
  peer_used : (n i peer w l pw pl : ℕ) → HeldAt r.held n i → called r (act (open_for_peer n peer w l pw pl)) ≡ record { answer = refusal Refusal.Already; state = r }
  unfolding D.decide A.refusal A.refusal_number
  peer_used n i peer w l pw pl h = refusing r ty sd _ false 8 (by_act r _ (if_true _ _ _ (held-used r n i h)))

-- where only the test of what was found is asked
pub id_none : (r : Raw) → Typed r → is_sound r ≡ true → (x : Option ℕ) → Frees r.held x → is_some x ≡ false → called r (act new_channel_id) ≡ record { answer = refusal Refusal.Room; state = r }
id_none r ty sd (Some i) f b = absurd (true≢false b)
id_none r ty sd None f b = id_full r ty sd f

pub id_some : (r : Raw) → Typed r → is_sound r ≡ true → (x : Option ℕ) → Frees r.held x → is_some x ≡ true → (n : ℕ) → n ≡ pick_of r.held
    → called r (act new_channel_id) ≡ outcome (gave (number n)) (last_set r.held n) r.queue r.staged r.sent
id_some r ty sd (Some i) f b n e = id_is r ty sd i f n e
id_some r ty sd None f b n e = absurd (true≢false (sym b))

pub peer_known : (r : Raw) → Typed r → (n : ℕ) (x : Option Found) → LookedUp r n (Ok x) → is_some x ≡ true → (peer w l pw pl : ℕ)
    → called r (act (open_for_peer n peer w l pw pl)) ≡ record { answer = refusal Refusal.Already; state = r }
peer_known r ty n (Some x) u b peer w l pw pl = peer_used r ty u.sound n x.place peer w l pw pl u.held
peer_known r ty n None u b peer w l pw pl = absurd (true≢false (sym b))

pub unknown : (r : Raw) (n : ℕ) (x : Option Found) → LookedUp r n (Ok x) → is_some x ≡ false → (is_sound r ≡ true) × (look n (places_of r.held.used r.held.records) ≡ nowhere)
unknown r n (Some f) u e = absurd (true≢false e)
unknown r n None u e = u
