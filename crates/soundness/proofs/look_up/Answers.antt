-- Each way out is one law of Parts, by the tests that passed before it.
use Rattle.std.proofs.Common.{◌≡◌, refl, sym, ◌∙◌, Bool, true, false}
use Rattle.channel.specs.Sound.{is_sound}
use Rattle.channel.specs.Called.{lent}
use Rattle.soundness.specs.Tested.{limited, tidy, entries_sound, marks_sound, entries_in}
use Rattle.soundness.specs.Tested as T
use Rattle.soundness.proofs.Parts.{sound_limits, sound-tidy, sound-rest}
use Rattle.soundness.proofs.look_up.Goals as goal
use Rattle.soundness.proofs.look_up.Goals.{Joined-else-look, After-whole_frames, else-look-via-then-look+else-not-marks_named, else-look-via-else-look}

pub returns-then-not-within_limits : goal.returns-then-not-within_limits
returns-then-not-within_limits c =
    record { is = (sound_limits (lent c.args.t.now c.args.queue.now c.args.staged.now c.args.sent.now) (sym c.within_limits.ensures ∙ c.if-not-within_limits.true), refl); typed = c.typed.ensures }

pub returns-in_default : goal.returns-in_default
returns-in_default c = record { is = (sound-tidy (lent c.args.t.now c.args.queue.now c.args.staged.now c.args.sent.now) (rw c.in_default.is at c.look_over.ensures), refl); typed = c.typed.ensures }

pub returns-in_default-entries_named : goal.returns-in_default-entries_named
returns-in_default-entries_named c =
    let r = lent c.args.t.now c.args.queue.now c.args.staged.now c.args.sent.now in
    let l : limited r ≡ true = sym c.within_limits.ensures ∙ c.if-not-within_limits.false in
    let d = rw c.in-Some.is at c.look_over.ensures in
    let e = rw c.in_default-entries_named.is at c.entries_named.ensures in
    record { is = (sound-rest r false _ _ false l d.0 (sym e) refl refl refl, refl); typed = c.typed.ensures }

pub returns-then-not-marks_named : goal.returns-then-not-marks_named
returns-then-not-marks_named c =
    let r = lent c.args.t.now c.args.queue.now c.args.staged.now c.args.sent.now in
    let l : limited r ≡ true = sym c.within_limits.ensures ∙ c.if-not-within_limits.false in
    let d = rw c.in-Some.is at c.look_over.ensures in
    let e = rw c.in-Some-entries_named.is at c.entries_named.ensures in
    record { is = (sound-rest r true false _ false l d.0 (sym e.0) (sym c.if-not-marks_named.true ∙ c.marks_named.ensures) refl refl, refl); typed = c.typed.ensures }

-- every marked channel has an entry, since it was tested or no mark was seen; then whether the frames are whole decides
marks : (c : Joined-else-look) → marks_sound (lent c.args.t.now c.args.queue.now c.args.staged.now c.args.sent.now).held ≡ true
unfolding T.marks_sound
marks c =
    elim c.else-look.branch [
      | else-look-via-then-look+else-not-marks_named w ↦ sym w.marks_named.ensures ∙ w.if-not-marks_named.false
      | else-look-via-else-look w ↦ (rw c.in-Some.is at c.look_over.ensures).1.unmarked w.if-look.false (entries_in (lent c.args.t.now c.args.queue.now c.args.staged.now c.args.sent.now).held)
    ]

decided : (c : After-whole_frames) (b : Bool) → c.whole_frames.result ≡ b → marks_sound (lent c.args.t.now c.args.queue.now c.args.staged.now c.args.sent.now).held ≡ true → is_sound (lent c.args.t.now c.args.queue.now c.args.staged.now c.args.sent.now) ≡ b
decided c b z m =
    let r = lent c.args.t.now c.args.queue.now c.args.staged.now c.args.sent.now in
    let d = rw c.in-Some.is at c.look_over.ensures in
    let e = rw c.in-Some-entries_named.is at c.entries_named.ensures in
    sound-rest r true true b b (sym c.within_limits.ensures ∙ c.if-not-within_limits.false) d.0 (sym e.0) (sym m) (sym z ∙ c.whole_frames.ensures) refl

pub returns-then-not-whole_frames : goal.returns-then-not-whole_frames
returns-then-not-whole_frames c =
    let at = goal.at.returns-then-not-whole_frames c in
    record { is = (decided at.After-whole_frames false c.if-not-whole_frames.true (marks at.Joined-else-look), refl); typed = c.typed.ensures }

pub returns-in-Some-place_of : goal.returns-in-Some-place_of
returns-in-Some-place_of c =
    let at = goal.at.returns-in-Some-place_of c in
    let e = rw c.in-Some-entries_named.is at c.entries_named.ensures in
    record {
      is =
          record {
            sound = decided at.After-whole_frames true c.if-not-whole_frames.false (marks at.Joined-else-look);
            held = rw c.in-Some-place_of.is at c.place_of.ensures;
            waits_is = e.1;
          };
      typed = c.typed.ensures;
    }

pub returns-in-None : goal.returns-in-None
returns-in-None c =
    let at = goal.at.returns-in-None c in
    record {
      is = (decided at.After-whole_frames true c.if-not-whole_frames.false (marks at.Joined-else-look), rw c.in-None.is at c.place_of.ensures);
      typed = c.typed.ensures;
    }
