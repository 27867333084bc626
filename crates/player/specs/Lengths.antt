-- The lengths of a lab's buffers before and after a call.
-- Assumes nothing.
use Rattle.std.specs.Prelude.{◌≡◌}
use Rattle.arrayvec.specs.ArrayVec.{array_vec_len}
use Rattle.player.specs.declared.lab.Lab.{Lab}

-- each buffer is as long as before
abbrev pub SameLengths : Lab → Lab → Type 0
SameLengths old new =
    (array_vec_len new.queue ≡ array_vec_len old.queue)
    × (array_vec_len new.staged ≡ array_vec_len old.staged)
    × (array_vec_len new.sent ≡ array_vec_len old.sent)
