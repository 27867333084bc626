-- Staged as the definition has it, its messages' frames and a rest: what a run put behind them leaves, and what stays when a
-- front run has moved out. Each follows from frames-append and a law of the leaf that stores.
-- Assumes nothing.
use mathlib.Core.Path.{◌≡◌, refl, sym, ap, ◌∙◌}
use mathlib.Core.List.{List, [], ◌++◌, append_assoc}
use Prim.Native.Nat.{ℕ, ◌+◌, ◌≤◌}
use lib.ListN.{length, take, drop, replicate, length-append, take-append-drop}
use lib.Seq.{take_at}
use Rattle.octets.specs.Buf.{write, closed}
use Rattle.octets.proofs.Laws.{write-behind, closed_parts}
use Rattle.channel.specs.Wire.{frames}
use Rattle.channel.proofs.Wire.{frames-append}

-- the frames of k messages, and those of the others
pub frames_split : (k : ℕ) (ps : List (List ℕ)) → frames ps ≡ frames (take k ps) ++ frames (drop k ps)
frames_split k ps = ap frames (sym (take-append-drop k ps)) ∙ frames-append (take k ps) (drop k ps)

pub length_split : (k : ℕ) (ps : List (List ℕ)) → length (frames ps) ≡ length (frames (take k ps)) + length (frames (drop k ps))
length_split k ps = ap length (frames_split k ps) ∙ length-append (frames (take k ps)) (frames (drop k ps))

-- a run put behind the used part
pub put-behind : (ps qs : List (List ℕ)) (rest : List ℕ) → length (frames qs) ≤ length rest
    → write (length (frames ps)) (frames qs) (frames ps ++ rest) ≡ frames (ps ++ qs) ++ drop (length (frames qs)) rest
put-behind ps qs rest h = rw (frames-append ps qs) (write-behind (frames ps) (frames qs) rest h)

-- the bytes of the first k frames, wherever staged holds them in front
pub take_front : (k : ℕ) (ps : List (List ℕ)) (rest : List ℕ) → take (length (frames (take k ps))) (frames ps ++ rest) ≡ frames (take k ps)
take_front k ps rest =
    rw (frames_split k ps, append_assoc (frames (take k ps)) (frames (drop k ps)) rest)
    (take_at (frames (take k ps)) (frames (drop k ps) ++ rest) (length (frames (take k ps))) refl)

-- those frames taken out: the others close up, and so many zeros stand before the rest
pub closed_front : (k : ℕ) (ps : List (List ℕ)) (rest : List ℕ)
    → closed (length (frames ps)) 0 (length (frames (take k ps))) (frames ps ++ rest)
    ≡ frames (drop k ps) ++ (replicate (length (frames (take k ps))) 0 ++ rest)
closed_front k ps rest =
    ap (λ bs. closed (length bs) 0 (length (frames (take k ps))) (bs ++ rest)) (frames_split k ps)
    ∙ closed_parts [] (frames (take k ps)) (frames (drop k ps)) rest
    ∙ append_assoc (frames (drop k ps)) (replicate (length (frames (take k ps))) 0) rest
