-- The code's entries and queue when only some of the entries stay: `Rows` over what a compaction left.
-- Assumes nothing.
use Prim.Native.Nat.{ℕ, ◌+◌, ◌-◌, ◌≤◌}
use mathlib.Core.Path.{◌≡◌, refl, sym, ap, ap₂, ◌∙◌}
use mathlib.Core.Bool.{true}
use mathlib.Core.List.{List, ◌++◌, append_assoc}
use lib.ListN.{length, drop, replicate, replicate-append-replicate}
use lib.Seq.{drop-append_seam}
use native.Mathlib.Omega.{arith}
use Rattle.channel.specs.State.{most_entries, Entry, queued}
use Rattle.channel.specs.Raw.{Raw, meaning, pending_of, zero_entry}
use Rattle.channel.specs.Raw as R
use Rattle.channel.specs.Sound.{is_sound}
use Rattle.channel.specs.Called.{Typed}
use Rattle.channel.proofs.Entries.{Less, shrunk}
use Rattle.channel.proofs.Written.{length-pending}
use Rattle.lookup.proofs.Limits.{limits}
use Rattle.lookup.proofs.Bridge.{Rows, same_rows, closed_rows}
use Rattle.passes.specs.Keep.{Base, queue_with, entries_with}
use Rattle.passes.specs.Pass.{entries_in}

-- a sound state's entries over its queue
pub base_of : (r : Raw) → Typed r → is_sound r ≡ true → Base r.held.entries r.held.entry_count r.queue r.held.queue_used
base_of r ty sd = let l = limits r sd in record { places = ty.entries; few = l.few; fits = l.queue_used; total = l.sum }

module _ (r : Raw) (ty : Typed r) (sd : is_sound r ≡ true) {n : ℕ} {ks : List Entry} (l : Less n (entries_in r.held r.queue) ks) where
  less : (length ks ≤ r.held.entry_count) × (length (queued ks) ≤ r.held.queue_used)
  unfolding R.meaning
  less =
      let s = shrunk n l in
      let q = same_rows r ty sd in
      (omega (arith, s.count, q.count), omega (arith, s.bytes, q.used))

  -- the entries behind those in use are zero
  spare : drop r.held.entry_count r.held.entries ≡ replicate (most_entries - r.held.entry_count) zero_entry
  spare =
      let q = same_rows r ty sd in
      let es = (meaning r).table.entries in
      let k : length (pending_of es) ≡ r.held.entry_count = length-pending es ∙ q.count in
      ap₂ (λ m x. drop m x) (sym k) (sym q.entries)
      ∙ drop-append_seam (pending_of es) (replicate (most_entries - length es) zero_entry)
      ∙ ap (λ m. replicate (most_entries - m) zero_entry) q.count

  pub kept_rows : Rows r ks (entries_with ks r.held.entry_count r.held.entries) (length ks) (length (queued ks)) (queue_with ks r.held.queue_used r.queue)
  unfolding entries_with queue_with
  kept_rows =
      let c : ℕ = r.held.entry_count in
      let b = less in
      let m : most_entries - length ks ≡ (c - length ks) + (most_entries - c) = omega (arith, (limits r sd).few) in
      record {
        entries =
            ap (λ x. pending_of ks ++ replicate x zero_entry) m
            ∙ ap (λ x. pending_of ks ++ x) (sym (replicate-append-replicate (c - length ks) (most_entries - c) zero_entry))
            ∙ sym (append_assoc (pending_of ks) (replicate (c - length ks) zero_entry) (replicate (most_entries - c) zero_entry))
            ∙ ap (λ x. (pending_of ks ++ replicate (c - length ks) zero_entry) ++ x) (sym spare);
        count = refl;
        used = refl;
        queue =
            (closed_rows r ks b.1).queue
            ∙ sym (append_assoc (queued ks) (replicate (r.held.queue_used - length (queued ks)) 0) (drop r.held.queue_used r.queue));
      }
