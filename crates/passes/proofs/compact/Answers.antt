-- A turn is `goes_by_lem` or `stays_by` of KeepLaws, and the end `end_queue` and `end_entries`.
use Rattle.std.proofs.Common.{ℕ, refl, sym, ap, ◌≡◌, ◌∙◌, ◌-◌, ◌&&◌, List, replicate, arith}
use lib.Seq.{sets}
use Rattle.octets.specs.Buf.{write}
use Rattle.channel.specs.Raw.{zero_entry}
use Rattle.channel.specs.declared.Entry as E
use Rattle.channel.specs.declared.Table as T
use Rattle.lookup.specs.Update.{filed}
use Rattle.passes.specs.Keep.{table_with}
use Rattle.passes.proofs.KeepLaws.{at, cut_le, sums, goes_by_lem, stays_by, end_count, end_used, end_queue, end_entries}
use Rattle.passes.proofs.compact.Goals as goal

pub overflow_add-off : goal.overflow_add-off
overflow_add-off c = omega (arith, c.left_of-left.ensures.0, sums c.requires c.loop-i.invariant.going c.loop-i-test.true)

pub loop-i-preserved-then-goes : goal.loop-i-preserved-then-goes
loop-i-preserved-then-goes c =
    record {
      going = goes_by_lem c.requires c.loop-i.invariant.going c.loop-i-test.true c.left_of-left.result c.left_of-left.ensures.0 (sym c.goes.ensures ∙ c.if-goes.true);
      table = c.loop-i.invariant.table;
    }

pub overflow_add-off-in-loop-i : goal.overflow_add-off-in-loop-i
overflow_add-off-in-loop-i c =
    let x : E.Entry = at c.loop-i.t.entries c.loop-i.i in
    omega (arith, cut_le c.args.n.0 c.loop-i.w c.loop-i.live x.number.0 x.left (sym c.goes.ensures ∙ c.if-goes.false), c.cut_of-gone.ensures, sums c.requires c.loop-i.invariant.going c.loop-i-test.true)

pub move_down-requires : goal.move_down-requires
move_down-requires c =
    let x : E.Entry = at c.loop-i.t.entries c.loop-i.i in
    omega (arith, cut_le c.args.n.0 c.loop-i.w c.loop-i.live x.number.0 x.left (sym c.goes.ensures ∙ c.if-goes.false), c.cut_of-gone.ensures, c.left_of-left.ensures.0, c.loop-i.invariant.going.lower, c.loop-i.invariant.going.same_q, sums c.requires c.loop-i.invariant.going c.loop-i-test.true)

pub overflow_add-to : goal.overflow_add-to
overflow_add-to c = omega (arith, c.left_of-left.ensures.0, c.loop-i.invariant.going.lower, sums c.requires c.loop-i.invariant.going c.loop-i-test.true)

pub overflow_add-off-in-loop-i-2 : goal.overflow_add-off-in-loop-i-2
overflow_add-off-in-loop-i-2 c = omega (arith, c.left_of-left.ensures.0, sums c.requires c.loop-i.invariant.going c.loop-i-test.true)

-- one entry stored, and nothing else but entries changed so far
stored : (t x : T.Table) (es : List E.Entry) → x ≡ filed t x.entries t.entry_count t.queue_used → filed x es x.entry_count x.queue_used ≡ filed t es t.entry_count t.queue_used
stored t x es e = ap (λ (y : T.Table). filed y es y.entry_count y.queue_used) e

pub loop-i-preserved : goal.loop-i-preserved
loop-i-preserved c =
    record {
      going = stays_by c.requires c.loop-i.invariant.going c.loop-i-test.true _ _ _ _ _ _
          (sym c.goes.ensures ∙ c.if-goes.false) c.left_of-left.ensures.0 c.cut_of-gone.ensures refl refl c.move_down.ensures (ap (λ b. c.loop-i.live && b) c.ne-live.ensures);
      table = stored c.args.t.now c.loop-i.t _ c.loop-i.invariant.table;
    }

-- the table that is made of what the loop left
made : (t x y : T.Table) (es out : List E.Entry) (k to j u : ℕ) → y ≡ filed x es k to → x ≡ filed t x.entries t.entry_count t.queue_used → es ≡ out → k ≡ j → to ≡ u → y ≡ filed t out j u
made t x y es out k to j u f e a b d = f ∙ (λ i. filed (e i) es k to) ∙ (λ i. filed t (a i) (b i) (d i))

pub returns : goal.returns
unfolding table_with
returns c =
    let b = c.requires in
    let l = c.loop-i in
    let g = l.invariant.going in
    let h = c.loop-i-test.false in
    let t = c.args.t.now in
    let e = l.invariant.table in
    let count : l.t.entry_count ≡ t.entry_count = ap (λ (y : T.Table). y.entry_count) e in
    let used : l.t.queue_used ≡ t.queue_used = ap (λ (y : T.Table). y.queue_used) e in
    record {
      queue_after = c.close_up.ensures.queue_after ∙ ap (λ m. write l.to (replicate (m - l.to) 0) l.queue) used ∙ end_queue b g h;
      table_after = made t l.t c.close_up.new.t _ _ l.k l.to _ _ c.close_up.ensures.table_after e
          (ap (λ m. sets l.t.entries l.k (replicate (m - l.k) zero_entry)) count ∙ end_entries b g h) (end_count b g h) (end_used b g h);
    }
