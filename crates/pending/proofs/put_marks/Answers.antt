-- By its test.
use Rattle.std.proofs.Common.{ap, ◌∙◌, length, arith}
use Rattle.octets.proofs.Laws.{length-write}
use Rattle.pending.proofs.PlanLaws.{eof-room, eof-put, eof-none, eof-count, no_eof-count}
use Rattle.pending.proofs.put_marks.Goals as goal

pub put_eof-requires : goal.put_eof-requires
put_eof-requires c =
    (eof-room c.args.peer.0 c.args.at _ c.args.eof c.args.close c.if-eof.true c.requires).0

pub put_closing-requires : goal.put_closing-requires
put_closing-requires c =
    omega (arith, (eof-room c.args.peer.0 c.args.at _ c.args.eof c.args.close c.if-eof.true c.requires).1, ap length c.put_eof.ensures ∙ length-write _ _ _)

pub returns-then-eof : goal.returns-then-eof
returns-then-eof c =
    let a = c.args in
    record {
      staged_after = eof-put a.peer.0 a.at a.eof a.close _ _ _ c.if-eof.true c.put_eof.ensures c.put_closing.ensures.staged_after;
      value = eof-count a.peer.0 a.at _ a.eof a.close c.if-eof.true c.put_closing.ensures.value;
    }

pub returns-else-eof : goal.returns-else-eof
returns-else-eof c =
    let a = c.args in
    record {
      staged_after = eof-none a.peer.0 a.at a.eof a.close _ _ c.if-eof.false c.put_closing-else-eof.ensures.staged_after;
      value = no_eof-count a.peer.0 a.at _ a.eof a.close c.if-eof.false c.put_closing-else-eof.ensures.value;
    }
