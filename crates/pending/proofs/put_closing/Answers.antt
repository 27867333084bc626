-- By its test.
use Rattle.pending.proofs.PlanLaws.{close-room, close-put, close-none, close-count, none-count}
use Rattle.pending.proofs.put_closing.Goals as goal

pub put_close-requires : goal.put_close-requires
put_close-requires c = close-room c.args.peer.0 c.args.at _ c.args.close c.if-close.true c.requires

pub returns-then-close : goal.returns-then-close
returns-then-close c =
    let a = c.args in
    record {
      staged_after = close-put a.peer.0 a.at a.close _ _ c.if-close.true c.put_close.ensures;
      value = close-count a.peer.0 a.at a.close c.if-close.true;
    }

pub returns-else-close : goal.returns-else-close
returns-else-close c =
    let a = c.args in
    record {
      staged_after = close-none a.peer.0 a.at a.close _ c.if-close.false;
      value = none-count a.peer.0 a.at a.close c.if-close.false;
    }
