-- At each return the sum says on which side of 4,294,967,295 the window comes to stand.
use Rattle.std.proofs.Common.{◌≡◌, rules, ◌+◌, ◌≤◌, ◌<◌, arith}
use borrow.Author.Tests.{lt-leb, le-leb}
use Rattle.channel.specs.State.{most_window}
use Rattle.channel.specs.Change as G
use Rattle.credit.specs.Credit as C
use Rattle.credit.proofs.add_credit.Goals as goal

pub returns-in_default : goal.returns-in_default
unfolding C.credited
returns-in_default c =
    let l : most_window < c.args.r.recipient_window_size + c.args.add = omega arith in
    rw (lt-leb _ _ l)

pub returns : goal.returns
unfolding C.credited C.credit_record G.with_peer_window
returns c =
    let w : c.in-Some.window ≡ c.args.r.recipient_window_size + c.args.add = search rules in
    let l : c.args.r.recipient_window_size + c.args.add ≤ most_window = omega (arith, w) in
    rw (le-leb _ _ l, w)
