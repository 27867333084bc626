-- What the compaction keeps is what the flush keeps (`kept_by`).
use Rattle.std.proofs.Common.{refl, ap, ◌∙◌, List}
use Rattle.channel.specs.State.{Entry}
use Rattle.passes.specs.Keep.{queue_with, table_with}
use Rattle.passes.proofs.PassLaws.{kept_by}
use Rattle.passes.proofs.keep_rest.Goals as goal

pub returns : goal.returns
returns c =
    let t = c.args.t.now in
    let q = c.args.queue.now in
    let k = c.compact in
    let f = kept_by c.args.c.now t.entries t.entry_count t.queue_used q c.requires _ refl in
    record {
      queue_after = k.ensures.queue_after ∙ ap (λ (ks : List Entry). queue_with ks t.queue_used q) f;
      table_after = k.ensures.table_after ∙ ap (λ (ks : List Entry). table_with ks t) f;
    }
