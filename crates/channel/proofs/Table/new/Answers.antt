-- `channel::Table::new` meets its contract: its arrays repeat what the two functions ensure.
use Rattle.channel.specs.Raw.{empty_table}
use Rattle.channel.proofs.Table.new.Goals as goal

pub returns : goal.returns
unfolding empty_table
returns c = rw (c.zero_record.ensures, c.zero_entry.ensures)
