-- `lizardwire::next_round` meets its contract. Assumes nothing.
use borrow.Author.Rules.{rules}
use Rattle.lizardwire.proofs.ProgramRounds.{round_fits, round_is, round_held, round_out}
use Rattle.lizardwire.proofs.next_round.Goals as goal

pub overflow_add-result : goal.overflow_add-result
overflow_add-result c =
    let a = c.args in
    let p = c.requires in
    let m = round_fits a.block.now a.at a.held.now a.count a.out.now _ c.feed-fed.ensures.told p in
    search rules

pub returns : goal.returns
returns c =
    let a = c.args in
    record {
      told = round_is a.block.now a.at a.held.now a.count a.out.now _ c.feed-fed.ensures.told;
      held = round_held a.block.now a.at a.held.now a.count a.out.now _ c.feed-fed.ensures.held;
      written = round_out a.block.now a.at a.held.now a.count a.out.now _ c.feed-fed.ensures.written;
    }
