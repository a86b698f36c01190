-- `text::Stream::feed` meets its contract: each turn takes one step more. Assumes nothing.
use Rattle.text.proofs.Feeding.{taken_none, turn}
use Rattle.text.proofs.Stream.feed.Goals as goal

pub loop-fed-init : goal.loop-fed-init
loop-fed-init c =
    taken_none c.args.self.now c.args.part.now c.args.out.now

pub loop-fed-preserved : goal.loop-fed-preserved
loop-fed-preserved c =
    turn c.loop-fed.invariant c.step-more.ensures
