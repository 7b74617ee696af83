-- A list that was found to rise does.
use Rattle.feed.proofs.list.ListFeedFeed.reading.Goals as goal

pub by_halves-requires-clause-rises : goal.by_halves-requires-clause-rises
by_halves-requires-clause-rises c = c.args.self.now.order c.if-self.true
