-- That each step keeps the rule of the queue
pub mod RuleLemmas
-- What a feeder has in its hands
pub mod HandLemmas
