-- Pages that are taken and given up
pub mod TakenLemmas
-- Notices of a list, which are numbered from 0
pub mod NumberLemmas
-- Claims of notices, one after another
pub mod ClaimLemmas
-- Answers, one after another
pub mod ServeLemmas
-- Pages that leave a space, as answers name them
pub mod LeavingLemmas
-- Pagers in the order of their numbers, and their answers in the order of the notices
pub mod PlaceLemmas
-- Once the table is closed each notice of a turn is one pager's
pub mod AnsweredLemmas
-- Answers where nobody works beside
pub mod AloneLemmas
-- What a pager's answers leave as it was, and which pages they name
pub mod PagerLemmas
-- What a pager's log says of a notice that it declined
pub mod DeclinedLemmas
-- What the answers of pagers that share notices are together
pub mod ToldLemmas
-- The seats of a turn's pagers
pub mod SeatedLemmas
-- Pages that are Home once a table is closed
pub mod HomeLemmas
-- The answers of a live pager
pub mod FeedingLemmas
