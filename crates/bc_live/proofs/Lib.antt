-- Words that are numbers, as `clap` reads them
pub mod WordLemmas
-- Notices that are numbered from 0 on
pub mod NoticeLemmas
-- A run that begins with no hint taken
pub mod FedLemmas
-- What the words give, and what was found
pub mod Asking
