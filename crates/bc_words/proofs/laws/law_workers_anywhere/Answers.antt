use Rattle.bc_words.proofs.Order.{one_word_anywhere, two_words_anywhere}
use Rattle.bc_words.proofs.laws.law_workers_anywhere.Goals as goal

pub returns-clause-two_words : goal.returns-clause-two_words
returns-clause-two_words c = two_words_anywhere

pub returns-clause-one_word : goal.returns-clause-one_word
returns-clause-one_word c = one_word_anywhere
