use Rattle.words.proofs.Backward.{numbers_read_back, lines_hold_words, words_read_back}
use Rattle.words.proofs.laws.reads_back.Goals as goal

pub returns : goal.returns
returns c = record { laws = (numbers_read_back, lines_hold_words, words_read_back) }
