use Rattle.connection.specs.Words.{bytes_of_word}
use Rattle.connection.proofs.words.bytes_of_word.Goals as goal

pub returns : goal.returns
unfolding bytes_of_word
returns c = c.to_le_bytes.ensures
