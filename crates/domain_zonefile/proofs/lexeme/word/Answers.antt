use Rattle.domain_zonefile.proofs.LexemeLemmas.{word_run}
use Rattle.domain_zonefile.proofs.lexeme.word.Goals as goal

pub word-init : goal.word-init
word-init c = word_run c.args.text.now c.ordinary_len-len.result c.ordinary_len-len.ensures.within c.ordinary_len-len.ensures.ordinary
