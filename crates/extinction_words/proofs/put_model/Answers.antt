-- `extinction_words::put_model` meets its contract.
-- Assumes nothing.
use borrow.Author.Rules.{rules}
use Rattle.writing.proofs.Puts.{spelled}
use Rattle.extinction_words.proofs.Answers.{the_model}
use Rattle.extinction_words.proofs.put_model.Goals as goal

pub returns : goal.returns
returns c = spelled (the_model c.args.answer c.map_or.result (search rules)) (search rules)
