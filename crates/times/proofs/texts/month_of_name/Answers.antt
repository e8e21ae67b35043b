-- `times::texts::month_of_name` meets its contract.
-- Assumes nothing.
use borrow.Author.Rules.{rules}
use Rattle.std.proofs.Common.{tests}
use Rattle.layout.specs.Bytes.{byte_at}
use Rattle.layout.specs.Search.{find}
use Rattle.times.specs.Times.{month_names, month_name}
use Rattle.times.specs.Formed.{name_number, is_numbered, month_numbered}
use Rattle.times.proofs.texts.month_of_name.Goals as goal

pub returns-in_default : goal.returns-in_default
unfolding month_numbered is_numbered name_number month_name month_names byte_at find
returns-in_default c = search (tests, rules)
