-- `turn::exact::multiply` meets its contract. Assumes nothing.
use borrow.Author.Rules.{rules}
use Rattle.turn.proofs.Products.{product_law}
use Rattle.turn.proofs.exact.multiply.Goals as goal

pub returns : goal.returns
returns c =
    product_law _ _ _ _ _ _ _ _ _ _ _ _ c.requires.small c.requires.small_2
    (search rules) (search rules) (search rules) (search rules) (search rules) (search rules) (search rules) (search rules) (search rules)
