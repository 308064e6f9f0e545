-- `read_i` meets its contract: it passes on what `read_u` refuses, and gives its number a sign.
-- Assumes nothing.
use native.Mathlib.Omega.{arith}
use borrow.Author.Rules.{rules}
use Rattle.bits.proofs.Answers.{got_lt, signed_got, signed_cut}
use Rattle.bits.proofs.read_i.Goals as goal

pub returns-in_err-unsigned : goal.returns-in_err-unsigned
returns-in_err-unsigned c = search (signed_cut, rules)

pub signed_of-requires : goal.signed_of-requires
signed_of-requires c = (omega arith, omega arith, search (got_lt, rules))

pub returns : goal.returns
returns c = search (signed_got, rules)
