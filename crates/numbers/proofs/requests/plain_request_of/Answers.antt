-- `numbers::requests::plain_request_of` meets its contract: the literal 0.0 is the number 0.
use lib.Ieee.{of_bits, of_int}
use Rattle.numbers.proofs.requests.plain_request_of.Goals as goal

pub returns : goal.returns
unfolding of_bits of_int
returns c = c.request_of.ensures
