use Rattle.std.proofs.Common.{ap, ◌∙◌, ℕ, List}
use Rattle.byteorder.specs.Endian.{big_number, little_number}
use Rattle.afdx_input_files.specs.Orders.{number_in}
use Rattle.afdx_input_files.proofs.OrderLemmas.{rest_from}
use Rattle.afdx_input_files.proofs.order.Order.half.Goals as goal

pub returns-in-LowFirst : goal.returns-in-LowFirst
unfolding number_in
returns-in-LowFirst c = rw c.in-LowFirst.is (c.read_u16.ensures
    ∙ ap (λ (bytes : List ℕ). little_number 2 bytes) (rest_from c.args.place c.args.bytes.now))

pub returns-in-HighFirst : goal.returns-in-HighFirst
unfolding number_in
returns-in-HighFirst c = rw c.in-HighFirst.is (c.read_u16-in-HighFirst.ensures
    ∙ ap (λ (bytes : List ℕ). big_number 2 bytes) (rest_from c.args.place c.args.bytes.now))
