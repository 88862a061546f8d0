use Rattle.std.proofs.Common.{rules, ap, ◌∙◌, ◌+◌, ◌<◌, ℕ, List, drop, get_or}
use Rattle.byteorder.specs.Endian.{big_number, little_number}
use Rattle.std.proofs.lemmas.List.{get_or-drop}
use Rattle.afdx_input_files.specs.declared.order.Order.TheVariants.{LowFirst, HighFirst}
use Rattle.afdx_input_files.specs.Orders.{number_in}
use Rattle.afdx_input_files.proofs.OrderLemmas.{rest_from, number_in-lt}
use Rattle.afdx_input_files.proofs.order.Order.number.Goals as goal

bytes_behind : (n : ℕ) (xs : List ℕ) → ((k : ℕ) → get_or xs k 0 < 256) → (k : ℕ) → get_or (drop n xs) k 0 < 256
bytes_behind n xs h k = rw (get_or-drop n xs k 0) (h (n + k))

pub returns-in-LowFirst-clause-value : goal.returns-in-LowFirst-clause-value
unfolding number_in
returns-in-LowFirst-clause-value c = rw c.in-LowFirst.is (c.read_uint.ensures
    ∙ ap (λ (bytes : List ℕ). little_number c.args.size bytes) (rest_from c.args.place c.args.bytes.now))

pub returns-in-HighFirst-clause-value : goal.returns-in-HighFirst-clause-value
unfolding number_in
returns-in-HighFirst-clause-value c = rw c.in-HighFirst.is (c.read_uint-in-HighFirst.ensures
    ∙ ap (λ (bytes : List ℕ). big_number c.args.size bytes) (rest_from c.args.place c.args.bytes.now))

pub returns-in-LowFirst-clause-within : goal.returns-in-LowFirst-clause-within
unfolding number_in
returns-in-LowFirst-clause-within c =
    let same = c.read_uint.ensures
    ∙ ap (λ (bytes : List ℕ). little_number c.args.size bytes) (rest_from c.args.place c.args.bytes.now) in
    rw same (number_in-lt LowFirst c.args.size (drop c.args.place c.args.bytes.now)
    (bytes_behind c.args.place c.args.bytes.now (λ k. let fits = c.type_inv.bytes k in search rules)))

pub returns-in-HighFirst-clause-within : goal.returns-in-HighFirst-clause-within
unfolding number_in
returns-in-HighFirst-clause-within c =
    let same = c.read_uint-in-HighFirst.ensures
    ∙ ap (λ (bytes : List ℕ). big_number c.args.size bytes) (rest_from c.args.place c.args.bytes.now) in
    rw same (number_in-lt HighFirst c.args.size (drop c.args.place c.args.bytes.now)
    (bytes_behind c.args.place c.args.bytes.now (λ k. let fits = c.type_inv.bytes k in search rules)))
