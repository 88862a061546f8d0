use Rattle.afdx_conform.proofs.BytesLemmas.{key-of-right, key-of-wrong, key-of-missing, seal-of-right, seal-of-wrong, seal-of-missing}
use Rattle.afdx_conform.proofs.checked_bytes.CheckedBytes.key.Goals as goal

pub returns-in-Right-clause-seal : goal.returns-in-Right-clause-seal
returns-in-Right-clause-seal c = rw (← c.self.view_is)
    (seal-of-right c.self.inside.seal c.self.inside.message.value.items
    c.in-Right.is c.self.invariant.0)

pub returns-in-Right-clause-key : goal.returns-in-Right-clause-key
returns-in-Right-clause-key c = rw (← c.self.view_is) (key-of-right c.self.inside.seal c.self.inside.message.value.items
    c.bytes_in-message.result.now c.in-Right.is c.bytes_in-message.ensures c.self.invariant.0)

pub returns-in-Wrong-clause-seal : goal.returns-in-Wrong-clause-seal
returns-in-Wrong-clause-seal c = rw (← c.self.view_is)
    (seal-of-wrong c.self.inside.seal c.self.inside.message.value.items
    c.in-Wrong.is c.self.invariant.0)

pub returns-in-Wrong-clause-key : goal.returns-in-Wrong-clause-key
returns-in-Wrong-clause-key c = rw (← c.self.view_is) (key-of-wrong c.self.inside.seal c.self.inside.message.value.items
    c.bytes_in-message.result.now c.in-Wrong.is c.bytes_in-message.ensures)

pub returns-in-Missing-clause-seal : goal.returns-in-Missing-clause-seal
returns-in-Missing-clause-seal c = rw (← c.self.view_is)
    (seal-of-missing c.self.inside.seal c.self.inside.message.value.items
    c.bytes_in-message.result.now c.key_of_unsealed.result.0 c.in-Missing.is c.bytes_in-message.ensures
    c.self.invariant.0 c.key_of_unsealed.ensures.seal)

pub returns-in-Missing-clause-key : goal.returns-in-Missing-clause-key
returns-in-Missing-clause-key c = rw (← c.self.view_is)
    (key-of-missing c.self.inside.seal c.self.inside.message.value.items
    c.bytes_in-message.result.now c.key_of_unsealed.result.1.now c.in-Missing.is c.bytes_in-message.ensures
    c.self.invariant.0 c.key_of_unsealed.ensures.key)
