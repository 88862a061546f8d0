use Rattle.afdx_conform.proofs.checked_bytes.CheckedBytes.frame.Goals as goal

pub invariant_of-result : goal.invariant_of-result
invariant_of-result c = record {
  known = rw c.bytes_in.ensures c.self.invariant.0;
  fits = rw c.bytes_in.ensures c.self.invariant.1;
}
