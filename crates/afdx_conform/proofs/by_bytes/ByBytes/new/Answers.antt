use Rattle.afdx_conform.specs.KnownBytes.{key_of, seal_of}
use Rattle.afdx_conform.proofs.ByBytesLemmas.{none-so}
use Rattle.afdx_conform.proofs.by_bytes.ByBytes.new.Goals as goal

pub returns : goal.returns
returns c bytes =
    none-so (record { right = c.new-right.result; wrong = c.new-wrong.result; other = c.new-other.result })
    c.new-right.ensures
    c.new-wrong.ensures c.new-other.ensures (seal_of bytes) (key_of bytes)
