-- Why a port doesn't take a message, in a word.
use Rattle.std.specs.Prelude.{ℕ, List, codes}
use Rattle.afdx_comport.specs.declared.fault.PutFault.{PutFault}
use Rattle.afdx_comport.specs.declared.fault.PutFault.TheVariants.{Full, Memory}

abbrev pub put_word : PutFault → List ℕ
put_word Full = codes "full"
put_word Memory = codes "memory"
