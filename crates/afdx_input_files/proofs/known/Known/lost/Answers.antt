use Rattle.std.proofs.Common.{arith, ◌≡◌, ◌≤◌, ◌∙◌, List, length, drop, [], sym, ap, ℕ}
use Rattle.std.proofs.lemmas.Grind.{common_steps}
use Rattle.afdx_input_files.specs.declared.interface.Interface.{Interface}
use Rattle.afdx_input_files.specs.Recordings.{lost_by, lost_at}
use Rattle.afdx_input_files.proofs.known.Known.lost.Goals as goal

none_left : (xs : List Interface) (n : ℕ) → length xs ≤ n → drop n xs ≡ []
none_left xs n h = grind (arith, common_steps)

pub returns : goal.returns
unfolding lost_by
returns c =
    let all : length c.args.self.now.interfaces.items ≤ c.loop-interface.interface-index =
    rw (← c.deref-interface-items.ensures.value) c.loop-interface-test.false in
    sym (ap (lost_at c.loop-interface.lost) (none_left c.args.self.now.interfaces.items
    c.loop-interface.interface-index all))
    ∙ c.loop-interface.invariant
