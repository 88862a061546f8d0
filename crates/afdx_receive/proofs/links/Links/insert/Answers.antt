use Rattle.std.proofs.Common.{◌≡◌, ◌∙◌, refl, None}
use Rattle.afdx_receive.specs.Kept.{Kept, memory_at}
use Rattle.afdx_receive.proofs.KeptLemmas.{unplaced_kept, added_kept, added_updates}
use Rattle.afdx_receive.proofs.links.Links.insert.Goals as goal

pub invariant_of-self-in_err-insert : goal.invariant_of-self-in_err-insert
invariant_of-self-in_err-insert c =
    let kept : Kept = record { places = c.self.inside.places; memories = c.self.inside.memories.items } in
    rw c.in_ok-reserve.ensures.items
    (unplaced_kept kept c.self.invariant c.insert.new.self c.in_err-insert.ensures.room c.in_err-insert.ensures.same)

pub invariant_of-self-2 : goal.invariant_of-self-2
invariant_of-self-2 c =
    let kept : Kept = record { places = c.self.inside.places; memories = c.self.inside.memories.items } in
    let absent : memory_at kept c.args.memory.vl.0 ≡ None = rw (← c.self.view_is) at c.requires.absent in
    added_kept kept c.self.invariant c.args.memory.vl.0 c.len-place.result c.args.memory refl absent
    c.insert.new.self c.insert.ensures.count (c.len-place.ensures ∙ c.self.inside.memories.ok.0)
    c.in_ok-insert.ensures.updates c.push_reserved.new.self.items
    (rw c.in_ok-reserve.ensures.items at c.push_reserved.ensures.items)

pub returns-clause-updates : goal.returns-clause-updates
returns-clause-updates c q =
    let kept : Kept = record { places = c.self.inside.places; memories = c.self.inside.memories.items } in
    let absent : memory_at kept c.args.memory.vl.0 ≡ None = rw (← c.self.view_is) at c.requires.absent in
    rw (← c.self.view_is) (added_updates kept c.self.invariant c.args.memory.vl.0 c.len-place.result c.args.memory
    refl absent c.insert.new.self c.insert.ensures.count (c.len-place.ensures ∙ c.self.inside.memories.ok.0)
    c.in_ok-insert.ensures.updates c.push_reserved.new.self.items
    (rw c.in_ok-reserve.ensures.items at c.push_reserved.ensures.items) q)
