use Rattle.std.proofs.Common.{◌≤◌, length, [], ◌∷◌, ◌∙◌, refl, arith, length-append}
use Rattle.std.proofs.lemmas.Grind.{common_steps}
use Rattle.std.proofs.lemmas.List.{take-append-le}
use Rattle.std.proofs.Math.Seq.{take-length}
use Rattle.afdx_config.specs.Rows.{system_row}
use Rattle.afdx_config.proofs.AmongOthersLemmas.{ends_alone}
use Rattle.afdx_config.proofs.GrownLemmas.{ends_push, ends_room}
use Rattle.afdx_config.proofs.read_neighbours.neighbours_of.Goals as goal

pub loop-table-init : goal.loop-table-init
loop-table-init c = record {
  so_far = refl;
  count = omega (arith, c.len-own.ensures.len);
  systems = rw c.len-own.ensures.len (take-length c.args.systems);
  lawful = ends_alone c.args.profile c.len-own.result c.args.systems c.len-own.ensures.len c.requires.systems;
}

pub push-requires-clause-room : goal.push-requires-clause-room
push-requires-clause-room c =
    ends_room c.args.profile c.len-own.result c.loop-table.ends (system_row c.in_ok-neighbour.neighbour)
    c.loop-table.invariant.lawful (omega (arith, c.loop-table.invariant.count)) c.in_ok-neighbour.ensures.lawful
    c.in_ok-neighbour.ensures.name c.in_ok-neighbour.ensures.port

pub loop-table-preserved : goal.loop-table-preserved
loop-table-preserved c =
    let ends = c.loop-table.ends in
    let new = system_row c.in_ok-neighbour.neighbour in
    let behind : c.len-own.result ≤ length ends = omega (arith, c.loop-table.invariant.count) in
    record {
      so_far = grind (arith, common_steps);
      count = rw c.in_ok-push.ensures (omega (arith, c.loop-table.invariant.count, length-append ends (new ∷ [])));
      systems = rw c.in_ok-push.ensures
          (take-append-le c.len-own.result ends (new ∷ []) behind
          ∙ c.loop-table.invariant.systems);
      lawful = rw c.in_ok-push.ensures
          (ends_push c.args.profile c.len-own.result ends new c.loop-table.invariant.lawful
          behind c.in_ok-neighbour.ensures.lawful c.in_ok-neighbour.ensures.name c.in_ok-neighbour.ensures.port
          (omega (arith, c.loop-table.invariant.count, c.loop-table-test.true, c.requires.few))
          c.in_ok-neighbour.ensures.number);
    }
