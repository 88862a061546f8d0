use Rattle.std.proofs.Common.{rules, ap, ◌∙◌, sym, List, String, Global, map, string_bytes}
use Rattle.afdx_input_sources.specs.Placing.{place_in}
use Rattle.afdx_input_sources.proofs.PlacingLemmas.{none-if, put-all, put-one, put-unsaid}
use Rattle.afdx_input_sources.proofs.places.Interfaces.place_in.Goals.{in-Some+in-Some-place_in, in_default}
use Rattle.afdx_input_sources.proofs.places.Interfaces.place_in.Goals as goal

pub loop-k-preserved : goal.loop-k-preserved
loop-k-preserved c =
    let d = c.args.described.now in
    let old = c.args.self.now in
    let i = c.loop-k.invariant in
    elim c.match-place.branch [
      | in-Some+in-Some-place_in w ↦
          rw w.self-is (put-one d old c.loop-k.k c.loop-k.self w.put.new.self _ _ i
          (sym c.place.ensures ∙ w.in-Some.is)
          (ap (λ (names : List (String Global)). place_in d (map string_bytes names) w.in-Some.place)
          (sym w.as_slice.ensures.value) ∙ sym w.place_in.ensures ∙ w.in-Some-place_in.is) w.put.ensures.place
          w.put.ensures.names)
      | in_default w ↦
          rw w.self-is (put-unsaid d old c.loop-k.k c.loop-k.self i
          (sym c.place.ensures ∙ none-if c.place.result w.in_default.not-Some))
    ]

pub returns-clause-placed : goal.returns-clause-placed
returns-clause-placed c e =
    put-all c.args.described.now c.args.self.now c.loop-k.k c.loop-k.self (search rules) c.loop-k.invariant
    c.args.self.now.room
