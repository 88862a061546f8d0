use Rattle.std.proofs.Common.{◌∷◌, List}
use Rattle.std.specs.Prelude.{ℕ, Option, Some, None, IfSome, IfNone, IfOk, OnErr, Result, Ok, Err}
use Rattle.std.specs.declared.alloc.AllocError.{AllocError}
use Rattle.afdx_cascade.specs.Cascade.{StandsFor, IsUntil, IsQuiet, IsUnchanged, GivesNext, GivesNone}
use Rattle.afdx_cascade.specs.Plans.{plan_of}
use Rattle.afdx_cascade.specs.SwitchEvents.{Plan, SwitchEvent}
use Rattle.afdx_cascade.specs.declared.cascade.Cascade.{Cascade}
use Rattle.afdx_cascade.specs.declared.told.Happened.{Happened}
use Rattle.afdx_cascade.proofs.CascadeLemmas.{stands-same, until-same}
use Rattle.afdx_test_parts.proofs.cascade.refused.take.Goals as goal

record Known (p : Plan) (new : Cascade) (until : ℕ)
    (r : Result (Option Happened) AllocError) : Type 0 where
  stands : (so_far : List SwitchEvent) × StandsFor p new so_far
  clock : IsUntil new until
  quiet : IfOk r (λ o. IfNone o (IsQuiet new until))

-- an event more, none, or nothing has changed
after : (p : Plan) (so_far : List SwitchEvent) (old new : Cascade) (until : ℕ)
    (r : Result (Option Happened) AllocError) → StandsFor p old so_far → IsUntil old until
    → IfOk r (λ o. IfSome o (GivesNext p new until so_far))
    → IfOk r (λ o. IfNone o (GivesNone p new until so_far)) → OnErr r (IsUnchanged old new)
    → Known p new until r
after p so_far old new until (Ok (Some h)) st by given none same =
    record { stands = (given.event ∷ so_far, given.stands); clock = given.clock; quiet = tt }
after p so_far old new until (Ok None) st by given none same =
    record { stands = (so_far, none.stands); clock = none.clock; quiet = none.quiet }
after p so_far old new until (Err e) st by given none same = record {
  stands = (so_far, stands-same p so_far old new st same);
  clock = until-same old new until by same;
  quiet = tt;
}

pub returns : goal.returns
returns c =
    let p = plan_of c.args.switches.now in
    let s = c.requires.stands in
    let known = after p s.0 c.args.cascade.now c.take.new.self c.args.until c.take.result s.1
    c.requires.clock (c.take.ensures.given p s.0 s.1) (c.take.ensures.none p s.0 s.1)
    c.take.ensures.refused in
    record { stands = known.stands; clock = known.clock; quiet = known.quiet }
