use Rattle.std.proofs.Common.{◌≡◌, ◌∷◌, ◌∙◌, List, ap, subst}
use Rattle.std.specs.Prelude.{ℕ, Some, IfOk, OnErr, Result, Ok, Err, slice_get}
use Rattle.std.specs.declared.alloc.AllocError.{AllocError}
use Rattle.afdx_switch.specs.declared.verdict.Verdict.{Verdict}
use Rattle.afdx_cascade.specs.Cascade.{StandsFor, IsUntil, IsQuiet, IsUnchanged, ArrivesNext}
use Rattle.afdx_cascade.specs.Plans.{plan_of}
use Rattle.afdx_cascade.specs.Runs.{Line, arriving}
use Rattle.afdx_cascade.specs.SwitchEvents.{Plan, SwitchEvent}
use Rattle.afdx_cascade.specs.Turning.{end_of}
use Rattle.afdx_cascade.specs.declared.cascade.Cascade.{Cascade}
use Rattle.afdx_cascade.proofs.CascadeLemmas.{stands-same, until-same}
use Rattle.afdx_test_parts.proofs.cascade.refused.arrive.Goals as goal

record Known (p : Plan) (new : Cascade) (time : ℕ) (r : Result Verdict AllocError) : Type 0 where
  stands : (so_far : List SwitchEvent) × StandsFor p new so_far
  clock : IsUntil new time
  quiet : OnErr r (IsQuiet new time)

-- the frame arrived, or nothing has changed
after : (p : Plan) (so_far : List SwitchEvent) (old new : Cascade) (line : Line)
    (r : Result Verdict AllocError) → StandsFor p old so_far → IsUntil old line.arrival.time
    → IsQuiet old line.arrival.time → IfOk r (ArrivesNext p new so_far line)
    → OnErr r (IsUnchanged old new) → Known p new line.arrival.time r
after p so_far old new line (Ok verdict) st by rests next same = record {
  stands = (arriving p so_far line.switch line.arrival ∷ so_far, next.stands);
  clock = next.clock;
  quiet = tt;
}
after p so_far old new line (Err e) st by rests next same = record {
  stands = (so_far, stands-same p so_far old new st same);
  clock = until-same old new line.arrival.time by same;
  quiet = record {
    networks = λ k n at. rests.networks k n
        (subst (λ ns. slice_get ns k ≡ Some n) same.networks at);
    transit = same.transit ∙ rests.transit;
  };
}

pub returns : goal.returns
returns c =
    let p = plan_of c.args.switches.now in
    let s = c.requires.stands in
    let known = after p s.0 c.args.cascade.now c.arrive.new.self _ c.arrive.result s.1
    c.requires.clock c.requires.quiet (c.arrive.ensures.next p s.0 s.1 (ap end_of c.requires.free))
    c.arrive.ensures.refused in
    record { stands = known.stands; clock = known.clock; quiet = known.quiet }
