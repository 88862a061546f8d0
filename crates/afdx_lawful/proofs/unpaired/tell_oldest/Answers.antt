use Rattle.std.proofs.Common.{ap, refl, subst, ◌+◌, ℕ}
use Rattle.afdx_lawful.specs.Courses.{AreHeld, oldest}
use Rattle.afdx_lawful.specs.Rings.{all_as, waiting_as}
use Rattle.afdx_lawful.proofs.StandLemmas.{told_stands}
use Rattle.afdx_lawful.proofs.unpaired.tell_oldest.Goals as goal

pub returns-clause-told : goal.returns-clause-told
returns-clause-told c s c' are stand tally =
    let side = c.args.side in
    let y = waiting_as side c.in-Some.waits in
    let rest = ap (all_as side) c.in-Some.ensures in (
      y,
      ap oldest rest,
      λ known.
          let cut = c.is_cut-is_cut.ensures s side c'.came are stand.there.last
          (subst (AreHeld s c'.came) rest stand.here.held).0 known in
          record {
            side_is = refl;
            is = record {
              line = refl;
              side = refl;
              moment = ap (λ (n : ℕ). c.in-Some.waits.time + n) are.limits.hold;
              is_cut = cut;
            };
            sides = told_stands s c' y side _ _ _ stand rest refl refl;
            tallied = c.tell.ensures s c' y cut refl tally;
          },
    )
