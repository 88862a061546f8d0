-- A frame that comes next.
use Rattle.std.proofs.Common.{◌≤◌}
use Rattle.afdx_lawful.specs.Accepted.{ComeUpTo}
use Rattle.afdx_lawful.specs.Courses.{Course, NotBefore, next_told, waited_on}
use Rattle.afdx_lawful.specs.Senders.{StandsFor}
use Rattle.afdx_lawful.specs.Sides.{AreNext}
use Rattle.afdx_lawful.specs.Sources.{Came, Source}
use Rattle.afdx_lawful.specs.declared.sender.JudgedSource.{JudgedSource}
use Rattle.afdx_lawful.proofs.CutLemmas.{up_later}
use Rattle.afdx_lawful.proofs.PastLemmas.{past_later}
use Rattle.afdx_lawful.proofs.StandLemmas.{open_a, open_b}

module _ (s : Source) (c : Course) (sender : JudgedSource) (h : StandsFor s c sender) (x : Came)
    (up : c.reached ≤ x.time) where
  pub come_up : ComeUpTo x.time c.came
  come_up = up_later c.reached x.time c.came up h.course.by_time

  pub ready : NotBefore s x.time (next_told s c) → AreNext s x (waited_on c) sender.sides
  ready not = record {
    gone = λ side. past_later s c.reached x.time (waited_on c side) up (h.course.past side);
    here = open_a s c sender.sides h.sides c.reached h.course.by_time x.time not;
    there = open_b s c sender.sides h.sides c.reached h.course.by_time x.time not;
  }
