-- What the code keeps of a source.
use Rattle.std.specs.Prelude.{◌≡◌, ℕ, ◌+◌, Bool, nat_le, length, filter}
use Rattle.afdx_frame.specs.declared.link.Side.{Side}
use Rattle.afdx_conform.specs.LeewayOf.{leeway_of}
use Rattle.afdx_conform.specs.declared.leeway.Leeway.{Leeway}
use Rattle.afdx_police.specs.RuleOf.{rule_of}
use Rattle.afdx_police.specs.declared.rule.LinkRule.{LinkRule}
use Rattle.afdx_lawful.specs.Courses.{Course, IsCourse, waited_on}
use Rattle.afdx_lawful.specs.Flaws.{whole_of}
use Rattle.afdx_lawful.specs.Sides.{StandBoth, held_by}
use Rattle.afdx_lawful.specs.Sources.{Source, hold, on_side}
use Rattle.afdx_lawful.specs.Tallies.{IsTally}
use Rattle.afdx_lawful.specs.Ways.{AreTerms, IsApart}
use Rattle.afdx_lawful.specs.declared.sender.JudgedSource.{JudgedSource}
use Rattle.afdx_lawful.specs.declared.ways.Apart.{Apart}

-- it is a link of this rule from this system, where so much may be off, copies are sent so far
-- apart, and both networks are seen, or one
pub record IsOf (s : Source) (rule : LinkRule) (system : ℕ) (by : Leeway) (apart : Apart)
    (is_paired : Bool) : Type 0 where
  pub of_rule : s.rule ≡ rule_of rule
  pub from : s.system ≡ system
  pub leeway : s.by ≡ leeway_of by
  pub copies : IsApart s apart
  pub sides : s.is_paired ≡ is_paired

-- this is what came of it, and what was told
pub record StandsFor (s : Source) (c : Course) (sender : JudgedSource) : Type 0 where
  pub rule : s.rule ≡ rule_of sender.rule
  pub system : s.system ≡ sender.system
  pub terms : AreTerms s sender.terms
  pub sides : StandBoth s c.came (waited_on c) sender.sides
  pub tally : IsTally s c sender.tally
  pub course : IsCourse s c

-- how many frames it holds
abbrev pub held_in : JudgedSource → ℕ
held_in sender = held_by sender.sides

-- how many frames of a side aren't damaged, and came within the hold before this time, or later
abbrev pub recent_on : Source → Course → ℕ → Side → ℕ
recent_on s c time side =
    length (filter (λ x. nat_le time (x.time + hold s)) (on_side side (whole_of c.came)))
