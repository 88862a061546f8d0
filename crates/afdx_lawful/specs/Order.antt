-- In which order frames that waited in vain are told.
use Rattle.std.specs.Prelude.{◌≡◌, ◌≤◌, Some}
use Rattle.afdx_lawful.specs.Courses.{Course, IsCourse, next_told, told_too}
use Rattle.afdx_lawful.specs.Partners.{Waiting}
use Rattle.afdx_lawful.specs.Sources.{Source}

-- the next one that is told came no sooner than the one before it, so its moment is no sooner
abbrev pub ToldInOrder : Type 0
ToldInOrder =
    (s : Source) (c : Course) (y z : Waiting) →
    IsCourse s c →
    next_told s c ≡ Some y →
    next_told s (told_too s c y) ≡ Some z →
    y.frame.time ≤ z.frame.time
