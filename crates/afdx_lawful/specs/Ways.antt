-- What the code keeps of the ways of a source's link.
use Rattle.std.specs.Prelude.{◌≡◌, ℕ, None, map}
use Rattle.afdx_lawful.specs.Limits.{AreLimits}
use Rattle.afdx_lawful.specs.Sources.{Source, Way}
use Rattle.afdx_lawful.specs.declared.ways.Apart.{Apart}
use Rattle.afdx_lawful.specs.declared.ways.SourceTerms.{SourceTerms}
use Rattle.afdx_lawful.specs.declared.ways.SystemWay.{SystemWay}

abbrev pub is_way : ℕ → ℕ → ℕ → Way
is_way skew latency byte_ns = record { skew = skew; latency = latency; byte_ns = byte_ns }

abbrev pub way_of : SystemWay → Way
way_of way = is_way way.skew way.latency way.byte_ns

-- it is what is known of the source's copies: the ways, where no distance is given
pub record IsApart (s : Source) (apart : Apart) : Type 0 where
  pub given : s.given ≡ apart.given
  pub ways : s.given ≡ None → s.ways ≡ map way_of apart.ways.items

-- what is kept is the source's
pub record AreTerms (s : Source) (terms : SourceTerms) : Type 0 where
  pub limits : AreLimits s terms.limits
  pub apart : IsApart s terms.apart
  pub start : s.by.start ≡ terms.start
  pub paired : s.is_paired ≡ terms.is_paired
