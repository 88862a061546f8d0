-- A link that differs from a lawful one in little is lawful, and the one that examples change is.
-- So a lemma about such a link says what it changes alone.
use Rattle.std.proofs.Common.{◌≡◌, ℕ, ◌<◌, ◌≤◌, true, [], ◌∷◌, refl, arith}
use Rattle.afdx_frame.specs.Regulation.{greatest_delay, jitter_from_system}
use Rattle.afdx_frame.specs.declared.link.Policing.{Policing}
use Rattle.afdx_config.specs.Lawful.{IsLinkUpTo, IsWithin}
use Rattle.afdx_config.specs.Reading.{are_apart}
use Rattle.afdx_config.specs.Rows.{LinkRow, example_link}

module _ (greatest other : ℕ → ℕ) (systems : ℕ) (l : LinkRow) (is : IsLinkUpTo greatest systems l) where
  -- as it is, by another bound of the jitter
  pub up-to : l.jitter_us ≤ other l.bag_ms → IsLinkUpTo other systems l
  up-to late = record {
    vl = is.vl;
    from = is.from;
    to = is.to;
    to_count = is.to_count;
    apart = is.apart;
    bag_ms = is.bag_ms;
    lmin = is.lmin;
    lmax = is.lmax;
    jitter_us = (omega arith, late);
    latency_us = is.latency_us;
    skew_us = is.skew_us;
    subs = is.subs;
  }

  -- with other times and by another policing
  pub with-others : (policing : Policing) (jitter latency skew : ℕ) → jitter ≤ other l.bag_ms
      → IsWithin 1 greatest_delay latency → IsWithin 1 greatest_delay skew
      → IsLinkUpTo other systems
      (record l { jitter_us = jitter; policing = policing; latency_us = latency; skew_us = skew })
  with-others policing jitter latency skew late within fast = record {
    vl = is.vl;
    from = is.from;
    to = is.to;
    to_count = is.to_count;
    apart = is.apart;
    bag_ms = is.bag_ms;
    lmin = is.lmin;
    lmax = is.lmax;
    jitter_us = (omega arith, late);
    latency_us = within;
    skew_us = fast;
    subs = is.subs;
  }

-- the link of examples, between any two of the systems
pub example-lawful : (systems from place : ℕ) → from < systems → place < systems → are_apart from (place ∷ []) ≡ true
    → IsLinkUpTo jitter_from_system systems (record example_link { from = from; to = place ∷ [] })
example-lawful systems from place sends gets apart = record {
  vl = (omega arith, omega arith);
  from = sends;
  to = (gets, tt);
  to_count = (omega arith, omega arith);
  apart = apart;
  bag_ms = refl;
  lmin = (omega arith, omega arith);
  lmax = (omega arith, omega arith);
  jitter_us = (omega arith, omega arith);
  latency_us = (omega arith, omega arith);
  skew_us = (omega arith, omega arith);
  subs = (omega arith, omega arith);
}
