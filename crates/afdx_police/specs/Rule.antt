-- The rule of a link: how its frames are filtered and policed.
use Rattle.std.specs.Prelude.{ℕ, ◌≤◌, IsTrue}
use Rattle.afdx_frame.specs.Lengths.{least_frame, greatest_frame}
pub use Rattle.afdx_frame.specs.Regulation.{is_bag}
use Rattle.afdx_frame.specs.Regulation.{Regulation, regulation_with}
use Rattle.afdx_frame.specs.Regulation.{jitter_from_system, jitter_from_any}
use Rattle.afdx_frame.specs.declared.link.Policing.{Policing}
use Rattle.afdx_frame.specs.Ports.{last_port}

-- the link, the one port where its frames come in, its gap in ms, its frames' least and greatest
-- length in bytes, its jitter in us
pub record Rule : Type 0 where
  pub vl : ℕ
  pub port : ℕ
  pub bag_ms : ℕ
  pub lmin : ℕ
  pub lmax : ℕ
  pub jitter_us : ℕ
  pub policing : Policing

-- in this order
abbrev pub rule_with : ℕ → ℕ → ℕ → ℕ → ℕ → ℕ → Policing → Rule
rule_with vl port bag_ms lmin lmax jitter_us policing =
    record {
      vl = vl;
      port = port;
      bag_ms = bag_ms;
      lmin = lmin;
      lmax = lmax;
      jitter_us = jitter_us;
      policing = policing;
    }

-- each value is in its range, with a jitter of at most so much by the gap
pub record IsRuleUpTo (greatest_jitter : ℕ → ℕ) (rule : Rule) : Type 0 where
  pub port_first : 1 ≤ rule.port
  pub port_last : rule.port ≤ last_port
  pub bag : IsTrue (is_bag rule.bag_ms)
  pub shortest : least_frame ≤ rule.lmin
  pub ordered : rule.lmin ≤ rule.lmax
  pub longest : rule.lmax ≤ greatest_frame
  pub jitter : rule.jitter_us ≤ greatest_jitter rule.bag_ms

-- of a link that a system sends to this switch
abbrev pub IsRule : Rule → Type 0
IsRule = IsRuleUpTo jitter_from_system

-- and of one that may come over a cable from another switch
abbrev pub IsRuleAfterCable : Rule → Type 0
IsRuleAfterCable = IsRuleUpTo jitter_from_any

-- how the link is regulated
abbrev pub regulation_of : Rule → Regulation
regulation_of rule = regulation_with rule.bag_ms rule.jitter_us rule.lmax
