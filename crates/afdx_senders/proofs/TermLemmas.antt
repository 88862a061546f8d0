-- What the source of a link of the tables is judged by.
use Rattle.std.proofs.Common.{◌≡◌, ℕ, true, false, ◌&&◌, sym, ap, ◌∙◌}
use Rattle.std.specs.Prelude.{slice_get, Some}
use Rattle.std.specs.Option.{option_map_or}
use Rattle.afdx_config.specs.Rows.{LinkRow, Rows, SystemRow}
use Rattle.afdx_frame.specs.declared.link.Side.TheVariants.{A, B}
use Rattle.afdx_law_bounds.specs.Tables.{port_of, rule_of}
use Rattle.afdx_police.specs.Rule.{rule_with}
use Rattle.afdx_senders.specs.Sites.{Recorded}
use Rattle.afdx_senders.specs.Terms.{id_of, is_paired}

pub port_is : (t : Rows) (system : ℕ) (s : SystemRow) → slice_get t.systems system ≡ Some s → port_of t system ≡ s.port
unfolding port_of
port_is t system s at = ap (λ o. option_map_or (λ r. r.port) o 0) at

pub id_is : (t : Rows) (system : ℕ) (s : SystemRow) → slice_get t.systems system ≡ Some s → id_of t system ≡ s.id
unfolding id_of
id_is t system s at = ap (λ o. option_map_or (λ r. r.id) o 0) at

pub rule_same : (t : Rows) (l : LinkRow) (s : SystemRow) → slice_get t.systems l.from ≡ Some s
    → rule_with l.vl s.port l.bag_ms l.lmin l.lmax l.jitter_us l.policing ≡ rule_of t l
unfolding rule_of port_of
rule_same t l s at =
    ap (λ o. rule_with l.vl (option_map_or (λ r. r.port) o 0) l.bag_ms l.lmin l.lmax l.jitter_us l.policing) (sym at)

module _ (t : Rows) (recorded : Recorded) (l : LinkRow) (s : SystemRow) (at : slice_get t.systems l.from ≡ Some s) where
  pub paired_if : recorded A s.port ≡ true → recorded B s.port ≡ is_paired t recorded l
  paired_if known =
      sym (ap (λ p. recorded A p && recorded B p) (port_is t l.from s at) ∙ ap (λ b. b && recorded B s.port) known)

  pub unpaired_if : recorded A s.port ≡ false → false ≡ is_paired t recorded l
  unpaired_if unknown =
      sym (ap (λ p. recorded A p && recorded B p) (port_is t l.from s at) ∙ ap (λ b. b && recorded B s.port) unknown)
