-- Where the frames of a link leave.
use Rattle.std.proofs.Common.{◌≡◌, ◌<◌, ℕ, true, false, Some, None, length, get_or, subst, sym, ap, ◌∙◌}
use Rattle.std.specs.Prelude.{slice_get, option_and_then, if◌then◌else◌}
use Rattle.std.specs.Option.{option_map_or}
use Rattle.afdx_law_bounds.specs.Tables.{byte_ns_at, goes_to, port_of, rule_of}
use Rattle.afdx_law_bounds.proofs.TableLemmas.{port-of-system}
use Rattle.afdx_config.specs.Admission.{byte_ns}
use Rattle.afdx_config.specs.Lawful.{IsLawfulSwitch}
use Rattle.afdx_police.specs.Rule.{rule_with}
use Rattle.afdx_command_conform.specs.Tapped.{link_to}
use Rattle.afdx_command_conform.proofs.KeyLemmas.{to-link}
use Rattle.std.proofs.lemmas.List.{get_or-map, length-map}
use Rattle.std.proofs.lemmas.List.Elements.{All-from_recursion}
use Rattle.afdx_config.specs.Lawful.{IsLinkUpTo, jitter_from_any}
use Rattle.afdx_config.specs.Rows.{LinkRow, Rows, SystemRow, is_to, link_row}
use Rattle.afdx_config.specs.declared.rows.Link.{Link}
use Rattle.afdx_config.specs.declared.rows.SystemId.{SystemId}

-- that to which a link goes is one of the systems
pub receiver-known : (t : Rows) (l : Link) (rank : ℕ) (system : SystemId)
    → IsLinkUpTo jitter_from_any (length t.systems) (link_row l) → rank < length (link_row l).to
    → system ≡ get_or l.to.items rank system → system.0 < length t.systems
receiver-known t l rank system lawful within at =
    subst (λ (s : SystemId). s.0 < length t.systems) (sym at)
    (rw (← get_or-map (λ i. i.0) l.to.items rank system (system.0)
    (subst (λ (n : ℕ). rank < n) (length-map l.to.items (λ i. i.0)) within))
    (All-from_recursion (λ i. i < length t.systems) (link_row l).to lawful.to rank (system.0) within))

pub port-is : (t : Rows) (system : ℕ) (s : SystemRow) → slice_get t.systems system ≡ Some s → port_of t system ≡ s.port
unfolding port_of
port-is t system s at = ap (λ o. option_map_or (λ r. r.port) o 0) at

pub goes-port : (t : Rows) (place : ℕ) (l : LinkRow) (system : ℕ) (s : SystemRow) → IsLawfulSwitch t
    → slice_get t.links place ≡ Some l → slice_get t.systems system ≡ Some s → is_to system l ≡ true
    → link_to t place s.port ≡ Some l
goes-port t place l system s lawful at sat to = to-link t place s.port l at
    ((port-of-system t system s lawful sat).goes l ∙ to)

-- a link that goes to a system goes to its port
pub goes-there : (t : Rows) (place : ℕ) (l : LinkRow) (system : ℕ) (s : SystemRow) → IsLawfulSwitch t
    → slice_get t.links place ≡ Some l → slice_get t.systems system ≡ Some s → is_to system l ≡ true
    → link_to t place (port_of t system) ≡ Some l
goes-there t place l system s lawful at sat to =
    subst (λ p. link_to t place p ≡ Some l) (sym (port-is t system s sat))
    (to-link t place s.port l at ((port-of-system t system s lawful sat).goes l ∙ to))

pub no-link : (t : Rows) (place port : ℕ) (l : LinkRow) → slice_get t.links place ≡ Some l → goes_to t l port ≡ false
    → link_to t place port ≡ None
unfolding link_to
no-link t place port l at goes =
    ap (λ o. option_and_then (λ k. if goes_to t k port then Some k else None) o) at
    ∙ ap (λ b. if b then Some l else None) goes

pub rule-same : (t : Rows) (l : LinkRow) (s : SystemRow) → slice_get t.systems l.from ≡ Some s
    → rule_with l.vl s.port l.bag_ms l.lmin l.lmax l.jitter_us l.policing ≡ rule_of t l
unfolding rule_of port_of
rule-same t l s at =
    ap (λ o. rule_with l.vl (option_map_or (λ r. r.port) o 0) l.bag_ms l.lmin l.lmax l.jitter_us l.policing) (sym at)

pub byte-same : (t : Rows) (system port : ℕ) (s : SystemRow) (time : ℕ) → IsLawfulSwitch t
    → slice_get t.systems system ≡ Some s
    → port_of t system ≡ port → time ≡ byte_ns s → byte_ns_at t port ≡ time
byte-same t system port s time lawful at there is =
    ap (λ p. byte_ns_at t p) (sym (sym (port-is t system s at) ∙ there)) ∙ (port-of-system t system s lawful at).line
    ∙ sym is
