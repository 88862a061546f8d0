use Rattle.std.proofs.Common.{◌≡◌, ℕ, Bool, true, false, cond, List, [], ◌∷◌, ◌++◌, map, length}
use Rattle.std.proofs.Common.{nat_eq, refl, ap, arith, ◌∙◌}
use Rattle.std.specs.Prelude.{filter}
use Rattle.std.specs.List.{AllByRecursion}
use Rattle.std.proofs.lemmas.Bool.{ne_eqb}
use Rattle.afdx_config.specs.Rows.{LinkRow, PortRow}
use Rattle.afdx_config.specs.Lawful.{IsPort}
use Rattle.afdx_config.specs.declared.rows.Kind.{Kind}
use Rattle.afdx_config.specs.declared.rows.Kind.TheVariants as kind
use Rattle.afdx_comport.specs.declared.held.PortMemory.{PortMemory}
use Rattle.afdx_comport.specs.declared.held.PortMemory.TheVariants.{Sampling, Queuing}
use Rattle.afdx_comport.specs.declared.com_ports.ComPort.{ComPort}
use Rattle.afdx_comport.specs.Held.{first, rest, IsRead}
use Rattle.afdx_comport.specs.Ports.{empty_of, port_at_first, ports_at_first}
use Rattle.afdx_comport.specs.Laws.{IsPutAndRead}

pub put_and_read : (held : PortMemory) (time : ℕ) (bytes : List ℕ) → IsRead held → IsPutAndRead held time bytes
put_and_read (Sampling sample) time bytes all = record { room = refl; read = refl; all = tt }
put_and_read (Queuing line) time bytes all = record {
  room = ap (λ (ms : List (List ℕ)). nat_eq (length ms) line.depth) all.0
      ∙ ne_eqb 0 line.depth (λ e. omega (arith, e, all.1));
  read = ap (λ (ms : List (List ℕ)). first (ms ++ bytes ∷ [])) all.0;
  all = (ap (λ (ms : List (List ℕ)). rest (ms ++ bytes ∷ [])) all.0, all.1);
}

read_at_first : (systems : ℕ) (links : List LinkRow) (row : PortRow) → IsPort systems links row
    → (k : Kind) → row.kind ≡ k → IsRead (empty_of k row.depth)
read_at_first systems links row lawful kind.Sampling is = tt
read_at_first systems links row lawful kind.Queuing is = (refl, lawful.depth.0)

pub all_read_at_first : (systems system : ℕ) (links : List LinkRow) (rows : List PortRow) →
    AllByRecursion (IsPort systems links) rows
    → AllByRecursion (λ (port : ComPort). IsRead port.held) (ports_at_first system rows)
all_read_at_first systems system links [] lawful = tt
all_read_at_first systems system links (row ∷ rows) lawful =
    at (nat_eq row.system system) (all_read_at_first systems system links rows lawful.1)
  where
    at : (b : Bool) → AllByRecursion (λ (port : ComPort). IsRead port.held) (ports_at_first system rows) →
        AllByRecursion (λ (port : ComPort). IsRead port.held) (map port_at_first
        (cond b (row ∷ filter (λ (r : PortRow). nat_eq r.system system) rows)
        (filter (λ (r : PortRow). nat_eq r.system system) rows)))
    at true others = (read_at_first systems links row lawful.0 row.kind refl, others)
    at false others = others
