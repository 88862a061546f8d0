-- Each line of a cascade speaks of a switch that is there, and of what it has.
use Rattle.std.proofs.Common.{◌≡◌, ℕ, ◌<◌, nat_le, Bool, true, false, List, [], ◌∷◌, ◌++◌, length, map}
use Rattle.std.proofs.Common.{Option, Some, None, slice_get, sym, ap, subst, ◌∙◌, arith, nat_lt, if◌then◌else◌}
use Rattle.std.specs.List.{AllByRecursion}
use Rattle.std.specs.Option.{option_map}
use Rattle.std.proofs.lemmas.Option.{slice_get_within, same_Some}
use Rattle.afdx_config.specs.Rows.{LinkRow, Rows}
use Rattle.afdx_config.specs.Lawful.{IsLawfulSwitch, IsLinkUpTo, jitter_from_any}
use Rattle.afdx_config.specs.Switches.{NamedRows, AreSwitches}
use Rattle.afdx_frame.specs.Lines.{Line, each_from, false_lines, first_false}
use Rattle.afdx_frame.proofs.ListLemmas.{AllByRecursion-slice_get, slice_get-within}
use Rattle.afdx_admit.specs.declared.fault.AdmitFault.{AdmitFault}
use Rattle.afdx_admit.specs.declared.cascade_fault.CascadeFault.{CascadeFault}
use Rattle.afdx_admit.specs.declared.cascade_fault.SwitchFault.{SwitchFault}
use Rattle.afdx_admit.specs.Known.{IsKnown}
use Rattle.afdx_admit.specs.Lines.{lines}
use Rattle.afdx_admit.specs.Cascade.{RowAt, row_at, row_before, way_latency, fault_at, own_line, own_lines}
use Rattle.afdx_admit.specs.Cascade.{lines_if_fed, hop_lines, hops_lines, read_line}
use Rattle.afdx_admit.specs.Cascade.{reader_lines, readers_lines, cascade_lines}
use Rattle.afdx_admit.specs.AtSwitch.{IsKnownThere, IsKnownAt}
use Rattle.afdx_admit.proofs.CascadeLemmas.{owns-at, hops-at, hop-at, readers-at, reader-at}
use Rattle.afdx_admit.proofs.EachLineLemmas.{OfEach, of_append, of_passing, of_places, of_false, of_first}
use Rattle.afdx_admit.proofs.KnownLemmas.{lines-known}

module _ (ss : List NamedRows) (are : AreSwitches ss) where
  abbrev AreKnown : List (Line CascadeFault) → Type 0
  AreKnown ls = OfEach (IsKnownAt ss) ls

  module _ (k : ℕ) (s : NamedRows) (at : slice_get ss k ≡ Some s) where
    lawful : IsLawfulSwitch s.rows
    lawful = AllByRecursion-slice_get (λ r. IsLawfulSwitch r.rows) ss k s are.each at

    known : (fault : SwitchFault) → IsKnownThere s.rows fault → IsKnownAt ss (fault_at k fault)
    known fault h = record {
      switch = slice_get_within ss k s at;
      tables = λ t stands.
          subst (λ (r : Rows). IsKnownThere r fault)
          (same_Some s.rows t (sym (ap (option_map (λ r. r.rows)) at) ∙ stands)) h;
    }

    own-known : (ls : List (Line AdmitFault)) → OfEach (IsKnown s.rows) ls → AreKnown (map (own_line k) ls)
    own-known [] h = tt
    own-known (l ∷ ls) h = (known _ h.0, own-known ls h.1)

    owns-known : AreKnown (own_lines ss k)
    owns-known = subst AreKnown (sym (owns-at ss k s at)) (own-known (lines s.rows) (lines-known s.rows lawful.own))

    fed-known : (l : LinkRow) (before : Option RowAt) (sum : Option ℕ) → AreKnown (lines_if_fed k s.rows l before sum)
    fed-known l (Some before) (Some sum) =
        (known _ tt, (known _ tt, (known _ tt, (known _ tt, tt))))
    fed-known l (Some before) None = (known _ tt, tt)
    fed-known l None sum = (known _ tt, tt)

    row-known : (l : LinkRow) (b : Bool) → AreKnown (if b then [] else
        lines_if_fed k s.rows l (row_before ss (row_at k l)) (way_latency ss (row_at k l)))
    row-known l true = tt
    row-known l false = fed-known l (row_before ss (row_at k l)) (way_latency ss (row_at k l))

    hops-known : AreKnown (hops_lines ss k)
    hops-known = subst AreKnown (sym (hops-at ss k s at))
        (of_places (IsKnownAt ss) (hop_lines ss k) 0 (length s.rows.links) (λ i low high.
        let l = slice_get-within s.rows.links i (omega (arith, high)) in
        subst AreKnown (sym (hop-at ss k s at i l.0 l.1)) (row-known l.0 (nat_lt l.0.from s.rows.own))))

    places-known : (l : LinkRow) (places : List ℕ) → AllByRecursion (λ place. place < length s.rows.systems) places
        → AllByRecursion (λ place. IsKnownAt ss (read_line ss k s l place).fault) places
    places-known l [] h = tt
    places-known l (place ∷ places) h = (known _ h.0, places-known l places h.1)

    readers-known : AreKnown (readers_lines ss k)
    readers-known = subst AreKnown (sym (readers-at ss k s at))
        (of_places (IsKnownAt ss) (reader_lines ss k) 0 (length s.rows.links) (λ i low high.
        let l = slice_get-within s.rows.links i (omega (arith, high)) in
        let row = AllByRecursion-slice_get (IsLinkUpTo jitter_from_any (length s.rows.systems)) s.rows.links i l.0
        lawful.links.each l.1 in
        subst AreKnown (sym (reader-at ss k s at i l.0 l.1))
        (of_passing (IsKnownAt ss) (read_line ss k s l.0) (λ place. nat_le s.rows.own place) l.0.to
        (places-known l.0 l.0.to row.to))))

  all-known : (f : ℕ → List (Line CascadeFault))
      → ((k : ℕ) (s : NamedRows) → slice_get ss k ≡ Some s → AreKnown (f k)) → AreKnown (each_from f 0 (length ss))
  all-known f each = of_places (IsKnownAt ss) f 0 (length ss) (λ k low high.
      let s = slice_get-within ss k (omega (arith, high)) in each k s.0 s.1)

  cascade-known : AreKnown (cascade_lines ss)
  unfolding cascade_lines
  cascade-known =
      of_append (IsKnownAt ss) (each_from (own_lines ss) 0 (length ss))
      (each_from (hops_lines ss) 0 (length ss) ++ each_from (readers_lines ss) 0 (length ss))
      (all-known (own_lines ss) owns-known)
      (of_append (IsKnownAt ss) (each_from (hops_lines ss) 0 (length ss)) (each_from (readers_lines ss) 0 (length ss))
      (all-known (hops_lines ss) hops-known) (all-known (readers_lines ss) readers-known))

  pub first-known : (fault : CascadeFault) → first_false (cascade_lines ss) ≡ Some fault → IsKnownAt ss fault
  first-known = of_first (IsKnownAt ss) (cascade_lines ss) cascade-known

  pub false-known : AllByRecursion (IsKnownAt ss) (false_lines (cascade_lines ss))
  false-known = of_false (IsKnownAt ss) (cascade_lines ss) cascade-known
