-- The balances of the work left against what is missing in the accounts of the flows.
use Rattle.std.proofs.Common.{◌≡◌, ℕ, ◌+◌, ◌*◌, ◌≤◌, sym, ap, arith, ◌∙◌}
use Rattle.std.specs.Prelude.{sum_by}
use Rattle.afdx_frame.specs.declared.link.Priority.TheVariants.{High, Low}
use Rattle.afdx_frame.specs.Regulation.{byte_units}
use Rattle.afdx_frame.specs.Flows.{Flow, of_class, burst, longest}
use Rattle.afdx_police.specs.Account.{missing}
use Rattle.afdx_police.specs.Laws.{EachAccountMoves}
use Rattle.afdx_law_bounds.specs.Admitted.{WorkIsMissing, HighWorkIsMissing, LowWorkFalls}
use Rattle.afdx_law_bounds.specs.Policed.{charged_to, IsCharged}
use Rattle.afdx_law_bounds.proofs.ListLemmas.{get_all}
use Rattle.afdx_law_bounds.proofs.BalanceLemmas.{work_bound, high_work_bound, low_work_bound}
use Rattle.afdx_law_bounds.proofs.SumLemmas.{rates, classes-load, longest-one, load-rates, sum-classes}
use Rattle.afdx_law_bounds.proofs.SumLemmas.{policed-keep, missing-keep}

module _ {X : Type 0} where
  pub work-missing : WorkIsMissing X
  work-missing byte_ns flows vl_of charge_of entries turns t links no_overload charged come schedule =
      let g : Flow → ℕ = λ f. missing f.link (charged_to vl_of charge_of f.vl entries) t in
      let loads : byte_ns * (rates (of_class High flows) + rates (of_class Low flows))
      ≤ byte_units = omega (arith, classes-load byte_ns flows, no_overload) in
      let bound = work_bound byte_ns (sum_by g (of_class High flows)) (rates (of_class High flows))
      (sum_by g (of_class Low flows))
      (rates (of_class Low flows)) entries turns t loads
      (λ since le. missing-keep vl_of charge_of flows entries High since t links charged)
      (λ since le. missing-keep vl_of charge_of flows entries Low since t links charged)
      (λ i e k. get_all (λ d. d.time ≤ t) entries i e come k) schedule in
      let split : byte_ns * sum_by g flows
      ≡ byte_ns * (sum_by g (of_class High flows) + sum_by g (of_class Low flows)) =
      ap (λ n. byte_ns * n)
      (sum-classes g flows) in
      omega (arith, bound, split)

  pub high-work-missing : HighWorkIsMissing X
  high-work-missing byte_ns flows vl_of charge_of entries turns t links no_overload charged come schedule =
      let g : Flow → ℕ = λ f. missing f.link (charged_to vl_of charge_of f.vl entries) t in
      high_work_bound byte_ns (longest (of_class Low flows)) (sum_by g (of_class High flows))
      (rates (of_class High flows)) entries turns t
      (omega (arith, load-rates byte_ns (of_class High flows), no_overload))
      (λ since le. missing-keep vl_of charge_of flows entries High since t links charged)
      (λ i e k. get_all (λ d. d.time ≤ t) entries i e come k)
      (λ i e k is-low. let c = get_all (λ d. IsCharged vl_of charge_of flows d) entries i e charged k in
      let longest-is = longest-one flows c.flow c.stands (sym c.class ∙ is-low) in
      omega (arith, c.at_least, c.at_most, longest-is)) schedule

  pub low-work-falls : EachAccountMoves → LowWorkFalls X
  low-work-falls moves byte_ns flows vl_of charge_of entries turns t place e links no_overload
      policed order come schedule waits low =
      let g : Flow → ℕ = λ f. missing f.link (charged_to vl_of charge_of f.vl entries) t in
      let loads : byte_ns * (rates (of_class High flows) + rates (of_class Low flows))
      ≤ byte_units = omega (arith, classes-load byte_ns flows, no_overload) in
      let r = low_work_bound byte_ns (sum_by g (of_class High flows)) (rates (of_class High flows))
      (burst (of_class Low flows))
      (rates (of_class Low flows)) entries turns t place e loads
      (λ since le. missing-keep vl_of charge_of flows entries High since t links policed.charged)
      (λ since le. policed-keep moves vl_of charge_of flows entries Low links policed since e.time le)
      (λ i d k. get_all (λ d. d.time ≤ t) entries i d come k) order schedule waits low in
      rw (load-rates byte_ns (of_class High flows)) r
