use Rattle.std.proofs.Common.{rules, ◌++◌, ◌∷◌, [], ℕ, Bool, ap, subst, ◌∙◌, nat_le}
use Rattle.afdx_config.specs.Rows.{LinkRow, link_row}
use Rattle.afdx_frame.specs.Lines.{Line, line, false_lines}
use Rattle.afdx_frame.proofs.FalseLinesLemmas.{added, none_added}
use Rattle.afdx_admit.specs.declared.cascade_fault.CascadeFault.{CascadeFault}
use Rattle.afdx_admit.specs.declared.cascade_fault.SwitchFault.TheVariants.{Contract, HopJitter, PathSkew}
use Rattle.afdx_admit.specs.Cascade.{same_contract, late_behind, allows_way, fault_at}
use Rattle.afdx_admit.specs.Walk.{Walks}
use Rattle.afdx_admit.proofs.WalkLemmas.{Stopped, walks_on, walks_stop}
use Rattle.afdx_admit.proofs.cascade_lines.add_hop.Goals as goal

-- the lines of a hop, by what is asked
module _ (k : ℕ) (l : LinkRow) where
  abbrev contract_line : Bool → Line CascadeFault
  contract_line same = line same (fault_at k (Contract (record { 0 = l.vl })))

  abbrev jitter_line : (needed : ℕ) → Line CascadeFault
  jitter_line needed = line (nat_le needed l.jitter_us) (fault_at k (HopJitter (record { 0 = l.vl }) needed))

  abbrev skew_line : (sum : ℕ) → Bool → Line CascadeFault
  skew_line sum allows = line allows (fault_at k (PathSkew (record { 0 = l.vl }) sum))

pub returns-in_err-add_if_false : goal.returns-in_err-add_if_false
returns-in_err-add_if_false g c =
    let k = c.args.switch.0 in
    let before = link_row c.args.before.now in
    let l = link_row c.args.link.now in
    let old = g.C.Found.items c.args.found.now in
    let stop = c.in_err-add_if_false.field-0.0 in
    walks_stop g.C.Found.Stops old old _ [] (contract_line k l (same_contract before l) ∷ [])
    (jitter_line k l (late_behind before) ∷ skew_line k l c.args.sum (allows_way c.args.tables.now l c.args.sum) ∷ [])
    stop _ (search rules) (none_added old)
    (subst (λ b. Stopped g.C.Found.Stops old (contract_line k l b ∷ []) stop) c.same_contract-same.ensures
    c.in_err-add_if_false.ensures)

pub returns-in_err-add_if_false-2 : goal.returns-in_err-add_if_false-2
returns-in_err-add_if_false-2 g c =
    let k = c.args.switch.0 in
    let before = link_row c.args.before.now in
    let l = link_row c.args.link.now in
    let old = g.C.Found.items c.args.found.now in
    let one = g.C.Found.items c.add_if_false.new.found in
    let stop = c.in_err-add_if_false-2.field-0.0 in
    walks_stop g.C.Found.Stops old one _ (contract_line k l (same_contract before l) ∷ [])
    (jitter_line k l (late_behind before) ∷ [])
    (skew_line k l c.args.sum (allows_way c.args.tables.now l c.args.sum) ∷ []) stop _ (search rules)
    (c.in_ok-add_if_false.ensures
    ∙ ap (λ b. old ++ false_lines (contract_line k l b ∷ [])) c.same_contract-same.ensures)
    (subst (λ n. Stopped g.C.Found.Stops one (jitter_line k l n ∷ []) stop) c.late_behind-needed.ensures
    c.in_err-add_if_false-2.ensures)

pub returns : goal.returns
returns g c =
    let k = c.args.switch.0 in
    let before = link_row c.args.before.now in
    let l = link_row c.args.link.now in
    let sum = c.args.sum in
    let old = g.C.Found.items c.args.found.now in
    let one = g.C.Found.items c.add_if_false.new.found in
    let two = g.C.Found.items c.add_if_false-2.new.found in
    let new = g.C.Found.items c.add_if_false-3.new.found in
    let contract = contract_line k l (same_contract before l) in
    let jitter = jitter_line k l (late_behind before) in
    walks_on g.C.Found.Stops old two new (contract ∷ jitter ∷ [])
    (skew_line k l sum (allows_way c.args.tables.now l sum) ∷ []) c.add_if_false-3.result
    (added old one two (contract ∷ []) (jitter ∷ [])
    (c.in_ok-add_if_false.ensures
    ∙ ap (λ b. old ++ false_lines (contract_line k l b ∷ [])) c.same_contract-same.ensures)
    (c.in_ok-add_if_false-2.ensures
    ∙ ap (λ n. one ++ false_lines (jitter_line k l n ∷ [])) c.late_behind-needed.ensures))
    (subst (λ b. Walks g.C.Found.Stops two new (skew_line k l sum b ∷ []) c.add_if_false-3.result)
    c.allows_way-allows.ensures c.add_if_false-3.ensures)
