-- The faults of the false lines of the links of a class.
use Rattle.std.proofs.Common.{◌≡◌, ℕ, ◌+◌, ◌*◌, nat_le, nat_lt, Bool, true}
use Rattle.std.proofs.Common.{false, not, ◌&&◌, List, [], ◌∷◌, ◌++◌, map, filter, drop, cond, Some}
use Rattle.std.proofs.Common.{slice_get, refl, sym, ap, ◌∙◌, append_assoc, arith}
use Rattle.std.proofs.lemmas.Bool.Decides.{nat_tests}
use Rattle.afdx_admit.specs.declared.fault.AdmitFault.{AdmitFault}
use Rattle.afdx_frame.specs.declared.link.Priority.{Priority}
use Rattle.afdx_frame.specs.Flows.{is_class, of_class}
use Rattle.afdx_config.specs.Rows.{LinkRow, is_to}
use Rattle.afdx_config.specs.Flows.{flow_of_link}
use Rattle.afdx_config.specs.Admission.{flows_to}
use Rattle.afdx_admit.specs.Lines.{Line, line, false_lines}
use Rattle.afdx_admit.specs.Late.{is_late, class_line}
use Rattle.afdx_admit.proofs.LateLemmas.{drop_next}
use Rattle.afdx_frame.proofs.FalseLinesLemmas.{false_lines-append, false_lines-holds, false_lines-fails}

-- ---- the rows of a class at a port

module _ (system : ℕ) (class : Priority) (wait left : ℕ) (fault : ℕ → AdmitFault) where
  abbrev pub row_line : LinkRow → Line
  row_line l = line (not (is_late system class wait left l)) (fault l.vl)

  abbrev pub class_lines : List LinkRow → List Line
  class_lines links = map (class_line wait left fault) (of_class class (flows_to links system))

  within : (n : ℕ) → not (nat_lt n wait) ≡ nat_le wait n
  within n = grind (arith, nat_tests)

  same_head : (l : Line) (xs ys : List Line) → false_lines xs ≡ false_lines ys
      → false_lines (l ∷ xs) ≡ false_lines (l ∷ ys)
  same_head l xs ys e = false_lines-append (l ∷ []) xs ∙ ap (λ zs. false_lines (l ∷ []) ++ zs) e
      ∙ sym (false_lines-append (l ∷ []) ys)

  has_class : (l : LinkRow) (ls : List LinkRow) → false_lines (map row_line ls) ≡ false_lines (class_lines ls)
      → (b : Bool) →
      false_lines (line (not (b && nat_lt (1000 * l.latency_us * left) wait)) (fault l.vl) ∷ map row_line ls)
      ≡ false_lines (map (class_line wait left fault)
      (cond b (flow_of_link l ∷ of_class class (flows_to ls system)) (of_class class (flows_to ls system))))
  has_class l ls rest true =
      ap (λ h. false_lines (line h (fault l.vl) ∷ map row_line ls)) (within (1000 * l.latency_us * left))
      ∙ same_head (class_line wait left fault (flow_of_link l)) (map row_line ls) (class_lines ls) rest
  has_class l ls rest false = false_lines-holds (line true (fault l.vl)) (map row_line ls) refl ∙ rest

  goes : (l : LinkRow) (ls : List LinkRow) → false_lines (map row_line ls) ≡ false_lines (class_lines ls)
      → (a : Bool) →
      false_lines
      (line (not ((a && is_class class l.priority) && nat_lt (1000 * l.latency_us * left) wait)) (fault l.vl)
      ∷ map row_line ls)
      ≡ false_lines (map (class_line wait left fault) (of_class class
      (map flow_of_link (cond a (l ∷ filter (is_to system) ls) (filter (is_to system) ls)))))
  goes l ls rest true = has_class l ls rest (is_class class l.priority)
  goes l ls rest false = false_lines-holds (line true (fault l.vl)) (map row_line ls) refl ∙ rest

  pub row_lines : (links : List LinkRow) → false_lines (map row_line links) ≡ false_lines (class_lines links)
  row_lines [] = refl
  row_lines (l ∷ ls) = goes l ls (row_lines ls) (is_to system l)

  -- the rows from a place on are still to be looked at
  module _ (links : List LinkRow) (i : ℕ) (l : LinkRow) (at : slice_get links i ≡ Some l)
      (old found : List AdmitFault)
      (so_far : found ++ false_lines (map row_line (drop i links)) ≡ old ++ false_lines (map row_line links)) where
    here : found ++ false_lines (row_line l ∷ map row_line (drop (i + 1) links))
        ≡ old ++ false_lines (map row_line links)
    here = sym (ap (λ ls. found ++ false_lines (map row_line ls)) (drop_next links i l at)) ∙ so_far

    pub row_holds : is_late system class wait left l ≡ false →
        found ++ false_lines (map row_line (drop (i + 1) links)) ≡ old ++ false_lines (map row_line links)
    row_holds soon =
        ap (λ zs. found ++ zs) (sym (false_lines-holds (row_line l) (map row_line (drop (i + 1) links))
        (ap not soon))) ∙ here

    pub row_fails : is_late system class wait left l ≡ true →
        (found ++ fault l.vl ∷ []) ++ false_lines (map row_line (drop (i + 1) links))
        ≡ old ++ false_lines (map row_line links)
    row_fails late =
        append_assoc found (fault l.vl ∷ []) (false_lines (map row_line (drop (i + 1) links)))
        ∙ ap (λ zs. found ++ zs) (sym (false_lines-fails (row_line l) (map row_line (drop (i + 1) links))
        (ap not late))) ∙ here
