-- What a new switch keeps, gathered one after another.
use Rattle.std.proofs.Common.{◌≡◌, ℕ, zero, suc, ◌+◌, List, [], ◌∷◌, ◌++◌, length, get_or, refl}
use Rattle.std.proofs.Common.{sym, ap, ◌∙◌, subst, inl, inr}
use Rattle.std.specs.Prelude.{Option, Some, None, option_map, slice_get, nat_eq, sum_by, ◌⊎◌}
use Rattle.std.specs.Option.{option_map_or}
use Rattle.std.proofs.lemmas.List.Sums.{sum_by-cons}
use Rattle.std.specs.List.{position}
use Rattle.std.proofs.lemmas.Bool.{eqb-true}
use Rattle.std.proofs.lemmas.List.{length_push, length-map}
use Rattle.std.proofs.lemmas.List.Quantifiers.{position-Some}
use Rattle.std.proofs.lemmas.Option.{slice_get-map, slice_get-get_or}
use Rattle.afdx_frame.specs.declared.link.Side.{Side}
use Rattle.afdx_config.specs.Lawful.{IsLawfulSwitch}
use Rattle.afdx_config.specs.Reading.{link_of}
use Rattle.afdx_config.specs.Rows.{SystemRow, LinkRow, Rows}
use Rattle.afdx_config.proofs.LookUpLemmas.{each_row-found}
use Rattle.afdx_police.specs.Rule.{rule_with}
use Rattle.afdx_law_bounds.specs.Outputs.{Row, offers_at}
use Rattle.afdx_port.specs.History as queue
use Rattle.afdx_port.specs.declared.port_state.PortState.{PortState}
use Rattle.afdx_switch.specs.HeldFrames.{HeldFrame, facts}
use Rattle.afdx_switch.specs.New.{IsNewPort}
use Rattle.afdx_switch.specs.Lines.{IsPlaceOf}
use Rattle.afdx_switch.specs.Switching.{no_calls, calls_at, taken_at}
use Rattle.afdx_switch.specs.Tables.{row_of, rows_of, rule_of, port_of}

-- so many elements, each with what is asked at its place
pub record Gathered {X : Type 0} (P : ℕ → X → Type 0) (count : ℕ) (xs : List X) : Type 0 where
  pub counted : length xs ≡ count
  pub each : (i : ℕ) (x : X) → slice_get xs i ≡ Some x → P i x

module _ {X : Type 0} where
  pub pushed : (xs : List X) (y : X) (i : ℕ) (z : X) → slice_get (xs ++ y ∷ []) i ≡ Some z
      → (slice_get xs i ≡ Some z) ⊎ ((i ≡ length xs) × (y ≡ z))
  pushed [] y zero z is = inr (refl, cc)
  pushed [] y (suc i) z is = absurd cc
  pushed (x ∷ xs) y zero z is = inl is
  pushed (x ∷ xs) y (suc i) z is =
      elim (pushed xs y i z is) [ inl before ↦ inl before | inr last ↦ inr (ap suc last.0, last.1) ]

  pub gathered-push : (P : ℕ → X → Type 0) (count : ℕ) (xs : List X) (y : X) → Gathered P count xs
      → P count y → Gathered P (count + 1) (xs ++ y ∷ [])
  gathered-push P count xs y all new = record {
    counted = length_push xs y ∙ ap (λ n. n + 1) all.counted;
    each = λ i x is. elim (pushed xs y i x is) [
      | inl before ↦ all.each i x before
      | inr last ↦ subst (λ z. P i z) last.1 (subst (λ n. P n y) (sym all.counted ∙ sym last.0) new)
    ];
  }

here-of : (vl i : ℕ) (ls : List LinkRow) → position (λ l. nat_eq vl l.vl) ls ≡ Some i
    → (l : LinkRow) × (slice_get ls i ≡ Some l) × (l.vl ≡ vl)
here-of vl i [] is = absurd cc
here-of vl i (l ∷ ls) is =
    let passes = position-Some (λ (m : LinkRow). nat_eq vl m.vl) (l ∷ ls) i l is in
    (get_or (l ∷ ls) i l, slice_get-get_or (l ∷ ls) i l passes.0, sym (eqb-true vl (get_or (l ∷ ls) i l).vl passes.1))

-- the rule of a link, of its sender's port
pub rule-is : (t : Rows) (l : LinkRow) (s : SystemRow) → slice_get t.systems l.from ≡ Some s
    → rule_of t l ≡ rule_with l.vl s.port l.bag_ms l.lmin l.lmax l.jitter_us l.policing
unfolding rule_of port_of
rule-is t l s at = ap (λ (o : Option SystemRow). rule_with l.vl (option_map_or (λ r. r.port) o 0)
    l.bag_ms l.lmin l.lmax l.jitter_us l.policing) at

pub sum-none : {X : Type 0} (f : X → ℕ) (xs : List X)
    → ((i : ℕ) (x : X) → slice_get xs i ≡ Some x → f x ≡ 0) → sum_by f xs ≡ 0
sum-none f [] none = refl
sum-none f (x ∷ xs) none = let first = none 0 x refl in let rest =
    sum-none f xs (λ i y at. none (suc i) y at) in rw (sum_by-cons, first, rest) refl

module _ (t : Rows) (lawful : IsLawfulSwitch t) where
  pub row-is : (j : ℕ) (s : Row) → slice_get (rows_of t) j ≡ Some s → (l : LinkRow)
      × (slice_get t.links j ≡ Some l) × (row_of t l ≡ s)
  unfolding rows_of
  row-is j s at = of_some (slice_get t.links j) refl (sym (slice_get-map (row_of t) t.links j) ∙ at)
    where
      of_some : (o : Option LinkRow) → slice_get t.links j ≡ o → option_map (row_of t) o ≡ Some s
          → (l : LinkRow) × (slice_get t.links j ≡ Some l) × (row_of t l ≡ s)
      of_some None at_l is = absurd cc
      of_some (Some l) at_l is = (l, at_l, cc)

  vl-is : (l : LinkRow) (s : Row) → row_of t l ≡ s → s.rule.vl ≡ l.vl
  unfolding rule_of
  vl-is l s same = sym (ap (λ (r : Row). r.rule.vl) same)

  -- the row of an identifier is found at its place
  found : (vl j : ℕ) (s : Row) → slice_get (rows_of t) j ≡ Some s → s.rule.vl ≡ vl → link_of t.links vl ≡ Some j
  found vl j s at named =
      let l = row-is j s at in
      subst (λ v. link_of t.links v ≡ Some j) (sym (vl-is l.0 s l.2) ∙ named)
      ((each_row-found t lawful).by_vl j l.0 l.1)

  pub row-here : (vl i : ℕ) → link_of t.links vl ≡ Some i → (l : LinkRow) × (slice_get t.links i ≡ Some l) × (l.vl ≡ vl)
  unfolding link_of
  row-here vl i is = here-of vl i t.links is

  pub place-of : (vl : ℕ) (place : Option ℕ) → place ≡ link_of t.links vl → IsPlaceOf (rows_of t) vl place
  unfolding rows_of rule_of
  place-of vl None is = λ j s at named. absurd (let here = found vl j s at named in cc)
  place-of vl (Some i) is =
      let l = row-here vl i (sym is) in
      record {
        row = row_of t l.0;
        stands = slice_get-map (row_of t) t.links i ∙ ap (option_map (row_of t)) l.1;
        named = l.2;
        only = λ j s at named. (let here : link_of t.links vl ≡ Some j = found vl j s at named in cc);
      }

-- a new port stands for no calls
pub port-stands : (t : Rows) (side : Side) (i : ℕ) (p : PortState HeldFrame) → IsNewPort t i p
    → queue.StandsFor facts p (calls_at t side (i + 1) no_calls p.clock)
unfolding offers_at taken_at
port-stands t side i p new =
    subst (λ k. queue.StandsFor facts p (calls_at t side (i + 1) no_calls k)) (sym new.clock) new.stands

pub rows-counted : (t : Rows) → length (rows_of t) ≡ length t.links
unfolding rows_of
rows-counted t = length-map t.links (row_of t)
