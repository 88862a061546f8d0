-- Where the row stands that the bytes of a frame name.
use Rattle.std.proofs.Common.{◌≡◌, ℕ, ◌==◌, false, List, refl, sym, ap, ◌∙◌, inl, inr}
use Rattle.std.specs.Prelude.{Option, Some, None}
use Rattle.std.specs.Option.{option_map_or}
use Rattle.std.proofs.lemmas.Bool.{eqb-true}
use Rattle.afdx_frame.specs.Layout.{link_named_by}
use Rattle.afdx_frame.specs.declared.link.VlId.{VlId}
use Rattle.afdx_police.specs.Arrival.{names}
use Rattle.afdx_port.proofs.TurnLemmas.{eqb-same}
use Rattle.afdx_law_bounds.specs.Outputs.{Row}
use Rattle.afdx_switch.specs.Lines.{IsPlace, IsPlaceOf, IsNamed, IsNamedAt}
use Rattle.afdx_switch.proofs.ListLemmas.{bool_cases}

names-none : (vl : ℕ) (bytes : List ℕ) → link_named_by bytes ≡ None → names vl bytes ≡ false
unfolding names
names-none vl bytes none = ap (λ (o : Option VlId). option_map_or (λ named. named.0 == vl) o false) none

names-some : (vl : ℕ) (bytes : List ℕ) (named : VlId) → link_named_by bytes ≡ Some named
    → names vl bytes ≡ (named.0 == vl)
unfolding names
names-some vl bytes named some = ap (λ (o : Option VlId). option_map_or (λ n. n.0 == vl) o false) some

pub unnamed : (rows : List Row) (bytes : List ℕ) → link_named_by bytes ≡ None → IsNamed rows bytes None
unnamed rows bytes none j s at = names-none s.rule.vl bytes none

pub no-row : (rows : List Row) (bytes : List ℕ) (named : VlId) → link_named_by bytes ≡ Some named
    → IsPlaceOf rows named.0 None → IsNamed rows bytes None
no-row rows bytes named some none j s at =
    elim (bool_cases (named.0 == s.rule.vl)) [
      | inl same ↦ absurd (none j s at (sym (eqb-true named.0 s.rule.vl same)))
      | inr other ↦ names-some s.rule.vl bytes named some ∙ other
    ]

pub row-at : (rows : List Row) (bytes : List ℕ) (named : VlId) (place : ℕ)
    → link_named_by bytes ≡ Some named → IsPlace rows named.0 place → IsNamedAt rows bytes place
row-at rows bytes named place some is = record {
  row = is.row;
  stands = is.stands;
  named = names-some is.row.rule.vl bytes named some ∙ ap (λ n. named.0 == n) is.named ∙ eqb-same named.0 named.0 refl;
  only = λ j s at names_it.
      is.only j s at (sym (eqb-true named.0 s.rule.vl
      (sym (names-some s.rule.vl bytes named some) ∙ names_it)));
}
