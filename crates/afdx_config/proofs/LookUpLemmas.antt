-- Look-ups in lawful tables.
use Rattle.std.proofs.Common.{◌≡◌, ℕ, ◌<◌, ◌==◌, Option, None, Some, inl, inr, if◌then◌else◌, nat_eq, nat_lt, refl}
use Rattle.std.proofs.Common.{sym, ap, ◌∙◌, subst, option_and_then}
use Rattle.std.specs.Str.{bytes_eq}
use Rattle.std.proofs.lemmas.Bool.{eqb-true, eq-eqb, cases_lt, lt-ltb, le-ltb}
use Rattle.std.proofs.lemmas.Option.{same_Some}
use Rattle.std.proofs.lemmas.Slice.Eq.{bytes_eq-Decides}
use Rattle.afdx_config.specs.Reading.{system_named, system_at_port, link_of, listener_at}
use Rattle.afdx_config.specs.Lawful.{IsLawfulSwitch}
use Rattle.afdx_config.specs.Laws.{RowsAreFound, SystemsListen}
use Rattle.afdx_config.specs.Rows.{Rows}
use Rattle.afdx_config.proofs.DistinctLemmas.{found}

pub each_row-found : (t : Rows) → IsLawfulSwitch t → RowsAreFound t
unfolding system_named system_at_port link_of
each_row-found t lawful = record {
  by_name = λ i s at. found (λ r. r.name) (λ r. bytes_eq s.name r.name) t.systems i s
      lawful.systems.names at ((bytes_eq-Decides s.name s.name).1 refl)
      (λ b h. sym ((bytes_eq-Decides s.name b.name).0 h));
  by_port = λ i s at. found (λ r. r.port) (λ r. r.port == s.port) t.systems i s lawful.systems.ports
      at (eq-eqb s.port s.port refl) (λ b h. eqb-true b.port s.port h);
  by_vl = λ i l at. found (λ r. r.vl) (λ r. nat_eq l.vl r.vl) t.links i l lawful.links.identifiers
      at (eq-eqb l.vl l.vl refl) (λ b h. sym (eqb-true l.vl b.vl h));
}

-- what stands at a place hears if it is a system
heard : (own : ℕ) (o : Option ℕ) (i : ℕ) → option_and_then (λ i. if nat_lt i own then Some i else None) o ≡ Some i
    → (o ≡ Some i) × (i < own)
heard own None i h = absurd (cc h)
heard own (Some k) i h = elim (cases_lt k own) [
  | inl below ↦ let same : Some k ≡ Some i = sym (ap (λ b. if b then Some k else None) (lt-ltb k own below)) ∙ h in
      (same, subst (λ n. n < own) (same_Some k i same) below)
  | inr past ↦ absurd (none k i (sym (ap (λ b. if b then Some k else None) (le-ltb k own past)) ∙ h))
]
  where
    none : (k i : ℕ) → None ≡ Some i → ⊥
    none k i e = cc e

pub listeners : (t : Rows) → IsLawfulSwitch t → SystemsListen t
unfolding listener_at
listeners t lawful = record {
  only = λ port i h. heard t.own (system_at_port t.systems port) i h;
  each = λ i s at below.
      ap (λ o. option_and_then (λ i. if nat_lt i t.own then Some i else None) o)
      ((each_row-found t lawful).by_port i s at)
      ∙ ap (λ b. if b then Some i else None) (lt-ltb i t.own below);
}
