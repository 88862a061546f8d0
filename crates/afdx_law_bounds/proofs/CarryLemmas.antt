-- What the bytes of a frame tell.
use Rattle.std.proofs.Common.{◌≡◌, ℕ, ◌+◌, ◌==◌, true, false, List, Option, Some, None, refl, sym, ap, ◌∙◌, length}
use Rattle.std.specs.Prelude.{Contains, find}
use Rattle.std.specs.Option.{option_map_or}
use Rattle.std.proofs.lemmas.Bool.{eqb-true}
use Rattle.afdx_frame.specs.Layout.{link_named_by}
use Rattle.afdx_frame.specs.declared.link.VlId.{VlId}
use Rattle.afdx_police.specs.Arrival.{Arrival, names}
use Rattle.afdx_police.specs.Charge.{charge_by}
use Rattle.afdx_port.proofs.TurnLemmas.{eqb-same}
use Rattle.afdx_law_bounds.specs.Outputs.{BytesCarry}
use Rattle.afdx_law_bounds.specs.Outputs.{Row, AreRows, link_in}
use Rattle.afdx_law_bounds.proofs.RowLemmas.{find-some, find-none}

named-is : (o : Option VlId) (vl none : ℕ) → option_map_or (λ named. named.0 == vl) o false ≡ true →
    option_map_or (λ named. named.0) o none ≡ vl
named-is None vl none h = absurd (cc h)
named-is (Some v) vl none h = eqb-true v.0 vl h

bytes-name : (vl : ℕ) (bytes : List ℕ) → names vl bytes ≡ true →
    option_map_or (λ named. named.0) (link_named_by bytes) 65536 ≡ vl
unfolding names
bytes-name vl bytes h = named-is (link_named_by bytes) vl 65536 h

-- the row of an identifier is the one that has it
found-row : (rows : List Row) (vl : ℕ) (r : Row) (charge : Row → ℕ) → AreRows rows → Contains rows r →
    vl ≡ r.rule.vl → option_map_or charge (find (λ q. q.rule.vl == vl) rows) 0 ≡ charge r
found-row rows vl r charge are stands is = by_find (find (λ q. q.rule.vl == vl) rows) refl
  where
    by_find : (w : Option Row) → find (λ q. q.rule.vl == vl) rows ≡ w → option_map_or charge w 0 ≡ charge r
    by_find None h = absurd (let none = find-none (λ q. q.rule.vl == vl) rows r h stands in
        let own = eqb-same r.rule.vl vl (sym is) in cc (none, own))
    by_find (Some q) h = let found = find-some (λ d. d.rule.vl == vl) rows q h in
        ap charge (are.distinct q r found.stands stands (eqb-true q.rule.vl vl found.holds ∙ is))

module _ {X : Type 0} where
  pub bytes-carry : BytesCarry X
  bytes-carry item_of bytes_of rows are keeps = record {
    link = λ r x stands named. own r x named;
    charge = λ r x stands named. found-row rows (link_in bytes_of (item_of x)) r
        (λ q. charge_by q.rule.policing (q.rule.lmax + 20)
        (length x.bytes + 20)) are stands (own r x named);
  }
    where
      own : (r : Row) (x : Arrival) → names r.rule.vl x.bytes ≡ true → link_in bytes_of (item_of x) ≡ r.rule.vl
      own r x named = ap (λ bytes. option_map_or (λ v. v.0) (link_named_by bytes) 65536) (keeps x)
          ∙ bytes-name r.rule.vl x.bytes named
