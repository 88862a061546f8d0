-- The rows of a port and its flows.
use Rattle.std.proofs.lemmas.Bool.{cases_Bool}
use Rattle.std.proofs.Common.{◌≡◌, ℕ, ◌<◌, Bool, true, false, List, [], ◌∷◌, length, Some, None}
use Rattle.std.proofs.Common.{inl, inr, refl, sym, ap, subst, arith, ◌∙◌, suc, zero}
use Rattle.std.specs.Prelude.{All, Contains, IsTrue, find, slice_index_or}
use Rattle.std.proofs.lemmas.List.Elements.{All-contains}
use Rattle.afdx_frame.specs.Flows.{Flow}
use Rattle.afdx_police.specs.Rule.{is_bag}
use Rattle.afdx_law_bounds.specs.Policed.{AreFlows}
use Rattle.afdx_law_bounds.specs.Outputs.{Row, AreRows, flow_of, flows_at}
use Rattle.afdx_law_bounds.proofs.ListLemmas.{contains_head, contains_tail}

-- a flow of the port is that of a row which goes there
pub record From (number : ℕ) (rows : List Row) (f : Flow) : Type 0 where
  pub row : Row
  pub stands : Contains rows row
  pub goes : row.goes_to number ≡ true
  pub is : flow_of row ≡ f

pub flow-from : (number : ℕ) (rows : List Row) (i : ℕ) (f : Flow) → i < length (flows_at number rows) →
    slice_index_or (flows_at number rows) i f ≡ f → From number rows f
flow-from number [] i f lt h = absurd (omega (arith, lt))
flow-from number (r ∷ rs) i f lt h =
    elim (cases_Bool (r.goes_to number)) [
      | inr stays ↦ (let w = flow-from number rs i f (rw stays at lt)
          (rw stays at h) in record {
            row = w.row;
            stands = contains_tail r rs w.row w.stands;
            goes = w.goes;
            is = w.is;
          })
      | inl goes ↦ at i goes (rw goes at lt) (rw goes at h) (λ j lt-j h-j. flow-from number rs j f lt-j h-j)
    ]
  where
    at : (j : ℕ) → r.goes_to number ≡ true → j < length (flow_of r ∷ flows_at number rs) →
        slice_index_or (flow_of r ∷ flows_at number rs) j f ≡ f →
        ((k : ℕ) → k < length (flows_at number rs) → slice_index_or (flows_at number rs) k f ≡ f
        → From number rs f) → From number (r ∷ rs) f
    at zero goes lt-j h-j rest = record { row = r; stands = contains_head r rs; goes = goes; is = h-j }
    at (suc j) goes lt-j h-j rest =
        let w = rest j (omega (arith, lt-j)) h-j in
        record { row = w.row; stands = contains_tail r rs w.row w.stands; goes = w.goes; is = w.is }

flow-at : (number : ℕ) (rows : List Row) (i : ℕ) (r : Row) → i < length rows → slice_index_or rows i r ≡ r →
    r.goes_to number ≡ true → Contains (flows_at number rows) (flow_of r)
flow-at number [] i r lt h goes = absurd (omega (arith, lt))
flow-at number (d ∷ ds) zero r lt h goes =
    let own-goes : d.goes_to number ≡ true = ap (λ z. z.goes_to number) h ∙ goes in
    rw own-goes (0, omega arith, ap flow_of h)
flow-at number (d ∷ ds) (suc i) r lt h goes =
    let rest = flow-at number ds i r (omega (arith, lt)) h goes in
    elim (cases_Bool (d.goes_to number)) [
      | inr stays ↦ rw stays rest
      | inl first ↦ rw first
          (contains_tail (flow_of d) (flows_at number ds) (flow_of r) rest)
    ]

pub flow-to : (number : ℕ) (rows : List Row) (r : Row) → Contains rows r → r.goes_to number ≡ true →
    Contains (flows_at number rows) (flow_of r)
flow-to number rows r stands goes = flow-at number rows stands.0 r stands.1 stands.2 goes

flows-gaps : (number : ℕ) (rows : List Row) → All (λ r. IsTrue (is_bag r.rule.bag_ms)) rows →
    All (λ f. IsTrue (is_bag f.link.bag_ms)) (flows_at number rows)
flows-gaps number rows gaps k d lt =
    let at : slice_index_or (flows_at number rows) k d
    ≡ slice_index_or (flows_at number rows) k (slice_index_or (flows_at number rows) k d) =
    any-default
    (flows_at number rows) k d (slice_index_or (flows_at number rows) k d) lt in
    let w = flow-from number rows k (slice_index_or (flows_at number rows) k d) lt (sym at) in
    subst (λ (f : Flow). IsTrue (is_bag f.link.bag_ms)) w.is
    (All-contains (λ r. IsTrue (is_bag r.rule.bag_ms)) rows w.row gaps w.stands)
  where
    any-default : (fs : List Flow) (j : ℕ) (a b : Flow) → j < length fs →
        slice_index_or fs j a ≡ slice_index_or fs j b
    any-default [] j a b below = absurd (omega (arith, below))
    any-default (f ∷ fs) zero a b below = refl
    any-default (f ∷ fs) (suc j) a b below = any-default fs j a b (omega (arith, below))

pub flows-are : (number : ℕ) (rows : List Row) → AreRows rows → AreFlows (flows_at number rows)
flows-are number rows are = record {
  gaps = flows-gaps number rows are.gaps;
  distinct = λ f g k l same. (let a = flow-from number rows k.0 f k.1 k.2 in
      let b = flow-from number rows l.0 g l.1 l.2 in
      let rows-same : a.row ≡ b.row =
      are.distinct a.row b.row a.stands b.stands
      (ap (λ z. z.vl) a.is ∙ same ∙ sym (ap (λ z. z.vl) b.is)) in
      sym a.is ∙ ap flow_of rows-same ∙ b.is);
}

-- the first row of which a test is true
pub record Found (p : Row → Bool) (rows : List Row) (r : Row) : Type 0 where
  pub holds : p r ≡ true
  pub stands : Contains rows r

pub find-some : (p : Row → Bool) (rows : List Row) (r : Row) → find p rows ≡ Some r → Found p rows r
find-some p [] r h = absurd (cc h)
find-some p (d ∷ ds) r h =
    elim (cases_Bool (p d)) [
      | inl here ↦ (let k = rw here at h in
          let same : d ≡ r = cc k in
          record { holds = sym (ap p same) ∙ here; stands = (0, omega arith, same) })
      | inr not-here ↦ (let w = find-some p ds r (rw not-here at h) in
          record { holds = w.holds; stands = contains_tail d ds r w.stands })
    ]

none-at : (p : Row → Bool) (rows : List Row) (i : ℕ) (r : Row) → find p rows ≡ None → i < length rows →
    slice_index_or rows i r ≡ r → p r ≡ false
none-at p [] i r h lt at = absurd (omega (arith, lt))
none-at p (d ∷ ds) zero r h lt at =
    elim (cases_Bool (p d)) [
      | inl here ↦ absurd (let k = rw here at h in cc k)
      | inr not-here ↦ sym (ap p at) ∙ not-here
    ]
none-at p (d ∷ ds) (suc i) r h lt at =
    elim (cases_Bool (p d)) [
      | inl here ↦ absurd (let k = rw here at h in cc k)
      | inr not-here ↦ none-at p ds i r (rw not-here at h) (omega (arith, lt)) at
    ]

pub find-none : (p : Row → Bool) (rows : List Row) (r : Row) → find p rows ≡ None → Contains rows r → p r ≡ false
find-none p rows r h stands = none-at p rows stands.0 r h stands.1 stands.2
