-- The least key of all is that of the port whose turn goes first.
use Rattle.std.proofs.Common.{◌≡◌, ◌≢◌, ℕ, ◌+◌, ◌*◌, ◌/◌, ◌%◌, ◌<◌, ◌≤◌, List, length, replicate}
use Rattle.std.proofs.Common.{set, Option, Some, IfSome, inl, inr, refl, sym, ap, subst, arith, ◌∙◌}
use Rattle.std.proofs.Common.{suc, zero, min, None, ◌⊎◌}
use Rattle.std.proofs.Math.Logic.{∥∥₁_elim, ∥∥₁_map}
use Rattle.std.proofs.Math.Bridge.{le_prop}
use Rattle.std.specs.List.{slice_get}
use Rattle.std.proofs.lemmas.Bool.{cases_lt, cases_eq}
use Rattle.std.proofs.lemmas.List.{length-set}
use Rattle.std.proofs.lemmas.Option.{slice_get_within}
use Rattle.circular_buffer.proofs.Places.{slice_get-set_same, slice_get-set_other, slice_get-some}
use Rattle.afdx_port.specs.declared.port_state.PortState.{PortState}
use Rattle.afdx_port.specs.declared.left.Due.{Due}
use Rattle.afdx_port.specs.declared.serving.Serving.{Serving}
use Rattle.afdx_port.specs.Facts.{Facts}
use Rattle.afdx_port.specs.Due.{given_at}
use Rattle.afdx_port.specs.Held.{due_of}
use Rattle.afdx_port.specs.Ports.{order_at, AreLimited, AreServed}
use Rattle.afdx_port.specs.Keys.{key_of, IsLeastIn, AreRanked}
use Rattle.afdx_port.specs.Serving.{IsServing}
use Rattle.afdx_port.proofs.FirstLemmas.{limit-step}

-- one number more
pub least-next : (numbers : List ℕ) (from to least n m : ℕ) → IsLeastIn numbers from to least
    → slice_get numbers to ≡ Some n → m ≡ min least n → IsLeastIn numbers from (to + 1) m
least-next numbers from to least n m h at is = elim (cases_lt n least) [
  | inl less ↦ (let e : n ≡ m = omega (arith, less, is) in record {
    place = to;
    low = omega (arith, h.low, h.high);
    high = omega arith;
    own = at ∙ ap Some e;
    lowest = λ i k low high there. elim (cases_lt i to) [
      | inl before ↦ omega (arith, h.lowest i k low before there, less, e)
      | inr past ↦ omega (arith, last i k high past there, e)
    ];
  })
  | inr more ↦ (let e : least ≡ m = omega (arith, more, is) in record {
    place = h.place;
    low = h.low;
    high = omega (arith, h.high);
    own = h.own ∙ ap Some e;
    lowest = λ i k low high there. elim (cases_lt i to) [
      | inl before ↦ omega (arith, h.lowest i k low before there, e)
      | inr past ↦ omega (arith, last i k high past there, more, e)
    ];
  })
]
  where
    last : (i k : ℕ) → i < to + 1 → to ≤ i → slice_get numbers i ≡ Some k → n ≡ k
    last i k high past there =
        let same : i ≡ to = omega (arith, high, past) in
        let at_to : slice_get numbers to ≡ Some k = subst (λ z. slice_get numbers z ≡ Some k) same there in
        cc

get-replicate : (n i y z : ℕ) → slice_get (replicate n y) i ≡ Some z → (z ≡ y) × (i < n)
get-replicate zero i y z h = absurd (cc h)
get-replicate (suc n) zero y z h = (cc h, omega arith)
get-replicate (suc n) (suc i) y z h = let r = get-replicate n i y z h in (r.0, omega (arith, r.1))

at-replicate : (n i y : ℕ) → i < n → slice_get (replicate n y) i ≡ Some y
at-replicate zero i y h = absurd (omega (arith, h))
at-replicate (suc n) zero y h = refl
at-replicate (suc n) (suc i) y h = at-replicate n i y (omega (arith, h))

-- where all keys are 0, so are the least ones
pub ranked-none : AreRanked (replicate 24 0) (replicate 6 0)
ranked-none group key at =
    let here = get-replicate 6 group 0 key at in
    record {
      place = 4 * group;
      low = omega arith;
      high = omega arith;
      own = at-replicate 24 (4 * group) 0 (omega (arith, here.1)) ∙ ap Some (sym here.0);
      lowest = λ i n low high there. omega (arith, here.0);
    }

-- the least of another group stays
kept-group : (keys : List ℕ) (place key group least : ℕ) → group ≢ place / 4
    → IsLeastIn keys (4 * group) (4 * group + 4) least
    → IsLeastIn (set keys place key) (4 * group) (4 * group + 4) least
kept-group keys place key group least other h =
    let away : (i : ℕ) → 4 * group ≤ i → i < 4 * group + 4 → i ≢ place =
    λ i low high same. other (omega (arith, low, high, same)) in
    record {
      place = h.place;
      low = h.low;
      high = h.high;
      own = slice_get-set_other keys place h.place key (away h.place h.low h.high) ∙ h.own;
      lowest = λ i n low high there.
          h.lowest i n low high (sym (slice_get-set_other keys place i key (away i low high)) ∙ there);
    }

-- a key is set, and the least of its group found anew
pub ranked-set : (keys least : List ℕ) (place key new group : ℕ) → AreRanked keys least
    → group ≡ place / 4 → group < length least →
    IsLeastIn (set keys place key) (4 * group) (4 * group + 4) new
    → AreRanked (set keys place key) (set least group new)
ranked-set keys least place key new group ranked is within h g k at = elim (cases_eq g group) [
  | inl same ↦ (
      let here : slice_get (set least group new) group ≡ Some new = slice_get-set_same least group new within in
      let there : slice_get (set least group new) group ≡ Some k =
      subst (λ z. slice_get (set least group new) z ≡ Some k) same at in
      let e : new ≡ k = cc in
      subst (λ z. IsLeastIn (set keys place key) (4 * z) (4 * z + 4) k) (sym same)
      (subst (λ z. IsLeastIn (set keys place key) (4 * group) (4 * group + 4) z) e h))
  | inr other ↦ kept-group keys place key g k (λ e. other (e ∙ sym is))
      (ranked g k (sym (slice_get-set_other least group g new other) ∙ at))
]

-- a number stands at one of so many places, or at none of them
place-in : (numbers : List ℕ) (from count n : ℕ)
    → ((i : ℕ) × (from ≤ i) × (i < from + count) × (slice_get numbers i ≡ Some n))
    ⊎ ((i : ℕ) → from ≤ i → i < from + count → slice_get numbers i ≡ Some n → ⊥)
place-in numbers from zero n = inr (λ i low high at. omega (arith, low, high))
place-in numbers from (suc count) n = elim (place-in numbers from count n) [
  | inl (i, low, high, at) ↦ inl (i, low, omega (arith, high), at)
  | inr none ↦ last none (slice_get numbers (from + count)) refl
]
  where
    last : ((i : ℕ) → from ≤ i → i < from + count → slice_get numbers i ≡ Some n → ⊥)
        → (o : Option ℕ) → slice_get numbers (from + count) ≡ o
        → ((i : ℕ) × (from ≤ i) × (i < from + suc count) × (slice_get numbers i ≡ Some n))
        ⊎ ((i : ℕ) → from ≤ i → i < from + suc count → slice_get numbers i ≡ Some n → ⊥)
    last none o there = elim (cases_at o) [
      | inl is ↦ inl (from + count, omega arith, omega arith, there ∙ is)
      | inr isnt ↦ inr (λ i low high at. elim (cases_lt i (from + count)) [
        | inl before ↦ none i low before at
        | inr past ↦ (let same : i ≡ from + count = omega (arith, high, past) in
            isnt (sym there ∙ subst (λ z. slice_get numbers z ≡ Some n) same at))
      ])
    ]
      where
        cases_at : (p : Option ℕ) → (p ≡ Some n) ⊎ (p ≡ Some n → ⊥)
        cases_at None = inr (λ e. absurd (cc e))
        cases_at (Some k) = elim (cases_eq k n) [
          | inl e ↦ inl (ap Some e)
          | inr other ↦ inr (λ e. other (let same : k ≡ n = cc in same))
        ]

-- that a least number stands somewhere is enough to find it
least-found : (numbers : List ℕ) (from count least : ℕ) → ∥ IsLeastIn numbers from (from + count) least ∥₁
    → IsLeastIn numbers from (from + count) least
least-found numbers from count least h = elim (place-in numbers from count least) [
  | inl (i, low, high, at) ↦ record {
    place = i;
    low = low;
    high = high;
    own = at;
    lowest = λ j n from_on before there. ∥∥₁_elim h le_prop (λ x. x.lowest j n from_on before there);
  }
  | inr none ↦ absurd (∥∥₁_elim h (λ a b. absurd a) (λ x. none x.place x.low x.high x.own))
]

pub are-ranked : (keys least : List ℕ) → ∥ AreRanked keys least ∥₁ → AreRanked keys least
are-ranked keys least h group key at = least-found keys (4 * group) 4 key (∥∥₁_map h (λ ranked. ranked group key at))

module _ {X : Type 0} (facts : X → Facts) where
  -- the least of all keys tells the port
  pub first-served : (ports : List (PortState X)) (s : Serving) (key : ℕ) → length s.least ≡ 6
      → IsServing facts ports s → IsLeastIn s.least 0 6 key → (place : ℕ) → place ≡ key % 32
      → AreServed facts ports place
  first-served ports s key groups serving h place is =
      let group : ℕ = h.place in
      let ranked : AreRanked s.keys s.least = are-ranked s.keys s.least s.ranked in
      let in_group = ranked group key h.own in
      let at : ℕ = in_group.place in
      let within : at < length ports = omega (arith, in_group.high, h.high, serving.port_count) in
      let p = slice_get-some ports at within in
      let own : key ≡ key_of (order_at (due_of facts p.0)) at =
      (let k = serving.keys at p.0 p.1 in let o = in_group.own in cc) in
      let here : place ≡ at = omega (arith, is, own, within, serving.port_count) in
      let below : (j : ℕ) (q : PortState X) → j < length ports → slice_get ports j ≡ Some q
      → key ≤ key_of (order_at (due_of facts q)) j = λ j q under there. under-all j q under there in
      record {
        first = record {
          below = omega (arith, here, within);
          p = p.0;
          stands = subst (λ z. slice_get ports z ≡ Some p.0) (sym here) p.1;
          least = λ j q under there. omega (arith, below j q under there, own, under, serving.port_count, within);
          first = λ j q under there same. omega (arith, below j q under there, own, same, here);
        };
        limit = serving.limit;
      }
    where
      under-all : (j : ℕ) (q : PortState X) → j < length ports → slice_get ports j ≡ Some q
          → key ≤ key_of (order_at (due_of facts q)) j
      under-all j q under there =
          let g : ℕ = j / 4 in
          let g_within : g < length s.least = omega (arith, under, serving.port_count, groups) in
          let l = slice_get-some s.least g g_within in
          let least = are-ranked s.keys s.least s.ranked g l.0 l.1 in
          let lower : l.0 ≤ key_of (order_at (due_of facts q)) j =
          least.lowest j (key_of (order_at (due_of facts q)) j) (omega arith) (omega arith)
          (serving.keys j q there) in
          let lowest : key ≤ l.0 = h.lowest g l.0 (omega arith) (omega (arith, g_within, groups)) l.1 in
          omega (arith, lower, lowest)

  -- what is due at each port is limited, when it is at a new one
  limit-set : (ports : List (PortState X)) (place : ℕ) (p : PortState X) → place < length ports
      → AreLimited facts ports (length ports)
      → IfSome (due_of facts p) (λ d. given_at d ≤ 1200000000000000) →
      AreLimited facts (set ports place p) (length (set ports place p))
  limit-set ports place p within old new j q d below at due = elim (cases_eq j place) [
    | inl same ↦ (
        let here : slice_get (set ports place p) place ≡ Some p = slice_get-set_same ports place p within in
        let there : slice_get (set ports place p) place ≡ Some q =
        subst (λ z. slice_get (set ports place p) z ≡ Some q) same at in
        let e : p ≡ q = cc in
        let some : due_of facts p ≡ Some d = ap (λ z. due_of facts z) e ∙ due in
        let P : Option Due → Type 0 = λ z. IfSome z (λ e. given_at e ≤ 1200000000000000) in
        subst P some new)
    | inr other ↦ old j q d (subst (λ n. j < n) (length-set ports place p) below)
        (sym (slice_get-set_other ports place j p other) ∙ at) due
  ]

  keys-set : (ports : List (PortState X)) (keys : List ℕ) (place key : ℕ) (p : PortState X)
      → place < length ports → place < length keys → key ≡ key_of (order_at (due_of facts p)) place →
      ((j : ℕ) (q : PortState X) → slice_get ports j ≡ Some q
      → slice_get keys j ≡ Some (key_of (order_at (due_of facts q)) j)) →
      (j : ℕ) (q : PortState X) → slice_get (set ports place p) j ≡ Some q
      → slice_get (set keys place key) j ≡ Some (key_of (order_at (due_of facts q)) j)
  keys-set ports keys place key p within key_within is old j q at = elim (cases_eq j place) [
    | inl same ↦ (
        let here : slice_get (set ports place p) place ≡ Some p = slice_get-set_same ports place p within in
        let there : slice_get (set ports place p) place ≡ Some q =
        subst (λ z. slice_get (set ports place p) z ≡ Some q) same at in
        let e : p ≡ q = cc in
        let set_key : slice_get (set keys place key) place ≡ Some key = slice_get-set_same keys place key key_within in
        subst (λ z. slice_get (set keys place key) z ≡ Some (key_of (order_at (due_of facts q)) z)) (sym same)
        (set_key ∙ ap Some (is ∙ ap (λ z. key_of (order_at (due_of facts z)) place) e)))
    | inr other ↦ slice_get-set_other keys place j key other
        ∙ old j q (sym (slice_get-set_other ports place j p other) ∙ at)
  ]

  -- one port has changed
  pub serving-set : (ports : List (PortState X)) (old new : Serving) (place order : ℕ) (p : PortState X)
      → IsServing facts ports old → place < 24 → order ≡ order_at (due_of facts p) →
      IfSome (due_of facts p) (λ d. given_at d ≤ 1200000000000000)
      → length old.keys ≡ 24 → new.keys ≡ set old.keys place (key_of order place)
      → IsServing facts (set ports place p) new
  serving-set ports old new place order p serving within is limit count keys =
      let below : place < length ports = omega (arith, within, serving.port_count) in
      record {
        port_count = length-set ports place p ∙ serving.port_count;
        keys = λ j q at. ap (λ ks. slice_get ks j) keys ∙
            keys-set ports old.keys place (key_of order place) p below
            (omega (arith, within, count)) (ap (λ z. key_of z place) is)
            serving.keys j q at;
        limit = limit-set ports place p below serving.limit limit;
      }

  -- the ports seen so far have their keys
  pub record HaveKeys (ports : List (PortState X)) (all : List ℕ) (n : ℕ) : Type 0 where
    pub key_count : length all ≡ 24
    pub keys : (place : ℕ) (p : PortState X) → place < n → slice_get ports place ≡ Some p
        → slice_get all place ≡ Some (key_of (order_at (due_of facts p)) place)
    pub limit : AreLimited facts ports n

  pub no-keys : (ports : List (PortState X)) → HaveKeys ports (replicate 24 0) 0
  no-keys ports = record {
    key_count = refl;
    keys = λ place p below. absurd (omega (arith, below));
    limit = λ place p d below. absurd (omega (arith, below));
  }

  -- one more port's key
  pub keys-next : (ports : List (PortState X)) (all keys : List ℕ) (n order : ℕ)
      (p : PortState X) → n < 24 → slice_get ports n ≡ Some p → HaveKeys ports all n
      → order ≡ order_at (due_of facts p) →
      IfSome (due_of facts p) (λ d. given_at d ≤ 1200000000000000)
      → keys ≡ set all n (key_of order n) → HaveKeys ports keys (n + 1)
  keys-next ports all keys n order p within at h is limit set_key = record {
    key_count = ap length set_key ∙ length-set all n (key_of order n) ∙ h.key_count;
    keys = λ j q below there. ap (λ ks. slice_get ks j) set_key ∙ key j q below there;
    limit = limit-step facts ports n p at limit h.limit;
  }
    where
      key : (j : ℕ) (q : PortState X) → j < n + 1 → slice_get ports j ≡ Some q
          → slice_get (set all n (key_of order n)) j ≡ Some (key_of (order_at (due_of facts q)) j)
      key j q below there = elim (cases_lt j n) [
        | inl before ↦ slice_get-set_other all n j (key_of order n)
            (λ same. omega (arith, same, before)) ∙ h.keys j q before there
        | inr past ↦ (
            let same : j ≡ n = omega (arith, below, past) in
            let at_n : slice_get ports n ≡ Some q = subst (λ z. slice_get ports z ≡ Some q) same there in
            let e : p ≡ q = cc in
            let set_n : slice_get (set all n (key_of order n)) n ≡ Some (key_of order n) =
            slice_get-set_same all n (key_of order n) (omega (arith, within, h.key_count)) in
            subst (λ z. slice_get (set all n (key_of order n)) z
            ≡ Some (key_of (order_at (due_of facts q)) z)) (sym same)
            (set_n ∙ ap Some (ap (λ z. key_of z n) is ∙ ap (λ z. key_of (order_at (due_of facts z)) n) e)))
      ]

  pub all-keys : (ports : List (PortState X)) (s : Serving) (n : ℕ) → n ≡ length ports
      → length ports ≡ 24 → HaveKeys ports s.keys n → IsServing facts ports s
  all-keys ports s n all count h = record {
    port_count = count;
    keys = λ place p at. h.keys place p (omega (arith, all, slice_get_within ports place p at)) at;
    limit = subst (λ k. AreLimited facts ports k) all h.limit;
  }

  -- it is said of what stands at each place
  pub serving-same : (old ports : List (PortState X)) (s : Serving) → IsServing facts old s
      → length ports ≡ 24 → ((i : ℕ) → slice_get old i ≡ slice_get ports i) → IsServing facts ports s
  serving-same old ports s serving count same = record {
    port_count = count;
    keys = λ place p at. serving.keys place p (same place ∙ at);
    limit = λ place p d below at due.
        serving.limit place p d (omega (arith, below, count, serving.port_count)) (same place ∙ at) due;
  }
