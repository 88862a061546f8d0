-- The least key is that of the first turn.
use Rattle.std.proofs.Common.{◌≡◌, ◌≢◌, ℕ, zero, suc, ◌+◌, ◌/◌, ◌%◌, ◌<◌, ◌≤◌, List, [], ◌∷◌, length, slice_get}
use Rattle.std.proofs.Common.{refl, sym, ap, ◌∙◌, subst, arith, inl, inr, set}
use Rattle.std.specs.Prelude.{Some, None}
use Rattle.std.proofs.lemmas.Bool.{cases_lt}
use Rattle.std.proofs.lemmas.List.{length-set}
use Rattle.std.proofs.lemmas.Option.{slice_get_within}
use Rattle.afdx_frame.specs.declared.link.Side.{Side}
use Rattle.afdx_frame.specs.declared.link.Side.TheVariants.{A, B}
use Rattle.afdx_port.proofs.TurnLemmas.{nat_lt-true, nat_lt-false}
use Rattle.afdx_switch.proofs.ListLemmas.{set-cases}
use Rattle.afdx_frame.proofs.ListLemmas.{slice_get-set_here, slice_get-set_there}
use Rattle.afdx_network.specs.Network.{TellsOrder}
use Rattle.afdx_network.specs.Order.{side_number}
use Rattle.afdx_network.specs.declared.network.Network.{Network}
use Rattle.afdx_cascade.specs.Keys.{AreKeys, AreOthersSame, IsKey, IsLeast, key_of}
use Rattle.afdx_cascade.specs.Scan.{IsFirstFrom, by_side, earlier_of, first_with}
use Rattle.afdx_cascade.specs.declared.scan.FirstTurn.{FirstTurn}

-- ---- a key

side-low : (s : Side) → side_number s ≤ 1
side-low A = omega arith
side-low B = omega arith

pub side-same : (s r : Side) → side_number s ≡ side_number r → s ≡ r
side-same A A e = refl
side-same B B e = refl
side-same A B e = absurd (cc e)
side-same B A e = absurd (cc e)

abbrev key-first : FirstTurn → ℕ
key-first f = key_of f.order f.side f.switch.0

-- the order counts first
order-before : (o p w v : ℕ) (s r : Side) → o < p → w < 32 → key_of o s w ≤ key_of p r v
order-before o p w v s r lt low =
    let ls = side-low s in let lr = side-low r in omega (arith, lt, low, ls, lr)

-- ---- the first of some switches

record Found (at : ℕ) (ns : List Network) (keys : List ℕ) : Type 0 where
  pub first : FirstTurn
  pub is : IsFirstFrom at ns (Some first)
  pub low : at ≤ first.switch.0
  pub high : first.switch.0 < at + length ns
  pub place : ℕ
  pub own : slice_get keys place ≡ Some (key-first first)
  pub lowest : (i key : ℕ) → slice_get keys i ≡ Some key → key-first first ≤ key

-- the keys of networks that are numbered from `at` on
record KeysFrom (at : ℕ) (ns : List Network) (keys : List ℕ) : Type 0 where
  pub count : length keys ≡ length ns
  pub each : (k key : ℕ) (n : Network) → slice_get keys k ≡ Some key → slice_get ns k ≡ Some n
      → IsKey (at + k) n key

keys-behind : (at key : ℕ) (keys : List ℕ) (n : Network) (ns : List Network)
    → KeysFrom at (n ∷ ns) (key ∷ keys) → KeysFrom (at + 1) ns keys
keys-behind at key keys n ns all = record {
  count = (let c = all.count in omega (arith, c));
  each = λ k x m here there. subst (λ i. IsKey i m x) (omega arith) (all.each (suc k) x m here there);
}

module _ (at key : ℕ) (keys : List ℕ) (n : Network) (ns : List Network) (order : ℕ) (side : Side)
    (tells : TellsOrder n order side) (key_is : key ≡ key_of order side at) where
  -- the head alone
  head-alone : ns ≡ [] → keys ≡ [] → Found at (n ∷ ns) (key ∷ keys)
  head-alone none no_keys =
      subst (λ ms. Found at (n ∷ ms) (key ∷ keys)) (sym none)
      (subst (λ ks. Found at (n ∷ []) (key ∷ ks)) (sym no_keys) alone)
    where
      alone : Found at (n ∷ []) (key ∷ [])
      alone = record {
        first = first_with order at side;
        is = (order, side, None, tells, tt, refl);
        low = omega arith;
        high = omega arith;
        place = 0;
        own = ap Some key_is;
        lowest = each;
      }
        where
          each : (i k : ℕ) → slice_get (key ∷ []) i ≡ Some k → key_of order side at ≤ k
          each zero k here = let same : key ≡ k = cc here in omega (arith, same, key_is)
          each (suc i) k here = absurd (cc here)

  module _ (f : Found (at + 1) ns keys) where
    own-first : earlier_of (first_with order at side) (Some f.first) ≡ first_with order at side
        → key_of order side at ≤ key-first f.first → Found at (n ∷ ns) (key ∷ keys)
    own-first picked le = record {
      first = first_with order at side;
      is = (order, side, Some f.first, tells, f.is, ap Some (sym picked));
      low = omega arith;
      high = omega arith;
      place = 0;
      own = ap Some key_is;
      lowest = each;
    }
      where
        each : (i k : ℕ) → slice_get (key ∷ keys) i ≡ Some k → key_of order side at ≤ k
        each zero k here = let same : key ≡ k = cc here in omega (arith, same, key_is)
        each (suc i) k here = let more = f.lowest i k here in omega (arith, le, more)

    other-first : earlier_of (first_with order at side) (Some f.first) ≡ f.first
        → key-first f.first ≤ key_of order side at → Found at (n ∷ ns) (key ∷ keys)
    other-first picked le = record {
      first = f.first;
      is = (order, side, Some f.first, tells, f.is, ap Some (sym picked));
      low = (let l = f.low in omega (arith, l));
      high = (let h = f.high in omega (arith, h));
      place = suc f.place;
      own = f.own;
      lowest = each;
    }
      where
        each : (i k : ℕ) → slice_get (key ∷ keys) i ≡ Some k → key-first f.first ≤ k
        each zero k here = let same : key ≡ k = cc here in omega (arith, same, key_is, le)
        each (suc i) k here = f.lowest i k here

    -- at one place of the order: by side, then by switch
    at-one-place : order ≡ f.first.order → (s r : Side) → side ≡ s → f.first.side ≡ r
        → f.first.switch.0 < 32 → Found at (n ∷ ns) (key ∷ keys)
    at-one-place e s r is other high = by s r is other
      where
        pick : earlier_of (first_with order at side) (Some f.first)
            ≡ by_side side f.first.side (first_with order at side) f.first
        pick = rw (
          nat_lt-false f.first.order order (omega (arith, e)),
          nat_lt-false order f.first.order (omega (arith, e)),
        ) refl

        by : (s r : Side) → side ≡ s → f.first.side ≡ r → Found at (n ∷ ns) (key ∷ keys)
        by A A i h = own-first (pick ∙ rw (i, h) refl) (rw (i, h) (let l = f.low in omega (arith, e, l)))
        by A B i h = own-first (pick ∙ rw (i, h) refl) (rw (i, h) (let l = f.low in omega (arith, e, l)))
        by B B i h = own-first (pick ∙ rw (i, h) refl) (rw (i, h) (let l = f.low in omega (arith, e, l)))
        by B A i h = other-first (pick ∙ rw (i, h) refl) (rw (i, h) (omega (arith, e, high)))

    head-and-more : at < 32 → f.first.switch.0 < 32 → Found at (n ∷ ns) (key ∷ keys)
    head-and-more own high = elim (cases_lt f.first.order order) [
      | inl lt ↦ other-first (rw (nat_lt-true f.first.order order lt) refl)
          (order-before f.first.order order f.first.switch.0 at f.first.side side lt high)
      | inr le ↦ elim (cases_lt order f.first.order) [
        | inl less ↦ own-first
            (rw (nat_lt-false f.first.order order le, nat_lt-true order f.first.order less) refl)
            (order-before order f.first.order at f.first.switch.0 side f.first.side less own)
        | inr ge ↦ at-one-place (omega (arith, le, ge)) side f.first.side refl refl high
      ]
    ]

found : (at : ℕ) (n : Network) (ns : List Network) (keys : List ℕ) → at + length (n ∷ ns) ≤ 24
    → KeysFrom at (n ∷ ns) keys → Found at (n ∷ ns) keys
found at n ns [] few all = absurd (let c = all.count in omega (arith, c))
found at n [] (key ∷ []) few all =
    let (order, side, tells, is) = all.each 0 key n refl refl in
    head-alone at key [] n [] order side tells (is ∙ ap (key_of order side) (omega arith)) refl refl
found at n [] (key ∷ (other ∷ keys)) few all = absurd (let c = all.count in omega (arith, c))
found at n (m ∷ ms) (key ∷ keys) few all =
    let (order, side, tells, is) = all.each 0 key n refl refl in
    let behind : Found (at + 1) (m ∷ ms) keys =
    found (at + 1) m ms keys (omega (arith, few)) (keys-behind at key keys n (m ∷ ms) all) in
    let high = behind.high in
    head-and-more at key keys n (m ∷ ms) order side tells (is ∙ ap (key_of order side) (omega arith))
    behind (omega (arith, few)) (omega (arith, few, high))

-- ---- the least key

pub record LeastIs (ns : List Network) (least : ℕ) : Type 0 where
  pub first : FirstTurn
  pub is : IsFirstFrom 0 ns (Some first)
  pub within : first.switch.0 < length ns
  pub order : least / 64 ≡ first.order
  pub side : least / 32 % 2 ≡ side_number first.side
  pub switch : least % 32 ≡ first.switch.0

pub least-is : (ns : List Network) (keys : List ℕ) (least : ℕ) → length ns ≤ 24
    → AreKeys ns keys → IsLeast keys least → LeastIs ns least
least-is [] keys least few all is = absurd (let c = all.count in let h = is.high in omega (arith, c, h))
least-is (n ∷ ns) keys least few all is =
    let f : Found 0 (n ∷ ns) keys = found 0 n ns keys (omega (arith, few)) (record {
      count = all.count;
      each = λ k key m here there. subst (λ i. IsKey i m key) (omega arith) (all.each k key m here there);
    }) in
    let low = f.lowest is.place least is.own in
    let high = is.lowest f.place (key-first f.first) (omega arith)
    (slice_get_within keys f.place (key-first f.first) f.own) f.own in
    let same : least ≡ key_of f.first.order f.first.side f.first.switch.0 = omega (arith, low, high) in
    let s = side-low f.first.side in
    let w = f.high in
    record {
      first = f.first;
      is = f.is;
      within = (omega (arith, w));
      order = omega (arith, same, s, w, few);
      side = omega (arith, same, s, w, few);
      switch = omega (arith, same, s, w, few);
    }

-- what is found of it is the first turn
pub first-is : (ns : List Network) (least number : ℕ) (side : Side) → LeastIs ns least
    → number ≡ least / 32 % 2 → side_number side ≡ number
    → IsFirstFrom 0 ns (Some (record { order = least / 64; switch = record { 0 = least % 32 }; side = side }))
first-is ns least number side l is side_is =
    let same : side ≡ l.first.side = side-same side l.first.side (side_is ∙ is ∙ l.side) in
    subst (λ (f : FirstTurn). IsFirstFrom 0 ns (Some f))
    (sym (rw (l.order, l.switch, same) refl)) l.is

-- ---- the keys of networks

pub keys-renewed : (old new : List Network) (keys : List ℕ) (switch key : ℕ) → AreKeys old keys
    → AreOthersSame switch old new → length new ≡ length old → switch < length keys
    → ((n : Network) → slice_get new switch ≡ Some n → IsKey switch n key)
    → AreKeys new (set keys switch key)
keys-renewed old new keys switch key all others size within own = record {
  count = length-set keys switch key ∙ all.count ∙ sym size;
  each = λ k x n here there. elim (set-cases keys switch key k x within here) [
    | inl same ↦ subst (λ y. IsKey k n y) (sym same.1)
        (subst (λ j. IsKey j n key) (sym same.0)
        (own n (subst (λ j. slice_get new j ≡ Some n) same.0 there)))
    | inr other ↦ all.each k x n other.1 (others k n other.0 there)
  ];
}

-- the key that is set is not above the least: it is the least now
pub least-set : (keys : List ℕ) (switch key least : ℕ) → IsLeast keys least → switch < length keys
    → key ≤ least → IsLeast (set keys switch key) key
least-set keys switch key least is within le = record {
  place = switch;
  low = omega arith;
  high = (let size = length-set keys switch key in omega (arith, size, within));
  own = slice_get-set_here keys switch key within;
  lowest = λ i n low high there. elim (set-cases keys switch key i n within there) [
    | inl same ↦ (let e = same.1 in omega (arith, e))
    | inr other ↦ (let more = is.lowest i n low (slice_get_within keys i n other.1) other.1 in
        omega (arith, more, le))
  ];
}

-- the key that is set is above the least, and another was: that stays
pub least-stays : (keys : List ℕ) (switch key before least : ℕ) → IsLeast keys least → switch < length keys
    → least < key → slice_get keys switch ≡ Some before → before ≢ least
    → IsLeast (set keys switch key) least
least-stays keys switch key before least is within more here apart =
    let away : is.place ≢ switch = λ same. apart (let at = is.own in
    let there : slice_get keys switch ≡ Some least =
    subst (λ k. slice_get keys k ≡ Some least) same at in
    let e : before ≡ least = cc (here, there) in e) in
    record {
      place = is.place;
      low = is.low;
      high = (let size = length-set keys switch key in let h = is.high in omega (arith, size, h));
      own = slice_get-set_there keys switch is.place key away ∙ is.own;
      lowest = λ i n low high there. elim (set-cases keys switch key i n within there) [
        | inl same ↦ (let e = same.1 in omega (arith, e, more))
        | inr other ↦ is.lowest i n low (slice_get_within keys i n other.1) other.1
      ];
    }

pub others-set : (ns : List Network) (switch : ℕ) (new : Network) → switch < length ns
    → AreOthersSame switch ns (set ns switch new)
others-set ns switch new within k n apart at = elim (set-cases ns switch new k n within at) [
  | inl same ↦ absurd (apart same.0)
  | inr other ↦ other.1
]
