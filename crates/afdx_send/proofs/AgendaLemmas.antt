-- A tournament has the soonest of its leaves at the root, and stays one.
use Rattle.std.proofs.Common.{◌≡◌, ◌≢◌, ℕ, ◌+◌, ◌-◌, ◌*◌, ◌/◌, ◌<◌, ◌≤◌, List, [], ◌∷◌, length}
use Rattle.std.proofs.Common.{replicate, Option, Some, None, option_map, MatchOption, inl, inr}
use Rattle.std.proofs.Common.{refl, sym, ap, subst, arith, ◌∙◌, map, drop, suc, zero, slice_set}
use Rattle.std.proofs.Common.{slice_index_or}
use Rattle.std.specs.List.{slice_get}
use Rattle.std.proofs.lemmas.List.{map-set, length-replicate}
use Rattle.std.proofs.lemmas.Option.{slice_get-map, slice_get-get_or, slice_get_within}
use Rattle.std.proofs.lemmas.Bool.{cases_lt, cases_eq}
use Rattle.afdx_send.specs.declared.agenda.NextRelease.{NextRelease}
use Rattle.afdx_send.specs.Agenda.{IsAhead, IsSooner, IsWinner, IsTournament, times_of, NoneBefore}
use Rattle.afdx_send.specs.Agenda.{IsSoonest, next_with}
use Rattle.afdx_send.proofs.ReleaseLemmas.{get_set_same, get_set_other, length_set}

pub ahead_same : (a : Option NextRelease) → IsAhead a a
ahead_same None = tt
ahead_same (Some x) = (omega arith, λ e. omega arith)

ahead_trans : (a b c : Option NextRelease) → IsAhead a b → IsAhead b c → IsAhead a c
ahead_trans a b None h k = tt
ahead_trans a None (Some z) h k = absurd k
ahead_trans None (Some y) (Some z) h k = absurd h
ahead_trans (Some x) (Some y) (Some z) h k = (
  (let p : x.time ≤ y.time = h.0 in let q : y.time ≤ z.time = k.0 in omega arith),
  λ e. (let p : x.time ≤ y.time = h.0 in let q : y.time ≤ z.time = k.0 in
      let e1 : x.time ≡ y.time = omega arith in let e2 : y.time ≡ z.time = omega arith in
      let r : x.place ≤ y.place = h.1 e1 in let s : y.place ≤ z.place = k.1 e2 in omega arith),
)

zero_plus : (k : ℕ) → k ≡ 0 + k
zero_plus k = omega arith

plus_zero : (k : ℕ) → 0 + k ≡ k
plus_zero k = omega arith

plus_suc : (n k : ℕ) → suc (n + k) ≡ suc n + k
plus_suc n k = omega arith

pub get_drop : {Y : Type 0} (n k : ℕ) (xs : List Y) → slice_get (drop n xs) k ≡ slice_get xs (n + k)
get_drop zero k xs = ap (λ z. slice_get xs z) (zero_plus k)
get_drop (suc n) k [] = refl
get_drop (suc n) k (x ∷ xs) = get_drop n k xs ∙ ap (λ z. slice_get (x ∷ xs) z) (plus_suc n k)

drop_set_before : {Y : Type 0} (n i : ℕ) (y : Y) (xs : List Y) → i < n → drop n (slice_set xs i y) ≡ drop n xs
drop_set_before zero i y xs lt = absurd (omega arith)
drop_set_before (suc n) i y [] lt = refl
drop_set_before (suc n) zero y (x ∷ xs) lt = refl
drop_set_before (suc n) (suc i) y (x ∷ xs) lt = drop_set_before n i y xs (omega arith)

drop_set_after : {Y : Type 0} (n i : ℕ) (y : Y) (xs : List Y) → drop n (slice_set xs (n + i) y)
    ≡ slice_set (drop n xs) i y
drop_set_after zero i y xs = ap (λ z. slice_set xs z y) (plus_zero i)
drop_set_after (suc n) i y [] = refl
drop_set_after (suc n) i y (x ∷ xs) =
    ap (λ z. drop (suc n) (slice_set (x ∷ xs) z y)) (sym (plus_suc n i)) ∙ drop_set_after n i y xs

pub get_replicate : {Y : Type 0} (n i : ℕ) (y z : Y) → slice_get (replicate n y) i ≡ Some z → z ≡ y
get_replicate zero i y z h = absurd (cc h)
get_replicate (suc n) zero y z h = cc h
get_replicate (suc n) (suc i) y z h = get_replicate n i y z h

drop_replicate : {Y : Type 0} (n m : ℕ) (y : Y) → drop n (replicate (n + m) y) ≡ replicate m y
drop_replicate zero m y = ap (λ z. replicate z y) (plus_zero m)
drop_replicate (suc n) m y = ap (λ z. drop (suc n) (replicate z y)) (sym (plus_suc n m)) ∙ drop_replicate n m y

map_replicate : {Y Z : Type 0} (f : Y → Z) (n : ℕ) (y : Y) → map f (replicate n y) ≡ replicate n (f y)
map_replicate f zero y = refl
map_replicate f (suc n) y = ap (λ z. f y ∷ z) (map_replicate f n y)

-- no link has a release
pub new_tournament : (count : ℕ) (nodes : List (Option NextRelease)) → count ≤ 4096
    → nodes ≡ replicate (2 * count) None → IsTournament count nodes
new_tournament count nodes small e = subst (λ (z : List (Option NextRelease)). IsTournament count z) (sym e) (record {
  size = length-replicate (2 * count) None;
  small = small;
  leaves = λ k x h. absurd (let f : Some x ≡ None = get_replicate (2 * count) (count + k) None (Some x) h in cc f);
  winners = λ i le lt a b c ha hb hc. record {
    picks = inl (get_replicate (2 * count) i None a ha ∙ sym (get_replicate (2 * count) (2 * i) None b hb));
    left = subst (λ (z : Option NextRelease). IsAhead a z) (sym (get_replicate (2 * count) (2 * i) None b hb)) tt;
    right = subst (λ (z : Option NextRelease). IsAhead a z) (sym (get_replicate (2 * count) (2 * i + 1) None c hc)) tt;
  };
})

pub new_times : (count : ℕ) (nodes : List (Option NextRelease)) → nodes ≡ replicate (2 * count) None
    → times_of count nodes ≡ replicate count None
new_times count nodes e =
    let two : 2 * count ≡ count + count = omega arith in
    ap (λ z. times_of count z) (e ∙ ap (λ n. replicate n None) two) ∙
    ap (λ z. map (λ x. option_map (λ next. next.time) x) z) (drop_replicate count count None) ∙
    map_replicate (λ x. option_map (λ next. next.time) x) count None

read : (nodes : List (Option NextRelease)) (i : ℕ) → i < length nodes → (a : Option NextRelease) ×
    (slice_get nodes i ≡ Some a)
read nodes i lt = (slice_index_or nodes i None, slice_get-get_or nodes i None lt)

-- the root goes before each node
root_first : (count : ℕ) (nodes : List (Option NextRelease)) → IsTournament count nodes → (r : Option NextRelease)
    → slice_get nodes 1 ≡ Some r →
    (n i : ℕ) (a : Option NextRelease) → i ≤ n → 1 ≤ i → slice_get nodes i ≡ Some a → IsAhead r a
root_first count nodes t r root zero i a le one h = absurd (omega arith)
root_first count nodes t r root (suc n) i a le one h = elim (cases_eq i 1) [
  | inl e ↦ (let h' = subst (λ (z : ℕ). slice_get nodes z ≡ Some a) e h in let both : Some r
      ≡ Some a = sym root ∙ h' in let same : r ≡ a = cc both in
      subst (λ (z : Option NextRelease). IsAhead r z) same (ahead_same r))
  | inr ne ↦ (let size = t.size in
      let within : i < length nodes = slice_get_within nodes i a h in
      let p : ℕ = i / 2 in
      let one' : 1 ≤ p = omega arith in
      let lt : p < count = omega arith in
      let parent = read nodes p (omega arith) in
      let left = read nodes (2 * p) (omega arith) in
      let right = read nodes (2 * p + 1) (omega arith) in
      let w = t.winners p one' lt parent.0 left.0 right.0 parent.1 left.1 right.1 in
      let up = root_first count nodes t r root n p parent.0 (omega arith) one' parent.1 in
      elim (cases_eq i (2 * p)) [
        | inl e ↦ (let h' = subst (λ (z : ℕ). slice_get nodes z ≡ Some a) e h in
            let both : Some left.0 ≡ Some a = sym left.1 ∙ h' in let same : left.0 ≡ a = cc both in
            subst (λ (z : Option NextRelease). IsAhead r z) same (ahead_trans r parent.0 left.0 up w.left))
        | inr ne' ↦ (let e : i ≡ 2 * p + 1 = omega arith in let h' =
            subst (λ (z : ℕ). slice_get nodes z ≡ Some a) e h in let both : Some right.0 ≡ Some a =
            sym right.1 ∙ h' in let same : right.0 ≡ a = cc both in
            subst (λ (z : Option NextRelease). IsAhead r z) same (ahead_trans r parent.0 right.0 up w.right))
      ])
]

-- each node is that of a leaf
from_leaf : (count : ℕ) (nodes : List (Option NextRelease)) → IsTournament count nodes →
    (n i : ℕ) (a : Option NextRelease) → 2 * count ≤ i + n → 1 ≤ i → slice_get nodes i ≡ Some a
    → (k : ℕ) × (slice_get nodes (count + k) ≡ Some a)
from_leaf count nodes t zero i a le one h =
    absurd (let size = t.size in let within = slice_get_within nodes i a h in omega arith)
from_leaf count nodes t (suc n) i a le one h = elim (cases_lt i count) [
  | inl lt ↦ (let size = t.size in
      let left = read nodes (2 * i) (omega arith) in
      let right = read nodes (2 * i + 1) (omega arith) in
      let w = t.winners i one lt a left.0 right.0 h left.1 right.1 in
      elim w.picks [
        | inl e ↦ from_leaf count nodes t n (2 * i) a (omega arith) (omega arith) (left.1 ∙ ap (λ z. Some z) (sym e))
        | inr e ↦ from_leaf count nodes t n (2 * i + 1) a (omega arith) (omega arith)
            (right.1 ∙ ap (λ z. Some z) (sym e))
      ])
  | inr ge ↦ (
    i - count,
    (let e : i ≡ count + (i - count) = omega arith in
        subst (λ (z : ℕ). slice_get nodes z ≡ Some a) e h),
  )
]

time_at : (count : ℕ) (nodes : List (Option NextRelease)) (k : ℕ) (a : Option NextRelease)
    → slice_get nodes (count + k) ≡ Some a → slice_get (times_of count nodes) k
    ≡ Some (option_map (λ next. next.time) a)
time_at count nodes k a h = slice_get-map (λ x. option_map (λ next. next.time) x) (drop count nodes)
    k ∙ ap (λ z. option_map (λ x. option_map (λ next. next.time) x) z) (get_drop count k nodes ∙ h)

-- a time is that of a leaf
leaf_at : (count : ℕ) (nodes : List (Option NextRelease)) → IsTournament count nodes → (k u : ℕ)
    → slice_get (times_of count nodes) k ≡ Some (Some u) →
    (y : NextRelease) × (slice_get nodes (count + k) ≡ Some (Some y)) × (y.time ≡ u)
leaf_at count nodes t k u h = by_node (slice_get nodes (count + k)) refl
  where
    by_node : (o : Option (Option NextRelease)) → slice_get nodes (count + k) ≡ o → (y : NextRelease)
        × (slice_get nodes (count + k) ≡ Some (Some y)) × (y.time ≡ u)
    by_node None e = absurd (let f : slice_get (times_of count nodes) k ≡ None =
        slice_get-map (λ x. option_map (λ next. next.time) x) (drop count nodes) k
        ∙ ap (λ z. option_map (λ x. option_map (λ next. next.time) x) z)
        (get_drop count k nodes ∙ e) in let g : Some (Some u) ≡ None = sym h ∙ f in cc g)
    by_node (Some None) e = absurd
        (let f = time_at count nodes k None e in let g : Some (Some u) ≡ Some None = sym h ∙ f in cc g)
    by_node (Some (Some y)) e = (
      y,
      e,
      (let f = time_at count nodes k (Some y) e in let g : Some (Some u)
          ≡ Some (Some y.time) = sym h ∙ f in cc g),
    )

pub root_is : (count : ℕ) (nodes : List (Option NextRelease)) → IsTournament count nodes
    → (r : Option NextRelease) → slice_get nodes 1 ≡ Some r →
    MatchOption r ((t : ℕ) → NoneBefore (times_of count nodes) t)
    (λ next. IsSoonest (times_of count nodes) next.time next.place)
root_is count nodes t None root = λ u i v h. absurd (let y = leaf_at count nodes t i v h in
    let size = t.size in let within : count + i < length nodes = slice_get_within nodes (count + i) (Some y.0) y.1 in
    let one : 1 ≤ count + i = omega arith in
    root_first count nodes t None root (count + i) (count + i) (Some y.0) (omega arith) one y.1)
root_is count nodes t (Some x) root =
    let size = t.size in
    let within : 1 < length nodes = slice_get_within nodes 1 (Some x) root in
    let leaf = from_leaf count nodes t (2 * count) 1 (Some x) (omega arith) (omega arith) root in
    let place : x.place ≡ leaf.0 = t.leaves leaf.0 x leaf.1 in
    record {
      own = subst (λ (z : ℕ). slice_get (times_of count nodes) z ≡ Some (Some x.time)) (sym place)
          (time_at count nodes leaf.0 (Some x) leaf.1);
      soonest = λ i u h. (let y = leaf_at count nodes t i u h in let one : 1 ≤ count + i = omega arith in
          let a = root_first count nodes t (Some x) root (count + i) (count + i) (Some y.0) (omega arith) one y.1 in
          let le : x.time ≤ y.0.time = a.0 in let e : y.0.time ≡ u = y.2 in omega arith);
      first = λ i h. (let y = leaf_at count nodes t i x.time h in let one : 1 ≤ count + i = omega arith in
          let a = root_first count nodes t (Some x) root (count + i) (count + i) (Some y.0) (omega arith) one y.1 in
          let le : x.place ≤ y.0.place = a.1 (sym y.2) in
          let at : y.0.place ≡ i = t.leaves i y.0 y.1 in omega arith);
    }

-- while a leaf's way to the root is played again: each node is a winner but the one at `node`
pub record IsPlayedTo (count : ℕ) (leaves : List (Option NextRelease)) (nodes : List (Option NextRelease)) (node : ℕ)
    : Type 0 where
  pub size : length nodes ≡ 2 * count
  pub below : node < count
  pub rest : drop count nodes ≡ leaves
  pub winners : (i : ℕ) → 1 ≤ i → i < count → i ≢ node → IsWinner nodes i

half_below : (count place : ℕ) → place < count → (count + place) / 2 < count
half_below count place lt = omega arith

pub set_leaf : (count place : ℕ) (nodes : List (Option NextRelease)) (leaf : Option NextRelease)
    → IsTournament count nodes → place < count →
    IsPlayedTo count (drop count (slice_set nodes (count + place) leaf))
    (slice_set nodes (count + place) leaf) ((count + place) / 2)
set_leaf count place nodes leaf t lt = record {
  size = length_set nodes (count + place) leaf ∙ t.size;
  below = half_below count place lt;
  rest = refl;
  winners = λ i le below ne a b c ha hb hc.
      let na : i ≢ count + place = λ e. omega arith in
      let nb : 2 * i ≢ count + place = λ e. ne (omega arith) in
      let nc : 2 * i + 1 ≢ count + place = λ e. ne (omega arith) in
      t.winners i le below a b c (get_set_other nodes (count + place) i leaf a na ha)
      (get_set_other nodes (count + place) (2 * i) leaf b nb hb)
      (get_set_other nodes (count + place) (2 * i + 1) leaf c nc hc);
}

pub play : (count node : ℕ) (leaves nodes : List (Option NextRelease)) (a b c : Option NextRelease)
    → IsPlayedTo count leaves nodes node → 1 ≤ node →
    slice_get nodes (2 * node) ≡ Some b → slice_get nodes (2 * node + 1) ≡ Some c → IsSooner a b c
    → IsPlayedTo count leaves (slice_set nodes node a) (node / 2)
play count node leaves nodes a b c p one hb hc w = record {
  size = length_set nodes node a ∙ p.size;
  below = (let lt = p.below in omega arith);
  rest = drop_set_before count node a nodes p.below ∙ p.rest;
  winners = λ i le lt ne a' b' c' ha' hb' hc'.
      let nb : 2 * i ≢ node = λ e. ne (omega arith) in
      let nc : 2 * i + 1 ≢ node = λ e. ne (omega arith) in
      let gb = get_set_other nodes node (2 * i) a b' nb hb' in
      let gc = get_set_other nodes node (2 * i + 1) a c' nc hc' in
      elim (cases_eq i node) [
        | inl e ↦ (let same : a' ≡ a =
            get_set_same nodes node a a' (subst
            (λ (z : ℕ). slice_get (slice_set nodes node a) z ≡ Some a') e ha') in
            let eb : Some b ≡ Some b' = sym hb ∙ subst (λ (z : ℕ). slice_get nodes (2 * z) ≡ Some b') e gb in
            let ec : Some c ≡ Some c' = sym hc ∙ subst (λ (z : ℕ). slice_get nodes (2 * z + 1) ≡ Some c') e gc in
            let fb : b ≡ b' = cc eb in let fc : c ≡ c' = cc ec in
            subst (λ (z : Option NextRelease). IsSooner z b' c') (sym same)
            (subst (λ (z : Option NextRelease). IsSooner a z c') fb
            (subst (λ (z : Option NextRelease). IsSooner a b z) fc w)))
        | inr other ↦ p.winners i le lt other a' b' c' (get_set_other nodes node i a a' other ha') gb gc
      ];
}

pub read_at : (nodes : List (Option NextRelease)) (i : ℕ) (a : Option NextRelease) → i < length nodes
    → a ≡ slice_index_or nodes i a → slice_get nodes i ≡ Some a
read_at nodes i a lt e = slice_get-get_or nodes i a lt ∙ ap (λ z. Some z) (sym e)

pub played_on : (count node : ℕ) (leaves nodes : List (Option NextRelease)) (a b c : Option NextRelease)
    → IsPlayedTo count leaves nodes node → 1 ≤ node →
    b ≡ slice_index_or nodes (2 * node) b → c ≡ slice_index_or nodes (2 * node + 1) c
    → IsSooner a b c → IsPlayedTo count leaves (slice_set nodes node a) (node / 2)
played_on count node leaves nodes a b c p one eb ec w =
    let size = p.size in let below = p.below in
    play count node leaves nodes a b c p one (read_at nodes (2 * node) b (omega arith) eb)
    (read_at nodes (2 * node + 1) c (omega arith) ec) w

-- the node that is to be played is the winner already
pub played_already : (count node : ℕ) (leaves nodes : List (Option NextRelease)) (a b c : Option NextRelease)
    → IsPlayedTo count leaves nodes node → 1 ≤ node →
    a ≡ slice_index_or nodes node a → b ≡ slice_index_or nodes (2 * node) b
    → c ≡ slice_index_or nodes (2 * node + 1) c → IsSooner a b c → IsPlayedTo count leaves nodes 0
played_already count node leaves nodes a b c p one ea eb ec w = record {
  size = p.size;
  below = (let lt = p.below in omega arith);
  rest = p.rest;
  winners = λ i le lt ne a' b' c' ha hb hc. elim (cases_eq i node) [
    | inl e ↦ (
        let size = p.size in let below = p.below in
        let fa : Some a ≡ Some a' = sym (read_at nodes node a (omega arith) ea)
        ∙ subst (λ (z : ℕ). slice_get nodes z ≡ Some a') e ha in
        let fb : Some b ≡ Some b' = sym (read_at nodes (2 * node) b (omega arith) eb)
        ∙ subst (λ (z : ℕ). slice_get nodes (2 * z) ≡ Some b') e hb in
        let fc : Some c ≡ Some c' = sym (read_at nodes (2 * node + 1) c (omega arith) ec)
        ∙ subst (λ (z : ℕ). slice_get nodes (2 * z + 1) ≡ Some c') e hc in
        let ga : a ≡ a' = cc fa in let gb : b ≡ b' = cc fb in let gc : c ≡ c' = cc fc in
        subst (λ (z : Option NextRelease). IsSooner z b' c') ga
        (subst (λ (z : Option NextRelease). IsSooner a z c') gb
        (subst (λ (z : Option NextRelease). IsSooner a b z) gc w)))
    | inr other ↦ p.winners i le lt other a' b' c' ha hb hc
  ];
}

rest_is : (count place : ℕ) (old nodes : List (Option NextRelease)) (leaf : Option NextRelease) (node : ℕ)
    → IsPlayedTo count (drop count (slice_set old (count + place) leaf)) nodes node →
    drop count nodes ≡ slice_set (drop count old) place leaf
rest_is count place old nodes leaf node p = p.rest ∙ drop_set_after count place leaf old

pub played : (count place : ℕ) (old nodes : List (Option NextRelease)) (time : Option ℕ)
    (leaf : Option NextRelease) (node : ℕ) → IsTournament count old → leaf ≡ option_map (next_with place) time →
    IsPlayedTo count (drop count (slice_set old (count + place) leaf)) nodes node → node < 1 → IsTournament count nodes
played count place old nodes time leaf node t is p end = record {
  size = p.size;
  small = t.small;
  leaves = λ k x h.
      let g : slice_get (slice_set (drop count old) place leaf) k ≡ Some (Some x) =
      ap (λ z. slice_get z k) (sym (rest_is count place old nodes leaf node p))
      ∙ get_drop count k nodes ∙ h in
      elim (cases_eq k place) [
        | inl e ↦ (let same = get_set_same (drop count old) place leaf (Some x)
            (subst (λ (z : ℕ). slice_get (slice_set (drop count old) place leaf) z ≡ Some (Some x))
            e g) in by_time time x (same ∙ is) ∙ sym e)
        | inr ne ↦ t.leaves k x (sym (get_drop count k old) ∙ get_set_other (drop count old) place k leaf (Some x) ne g)
      ];
  winners = λ i le lt'. p.winners i le lt' (λ e. omega arith);
}
  where
    by_time : (o : Option ℕ) (x : NextRelease) → Some x ≡ option_map (next_with place) o → x.place ≡ place
    by_time None x e = absurd (cc e)
    by_time (Some u) x e = let f : x ≡ next_with place u = cc e in ap (λ z. z.place) f

pub played_times : (count place : ℕ) (old nodes : List (Option NextRelease)) (time : Option ℕ)
    (leaf : Option NextRelease) (node : ℕ) → leaf ≡ option_map (next_with place) time →
    IsPlayedTo count (drop count (slice_set old (count + place) leaf)) nodes node
    → times_of count nodes ≡ slice_set (times_of count old) place time
played_times count place old nodes time leaf node is p =
    let f : Option NextRelease → Option ℕ = λ x. option_map (λ next. next.time) x in
    ap (λ z. map f z) (rest_is count place old nodes leaf node p) ∙
    map-set f (drop count old) place leaf ∙
    ap (λ z. slice_set (times_of count old) place z) (ap f is ∙ back time)
  where
    back : (o : Option ℕ) → option_map {T = NextRelease} (λ next. next.time) (option_map (next_with place) o) ≡ o
    back None = refl
    back (Some u) = refl
