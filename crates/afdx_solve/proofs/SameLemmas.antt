-- What a port and a sender see of links whose jitters, latencies or skews are other ones.
use Rattle.std.proofs.Common.{◌≡◌, ℕ, ◌+◌, ◌*◌, max, Bool, true, false, cond, List, [], ◌∷◌, map, filter, refl, sym, ap}
use Rattle.std.proofs.Common.{◌∙◌, nat_eq}
use Rattle.std.specs.List.{sum_by}
use Rattle.std.proofs.lemmas.List.Sums.{sum_by-cons}
use Rattle.afdx_frame.specs.declared.link.Priority.{Priority}
use Rattle.afdx_frame.specs.declared.link.Priority.TheVariants.{High, Low}
use Rattle.afdx_frame.specs.Regulation.{byte_units, fill_rate, cap}
use Rattle.afdx_frame.specs.Flows.{Flow, of_class, is_class, burst, load, longest, high_wait, low_wait, high_load}
use Rattle.afdx_config.specs.Rows.{LinkRow, Rows, is_to}
use Rattle.afdx_config.specs.Flows.{flow_of_link, regulation_of_link}
use Rattle.afdx_config.specs.Admission.{links_to, links_from, flows_to, sender_jitter}
use Rattle.afdx_solve.specs.declared.options.SolveOptions.{SolveOptions}
use Rattle.afdx_solve.specs.Solved.{with_jitter, with_delay}

filter-map : {X Y : Type 0} (h : X → Y) (q : Y → Bool) (p : X → Bool) → ((x : X) → q (h x) ≡ p x) → (xs : List X)
    → filter q (map h xs) ≡ map h (filter p xs)
filter-map h q p same [] = refl
filter-map h q p same (x ∷ xs) =
    ap (λ b. cond b (h x ∷ filter q (map h xs)) (filter q (map h xs))) (same x)
    ∙ by h q p x xs (p x) (filter-map h q p same xs)
  where
    by : {X Y : Type 0} (h : X → Y) (q : Y → Bool) (p : X → Bool) (x : X) (xs : List X) (b : Bool)
        → filter q (map h xs) ≡ map h (filter p xs)
        → cond b (h x ∷ filter q (map h xs)) (filter q (map h xs)) ≡ map h (cond b (x ∷ filter p xs) (filter p xs))
    by h q p x xs true e = ap (λ ys. h x ∷ ys) e
    by h q p x xs false e = e

sum_by-map : {X Y : Type 0} (w : Y → ℕ) (h : X → Y) (xs : List X) → sum_by w (map h xs) ≡ sum_by (λ x. w (h x)) xs
sum_by-map w h [] = refl
sum_by-map w h (x ∷ xs) =
    sum_by-cons w (h x) (map h xs) ∙ ap (λ n. w (h x) + n) (sum_by-map w h xs)
    ∙ sym (sum_by-cons (λ y. w (h y)) x xs)

-- ---- a sender

pub jitter-with_jitter : (o : SolveOptions) (t : Rows) (ns : ℕ) (ls : List LinkRow) (place : ℕ)
    → sender_jitter ns (links_from (map (with_jitter o t) ls) place) ≡ sender_jitter ns (links_from ls place)
jitter-with_jitter o t ns ls place =
    let w : LinkRow → ℕ = λ l. (regulation_of_link l).smax * ns in
    let from : LinkRow → Bool = λ l. nat_eq l.from place in
    ap (sender_jitter ns) (filter-map (with_jitter o t) from from (λ l. refl) ls)
    ∙ ap (λ n. 40000 + n) (sum_by-map w (with_jitter o t) (links_from ls place))

pub jitter-with_delay : (o : SolveOptions) (t : Rows) (ns : ℕ) (ls : List LinkRow) (place : ℕ)
    → sender_jitter ns (links_from (map (with_delay o t) ls) place) ≡ sender_jitter ns (links_from ls place)
jitter-with_delay o t ns ls place =
    let w : LinkRow → ℕ = λ l. (regulation_of_link l).smax * ns in
    let from : LinkRow → Bool = λ l. nat_eq l.from place in
    ap (sender_jitter ns) (filter-map (with_delay o t) from from (λ l. refl) ls)
    ∙ ap (λ n. 40000 + n) (sum_by-map w (with_delay o t) (links_from ls place))

-- ---- a port

module _ (o : SolveOptions) (t : Rows) where
  abbrev f : LinkRow → LinkRow
  f = with_delay o t

  flows_to-f : (ls : List LinkRow) (place : ℕ)
      → flows_to (map f ls) place ≡ map flow_of_link (map f (links_to ls place))
  flows_to-f ls place = ap (map flow_of_link) (filter-map f (is_to place) (is_to place) (λ l. refl) ls)

  sums-f : (w : Flow → ℕ) → (xs : List LinkRow) → ((l : LinkRow) → w (flow_of_link (f l)) ≡ w (flow_of_link l))
      → sum_by w (map flow_of_link (map f xs)) ≡ sum_by w (map flow_of_link xs)
  sums-f w [] same = refl
  sums-f w (x ∷ xs) same =
      sum_by-cons w (flow_of_link (f x)) (map flow_of_link (map f xs))
      ∙ ap (λ n. n + sum_by w (map flow_of_link (map f xs))) (same x)
      ∙ ap (λ n. w (flow_of_link x) + n) (sums-f w xs same)
      ∙ sym (sum_by-cons w (flow_of_link x) (map flow_of_link xs))

  burst-f : (xs : List LinkRow) → burst (map flow_of_link (map f xs)) ≡ burst (map flow_of_link xs)
  burst-f xs = sums-f (λ x. cap x.link) xs (λ l. refl)

  load-f : (ns : ℕ) (xs : List LinkRow) → load ns (map flow_of_link (map f xs)) ≡ load ns (map flow_of_link xs)
  load-f ns xs = sums-f (λ x. fill_rate x.link * ns) xs (λ l. refl)

  longest-f : (xs : List LinkRow) → longest (map flow_of_link (map f xs)) ≡ longest (map flow_of_link xs)
  longest-f [] = refl
  longest-f (x ∷ xs) = ap (max (flow_of_link x).link.smax) (longest-f xs)

  abbrev has_class : Priority → LinkRow → Bool
  has_class class l = is_class class l.priority

  of_class-flows : (class : Priority) (xs : List LinkRow)
      → of_class class (map flow_of_link xs) ≡ map flow_of_link (filter (has_class class) xs)
  of_class-flows class xs = filter-map flow_of_link (λ x. is_class class x.priority) (has_class class) (λ l. refl) xs

  of_class-f : (class : Priority) (xs : List LinkRow)
      → of_class class (map flow_of_link (map f xs)) ≡ map flow_of_link (map f (filter (has_class class) xs))
  of_class-f class xs = of_class-flows class (map f xs)
      ∙ ap (map flow_of_link) (filter-map f (has_class class) (has_class class) (λ l. refl) xs)

  module _ (ls : List LinkRow) (place : ℕ) where
    abbrev now : List Flow
    now = flows_to (map f ls) place

    abbrev before : List Flow
    before = flows_to ls place

    pub burst-same : burst now ≡ burst before
    burst-same = ap burst (flows_to-f ls place) ∙ burst-f (links_to ls place)

    class_burst-same : (class : Priority) → burst (of_class class now) ≡ burst (of_class class before)
    class_burst-same class =
        let xs = links_to ls place in
        ap (λ fs. burst (of_class class fs)) (flows_to-f ls place) ∙ ap burst (of_class-f class xs)
        ∙ burst-f (filter (has_class class) xs) ∙ ap burst (sym (of_class-flows class xs))

    longest-same : (class : Priority) → longest (of_class class now) ≡ longest (of_class class before)
    longest-same class =
        let xs = links_to ls place in
        ap (λ fs. longest (of_class class fs)) (flows_to-f ls place) ∙ ap longest (of_class-f class xs)
        ∙ longest-f (filter (has_class class) xs) ∙ ap longest (sym (of_class-flows class xs))

    pub high_load-same : (ns : ℕ) → high_load ns now ≡ high_load ns before
    high_load-same ns =
        let xs = links_to ls place in
        ap (λ fs. load ns (of_class High fs)) (flows_to-f ls place) ∙ ap (load ns) (of_class-f High xs)
        ∙ load-f ns (filter (has_class High) xs) ∙ ap (load ns) (sym (of_class-flows High xs))

    pub high_wait-same : (ns : ℕ) → high_wait ns now ≡ high_wait ns before
    high_wait-same ns =
        ap (λ n. (n + byte_units * longest (of_class Low now)) * ns) (class_burst-same High)
        ∙ ap (λ n. (burst (of_class High before) + byte_units * n) * ns) (longest-same Low)

    pub low_wait-same : (ns : ℕ) → low_wait ns now ≡ low_wait ns before
    low_wait-same ns = ap (λ n. n * ns) burst-same
