-- What is to be told first.
use Rattle.std.proofs.Common.{◌≡◌, ◌≤◌, ◌<◌, ◌+◌, ◌*◌, ◌∙◌, ℕ, List, ◌∷◌, ap, get_or, sym, subst, arith}
use Rattle.std.proofs.Common.{Option, Some, None, false, IfSome, IfNone}
use Rattle.std.proofs.lemmas.Bool.{le-ltb, ltb-false}
use Rattle.std.proofs.lemmas.Bool.Decides.{nat_tests}
use Rattle.std.proofs.lemmas.List.Elements.{All-cons, All-from_recursion, All-tail, All-weaker}
use Rattle.std.proofs.lemmas.List.Sorted.{All-permutation}
use Rattle.std.proofs.Common.{Less, Greater}
use Rattle.std.specs.Cmp.{nat_cmp_is}
use Rattle.std.specs.BinaryHeap.{IsHeap, IsUpperBound, PopsGreatest}
use Rattle.std.specs.List.{All}
use Rattle.std.specs.List.Sorted.{IsPermutation}
use Rattle.std.specs.Ordering.{is_lt, nat_cmp}
use Rattle.afdx_frame.specs.declared.link.Side.{Side}
use Rattle.afdx_frame.specs.declared.link.Side.TheVariants.{A, B}
use Rattle.afdx_senders.specs.declared.sender_line.SenderLine.{SenderLine}
use Rattle.afdx_senders.specs.Order.{AreHeldLines, AreInType, AreNotBefore, by_rank, is_before, rank_of, rank_there}
use Rattle.afdx_senders.specs.Order.{side_rank, spot_of}

-- ---- ranks

pub side_small : (side : Side) → side_rank side ≤ 1
side_small A = omega arith
side_small B = omega arith

there_small : (x : SenderLine) → AreInType x → rank_there x < 0x2000000000000000000
there_small x h = omega (arith, side_small x.side, h.port, h.line)

-- ---- one line and another: by moment, then by side and port, then by line

pub sooner : (x y : SenderLine) → AreInType x → x.moment < y.moment → Less ≡ nat_cmp (rank_of x) (rank_of y)
sooner x y small lt = nat_cmp_is (rank_of x) (rank_of y) Less (omega (arith, lt, there_small x small))

pub later : (x y : SenderLine) → AreInType y → y.moment < x.moment → Greater ≡ nat_cmp (rank_of x) (rank_of y)
later x y small lt = nat_cmp_is (rank_of x) (rank_of y) Greater (omega (arith, lt, there_small y small))

behind_one : (k a b : ℕ) → nat_cmp a b ≡ nat_cmp (k + a) (k + b)
behind_one k a b = grind (arith, nat_tests)

pub at_one_moment : (x y : SenderLine) → x.moment ≡ y.moment → nat_cmp (rank_there x) (rank_there y)
    ≡ nat_cmp (rank_of x) (rank_of y)
at_one_moment x y same =
    behind_one (x.moment * 0x2000000000000000000) (rank_there x) (rank_there y)
    ∙ ap (λ m. nat_cmp (rank_of x) (m * 0x2000000000000000000 + rank_there y)) same

pub before_there : (x y : SenderLine) → AreInType x → spot_of x < spot_of y →
    Less ≡ nat_cmp (rank_there x) (rank_there y)
before_there x y small lt = nat_cmp_is (rank_there x) (rank_there y) Less (omega (arith, lt, small.line))

pub behind_there : (x y : SenderLine) → AreInType y → spot_of y < spot_of x →
    Greater ≡ nat_cmp (rank_there x) (rank_there y)
behind_there x y small lt = nat_cmp_is (rank_there x) (rank_there y) Greater (omega (arith, lt, small.line))

pub at_one_spot : (x y : SenderLine) → spot_of x ≡ spot_of y → nat_cmp x.line y.line
    ≡ nat_cmp (rank_there x) (rank_there y)
at_one_spot x y same =
    behind_one (spot_of x * 0x10000000000000000) x.line y.line
    ∙ ap (λ m. nat_cmp (rank_there x) (m * 0x10000000000000000 + y.line)) same

-- ---- the one on top

no_less : (x y : SenderLine) → is_lt (nat_cmp (rank_of y) (rank_of x)) ≡ false → rank_of x ≤ rank_of y
no_less x y h = by (rank_of x) (rank_of y) h
  where
    by : (m n : ℕ) → is_lt (nat_cmp n m) ≡ false → m ≤ n
    by m n e = grind (arith, nat_tests)

pub top_first : (x : SenderLine) (xs : List SenderLine) → IsUpperBound by_rank x xs →
    All (λ y. rank_of x ≤ rank_of y) xs
top_first x xs h =
    All-weaker (λ y. is_lt (nat_cmp (rank_of y) (rank_of x)) ≡ false) (λ y. rank_of x ≤ rank_of y)
    (λ y k. no_less x y k) xs
    (All-from_recursion (λ y. is_lt (nat_cmp (rank_of y) (rank_of x)) ≡ false) xs h)

-- what is no earlier than one that isn't before a time isn't before it
not_before : (before : Option ℕ) (x y : SenderLine) → AreInType y → rank_of x ≤ rank_of y
    → is_before before x ≡ false → is_before before y ≡ false
not_before None x y small ranks h = h
not_before (Some time) x y small ranks h =
    le-ltb y.moment time (omega (arith, ranks, there_small y small, ltb-false x.moment time h))

pub none_before : (before : Option ℕ) (x : SenderLine) (xs : List SenderLine) → AreHeldLines xs →
    IsUpperBound by_rank x xs → is_before before x ≡ false → AreNotBefore before xs
none_before before x xs held h e k d w =
    not_before before x (get_or xs k d) (held k d w) (top_first x xs h k d w) e

-- ---- all are ones that the code can hold

pub held_pushed : (x : SenderLine) (xs ys : List SenderLine) → AreInType x → AreHeldLines xs →
    IsPermutation (x ∷ xs) ys → AreHeldLines ys
held_pushed x xs ys here held moved =
    All-permutation AreInType (x ∷ xs) ys moved (All-cons AreInType x xs here held)

held_rest : (xs ys : List SenderLine) (x : SenderLine) → AreHeldLines xs → IsPermutation xs (x ∷ ys) → AreHeldLines ys
held_rest xs ys x held moved =
    All-tail AreInType x ys (All-permutation AreInType xs (x ∷ ys) moved held)

-- one is taken, or nothing changes
pub held_popped : (L : Type 0) (xs ys : List SenderLine) (taken : Option SenderLine) →
    IsHeap by_rank xs × AreHeldLines xs
    → IfSome taken (λ x. IsPermutation xs (x ∷ ys)) → IfSome taken (λ x. PopsGreatest by_rank xs x ys)
    → IfNone taken ((ys ≡ xs) × L) → IsHeap by_rank ys × AreHeldLines ys
held_popped L xs ys None known moved heap same =
    subst (λ (zs : List SenderLine). IsHeap by_rank zs × AreHeldLines zs) (sym same.0) known
held_popped L xs ys (Some x) known moved heap same = ((heap known.0).0, held_rest xs ys x known.1 moved)
