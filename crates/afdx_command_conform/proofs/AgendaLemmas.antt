-- What is to be told first.
use Rattle.std.proofs.Common.{◌≡◌, ◌≤◌, ◌<◌, ◌+◌, ◌*◌, ◌∙◌, ℕ, List, ◌∷◌, ap, get_or, sym, subst, arith, refl}
use Rattle.std.proofs.Common.{Option, Some, None, false, IfSome, IfNone}
use Rattle.std.proofs.lemmas.Bool.{le-ltb, ltb-false}
use Rattle.std.proofs.lemmas.Bool.Decides.{nat_tests}
use Rattle.std.proofs.lemmas.List.Elements.{All-cons, All-from_recursion, All-tail, All-weaker}
use Rattle.std.proofs.lemmas.List.Sorted.{All-permutation}
use Rattle.std.proofs.Common.{Less, Greater}
use Rattle.std.specs.Cmp.{nat_cmp_is}
use Rattle.std.specs.BinaryHeap.{IsHeap, IsUpperBound, PopsGreatest}
use Rattle.std.specs.List.{All}
use Rattle.std.specs.List.Sorted.{IsPermutation}
use Rattle.std.specs.Option.{ForSome}
use Rattle.std.specs.Ordering.{is_lt, nat_cmp}
use Rattle.afdx_frame.specs.declared.link.Side.{Side}
use Rattle.afdx_frame.specs.declared.link.Side.TheVariants.{A, B}
use Rattle.afdx_command_conform.specs.declared.agenda.AgendaEntry.{AgendaEntry}
use Rattle.afdx_command_conform.specs.declared.key.Key.{Key}
use Rattle.afdx_command_conform.specs.Awaited.{AreKeys, AreNotBefore, by_rank, is_before, rank_of}
use Rattle.afdx_command_conform.specs.Keys.{IsKey, key_rank, link_rank, side_rank}

-- ---- ranks of keys

side-small : (side : Side) → side_rank side ≤ 1
side-small A = omega arith
side-small B = omega arith

link-small : (link : Option ℕ) → ForSome link (λ l. l < 0x10000) → link_rank link ≤ 0x10000
link-small None h = omega arith
link-small (Some link) h = omega (arith, h link refl)

pub key-small : (key : Key) → IsKey key → key_rank key < 0x10000000000000000
key-small key h = omega (arith, side-small key.side, link-small key.link h.link, h.port)

-- ---- one entry and another: by moment, and at one moment by key

pub sooner : (x y : AgendaEntry) → IsKey x.key → x.moment < y.moment → Less ≡ nat_cmp (rank_of x) (rank_of y)
sooner x y small lt = nat_cmp_is (rank_of x) (rank_of y) Less (omega (arith, lt, key-small x.key small))

pub later : (x y : AgendaEntry) → IsKey y.key → y.moment < x.moment → Greater ≡ nat_cmp (rank_of x) (rank_of y)
later x y small lt = nat_cmp_is (rank_of x) (rank_of y) Greater (omega (arith, lt, key-small y.key small))

behind-one : (k a b : ℕ) → nat_cmp a b ≡ nat_cmp (k + a) (k + b)
behind-one k a b = grind (arith, nat_tests)

pub by-key : (x y : AgendaEntry) → x.moment ≡ y.moment → nat_cmp (key_rank x.key) (key_rank y.key) ≡ nat_cmp (rank_of x)
    (rank_of y)
by-key x y same =
    behind-one (x.moment * 0x10000000000000000) (key_rank x.key) (key_rank y.key)
    ∙ ap (λ m. nat_cmp (rank_of x) (m * 0x10000000000000000 + key_rank y.key)) same

-- ---- the one on top

no-less : (x y : AgendaEntry) → is_lt (nat_cmp (rank_of y) (rank_of x)) ≡ false → rank_of x ≤ rank_of y
no-less x y h = by (rank_of x) (rank_of y) h
  where
    by : (m n : ℕ) → is_lt (nat_cmp n m) ≡ false → m ≤ n
    by m n e = grind (arith, nat_tests)

pub top-first : (x : AgendaEntry) (xs : List AgendaEntry) → IsUpperBound by_rank x xs →
    All (λ y. rank_of x ≤ rank_of y) xs
top-first x xs h =
    All-weaker (λ y. is_lt (nat_cmp (rank_of y) (rank_of x)) ≡ false) (λ y. rank_of x ≤ rank_of y)
    (λ y k. no-less x y k) xs
    (All-from_recursion (λ y. is_lt (nat_cmp (rank_of y) (rank_of x)) ≡ false) xs h)

-- what is no earlier than one that isn't before a time isn't before it
pub not-before : (before : Option ℕ) (x y : AgendaEntry) → IsKey y.key → rank_of x ≤ rank_of y
    → is_before before x ≡ false → is_before before y ≡ false
not-before None x y small ranks h = h
not-before (Some time) x y small ranks h =
    le-ltb y.moment time (omega (arith, ranks, key-small y.key small, ltb-false x.moment time h))

pub none-before : (before : Option ℕ) (x : AgendaEntry) (xs : List AgendaEntry) → AreKeys xs → IsUpperBound by_rank x xs
    → is_before before x ≡ false → AreNotBefore before xs
none-before before x xs keys h e k d w =
    not-before before x (get_or xs k d) (keys k d w) (top-first x xs h k d w) e

-- ---- keys

pub keys-push : (x : AgendaEntry) (xs ys : List AgendaEntry) → IsKey x.key → AreKeys xs → IsPermutation (x ∷ xs) ys →
    AreKeys ys
keys-push x xs ys here keys moved =
    All-permutation (λ y. IsKey y.key) (x ∷ xs) ys moved (All-cons (λ y. IsKey y.key) x xs here keys)

keys-rest : (xs ys : List AgendaEntry) (x : AgendaEntry) → AreKeys xs → IsPermutation xs (x ∷ ys) → AreKeys ys
keys-rest xs ys x keys moved =
    All-tail (λ y. IsKey y.key) x ys (All-permutation (λ y. IsKey y.key) xs (x ∷ ys) moved keys)

-- one is taken, or nothing changes
pub keys-pop : (L : Type 0) (xs ys : List AgendaEntry) (taken : Option AgendaEntry) → IsHeap by_rank xs × AreKeys xs
    → IfSome taken (λ x. IsPermutation xs (x ∷ ys)) → IfSome taken (λ x. PopsGreatest by_rank xs x ys)
    → IfNone taken ((ys ≡ xs) × L) → IsHeap by_rank ys × AreKeys ys
keys-pop L xs ys None known moved heap same =
    subst (λ (zs : List AgendaEntry). IsHeap by_rank zs × AreKeys zs) (sym same.0) known
keys-pop L xs ys (Some x) known moved heap same = ((heap known.0).0, keys-rest xs ys x known.1 moved)
