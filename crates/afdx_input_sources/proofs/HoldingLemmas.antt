-- Arrivals that are held: those in the queue rise, and the one that is taken comes first.
use Rattle.std.proofs.Common.{◌≡◌, ◌≤◌, ℕ, List, [], ◌∷◌, ◌++◌, get_or, sym}
use Rattle.std.proofs.Common.{subst, arith, Option, Some, None, false, IfSome, append_assoc}
use Rattle.std.proofs.lemmas.Bool.Decides.{nat_tests}
use Rattle.std.proofs.lemmas.List.Elements.{All-append, All-from_recursion, All-head, All-nil, All-push}
use Rattle.std.proofs.lemmas.List.Elements.{All-tail, All-weaker}
use Rattle.std.proofs.lemmas.List.Sorted.{IsPermutation-append_right, IsPermutation-middle, IsPermutation-sym}
use Rattle.std.proofs.lemmas.List.Sorted.{IsPermutation-trans, length_permutation}
use Rattle.std.specs.BinaryHeap.{IsHeap, IsUpperBound}
use Rattle.std.specs.List.{All}
use Rattle.std.specs.List.Sorted.{IsPermutation}
use Rattle.std.specs.Option.{option_to_list}
use Rattle.std.specs.Ordering.{is_lt, nat_cmp}
use Rattle.afdx_input_sources.specs.Engine.{Item}
use Rattle.afdx_input_sources.specs.declared.number.Number.{Number}
use Rattle.afdx_input_sources.specs.Holding.{AreRising, ComesFirst, Leads, by_rank, rank}

-- ---- the queue

-- one more is put behind all
pub rising-push : (xs : List (Item Number)) (x : Item Number) → AreRising xs → All (λ y. rank y ≤ rank x) xs
    → AreRising (xs ++ x ∷ [])
rising-push [] x h a = (All-nil (λ y. rank x ≤ rank y), tt)
rising-push (y ∷ xs) x h a = (
  All-push (λ z. rank y ≤ rank z) xs x h.0 (All-head (λ z. rank z ≤ rank x) y xs a),
  rising-push xs x h.1 (All-tail (λ z. rank z ≤ rank x) y xs a),
)

-- and none is behind it
pub behind-push : (xs : List (Item Number)) (x : Item Number) → All (λ y. rank y ≤ rank x) xs
    → All (λ y. rank y ≤ rank x) (xs ++ x ∷ [])
behind-push xs x a = All-push (λ z. rank z ≤ rank x) xs x a (omega arith)

pub behind-more : (xs : List (Item Number)) (m n : ℕ) → m ≤ n → All (λ y. rank y ≤ m) xs → All (λ y. rank y ≤ n) xs
behind-more xs m n le a = All-weaker (λ y. rank y ≤ m) (λ y. rank y ≤ n) (λ y k. omega (arith, k, le)) xs a

-- ---- one more is held

pub queued : (queue late : List (Item Number)) (x : Item Number)
    → IsPermutation (x ∷ (queue ++ late)) ((queue ++ x ∷ []) ++ late)
queued queue late x =
    subst (λ (ys : List (Item Number)). IsPermutation (x ∷ (queue ++ late)) ys) (sym (append_assoc queue (x ∷ []) late))
    (IsPermutation-sym (queue ++ x ∷ late) (x ∷ (queue ++ late)) (IsPermutation-middle queue x late))

pub put-late : (queue late more : List (Item Number)) (x : Item Number) → IsPermutation (x ∷ late) more
    → IsPermutation (x ∷ (queue ++ late)) (queue ++ more)
put-late queue late more x h =
    IsPermutation-trans (x ∷ (queue ++ late)) (queue ++ x ∷ late) (queue ++ more)
    (IsPermutation-sym (queue ++ x ∷ late) (x ∷ (queue ++ late)) (IsPermutation-middle queue x late))
    (IsPermutation-append_right queue (x ∷ late) more h)

-- ---- the first is taken

no-less : (x y : Item Number) → is_lt (nat_cmp (rank y) (rank x)) ≡ false → rank x ≤ rank y
no-less x y h = by (rank x) (rank y) h
  where
    by : (m n : ℕ) → is_lt (nat_cmp n m) ≡ false → m ≤ n
    by m n e = grind (arith, nat_tests)

top-first : (x : Item Number) (late : List (Item Number)) → IsUpperBound by_rank x late → ComesFirst x late
top-first x late h =
    All-weaker (λ y. is_lt (nat_cmp (rank y) (rank x)) ≡ false) (λ y. rank x ≤ rank y) (λ y k. no-less x y k) late
    (All-from_recursion (λ y. is_lt (nat_cmp (rank y) (rank x)) ≡ false) late h)

-- one of those that came late
pub late-first : (queue late rest : List (Item Number)) (taken : Option (Item Number)) → Leads late queue
    → IsHeap by_rank late → IfSome taken (λ x. x ≡ get_or late 0 x)
    → IfSome taken (λ x. IsPermutation late (x ∷ rest))
    → IfSome taken (λ x. IsHeap by_rank late → IsUpperBound by_rank x rest)
    → IfSome taken (λ x. ComesFirst x (queue ++ rest))
late-first queue late rest None leads heap top moved below = tt
late-first queue [] rest (Some x) leads heap top moved below =
    absurd (omega (arith, length_permutation [] (x ∷ rest) moved))
late-first queue (y ∷ late) rest (Some x) leads heap top moved below =
    All-append (λ z. rank x ≤ rank z) queue rest
    (subst (λ (z : Item Number). ComesFirst z queue) (sym top) leads) (top-first x rest (below heap))

pub late-rest : (queue late rest : List (Item Number)) (taken : Option (Item Number))
    → IfSome taken (λ x. IsPermutation late (x ∷ rest))
    → IfSome taken (λ x. IsPermutation (queue ++ late) (x ∷ (queue ++ rest)))
late-rest queue late rest None moved = tt
late-rest queue late rest (Some x) moved =
    IsPermutation-trans (queue ++ late) (queue ++ x ∷ rest) (x ∷ (queue ++ rest))
    (IsPermutation-append_right queue late (x ∷ rest) moved) (IsPermutation-middle queue x rest)

-- or the first in the queue
pub queued-first : (queue late rest : List (Item Number)) (taken : Option (Item Number)) → Leads queue late
    → AreRising queue → queue ≡ option_to_list taken ++ rest → IfSome taken (λ x. ComesFirst x (rest ++ late))
queued-first queue late rest None leads rising is = tt
queued-first queue late rest (Some x) leads rising is =
    let leads' : Leads (x ∷ rest) late = subst (λ (xs : List (Item Number)). Leads xs late) is leads in
    let rising' : AreRising (x ∷ rest) = subst (λ (xs : List (Item Number)). AreRising xs) is rising in
    All-append (λ z. rank x ≤ rank z) rest late rising'.0 leads'
