-- What a device has got, and what is held before it.
use Rattle.std.proofs.Common.{◌≡◌, ℕ, ◌+◌, ◌-◌, ◌<◌, List, [], ◌++◌, Some, None, sym, ap, ◌∙◌, arith}
use Rattle.std.proofs.Common.{append-nil, append_assoc, subst, take, length}
use Rattle.std.proofs.Math.Seq.{take-add, take-append-add, take-append_seam}
use Rattle.std.specs.Prelude.{Option, OnErr, IfOk, Result, Ok, Err}
use Rattle.std.specs.List.{slice_range}
use Rattle.std.specs.Io.KnownBytes.{Appends, Keeps, WriteAppends, append_known}

-- of bytes the first n, and those behind them up to the k-th
pub two_parts : (xs : List ℕ) (n k : ℕ) → n < k → take k xs ≡ take n xs ++ slice_range xs n k
two_parts xs n k h =
    let e : k ≡ n + (k - n) = omega arith in
    ap (λ (i : ℕ). take i xs) e ∙ take-add n (k - n) xs

-- a device took the beginning of what was held, and the rest is held
pub handed_front : (a b : Option (List ℕ)) (front rest held : List ℕ) → Appends a b front → held ≡ front ++ rest
    → Keeps (append_known a held) (append_known b rest)
handed_front None b front rest held p e = tt
handed_front (Some a) None front rest held p e = absurd p
handed_front (Some a) (Some b) front rest held p e =
    ap (λ (l : List ℕ). l ++ rest) p ∙ append_assoc a front rest ∙ ap (λ (l : List ℕ). a ++ l) (sym e)

-- it took all that was held, and more behind that
pub handed_more : (a b : Option (List ℕ)) (held more : List ℕ) → Appends a b (held ++ more)
    → Appends (append_known a held) (append_known b []) more
handed_more None b held more p = tt
handed_more (Some a) None held more p = absurd p
handed_more (Some a) (Some b) held more p = append-nil b ∙ p ∙ sym (append_assoc a held more)

-- what a write gives that hands over what was held, and the piece behind it
pub piece_handed : {E : Type 0} (r : Result ℕ E) (a b : Option (List ℕ)) (held piece left text : List ℕ) (before : ℕ)
    → before ≡ length held → text ≡ held ++ piece
    → IfOk r (λ n. Appends a b (take (before + n) text)) → IfOk r (λ n. left ≡ [])
    → OnErr r (Keeps (append_known a (take before text)) (append_known b left))
    → WriteAppends (append_known a held) (append_known b left) r piece
piece_handed (Ok n) a b held piece left text before size whole taken none kept =
    let e : take (before + n) text ≡ held ++ take n piece =
    ap (λ (l : List ℕ). take (before + n) l) whole
    ∙ ap (λ (k : ℕ). take (k + n) (held ++ piece)) size
    ∙ take-append-add held piece n in
    subst (λ (l : List ℕ). Appends (append_known a held) (append_known b l) (take n piece)) (sym none)
    (handed_more a b held (take n piece) (subst (Appends a b) e taken))
piece_handed (Err e) a b held piece left text before size whole taken none kept =
    let same : take before text ≡ held =
    ap (take before) whole ∙ ap (λ (k : ℕ). take k (held ++ piece)) size
    ∙ take-append_seam held piece in
    subst (λ (l : List ℕ). Keeps (append_known a l) (append_known b left)) same kept
