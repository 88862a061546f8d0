-- The loops over states, findings and frames of a stream.
use Rattle.std.proofs.Common.{◌≡◌, ℕ, zero, suc, ◌+◌, ◌-◌, ◌<◌, Bool, false, List, [], ◌∷◌, ◌++◌, map, take, drop, get_or, length, min, slice_set, refl, sym, ap, ◌∙◌, arith}
use Rattle.std.proofs.lemmas.List.{get_or_default, map-append, take_more}
use Rattle.std.specs.Bool.{◌==◌}
use Rattle.afdx_conform.specs.Findings.{Finding, frames_in, frames_of}
use Rattle.afdx_conform.specs.HeldStates.{past, state_of}
use Rattle.afdx_conform.specs.Histories.{least_from, least_waiting}
use Rattle.afdx_conform.specs.Growing.{most_found}
use Rattle.afdx_conform.specs.States.{State}
use Rattle.afdx_conform.specs.Streams.{Gone}
use Rattle.afdx_conform.specs.declared.states.StreamState.{StreamState}

pub frames-more : (found : List Finding) (f : Finding) → frames_in (found ++ (f ∷ [])) ≡ frames_in found + frames_of f
unfolding frames_in
frames-more [] f = omega arith
frames-more (g ∷ found) f = (let h = frames-more found f in omega (arith, h))

pub least-more : (least : ℕ) (l : List State) (s : State) → least_from least (l ++ (s ∷ []))
    ≡ min (least_from least l) s.waiting
unfolding least_from
least-more least [] s = refl
least-more least (t ∷ l) s = least-more (min least t.waiting) l s

-- the first one twice
pub least-whole : (ys : List Gone) (held : List StreamState) (d : StreamState) → 0 < length held
    → least_from (get_or held 0 d).waiting (map (state_of ys) held) ≡ least_waiting (map (state_of ys) held)
unfolding least_from
least-whole ys [] d lt = absurd (omega (arith, lt))
least-whole ys (h ∷ held) d lt =
    let same : min h.waiting h.waiting ≡ h.waiting = omega arith in
    ap (λ (n : ℕ). least_from n (map (state_of ys) held)) same

-- the first `i` states are changed
abbrev pub changed : ℕ → ℕ → List StreamState → List StreamState
changed count i held = map (λ h. past (h.passed - count) h) (take i held) ++ drop i held

pub change-next : (count i : ℕ) (held : List StreamState) (d : StreamState) → i < length held
    → slice_set (changed count i held) i (past ((get_or (changed count i held) i d).passed - count)
    (get_or (changed count i held) i d))
    ≡ changed count (suc i) held
change-next count i [] d lt = absurd (omega (arith, lt))
change-next count zero (h ∷ held) d lt = refl
change-next count (suc i) (h ∷ held) d lt =
    ap (λ (l : List StreamState). past (h.passed - count) h ∷ l) (change-next count i held d (omega (arith, lt)))

-- ---- one step

pub count-next : (d : Finding) (found : List Finding) (i frames counted result : ℕ) → i < length found
    → frames ≡ min (frames_in (take i found)) most_found → counted ≡ frames_of (get_or found i d)
    → result ≡ min (frames + counted) most_found → result ≡ min (frames_in (take (i + 1) found)) most_found
count-next d found i frames counted result lt before one is =
    let more = frames-more (take i found) (get_or found i d) in
    let whole = ap (λ (l : List Finding). frames_in l) (take_more found i d lt) in
    omega (arith, before, one, is, more, whole)

pub least-next : (d : StreamState) (ys : List Gone) (held : List StreamState) (i first least result : ℕ) →
    i < length held
    → least ≡ least_from first (map (state_of ys) (take i held)) → result ≡ min least (get_or held i d).waiting
    → result ≡ least_from first (map (state_of ys) (take (i + 1) held))
least-next d ys held i first least result lt before is =
    is ∙ ap (λ (n : ℕ). min n (get_or held i d).waiting) before
    ∙ sym (least-more first (map (state_of ys) (take i held)) (state_of ys (get_or held i d)))
    ∙ ap (λ (l : List State). least_from first l)
    (sym (ap (λ (l : List StreamState). map (state_of ys) l) (take_more held i d lt)
    ∙ map-append (state_of ys) (take i held) (get_or held i d ∷ [])))

pub changed-next : (count i passed : ℕ) (held items : List StreamState) (at : StreamState) → i < length held
    → items ≡ changed count i held
    → (seen : StreamState) → at ≡ get_or items i at → seen ≡ get_or items i seen → i < length items
    → passed ≡ seen.passed - count
    → slice_set items i (record { passed = passed; levels = at.levels; waiting = at.waiting }) ≡ changed count (i + 1)
    held
changed-next count i passed held items at lt are seen is saw inside passed-is =
    let both : seen ≡ at = saw ∙ get_or_default items i seen at inside ∙ sym is in
    let less = passed-is ∙ ap (λ (h : StreamState). h.passed - count) both in
    let here : at ≡ get_or (changed count i held) i at = is ∙ ap (λ (l : List StreamState). get_or l i at) are in
    let one : i + 1 ≡ suc i = omega arith in
    ap (λ (n : ℕ). slice_set items i (past n at)) less
    ∙ ap (λ (l : List StreamState). slice_set l i (past (at.passed - count) at)) are
    ∙ ap (λ (h : StreamState). slice_set (changed count i held) i (past (h.passed - count) h)) here
    ∙ change-next count i held at lt
    ∙ ap (λ (n : ℕ). changed count n held) (sym one)

pub some-held : {b : Bool} (held : List StreamState) → b ≡ (length held == 0) → b ≡ false → 0 < length held
some-held [] e f = absurd (cc)
some-held (h ∷ held) e f = omega arith
