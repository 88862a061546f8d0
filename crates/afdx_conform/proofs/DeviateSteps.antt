-- How the code goes through what is found where an arrival leads to no state.
use Rattle.std.proofs.Common.{◌≡◌, ℕ, zero, suc, ◌+◌, ◌-◌, ◌<◌, ◌≤◌, ◌⊎◌, inl, inr, Bool, true, false, ◌&&◌, List, [], ◌∷◌, ◌++◌, map, take, drop, get_or, length, refl, sym, ap, ◌∙◌, subst, arith}
use Rattle.std.proofs.lemmas.List.Elements.{All-weaker, All-same, All-map, All-filter, All-contains}
use Rattle.std.specs.Prelude.{if◌then◌else◌, nat_eq, IsTrue, All, Contains, IfOk, Result, Ok, Err, Option, Some}
use Rattle.std.proofs.lemmas.List.{length-map, map-append, take_more}
use Rattle.std.specs.List.{filter, list_any}
use Rattle.std.specs.Str.{bytes_eq}
use Rattle.afdx_police.specs.Arrival.{Arrival}
use Rattle.afdx_conform.specs.Arriving.{IsSpanOf}
use Rattle.afdx_conform.specs.Bounds.{HaveToPass}
use Rattle.afdx_conform.specs.Explanations.{link, charge, levels_then}
use Rattle.afdx_conform.specs.Findings.{Finding, Judged, with_states, with_finding, frames_of, front_rest, lead, with_rest, has_some, aged, as_accepted, asked, stopped, took, unexplained, is_far, is_early, is_late, deviation_of, deviates}
use Rattle.afdx_conform.specs.HeldStates.{state_of, past, IsWithin}
use Rattle.afdx_conform.specs.Levels.{has_to_pass}
use Rattle.afdx_conform.specs.Limits.{gone_of}
use Rattle.afdx_conform.specs.Accounts.{AreLevels, AreNear}
use Rattle.afdx_conform.specs.Naming.{unexplained_all, with_last}
use Rattle.afdx_conform.specs.declared.levels.Rates.{Rates}
use Rattle.afdx_conform.specs.declared.limits.LeftFrame.{LeftFrame}
use Rattle.afdx_conform.specs.declared.deviate.Span.{Span}
use Rattle.afdx_conform.specs.States.{State, led_by, states_at}
use Rattle.afdx_conform.specs.Streams.{Gone, Terms, fits}
use Rattle.afdx_conform.specs.declared.finding.Deviation.{Deviation}
use Rattle.afdx_conform.specs.declared.finding.Deviation.TheVariants as deviation
use Rattle.afdx_conform.specs.declared.finding.Finding.TheVariants.{Stopped}
use Rattle.afdx_conform.specs.declared.states.StreamState.{StreamState}
use Rattle.afdx_conform.proofs.DeviateLemmas.{gone-at, on-stopped, on-took, on-led, on-other, on-none, lead-some, front-on, accepted-rest}
use Rattle.afdx_conform.proofs.LeadLemmas.{front-drop, aged-lead, aged-rest, aged-led}
use Rattle.afdx_conform.proofs.NamingLemmas.{all-more, all-none}

-- a frame that is found early or late is one frame
abbrev IsOneFrame : Deviation → Type 0
IsOneFrame deviation.Stopped = Unit {0}
IsOneFrame (deviation.Took f) = frames_of f ≡ 1
IsOneFrame deviation.Other = Unit {0}

either : (b : Bool) (u v : Deviation) → IsOneFrame u → IsOneFrame v → IsOneFrame (if b then u else v)
either true u v p q = p
either false u v p q = q

pub one-frame : (z : Terms) (behind : List Arrival) (x : Arrival) (y : Gone) (f : Finding) → deviation_of z behind x y
    ≡ deviation.Took f
    → frames_of f ≡ 1
one-frame z behind x y f e =
    subst (λ (d : Deviation). IsOneFrame d) e
    (either (is_far z x y) _ _ tt (either (is_early z x y) _ _ refl (either (list_any (λ w. fits z w y) behind) _ _ tt
    (either (bytes_eq x.bytes y.bytes && is_late z x y) _ _ refl (either (is_late z x y) _ _ tt tt)))))

module _ (z : Terms) (last : ℕ) (behind : List Arrival) (x : Arrival) (ys : List Gone) where
  abbrev When : List StreamState → List State
  When held = aged z last x (map (state_of ys) held)

  abbrev Led : List StreamState → List State
  Led held = led_by (λ s. states_at z x (levels_then z s.levels last x) s) (map (state_of ys) held)

  -- so far: `all` are the states and `whole` what was judged before, `held` the states, `front` their
  -- frames and `so_far` what is judged now
  pub record AreAt (all held : List StreamState) (front : ℕ) (whole so_far : Judged) : Type 0 where
    pub same : deviates z behind x (When held) (drop front ys) so_far
        ≡ deviates z behind x (When all) (front_rest (map (state_of ys) all)) whole
    pub none : Led held ≡ []
    pub at_front : drop front ys ≡ front_rest (map (state_of ys) held)

  pub at-first : (held : List StreamState) (front : ℕ) (j : Judged) → Led held ≡ []
      → drop front ys ≡ front_rest (map (state_of ys) held)
      → AreAt held held front j j
  at-first held front j none e = record {
    same = ap (λ (l : List Gone). deviates z behind x (When held) l j) e;
    none = none;
    at_front = e;
  }

  module _ (all held : List StreamState) (front : ℕ) (whole so_far : Judged) (at : AreAt all held front whole so_far)
    where
      abbrev Whole : Judged
      Whole = deviates z behind x (When all) (front_rest (map (state_of ys) all)) whole

      pub at-end : drop front ys ≡ [] → stopped z x (When held) so_far ≡ Whole
      at-end e = sym (on-none z behind x (When held) so_far)
          ∙ ap (λ (l : List Gone). deviates z behind x (When held) l so_far) (sym e) ∙ at.same

      module _ (y : Gone) (rest : List Gone) (next : drop front ys ≡ y ∷ rest) where
        here : deviates z behind x (When held) (y ∷ rest) so_far ≡ Whole
        here = ap (λ (l : List Gone). deviates z behind x (When held) l so_far) (sym next) ∙ at.same

        pub at-stop : deviation_of z behind x y ≡ deviation.Stopped → stopped z x (When held) so_far ≡ Whole
        at-stop e = sym (on-stopped z behind x (When held) y rest so_far e) ∙ here

        pub at-took : (f : Finding) → deviation_of z behind x y ≡ deviation.Took f → took z x f (When held) rest so_far
            ≡ Whole
        at-took f e = sym (on-took z behind x (When held) y rest so_far f e) ∙ here

        module _ (out : List StreamState)
            (moved : map (state_of ys) out ≡ with_rest rest (lead (map (state_of ys) held))) where
          -- the lead, one frame on, when the arrival comes
          pub lead-when : with_rest rest (lead (When held)) ≡ When out
          lead-when = ap (λ (l : List State). with_rest rest l) (aged-lead z last x (map (state_of ys) held))
              ∙ aged-rest z last x rest (lead (map (state_of ys) held))
              ∙ ap (λ (l : List State). aged z last x l) (sym moved)

          asked-is : asked z x rest (When held) ≡ Led out
          asked-is = ap (λ (l : List State). led_by (λ s. states_at z x s.levels s) l) lead-when
              ∙ aged-led z last x (map (state_of ys) out)

          pub at-led : (led : List State) → deviation_of z behind x y ≡ deviation.Other → Led out ≡ led
              → has_some led ≡ true
              → with_states led (unexplained z x.time y so_far) ≡ Whole
          at-led led e is some =
              ap (λ (l : List State). with_states l (unexplained z x.time y so_far)) (sym (asked-is ∙ is))
              ∙ sym (on-led z behind x (When held) y rest so_far e (ap (λ (l : List State). has_some l) (asked-is ∙ is)
              ∙ some))
              ∙ here

          pub at-next : (further : ℕ) → deviation_of z behind x y ≡ deviation.Other → Led out ≡ []
              → rest ≡ drop further ys
              → AreAt all out further whole (unexplained z x.time y so_far)
          at-next further e none on = record {
            same = ap (λ (l : List Gone). deviates z behind x (When out) l (unexplained z x.time y so_far)) (sym on)
                ∙ ap (λ (l : List State). deviates z behind x l rest (unexplained z x.time y so_far)) (sym lead-when)
                ∙ sym (on-other z behind x (When held) y rest so_far e (ap (λ (l : List State). has_some l) (asked-is
                ∙ none)))
                ∙ here;
            none = none;
            at_front = sym on ∙ front-on rest (lead (map (state_of ys) held)) (map (state_of ys) out) moved
                (lead-some (map (state_of ys) held) y rest (sym at.at_front ∙ next));
          }

          -- where the frame is the arrival's
          pub took-is : (f : Finding) (states : List State) → deviation_of z behind x y ≡ deviation.Took f
              → states ≡ as_accepted z x (When out)
              → with_states states (with_finding x.time f 1 so_far) ≡ Whole
          took-is f states e is =
              ap (λ (l : List State). with_states l (with_finding x.time f 1 so_far))
              (is ∙ ap (λ (l : List State). as_accepted z x l) (sym lead-when)
              ∙ sym (accepted-rest z x rest (lead (When held))))
              ∙ at-took f e

-- the lead has to let pass what all do
pub past-passes : (z : Terms) (last : ℕ) (x : Arrival) (front to : ℕ) (held out : List StreamState)
    → out ≡ map (λ h. past to h) (filter (λ h. nat_eq h.passed front) held)
    → HaveToPass z last x held → HaveToPass z last x out
past-passes z last x front to held out e all =
    All-same (λ (h : StreamState). IsTrue (has_to_pass (link z) z.by (charge z x) (levels_then z h.levels last x))) out
    (map (λ h. past to h) (filter (λ h. nat_eq h.passed front) held)) e
    (All-map (λ (h : StreamState). IsTrue (has_to_pass (link z) z.by (charge z x) (levels_then z h.levels last x)))
    (λ (h : StreamState). past to h)
    (filter (λ h. nat_eq h.passed front) held)
    (All-filter (λ h. nat_eq h.passed front)
    (λ (h : StreamState). IsTrue (has_to_pass (link z) z.by (charge z x) (levels_then z h.levels last x))) held all))

-- ---- what is returned

abbrev lead_of : List Gone → List StreamState → List State
lead_of ys held = lead (map (state_of ys) held)

pub if-ok-two : {X E : Type 0} {P Q R : X → Type 0} (r : Result X E) → ((x : X) → P x → Q x → R x) → IfOk r P
    → IfOk r Q → IfOk r R
if-ok-two (Ok x) f p q = f x p q
if-ok-two (Err e) f p q = p

module _ (z : Terms) (last : ℕ) (behind : List Arrival) (x : Arrival) (ys : List Gone) (all held : List StreamState)
    (front : ℕ)
    (j so_far : Judged) (at : AreAt z last behind x ys all held front j so_far) where
  abbrev Everything : Judged
  Everything = deviates z behind x (aged z last x (map (state_of ys) all)) (front_rest (map (state_of ys) all)) j

  -- it was stopped: no frame is left in the front, or the next one isn't its own
  pub stopped-whole : (out : List StreamState) → map (state_of ys) out ≡ as_accepted z x
      (aged z last x (map (state_of ys) held))
      → stopped z x (aged z last x (map (state_of ys) held)) so_far ≡ Everything
      → with_states (map (state_of ys) out) (with_finding x.time (Stopped x.tag) 0 so_far) ≡ Everything
  stopped-whole out s whole =
      ap (λ (l : List State). with_states l (with_finding x.time (Stopped x.tag) 0 so_far)) s ∙ whole

  pub took-whole : (y : Gone) (rest : List Gone) (lead out : List StreamState) (f : Finding)
      → drop front ys ≡ y ∷ rest → deviation_of z behind x y ≡ deviation.Took f
      → map (state_of ys) lead ≡ with_rest rest (lead_of ys held)
      → map (state_of ys) out ≡ as_accepted z x (aged z last x (map (state_of ys) lead))
      → with_states (map (state_of ys) out) (with_finding x.time f (frames_of f) so_far) ≡ Everything
  took-whole y rest lead out f next e moved s =
      ap (λ (n : ℕ). with_states (map (state_of ys) out) (with_finding x.time f n so_far)) (one-frame z behind x y f e)
      ∙ took-is z last behind x ys all held front j so_far at y rest next lead moved f (map (state_of ys) out) e s

-- ---- the frames that are unexplained

abbrev span_of : ℕ → ℕ → Span
span_of first past = record { first = first; past = past }

module _ (z : Terms) (time : ℕ) (fs : List LeftFrame) (j : Judged) where
  -- those from one on, before another
  abbrev pub Passed : ℕ → ℕ → Judged
  Passed first past = unexplained_all z time (map gone_of (take (past - first) (drop first fs))) j

  pub passed-none : (first : ℕ) → Passed first first ≡ j
  passed-none first =
      let none : first - first ≡ 0 = omega arith in
      ap (λ (n : ℕ). unexplained_all z time (map gone_of (take n (drop first fs))) j) none ∙ all-none z time j

  -- what is found behind them
  pub last-is : (first past : ℕ) (span : Span) (last : Option Finding) (f : Finding) → span ≡ span_of first past
      → last ≡ Some f
      → with_last time last (Passed span.first span.past) ≡ with_finding time f (frames_of f) (Passed first past)
  last-is first past span last f e o =
      ap (λ (l : Option Finding). with_last time l (Passed span.first span.past)) o
      ∙ ap (λ (s : Span). with_finding time f (frames_of f) (Passed s.first s.past)) e

range-more : (fs : List LeftFrame) (first front : ℕ) (f : LeftFrame) → first ≤ front → front < length fs → f ≡
    get_or fs front f
    → map gone_of (take (front + 1 - first) (drop first fs)) ≡ map gone_of (take (front - first) (drop first fs))
    ++ (gone_of f ∷ [])
range-more [] first front f le lt is = absurd (omega (arith, lt))
range-more (g ∷ fs) zero front f le lt is =
    let n : front + 1 - 0 ≡ front + 1 = omega arith in
    let m : front - 0 ≡ front = omega arith in
    ap (λ (k : ℕ). map gone_of (take k (g ∷ fs))) n
    ∙ ap (λ (l : List LeftFrame). map gone_of l) (take_more (g ∷ fs) front f lt)
    ∙ map-append gone_of (take front (g ∷ fs)) (get_or (g ∷ fs) front f ∷ [])
    ∙ ap (λ (v : LeftFrame). map gone_of (take front (g ∷ fs)) ++ (gone_of v ∷ [])) (sym is)
    ∙ ap (λ (k : ℕ). map gone_of (take k (g ∷ fs)) ++ (gone_of f ∷ [])) (sym m)
range-more (g ∷ fs) (suc first) zero f le lt is = absurd (omega (arith, le))
range-more (g ∷ fs) (suc first) (suc front) f le lt is =
    let n : suc front + 1 - suc first ≡ front + 1 - first = omega arith in
    let m : suc front - suc first ≡ front - first = omega arith in
    ap (λ (k : ℕ). map gone_of (take k (drop first fs))) n
    ∙ range-more fs first front f (omega (arith, le)) (omega (arith, lt)) is
    ∙ ap (λ (k : ℕ). map gone_of (take k (drop first fs)) ++ (gone_of f ∷ [])) (sym m)

pub passed-next : (z : Terms) (time : ℕ) (fs : List LeftFrame) (j : Judged) (first front : ℕ) (f : LeftFrame) →
    first ≤ front
    → front < length fs → f ≡ get_or fs front f
    → Passed z time fs j first (front + 1) ≡ unexplained z time (gone_of f) (Passed z time fs j first front)
passed-next z time fs j first front f le lt is =
    ap (λ (l : List Gone). unexplained_all z time l j) (range-more fs first front f le lt is)
    ∙ all-more z time (map gone_of (take (front - first) (drop first fs))) (gone_of f) j

pub inside-on : (first past : ℕ) (span : Span) (fs : List LeftFrame) → span ≡ span_of first past → first ≤ past
    → past ≤ length fs
    → IsSpanOf span fs
inside-on first past span fs e le most =
    subst (λ (s : Span). IsSpanOf s fs) (sym e) (record { order = le; within = most })

-- ---- the code's steps

pub at-start : (z : Terms) (last : ℕ) (behind : List Arrival) (x : Arrival) (fs : List LeftFrame)
    (held : List StreamState)
    (front : ℕ)
    (j : Judged)
    → led_by (λ s. states_at z x (levels_then z s.levels last x) s) (map (state_of (map gone_of fs)) held) ≡ []
    → drop front (map gone_of fs) ≡ front_rest (map (state_of (map gone_of fs)) held)
    → AreAt z last behind x (map gone_of fs) held held front j (Passed z x.time fs j front front)
at-start z last behind x fs held front j none e =
    subst (λ (k : Judged). AreAt z last behind x (map gone_of fs) held held front j k)
    (sym (passed-none z x.time fs j front))
    (at-first z last behind x (map gone_of fs) held front j none e)

pub front-within : (rates : Rates) (fs : List LeftFrame) (count : ℕ) (held slice : List StreamState) (f : ℕ) → slice ≡
    held
    → All (λ h. IsWithin rates (length fs) count h) held
    → ((slice ≡ []) × (f ≡ length fs)) ⊎ ((h : StreamState) × Contains slice h × (h.passed ≡ f)) → f ≤ length fs
front-within rates fs count held slice f value all (inl m) = let e = m.1 in omega (arith, e)
front-within rates fs count held slice f value all (inr m) =
    let w = All-contains (λ (h : StreamState). IsWithin rates (length fs) count h) slice m.0
    (All-same (λ (h : StreamState). IsWithin rates (length fs) count h) slice held value all) m.1 in
    let p = w.passed in
    let e = m.2 in
    omega (arith, p, e)

pub at-same : (z : Terms) (last : ℕ) (behind : List Arrival) (x : Arrival) (ys : List Gone)
    (all held : List StreamState)
    (front : ℕ)
    (whole so_far same : Judged) → same ≡ so_far → AreAt z last behind x ys all held front whole so_far
    → AreAt z last behind x ys all held front whole same
at-same z last behind x ys all held front whole so_far same e at =
    subst (λ (s : Judged). AreAt z last behind x ys all held front whole s) (sym e) at

pub within-frames : (rates : Rates) (fs : List LeftFrame) (count : ℕ) (held : List StreamState)
    → All (λ h. IsWithin rates (length fs) count h) held → All (λ h. h.passed ≤ length (map gone_of fs)) held
within-frames rates fs count held all =
    All-weaker (λ (h : StreamState). IsWithin rates (length fs) count h)
    (λ (h : StreamState). h.passed ≤ length (map gone_of fs))
    (λ h w. let p = w.passed in let n = length-map fs gone_of in omega (arith, p, n)) held all

pub near-all : (rates : Rates) (frames count : ℕ) (held : List StreamState)
    → All (λ h. IsWithin rates frames count h) held → All (λ h. AreNear rates h.levels) held
near-all rates frames count held all =
    All-weaker (λ (h : StreamState). IsWithin rates frames count h) (λ (h : StreamState). AreNear rates h.levels)
    (λ h w. w.near)
    held all

pub levels-all : (rates : Rates) (frames count : ℕ) (held : List StreamState)
    → All (λ h. IsWithin rates frames count h) held → All (λ h. AreLevels rates h.levels) held
levels-all rates frames count held all =
    All-weaker (λ (h : StreamState). IsWithin rates frames count h) (λ (h : StreamState). AreLevels rates h.levels)
    (λ h w. w.levels) held all

pub within-more : (rates : Rates) (frames count : ℕ) (held : List StreamState)
    → All (λ h. IsWithin rates frames count h) held → All (λ h. IsWithin rates frames (count + 1) h) held
within-more rates frames count held all =
    All-weaker (λ (h : StreamState). IsWithin rates frames count h)
    (λ (h : StreamState). IsWithin rates frames (count + 1) h)
    (λ h w. record {
      passed = w.passed;
      waiting = (let n = w.waiting in omega (arith, n));
      levels = w.levels;
      near = w.near;
    }) held all

pub front-start : (fs : List LeftFrame) (held slice : List StreamState) (f none : ℕ) → slice ≡ held
    → All (λ h. h.passed ≤ length (map gone_of fs)) held → All (λ h. h.passed ≤ f) slice
    → ((slice ≡ []) × (f ≡ none)) ⊎ ((h : StreamState) × Contains slice h × (h.passed ≡ f)) → none ≡ length fs
    → drop f (map gone_of fs) ≡ front_rest (map (state_of (map gone_of fs)) held)
front-start fs held slice f none value within greatest among e =
    let n = length-map fs gone_of in
    let len : none ≡ length (map gone_of fs) = omega (arith, n, e) in
    front-drop (map gone_of fs) held f none within
    (subst (λ (l : List StreamState). All (λ h. h.passed ≤ f) l) value greatest)
    (subst (λ (l : List StreamState). ((l ≡ []) × (f ≡ none)) ⊎ ((h : StreamState) × Contains l h × (h.passed ≡ f)))
    value among) len

pub gone-here : (fs : List LeftFrame) (i : ℕ) (f : LeftFrame) → i < length fs → f ≡ get_or fs i f
    → drop i (map gone_of fs) ≡ gone_of f ∷ drop (i + 1) (map gone_of fs)
gone-here fs i f lt is =
    gone-at fs i f lt ∙ ap (λ (g : LeftFrame). gone_of g ∷ drop (i + 1) (map gone_of fs)) (sym is)

pub some-held : (ys : List Gone) (held : List StreamState) → ¬ (held ≡ []) → has_some (map (state_of ys) held) ≡ true
some-held ys [] h = absurd (h refl)
some-held ys (k ∷ held) h = refl
