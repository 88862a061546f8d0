-- From an unknown account on.
use Rattle.std.proofs.Common.{◌≡◌, ℕ, zero, suc, ◌+◌, ◌*◌, ◌-◌, ◌≤◌, Bool, true, false, List, [], ◌∷◌, refl, sym, subst, arith}
use Rattle.std.proofs.lemmas.Bool.{leb-true, le-leb, leb-false, lt-leb}
use Rattle.std.specs.Prelude.{Option, Some}
use Rattle.afdx_police.specs.Arrival.{Arrival}
use Rattle.afdx_police.specs.Rule.{Rule}
use Rattle.afdx_conform.specs.Explanations.{Answered, arrivals_in, last_time, link, charge, levels_by, levels_then, levels_after, IsAllowed, AreAllowed}
use Rattle.afdx_conform.specs.FromLevel.{Decides, filled, Leads, SomeLeads, AllowedIsSomeAccount}
use Rattle.afdx_conform.specs.Levels.{Levels, parts, full, cost, fast_slip}
use Rattle.afdx_conform.specs.Streams.{Terms}

module _ (rule : Rule) (latency_ns byte_ns between inner until start : ℕ) where
  abbrev z : Terms
  z = record {
    rule = rule;
    latency_ns = latency_ns;
    byte_ns = byte_ns;
    by = record { slack = 0; between = between; drift = 0; inner = inner; asked = 0; start = Some start };
    until = until;
  }

  -- a level within levels
  record IsIn (level : ℕ) (levels : Levels) : Type 0 where
    pub low : levels.lo ≤ level
    pub high : level ≤ levels.hi

  abbrev now : List Answered → Arrival → Levels
  now answers x = levels_then z (levels_after z answers) (last_time z.by (arrivals_in answers)) x

  -- ---- from an account to what is allowed

  step-in : (b : Bool) (x : Arrival) (level next : ℕ) (levels : Levels) → IsIn level levels → Decides z level b x next
      → IsAllowed z levels b x × IsIn next (levels_by z b x levels)
  step-in true x level next levels i d =
      let low = i.low in let high = i.high in let room = d.0 in let is = d.1 in (
        le-leb (levels.lo + cost (link z) z.by (charge z x)) (full (link z) z.by + fast_slip (link z) z.by)
            (omega (arith, low, room)),
        record { low = omega (arith, low, is); high = omega (arith, high, room, is) },
      )
  step-in false x level next levels i d =
      let low = i.low in let high = i.high in let none = d.0 in let is = d.1 in (
        lt-leb (levels.hi + cost (link z) z.by (charge z x)) (full (link z) z.by) (omega (arith, high, none)),
        record { low = omega (arith, low, none, is); high = omega (arith, high, is) },
      )

  leads-in : (first : ℕ) → first ≤ full (link z) z.by → (answers : List Answered) (level : ℕ)
      → Leads z first answers level
      → AreAllowed z answers × IsIn level (levels_after z answers)
  unfolding levels_after arrivals_in AreAllowed Leads
  leads-in first within [] level e = (tt, record { low = omega arith; high = omega (arith, within, e) })
  leads-in first within (x ∷ before) level h =
      let so_far = leads-in first within before h.0 h.1 in
      let low = so_far.1.low in
      let high = so_far.1.high in
      let here : IsIn (filled z h.0 before x.arrival) (now before x.arrival) =
      record { low = omega (arith, low); high = omega (arith, high) } in
      let step = step-in x.accepted x.arrival (filled z h.0 before x.arrival) level (now before x.arrival) here h.2 in
      ((step.0, so_far.0), step.1)

  -- ---- and back: each level within is that of some account

  record IsWide (levels : Levels) : Type 0 where
    pub order : levels.lo ≤ levels.hi
    pub most : levels.hi ≤ full (link z) z.by

  step-wide : (b : Bool) (x : Arrival) (levels : Levels) → IsWide levels → IsAllowed z levels b x
      → IsWide (levels_by z b x levels)
  step-wide true x levels w allowed =
      let room = leb-true (levels.lo + cost (link z) z.by (charge z x)) (full (link z) z.by + fast_slip (link z) z.by)
      allowed in
      let order = w.order in let most = w.most in
      record { order = omega (arith, room, order); most = omega (arith, most) }
  step-wide false x levels w allowed =
      let none = leb-false (levels.hi + cost (link z) z.by (charge z x)) (full (link z) z.by) allowed in
      let order = w.order in let most = w.most in
      record { order = omega (arith, none, order); most = most }

  -- what a level was before an answer
  before-answer : (b : Bool) (x : Arrival) (levels : Levels) (next : ℕ) → IsAllowed z levels b x → IsWide levels
      → IsIn next (levels_by z b x levels) → (level : ℕ) × IsIn level levels × Decides z level b x next
  before-answer true x levels next allowed w i =
      let low = i.low in let high = i.high in let order = w.order in (
        next - cost (link z) z.by (charge z x),
        record { low = omega (arith, low); high = omega (arith, low, high) },
        (omega (arith, low, high), omega (arith, low)),
      )
  before-answer false x levels next allowed w i =
      let low = i.low in let high = i.high in (
        next,
        record { low = omega (arith, low); high = high },
        (omega (arith, low), refl),
      )

  -- what it was before it was filled
  before-filled : (fill lo hi level : ℕ) → lo ≤ hi → lo - fill ≤ level → level ≤ hi - fill
      → (past : ℕ) × (lo ≤ past) × (past ≤ hi) × (level ≡ past - fill)
  before-filled fill lo hi level order low high = by level refl
    where
      by : (n : ℕ) → level ≡ n → (past : ℕ) × (lo ≤ past) × (past ≤ hi) × (level ≡ past - fill)
      by zero e = (lo, omega arith, order, omega (arith, low, high, e))
      by (suc n) e = (level + fill, omega (arith, low), omega (arith, high, e), omega arith)

  wide : (answers : List Answered) → AreAllowed z answers → IsWide (levels_after z answers)
  unfolding levels_after AreAllowed
  wide [] allowed = record { order = omega arith; most = omega arith }
  wide (x ∷ before) allowed =
      let so_far = wide before allowed.1 in
      let order = so_far.order in
      let most = so_far.most in
      step-wide x.accepted x.arrival (now before x.arrival)
      (record { order = omega (arith, order); most = omega (arith, most) })
      allowed.0

  some-first : (answers : List Answered) → AreAllowed z answers → (level : ℕ) → IsIn level (levels_after z answers)
      → (first : ℕ) × (first ≤ full (link z) z.by) × Leads z first answers level
  unfolding levels_after arrivals_in AreAllowed Leads
  some-first [] allowed level i = let high = i.high in (level, omega (arith, high), refl)
  some-first (x ∷ before) allowed level i =
      let so_far = wide before allowed.1 in
      let order = so_far.order in
      let most = so_far.most in
      let here : IsWide (now before x.arrival) = record { order = omega (arith, order); most = omega (arith, most) } in
      let answer = before-answer x.accepted x.arrival (now before x.arrival) level allowed.0 here i in
      let low = answer.1.low in
      let high = answer.1.high in
      let filling = before-filled ((link z).smax * parts * (x.arrival.time - last_time z.by (arrivals_in before)))
      (levels_after z before).lo (levels_after z before).hi answer.0 order (omega (arith, low)) (omega (arith, high)) in
      let rest = some-first before allowed.1 filling.0 (record { low = filling.1; high = filling.2 }) in (
        rest.0,
        rest.1,
        (
          filling.0,
          rest.2,
          subst (λ (n : ℕ). Decides z n x.accepted x.arrival level) filling.3 answer.2,
        ),
      )

  exactly-some : (answers : List Answered) → AreAllowed z answers → SomeLeads z answers
  exactly-some answers allowed =
      let w = wide answers allowed in
      let order = w.order in
      let rest = some-first answers allowed (levels_after z answers).lo (record { low = omega arith; high = order }) in
      record { first = rest.0; level = (levels_after z answers).lo; within = rest.1; leads = rest.2 }

abbrev terms-with : Rule → ℕ → ℕ → ℕ → ℕ → ℕ → ℕ → ℕ → ℕ → Option ℕ → Terms
terms-with rule latency_ns byte_ns until s b d i q st = record {
  rule = rule;
  latency_ns = latency_ns;
  byte_ns = byte_ns;
  by = record { slack = s; between = b; drift = d; inner = i; asked = q; start = st };
  until = until;
}

same-terms : (rule : Rule) (latency_ns byte_ns until s b d i q : ℕ) (st : Option ℕ) (start : ℕ)
    → s ≡ 0 → d ≡ 0 → q ≡ 0 → st ≡ Some start
    → terms-with rule latency_ns byte_ns until s b d i q st ≡ terms-with rule latency_ns byte_ns until 0 b 0 i 0
    (Some start)
same-terms rule latency_ns byte_ns until s b d i q st start at rate asks from = rw (at, rate, asks, from) refl

pub allowed_some : AllowedIsSomeAccount
allowed_some t answers start a b g c =
    let same = same-terms t.rule t.latency_ns t.byte_ns t.until t.by.slack t.by.between t.by.drift t.by.inner t.by.asked
    t.by.start start a b g c in (
      λ h. subst (λ (w : Terms). SomeLeads w answers) (sym same)
          (exactly-some t.rule t.latency_ns t.byte_ns t.by.between t.by.inner t.until start answers
          (subst (λ (w : Terms). AreAllowed w answers) same h)),
      λ h. subst (λ (w : Terms). AreAllowed w answers) (sym same)
          (let s = subst (λ (w : Terms). SomeLeads w answers) same h in
          (leads-in t.rule t.latency_ns t.byte_ns t.by.between t.by.inner t.until start s.first s.within answers
          s.level s.leads).0),
    )
