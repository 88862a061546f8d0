-- A finding is given exactly where no state is left.
use Rattle.std.proofs.Common.{◌≡◌, ℕ, Bool, true, false, Option, List, [], ◌∷◌, ◌⊎◌, inl, inr, length, refl, sym, ap, ◌∙◌, subst}
use Rattle.std.specs.Prelude.{if◌then◌else◌, nat_lt, is_none, Some, None, ◌↔◌}
use Rattle.afdx_police.specs.Arrival.{Arrival}
use Rattle.afdx_police.specs.Shape.{fault_of}
use Rattle.afdx_police.specs.declared.shape.Reason.{Reason}
use Rattle.afdx_conform.specs.Explanations.{link, last_time, levels_then}
use Rattle.afdx_conform.specs.Levels.{Levels, first_levels}
use Rattle.afdx_conform.specs.Findings.{Found, Judged, lead, with_rest, has_some, front_rest, unexplained, skipped, closed_by, closed_to, with_states, asked, deviation_of, deviates_by, deviates, answered_by, few_of, with_mark, came_by, came_to, rate_mark, is_uncertain, one_if, sound_events, judged_after, thinned_onto}
use Rattle.afdx_conform.specs.declared.finding.Deviation.{Deviation}
use Rattle.afdx_conform.specs.declared.finding.Deviation.TheVariants as deviation
use Rattle.afdx_conform.specs.FindingLaws.{FoundWhereNoneIsLeft, NothingFoundIsExplained}
use Rattle.afdx_conform.specs.Laws.{IsSomeState}
use Rattle.afdx_conform.specs.States.{Event, Came, Closing, State, arrivals_came, led_by, kept, are_behind, first_states, states_at, states_after}
use Rattle.afdx_conform.specs.Streams.{Gone, Terms}
use Rattle.afdx_conform.specs.Thinned.{AreEnough}
use Rattle.afdx_conform.proofs.AmongLemmas.{Among, among-some, some-among, kept-among}
use Rattle.afdx_conform.proofs.FrontLemmas.{thinned-enough}
use Rattle.afdx_conform.proofs.HeldLemmas.{if-true, if-false}
use Rattle.afdx_conform.proofs.StateLemmas.{states_explain}
use Rattle.afdx_conform.proofs.ThinLemmas.{enough-on, enough-came, enough-closing, outdoes-itself}

-- something was found
abbrev pub IsFound : List Found → Type 0
IsFound [] = ⊥
IsFound (f ∷ more) = Unit {0}

pub if-both : {X : Type 0} (P : X → Type 0) (b : Bool) (u v : X) → P u → P v → P (if b then u else v)
if-both P true u v p q = p
if-both P false u v p q = q

-- ---- what gives a finding

pub skipped-stays : (z : Terms) (time : ℕ) (front : List State) (rest : List Gone) (j : Judged)
    → IsFound j.findings → IsFound (skipped z time front rest j).findings
unfolding skipped unexplained
skipped-stays z time front [] j h = h
skipped-stays z time front (y ∷ rest) j h =
    if-both (λ (r : Judged). IsFound r.findings) (are_behind time rest) _ _ tt
    (skipped-stays z time front rest _ tt)

pub skipped-finds : (z : Terms) (time : ℕ) (front : List State) (y : Gone) (rest : List Gone) (j : Judged)
    → IsFound (skipped z time front (y ∷ rest) j).findings
unfolding skipped unexplained
skipped-finds z time front y rest j =
    if-both (λ (r : Judged). IsFound r.findings) (are_behind time rest) _ _ tt
    (skipped-stays z time front rest _ tt)

pub deviates-finds : (z : Terms) (behind : List Arrival) (x : Arrival) (states : List State) (rest : List Gone)
    (j : Judged)
    → IsFound (deviates z behind x states rest j).findings
unfolding deviates unexplained
deviates-finds z behind x states [] j = tt
deviates-finds z behind x states (y ∷ rest) j =
    by (deviation_of z behind x y) (deviates-finds z behind x (with_rest rest (lead states)) rest
    (unexplained z x.time y j))
  where
    by : (d : Deviation)
        → IsFound (deviates z behind x (with_rest rest (lead states)) rest (unexplained z x.time y j)).findings
        → IsFound (deviates_by z d x states y rest j
        (deviates z behind x (with_rest rest (lead states)) rest (unexplained z x.time y j))).findings
    by deviation.Stopped more = tt
    by (deviation.Took finding) more = tt
    by deviation.Other more =
        if-both (λ (r : Judged). IsFound r.findings) (has_some (asked z x rest states))
        (with_states (asked z x rest states) (unexplained z x.time y j)) _ tt more

-- ---- where states are left

none-enough : (all : List State) → AreEnough all [] → all ≡ []
none-enough [] h = refl
none-enough (s ∷ all) h = absurd ((h.outdone s (inl refl)).among)

pub some-enough : (all few : List State) → AreEnough all few → IsSomeState all → IsSomeState few
some-enough all few h some =
    let one = some-among all some in
    let o = h.outdone one.0 one.1 in
    among-some o.by few o.among

enough-some : (all few : List State) → AreEnough all few → IsSomeState few → IsSomeState all
enough-some all few h some =
    let one = some-among few some in
    among-some one.0 all (h.among one.0 one.1)

pub record IsFront (states : List State) : Type 0 where
  pub of : State
  pub among : Among of states
  pub rest : of.rest ≡ front_rest states

pub front-is : (states : List State) → IsSomeState states → IsFront states
unfolding front_rest
front-is [] h = absurd h
front-is (s ∷ []) h = record { of = s; among = inl refl; rest = refl }
front-is (s ∷ t ∷ more) h = by (nat_lt (length s.rest) (length (front_rest (t ∷ more)))) refl (front-is (t ∷ more) tt)
  where
    by : (b : Bool) → nat_lt (length s.rest) (length (front_rest (t ∷ more))) ≡ b → IsFront (t ∷ more)
        → IsFront (s ∷ t ∷ more)
    by true e f = record {
      of = s;
      among = inl refl;
      rest = sym (if-true (nat_lt (length s.rest) (length (front_rest (t ∷ more)))) s.rest (front_rest (t ∷ more)) e);
    }
    by false e f = record {
      of = f.of;
      among = inr f.among;
      rest = f.rest
          ∙ sym (if-false (nat_lt (length s.rest) (length (front_rest (t ∷ more)))) s.rest (front_rest (t ∷ more)) e);
    }

-- ---- one step

-- nothing was found, and the states are enough of all; or something was, and there are none
pub record IsGood (all : List State) (j : Judged) : Type 0 where
  pub none : j.findings ≡ []
  pub enough : AreEnough all j.states
  pub some : IsSomeState j.states

pub record IsBad (all : List State) (j : Judged) : Type 0 where
  pub found : IsFound j.findings
  pub gone : all ≡ []

abbrev pub IsEither : List State → Judged → Type 0
IsEither all j = IsGood all j ⊎ IsBad all j

module _ (z : Terms) (behind : List Arrival) (last : ℕ) (x : Arrival) (all : List State) (j : Judged)
    (mark : Option Reason) (n : ℕ) where
  abbrev pub To : State → List State
  To s = states_at z x (levels_then z s.levels last x) s

  pub came-cases : (l : List State) → led_by To j.states ≡ l → IsEither all j
      → IsEither (led_by To all) (with_mark x mark (few_of z n (answered_by z behind last x l j)))
  unfolding led_by
  came-cases [] e (inl g) = inr (record {
    found = deviates-finds z behind x _ (front_rest j.states) j;
    gone = none-enough (led_by To all)
        (subst (λ (l : List State). AreEnough (led_by To all) l) e (enough-came z x last all j.states g.enough));
  })
  came-cases [] e (inr b) = inr (record {
    found = deviates-finds z behind x _ (front_rest j.states) j;
    gone = ap (λ (l : List State). led_by To l) b.gone;
  })
  came-cases (s ∷ more) e (inl g) =
      let these = thinned-enough [] [] (s ∷ more) (record { among = λ t m. m; outdone = λ t m. absurd m }) in
      inl (record {
        none = g.none;
        enough = enough-on (led_by To all) (s ∷ more) (thinned_onto [] (s ∷ more))
            (subst (λ (l : List State). AreEnough (led_by To all) l) e (enough-came z x last all j.states g.enough))
            these;
        some = some-enough (s ∷ more) (thinned_onto [] (s ∷ more)) these tt;
      })
  came-cases (s ∷ more) e (inr b) = inr (record {
    found = b.found;
    gone = ap (λ (l : List State). led_by To l) b.gone;
  })

module _ (z : Terms) (time : ℕ) (all : List State) (j : Judged) where
  abbrev pub Stays : State → Bool
  Stays s = are_behind time s.rest

  front-goes : (rest : List Gone) → front_rest j.states ≡ rest → IsSomeState j.states → kept Stays j.states ≡ []
      → IsFound (skipped z time (lead j.states) rest j).findings
  unfolding are_behind
  front-goes [] e some none =
      let f = front-is j.states some in
      absurd (subst (λ (l : List State). Among f.of l) none
      (kept-among Stays j.states f.of f.among (ap (λ (r : List Gone). are_behind time r) (f.rest ∙ e))))
  front-goes (y ∷ rest) e some none = skipped-finds z time (lead j.states) y rest j

  pub closed-cases : (l : List State) → kept Stays j.states ≡ l → IsEither all j
      → IsEither (kept Stays all) (closed_by z time l j)
  unfolding kept
  closed-cases [] e (inl g) = inr (record {
    found = front-goes (front_rest j.states) refl g.some e;
    gone = none-enough (kept Stays all)
        (subst (λ (l : List State). AreEnough (kept Stays all) l) e (enough-closing time all j.states g.enough));
  })
  closed-cases [] e (inr b) = inr (record {
    found = skipped-stays z time (lead j.states) (front_rest j.states) j b.found;
    gone = ap (λ (l : List State). kept Stays l) b.gone;
  })
  closed-cases (s ∷ more) e (inl g) = inl (record {
    none = g.none;
    enough = subst (λ (l : List State). AreEnough (kept Stays all) l) e (enough-closing time all j.states g.enough);
    some = tt;
  })
  closed-cases (s ∷ more) e (inr b) = inr (record {
    found = b.found;
    gone = ap (λ (l : List State). kept Stays l) b.gone;
  })

-- ---- all of them

pub first-some : (z : Terms) (levels : Levels) (ys : List Gone) → IsSomeState (first_states z levels ys)
unfolding first_states
first-some z levels [] = tt
first-some z levels (y ∷ ys) = tt

pub enough-itself : (all : List State) → AreEnough all all
enough-itself all = record {
  among = λ s m. m;
  outdone = λ s m. record { by = s; among = m; outdoes = outdoes-itself s };
}

pub marked-either : (x : Arrival) (mark : Option Reason) (all : List State) (j : Judged) → IsEither all j
    → IsEither all (with_mark x mark j)
marked-either x mark all j (inl g) = inl (record { none = g.none; enough = g.enough; some = g.some })
marked-either x mark all j (inr b) = inr (record { found = b.found; gone = b.gone })

pub judged-is : (z : Terms) (ys : List Gone) (behind : List Arrival) (events : List Event)
    → (judged_after z ys behind events).is_unsure ≡ false
    → IsEither (states_after z ys (sound_events z events)) (judged_after z ys behind events)
unfolding judged_after states_after sound_events came_to closed_to
judged-is z ys behind [] h = inl (record {
  none = refl;
  enough = enough-itself (first_states z (first_levels (link z) z.by z.by.start) ys);
  some = first-some z (first_levels (link z) z.by z.by.start) ys;
})
judged-is z ys behind (Came x ∷ before) h =
    by (judged_after z ys (x ∷ behind) before).is_unsure refl h (λ k. judged-is z ys (x ∷ behind) before k)
  where
    by-fault : (fault : Option Reason)
        → IsEither (states_after z ys (sound_events z before)) (judged_after z ys (x ∷ behind) before)
        → IsEither (states_after z ys (if is_none fault then Came x ∷ sound_events z before else sound_events z before))
        (came_by z behind (last_time z.by (arrivals_came (sound_events z before))) x fault
        (judged_after z ys (x ∷ behind) before))
    by-fault None m = came-cases z behind (last_time z.by (arrivals_came (sound_events z before))) x
        (states_after z ys (sound_events z before)) (judged_after z ys (x ∷ behind) before)
        (rate_mark z (last_time z.by (arrivals_came (sound_events z before))) x
        (judged_after z ys (x ∷ behind) before).states)
        (one_if z (is_uncertain z (last_time z.by (arrivals_came (sound_events z before))) x
        (judged_after z ys (x ∷ behind) before).states)) _ refl m
    by-fault (Some fault) m = marked-either x (Some fault) (states_after z ys (sound_events z before))
        (judged_after z ys (x ∷ behind) before) m

    by : (b : Bool) → (judged_after z ys (x ∷ behind) before).is_unsure ≡ b
        → (if b then judged_after z ys (x ∷ behind) before
        else came_by z behind (last_time z.by (arrivals_came (sound_events z before))) x
        (fault_of (Some z.rule) x.port x.bytes) (judged_after z ys (x ∷ behind) before)).is_unsure ≡ false
        → ((judged_after z ys (x ∷ behind) before).is_unsure ≡ false
        → IsEither (states_after z ys (sound_events z before)) (judged_after z ys (x ∷ behind) before))
        → IsEither (states_after z ys (if is_none (fault_of (Some z.rule) x.port x.bytes)
        then Came x ∷ sound_events z before else sound_events z before))
        (if b then judged_after z ys (x ∷ behind) before
        else came_by z behind (last_time z.by (arrivals_came (sound_events z before))) x
        (fault_of (Some z.rule) x.port x.bytes) (judged_after z ys (x ∷ behind) before))
    by true e k more = absurd (cc)
    by false e k more = by-fault (fault_of (Some z.rule) x.port x.bytes) (more e)
judged-is z ys behind (Closing time ∷ before) h =
    by (judged_after z ys behind before).is_unsure refl h (λ k. judged-is z ys behind before k)
  where
    by : (b : Bool) → (judged_after z ys behind before).is_unsure ≡ b
        → (if b then judged_after z ys behind before
        else closed_by z time (kept (λ s. are_behind time s.rest) (judged_after z ys behind before).states)
        (judged_after z ys behind before)).is_unsure ≡ false
        → ((judged_after z ys behind before).is_unsure ≡ false
        → IsEither (states_after z ys (sound_events z before)) (judged_after z ys behind before))
        → IsEither (kept (λ s. are_behind time s.rest) (states_after z ys (sound_events z before)))
        (if b then judged_after z ys behind before
        else closed_by z time (kept (λ s. are_behind time s.rest) (judged_after z ys behind before).states)
        (judged_after z ys behind before))
    by true e k more = absurd (cc)
    by false e k more = closed-cases z time (states_after z ys (sound_events z before))
        (judged_after z ys behind before)
        _ refl (more e)

pub found-none : (found : List Found) → IsFound found → found ≡ [] → ⊥
found-none [] h e = h
found-none (f ∷ more) h e = absurd (cc)

either-way : (all : List State) (j : Judged) → IsEither all j → (j.findings ≡ []) ↔ IsSomeState all
either-way all j (inl g) = (λ e. enough-some all j.states g.enough g.some, λ s. g.none)
either-way all j (inr b) = (
  λ e. absurd (found-none j.findings b.found e),
  λ s. absurd (subst (λ (l : List State). IsSomeState l) b.gone s),
)

pub found_where : FoundWhereNoneIsLeft
found_where z ys behind events h =
    either-way (states_after z ys (sound_events z events)) (judged_after z ys behind events)
    (judged-is z ys behind events h)

pub found_explained : NothingFoundIsExplained
unfolding sound_events
found_explained z ys events end order all h =
    let one = found_where z ys [] (Closing end ∷ events) h in
    let two = states_explain z ys (sound_events z events) end order all in
    (λ e. two.0 (one.0 e), λ x. one.1 (two.1 x))
