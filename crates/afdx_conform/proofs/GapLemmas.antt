-- Between which places no arrival of some bytes is wanted: what a search finds, and what stays.
use Rattle.std.proofs.Common.{◌≡◌, ℕ, zero, suc, ◌+◌, ◌-◌, ◌<◌, ◌≤◌, Bool, true, false, List, [], ◌∷◌, ◌++◌, ◌⊎◌, inl, inr, take, drop, get_or, set, length, refl, sym, ap, ◌∙◌, subst, arith}
use Rattle.std.proofs.lemmas.Bool.{cases_eq, cases_lt}
use Rattle.std.proofs.lemmas.List.{get_or-drop, get_or-set_other, get_or-set_same, get_or_append_left, get_or_default, get_or_past, length-drop, length-set, length_push}
use Rattle.std.proofs.lemmas.Slice.Eq.{bytes_eq-Decides}
use Rattle.std.specs.Global.{Vec}
use Rattle.std.specs.Prelude.{Some}
use Rattle.afdx_police.specs.declared.shape.Reason.{Reason}
use Rattle.afdx_conform.specs.KnownBytes.{AreKnown, AreOthers, StandAt, has_bytes, may_fit}
use Rattle.afdx_conform.specs.Naming.{AreGaps, AreSettled, IsGap, NoneIsWanted, StayUnwanted, is_wanted, no_gaps}
use Rattle.afdx_conform.specs.declared.arrived.Arrived.{Arrived}
use Rattle.afdx_conform.specs.declared.finding.Mark.{Mark}
use Rattle.afdx_conform.specs.declared.gaps.Gap.{Gap}
use Rattle.afdx_conform.specs.declared.gaps.Gaps.{Gaps}
use Rattle.afdx_conform.specs.declared.gaps.Wanted.{Wanted}
use Rattle.afdx_conform.specs.declared.gaps.Wanted.TheVariants.{ToName, Accepted}
use Rattle.afdx_conform.specs.declared.known_bytes.KnownBytes.{KnownBytes}
use Rattle.afdx_conform.specs.declared.limits.LeftFrame.{LeftFrame}
use Rattle.afdx_conform.specs.declared.limits.Limits.{Limits}
use Rattle.afdx_conform.proofs.InTimeLemmas.{fits-no-other}
use Rattle.afdx_conform.proofs.PlacesLemmas.{IsReached, none-left}

-- ---- where others stand

other-at : (test : Arrived → Bool) (xs : List Arrived) (i : ℕ) (d : Arrived) → AreOthers test xs → i < length xs
    → test (get_or xs i d) ≡ false
other-at test [] i d all lt = absurd (omega (arith, lt))
other-at test (a ∷ xs) zero d all lt = all.0
other-at test (a ∷ xs) (suc i) d all lt = other-at test xs i d all.1 (omega (arith, lt))

other-taken : (test : Arrived → Bool) (n : ℕ) (xs : List Arrived) (i : ℕ) (d : Arrived) → AreOthers test (take n xs)
    → i < n
    → i < length xs → test (get_or xs i d) ≡ false
other-taken test zero xs i d all below lt = absurd (omega (arith, below))
other-taken test (suc n) [] i d all below lt = absurd (omega (arith, lt))
other-taken test (suc n) (a ∷ xs) zero d all below lt = all.0
other-taken test (suc n) (a ∷ xs) (suc i) d all below lt =
    other-taken test n xs i d all.1 (omega (arith, below)) (omega (arith, lt))

there : (xs : List Arrived) (at q : ℕ) (d : Arrived) → at ≤ q → get_or (drop at xs) (q - at) d ≡ get_or xs q d
there xs at q d le =
    let on : at + (q - at) ≡ q = omega (arith, le) in
    get_or-drop at xs (q - at) d ∙ ap (λ (n : ℕ). get_or xs n d) on

between : (test : Arrived → Bool) (xs : List Arrived) (at p : ℕ) (rest : List ℕ) → IsReached test xs at p rest
    → (q : ℕ) (d : Arrived) → at ≤ q → q < p → test (get_or xs q d) ≡ false
between test xs at p rest k q d le lt =
    let place = k.place in
    let within = k.within in
    let long = length-drop at xs in
    sym (ap (λ (a : Arrived). test a) (there xs at q d le))
    ∙ other-taken test k.skipped (drop at xs) (q - at) d k.others (omega (arith, place, le, lt))
    (omega (arith, long, within, le, lt))

behind : (test : Arrived → Bool) (xs : List Arrived) (at : ℕ) → AreOthers test (drop at xs)
    → (q : ℕ) (d : Arrived) → at ≤ q → q < length xs → test (get_or xs q d) ≡ false
behind test xs at all q d le lt =
    let long = length-drop at xs in
    sym (ap (λ (a : Arrived). test a) (there xs at q d le))
    ∙ other-at test (drop at xs) (q - at) d all (omega (arith, long, le, lt))

not-both : {X : Type 0} (b : Bool) → b ≡ true → b ≡ false → X
not-both true e k = absurd (cc)
not-both false e k = absurd (cc)

-- ---- a search for one that is wanted

abbrev pub NoneFrom : Wanted → (Arrived → Bool) → (start at : ℕ) → List Arrived → List Mark → Type 0
NoneFrom w test start at xs ms = (p : ℕ) (a : Arrived) (m : Mark) → start ≤ p → p < at → test (get_or xs p a) ≡ true
    → is_wanted w (get_or ms p m) ≡ false

module _ (w : Wanted) (test : Arrived → Bool) (start : ℕ) (xs : List Arrived) (ms : List Mark) where
  -- up to the next place
  pub none-to : (at p : ℕ) (rest : List ℕ) → IsReached test xs at p rest → NoneFrom w test start at xs ms
      → NoneFrom w test start p xs ms
  none-to at p rest k none q a m low lt ok = by (cases_lt q at)
    where
      by : (q < at) ⊎ (at ≤ q) → is_wanted w (get_or ms q m) ≡ false
      by (inl before) = none q a m low before ok
      by (inr le) = not-both (test (get_or xs q a)) ok (between test xs at p rest k q a le lt)

  -- and past it, where it isn't wanted
  pub none-past : (at p : ℕ) (rest : List ℕ) (d : Mark) → IsReached test xs at p rest → p < length ms
      → is_wanted w (get_or ms p d) ≡ false → NoneFrom w test start at xs ms → NoneFrom w test start (p + 1) xs ms
  none-past at p rest d k within out none q a m low lt ok = by (cases_lt q p)
    where
      by : (q < p) ⊎ (p ≤ q) → is_wanted w (get_or ms q m) ≡ false
      by (inl before) = none-to at p rest k none q a m low before ok
      by (inr le) =
          let same : q ≡ p = omega (arith, le, lt) in
          ap (λ (n : ℕ). is_wanted w (get_or ms n m)) same
          ∙ ap (λ (x : Mark). is_wanted w x) (get_or_default ms p m d within) ∙ out

  -- where no place is left
  pub none-end : (at : ℕ) (ps : List ℕ) → ps ≡ [] → StandAt test at (drop at xs) ps → length ms ≤ length xs
      → NoneFrom w test start at xs ms → NoneFrom w test start (length ms) xs ms
  none-end at ps e h long none q a m low lt ok = by (cases_lt q at)
    where
      by : (q < at) ⊎ (at ≤ q) → is_wanted w (get_or ms q m) ≡ false
      by (inl before) = none q a m low before ok
      by (inr le) = not-both (test (get_or xs q a)) ok
          (behind test xs at (none-left test at (drop at xs)
          (subst (λ (l : List ℕ). StandAt test at (drop at xs) l) e h))
          q a le (omega (arith, lt, long)))

-- ---- a gap from a later place on

pub gap-on : (w : Wanted) (test : Arrived → Bool) (gap : Gap) (from start to : ℕ) (xs : List Arrived) (ms : List Mark)
    → ((p : ℕ) → from ≤ p → p < start → (gap.from ≤ p) × (p < gap.to)) → IsGap w test gap xs ms
    → IsGap w test (record { from = start; to = to }) xs ms → IsGap w test (record { from = from; to = to }) xs ms
gap-on w test gap from start to xs ms known before more = record {
  within = more.within;
  none = λ p a m low lt ok. by p a m low lt ok (cases_lt p start);
}
  where
    by : (p : ℕ) (a : Arrived) (m : Mark) → from ≤ p → p < to → test (get_or xs p a) ≡ true → (p < start) ⊎ (start ≤ p)
        → is_wanted w (get_or ms p m) ≡ false
    by p a m low lt ok (inl less) = let k = known p low less in before.none p a m k.0 k.1 ok
    by p a m low lt ok (inr le) = more.none p a m le lt ok

-- ---- what a frame may be of

has-fit : (l : Limits) (f : LeftFrame) (a : Arrived) → may_fit l f a ≡ true → has_bytes f.bytes a ≡ true
has-fit l f a ok = by (has_bytes f.bytes a) refl
  where
    by : (b : Bool) → has_bytes f.bytes a ≡ b → b ≡ true
    by true e = refl
    by false e = not-both (may_fit l f a) ok (fits-no-other l f a e)

pub none-wanted : (w : Wanted) (l : Limits) (f : LeftFrame) (early : ℕ) (gap : Gap) (xs : List Arrived) (ms : List Mark)
    → gap.from ≡ early → ((i : ℕ) (d : Arrived) → i < early → may_fit l f (get_or xs i d) ≡ false)
    → IsGap w (has_bytes f.bytes) gap xs ms → NoneIsWanted w l f gap.to xs ms
none-wanted w l f early gap xs ms is none g = record {
  within = g.within;
  none = λ p a m lt ok. by p a m lt ok (cases_lt p early);
}
  where
    by : (p : ℕ) (a : Arrived) (m : Mark) → p < gap.to → may_fit l f (get_or xs p a) ≡ true → (p < early) ⊎ (early ≤ p)
        → is_wanted w (get_or ms p m) ≡ false
    by p a m lt ok (inl less) = not-both (may_fit l f (get_or xs p a)) ok (none p a less)
    by p a m lt ok (inr le) = g.none p a m (omega (arith, is, le)) lt (has-fit l f (get_or xs p a) ok)

pub none-yet : (w : Wanted) (l : Limits) (f : LeftFrame) (n : ℕ) (xs : List Arrived) (ms : List Mark) → n ≡ 0
    → NoneIsWanted w l f n xs ms
none-yet w l f n xs ms e = record {
  within = omega (arith, e);
  none = λ p a m lt ok. absurd (omega (arith, e, lt));
}

-- ---- gaps that are kept

nothing : (w : Wanted) (test : Arrived → Bool) (xs : List Arrived) (ms : List Mark)
    → IsGap w test (record { from = 0; to = 0 }) xs ms
nothing w test xs ms = record {
  within = omega arith;
  none = λ p a m low lt ok. absurd (omega (arith, lt));
}

nothing-yet : (test : Arrived → Bool) (g : Gaps) (xs : List Arrived) (ms : List Mark) → g ≡ no_gaps
    → AreGaps test g xs ms
nothing-yet test g xs ms e = subst (λ (h : Gaps). AreGaps test h xs ms) (sym e) (record {
  to_name = nothing _ test xs ms;
  accepted = nothing _ test xs ms;
})

pub settled-unknown : (gs : List Gaps) (xs : List Arrived) (ms : List Mark) → length gs ≤ length xs
    → ((i : ℕ) → get_or gs i no_gaps ≡ no_gaps) → AreSettled gs xs ms
settled-unknown gs xs ms long none = record {
  long = long;
  each = λ i a. nothing-yet (has_bytes (get_or xs i a).bytes) (get_or gs i no_gaps) xs ms (none i);
}

pub settled-none : (gs : List Gaps) (xs : List Arrived) (ms : List Mark) → gs ≡ [] → AreSettled gs xs ms
settled-none gs xs ms e = subst (λ (l : List Gaps). AreSettled l xs ms) (sym e)
    (settled-unknown [] xs ms (omega arith) (λ i. refl))

-- those that are kept where arrivals of these bytes first stand
alike-gaps : (gs : List Gaps) (xs : List Arrived) (ms : List Mark) (first : ℕ) (bytes : List ℕ)
    → ((a : Arrived) → has_bytes bytes (get_or xs first a) ≡ true) → AreSettled gs xs ms
    → AreGaps (has_bytes bytes) (get_or gs first no_gaps) xs ms
alike-gaps gs [] ms first bytes here s =
    nothing-yet (has_bytes bytes) (get_or gs first no_gaps) [] ms
    (get_or_past gs first no_gaps (let long = s.long in omega (arith, long)))
alike-gaps gs (x ∷ xs) ms first bytes here s =
    subst (λ (l : List ℕ). AreGaps (has_bytes l) (get_or gs first no_gaps) (x ∷ xs) ms)
    ((bytes_eq-Decides (get_or (x ∷ xs) first x).bytes bytes).0 (here x)) (s.each first x)

pub gaps-here : (gs : List Gaps) (xs : List Arrived) (ms : List Mark) (first : ℕ) (bytes : List ℕ) (g : Gaps)
    → ((a : Arrived) → has_bytes bytes (get_or xs first a) ≡ true) → first < length gs → g ≡ get_or gs first g
    → AreSettled gs xs ms → AreGaps (has_bytes bytes) g xs ms
gaps-here gs xs ms first bytes g here lt is s =
    subst (λ (v : Gaps). AreGaps (has_bytes bytes) v xs ms) (get_or_default gs first no_gaps g lt ∙ sym is)
    (alike-gaps gs xs ms first bytes here s)

-- one is put there
pub settled-set : (gs all : List Gaps) (xs : List Arrived) (ms : List Mark) (first : ℕ) (g : Gaps) (bytes : List ℕ)
    → all ≡ set gs first g → first < length gs → ((a : Arrived) → has_bytes bytes (get_or xs first a) ≡ true)
    → AreGaps (has_bytes bytes) g xs ms → AreSettled gs xs ms → AreSettled all xs ms
settled-set gs all xs ms first g bytes is lt here new s = subst (λ (l : List Gaps). AreSettled l xs ms) (sym is)
    (record {
      long = (let size = length-set gs first g in let long = s.long in omega (arith, size, long));
      each = λ i a. by i a (cases_eq i first);
    })
  where
    by : (i : ℕ) (a : Arrived) → (i ≡ first) ⊎ (i ≡ first → ⊥)
        → AreGaps (has_bytes (get_or xs i a).bytes) (get_or (set gs first g) i no_gaps) xs ms
    by i a (inl same) =
        let bytes' : (get_or xs first a).bytes ≡ bytes = (bytes_eq-Decides (get_or xs first a).bytes bytes).0
        (here a) in
        subst (λ (n : ℕ). AreGaps (has_bytes (get_or xs n a).bytes) (get_or (set gs first g) n no_gaps) xs ms)
        (sym same)
        (subst (λ (v : Gaps). AreGaps (has_bytes (get_or xs first a).bytes) v xs ms)
        (sym (get_or-set_same gs first g no_gaps lt))
        (subst (λ (l : List ℕ). AreGaps (has_bytes l) g xs ms) (sym bytes') new))
    by i a (inr other) = subst (λ (v : Gaps). AreGaps (has_bytes (get_or xs i a).bytes) v xs ms)
        (sym (get_or-set_other gs first i g no_gaps other)) (s.each i a)

gap-stays : (w : Wanted) (test : Arrived → Bool) (g : Gap) (xs : List Arrived) (ms all : List Mark)
    → length all ≡ length ms
    → StayUnwanted ms all → IsGap w test g xs ms → IsGap w test g xs all
gap-stays w test g xs ms all size stay k = record {
  within = (let low = k.within in omega (arith, low, size));
  none = λ p a m low lt ok. stay w p m (k.none p a m low lt ok);
}

-- no arrival is wanted that wasn't
pub settled-stays : (gs : List Gaps) (xs : List Arrived) (ms all : List Mark) → length all ≡ length ms
    → StayUnwanted ms all
    → AreSettled gs xs ms → AreSettled gs xs all
settled-stays gs xs ms all size stay s = record {
  long = s.long;
  each = λ i a. (let k = s.each i a in record {
    to_name = gap-stays _ _ _ xs ms all size stay k.to_name;
    accepted = gap-stays _ _ _ xs ms all size stay k.accepted;
  });
}

gap-judged : (w : Wanted) (test : Arrived → Bool) (g : Gap) (xs : List Arrived) (ms : List Mark) (v : Mark)
    → IsGap w test g xs ms → IsGap w test g xs (ms ++ (v ∷ []))
gap-judged w test g xs ms v k =
    let low = k.within in
    let size = length_push ms v in
    record {
      within = omega (arith, low, size);
      none = λ p a m from lt ok. ap (λ (x : Mark). is_wanted w x)
          (get_or_append_left ms (v ∷ []) m p (omega (arith, lt, low)))
          ∙ k.none p a m from lt ok;
    }

-- one more is judged
pub settled-push : (gs : List Gaps) (xs : List Arrived) (ms all : List Mark) (v : Mark) → all ≡ ms ++ (v ∷ [])
    → AreSettled gs xs ms → AreSettled gs xs all
settled-push gs xs ms all v e s = subst (λ (l : List Mark). AreSettled gs xs l) (sym e) (record {
  long = s.long;
  each = λ i a. (let k = s.each i a in record {
    to_name = gap-judged _ _ _ xs ms v k.to_name;
    accepted = gap-judged _ _ _ xs ms v k.accepted;
  });
})

gap-came : (w : Wanted) (test : Arrived → Bool) (g : Gap) (xs : List Arrived) (ms : List Mark) (x : Arrived)
    → length ms ≤ length xs
    → IsGap w test g xs ms → IsGap w test g (xs ++ (x ∷ [])) ms
gap-came w test g xs ms x long k = record {
  within = k.within;
  none = λ p a m from lt ok. (let low = k.within in k.none p a m from lt
      (sym (ap (λ (v : Arrived). test v) (get_or_append_left xs (x ∷ []) a p (omega (arith, lt, low, long)))) ∙ ok));
}

gaps-came : (test : Arrived → Bool) (g : Gaps) (xs : List Arrived) (ms : List Mark) (x : Arrived)
    → length ms ≤ length xs
    → AreGaps test g xs ms → AreGaps test g (xs ++ (x ∷ [])) ms
gaps-came test g xs ms x long k = record {
  to_name = gap-came _ test _ xs ms x long k.to_name;
  accepted = gap-came _ test _ xs ms x long k.accepted;
}

-- one more came
pub settled-came : (gs : List Gaps) (xs : List Arrived) (ms : List Mark) (x : Arrived) → length ms ≤ length xs
    → AreSettled gs xs ms → AreSettled gs (xs ++ (x ∷ [])) ms
settled-came gs xs ms x long s = record {
  long = (let size = length_push xs x in let few = s.long in omega (arith, size, few));
  each = λ i a. by i a (cases_lt i (length gs));
}
  where
    by : (i : ℕ) (a : Arrived) → (i < length gs) ⊎ (length gs ≤ i)
        → AreGaps (has_bytes (get_or (xs ++ (x ∷ [])) i a).bytes) (get_or gs i no_gaps) (xs ++ (x ∷ [])) ms
    by i a (inl lt) = subst (λ (v : Arrived). AreGaps (has_bytes v.bytes) (get_or gs i no_gaps) (xs ++ (x ∷ [])) ms)
        (sym (get_or_append_left xs (x ∷ []) a i (let few = s.long in omega (arith, lt, few))))
        (gaps-came (has_bytes (get_or xs i a).bytes) (get_or gs i no_gaps) xs ms x long (s.each i a))
    by i a (inr past) = nothing-yet _ (get_or gs i no_gaps) (xs ++ (x ∷ [])) ms (get_or_past gs i no_gaps past)

pub same-pushed : (gs : List Gaps) (i : ℕ) → get_or (gs ++ (no_gaps ∷ [])) i no_gaps ≡ get_or gs i no_gaps
same-pushed [] zero = refl
same-pushed [] (suc i) = refl
same-pushed (g ∷ gs) zero = refl
same-pushed (g ∷ gs) (suc i) = same-pushed gs i

pub settled-told : (gs all : List Gaps) (g : Gaps) (xs : List Arrived) (ms : List Mark) (x : Arrived) → g ≡ no_gaps
    → all ≡ gs ++ (g ∷ []) → length ms ≤ length xs → AreSettled gs xs ms → AreSettled all (xs ++ (x ∷ [])) ms
settled-told gs all g xs ms x is e long s =
    let came = settled-came gs xs ms x long s in
    subst (λ (l : List Gaps). AreSettled l (xs ++ (x ∷ [])) ms) (sym (e ∙ ap (λ (v : Gaps). gs ++ (v ∷ [])) is))
    (record {
      long =
          (let size = length_push xs x in
          let more = length_push gs no_gaps in
          let few = s.long in
          omega (arith, size, more, few));
      each = λ i a. subst (λ (v : Gaps). AreGaps (has_bytes (get_or (xs ++ (x ∷ [])) i a).bytes) v (xs ++ (x ∷ [])) ms)
          (sym (same-pushed gs i)) (came.each i a);
    })

-- an arrival that is named is wanted no more
pub stay-named : (ms : List Mark) (i : ℕ) (reason : Reason) → i < length ms
    → StayUnwanted ms (set ms i (record { reason = Some reason; is_named = true }))
stay-named ms i reason lt w p m none = by (cases_eq p i)
  where
    out : (w' : Wanted) → is_wanted w' (record { reason = Some reason; is_named = true }) ≡ false
    out ToName = refl
    out Accepted = refl

    by : (p ≡ i) ⊎ (p ≡ i → ⊥) → is_wanted w (get_or (set ms i (record { reason = Some reason; is_named = true })) p
        m) ≡ false
    by (inl same) =
        ap (λ (n : ℕ). is_wanted w (get_or (set ms i (record { reason = Some reason; is_named = true })) n m)) same
        ∙ ap (λ (v : Mark). is_wanted w v) (get_or-set_same ms i (record { reason = Some reason; is_named = true }) m
        lt)
        ∙ out w
    by (inr other) =
        ap (λ (v : Mark). is_wanted w v) (get_or-set_other ms i p (record { reason = Some reason; is_named = true }) m
        other) ∙ none

-- where arrivals stand doesn't depend on gaps
pub known-still : (known : KnownBytes) (gaps' : Vec Gaps) (xs : List Arrived) → AreKnown known xs
    → AreKnown (record known { gaps = gaps' }) xs
known-still known gaps' xs k = record { kept = k.kept; order = k.order }
