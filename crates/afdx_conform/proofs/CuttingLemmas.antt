-- What is cut off at the end of a stream.
use Rattle.std.proofs.Common.{◌≡◌, ℕ, suc, ◌+◌, ◌<◌, ◌≤◌, Bool, true, false, List, [], ◌∷◌, ◌++◌, map, drop, length, refl, sym, ap, ◌∙◌, subst, arith}
use Rattle.std.proofs.lemmas.Bool.{ltb-true, ltb-false, leb-true, leb-false}
use Rattle.std.proofs.lemmas.List.{append_cancel_right, length-append, length-drop}
use Rattle.std.specs.Prelude.{if◌then◌else◌, nat_le, nat_lt}
use Rattle.std.specs.List.{AllByRecursion}
use Rattle.afdx_police.specs.Arrival.{Arrival}
use Rattle.afdx_conform.specs.Ahead.{with_more}
use Rattle.afdx_conform.specs.Events.{GoUp, closings_in, frame_times}
use Rattle.afdx_conform.specs.HeldStates.{state_of}
use Rattle.afdx_conform.specs.Histories.{AreEvents, AreOver, coming, uncut, unclosed}
use Rattle.afdx_conform.specs.Leeway.{reach}
use Rattle.afdx_conform.specs.States.{Event, Came, Closing, State, state_with}
use Rattle.afdx_conform.specs.Streams.{Gone, Terms}
use Rattle.afdx_conform.specs.declared.states.StreamState.{StreamState}
use Rattle.afdx_conform.proofs.EveryLemmas.{every-on, every-unmap}
use Rattle.afdx_conform.proofs.HistoryLemmas.{next-closing, over-time}
use Rattle.afdx_conform.proofs.OverLemmas.{AreLate}

module _ (z : Terms) where
  -- ---- the frames that are cut off stand behind the others

  abbrev pub IsCutOff : Gone → Type 0
  IsCutOff y = z.until < y.time + reach z.by

  abbrev pub IsShown : Gone → Type 0
  IsShown y = y.time + reach z.by ≤ z.until

  pub record IsSplit (ys : List Gone) : Type 0 where
    pub off : List Gone
    pub same : ys ≡ uncut z ys ++ off
    pub are_off : AllByRecursion IsCutOff off

  none-uncut : (ys : List Gone) → AllByRecursion IsCutOff ys → uncut z ys ≡ []
  none-uncut [] h = refl
  none-uncut (y ∷ ys) h = by (nat_le (y.time + reach z.by) z.until) refl (none-uncut ys h.1)
    where
      by : (b : Bool) → nat_le (y.time + reach z.by) z.until ≡ b → uncut z ys ≡ []
          → (if b then y ∷ uncut z ys else uncut z ys) ≡ []
      by true e k = absurd (let le = leb-true (y.time + reach z.by) z.until e in let lt = h.0 in omega (arith, le, lt))
      by false e k = k

  pub split : (ys : List Gone) → GoUp (frame_times ys) → IsSplit ys
  unfolding GoUp
  split [] h = record { off = []; same = refl; are_off = tt }
  split (y ∷ ys) h = by (nat_le (y.time + reach z.by) z.until) refl (split ys h.1)
    where
      by : (b : Bool) → nat_le (y.time + reach z.by) z.until ≡ b → IsSplit ys → IsSplit (y ∷ ys)
      by true e s = record {
        off = s.off;
        same = ap (λ (l : List Gone). y ∷ l) s.same
            ∙ ap (λ (b : Bool). (if b then y ∷ uncut z ys else uncut z ys) ++ s.off) (sym e);
        are_off = s.are_off;
      }
      by false e s =
          let lt = leb-false (y.time + reach z.by) z.until e in
          let all : AllByRecursion IsCutOff (y ∷ ys) = (
            lt,
            every-on (λ w. y.time ≤ w.time) IsCutOff
                (λ w le. omega (arith, lt, le)) ys (every-unmap (λ t. y.time ≤ t) (λ (w : Gone). w.time) ys h.0),
          ) in
          record {
            off = y ∷ ys;
            same = ap (λ (l : List Gone). l ++ (y ∷ ys)) (sym (none-uncut (y ∷ ys) all));
            are_off = all;
          }

  pub all-shown : (ys : List Gone) → AllByRecursion IsShown (uncut z ys)
  all-shown [] = tt
  all-shown (y ∷ ys) = by (nat_le (y.time + reach z.by) z.until) refl (all-shown ys)
    where
      by : (b : Bool) → nat_le (y.time + reach z.by) z.until ≡ b → AllByRecursion IsShown (uncut z ys)
          → AllByRecursion IsShown (if b then y ∷ uncut z ys else uncut z ys)
      by true e k = (leb-true (y.time + reach z.by) z.until e, k)
      by false e k = k

  pub are-late : (time : ℕ) (off : List Gone) → time ≤ z.until → AllByRecursion IsCutOff off → AreLate z time off
  are-late time off le h =
      every-on IsCutOff (λ y. time ≤ y.time + reach z.by) (λ y lt. omega (arith, le, lt)) off h

  drop-all : (us rs : List Gone) → drop (length us) (us ++ rs) ≡ rs
  drop-all [] rs = refl
  drop-all (u ∷ us) rs = drop-all us rs

  -- none of those is closed
  pub closed-shown : (xs : List Arrival) (us off : List Gone) (time : ℕ) (over : List Event)
      → AreEvents z xs (us ++ off) over
      → AreOver z time over → time ≤ z.until → AllByRecursion IsCutOff off → length (closings_in over) ≤ length us
  unfolding AreEvents AreOver
  closed-shown xs us off time [] h o le c = omega arith
  closed-shown xs us off time (Came x ∷ before) h o le c = closed-shown xs us off time before h.1 o.1 le c
  closed-shown xs us off time (Closing t ∷ before) h o le c =
      let less = closed-shown xs us off time before h.1 o.1 le c in
      let first = next-closing z (coming xs before) (unclosed (us ++ off) before) t h.0 in
      by (nat_lt (length (closings_in before)) (length us)) refl less first.0 first.1 first.2 first.3
    where
      by : (b : Bool) → nat_lt (length (closings_in before)) (length us) ≡ b → length (closings_in before) ≤ length us
          → (y : Gone) (rest : List Gone) → unclosed (us ++ off) before ≡ y ∷ rest → y.time ≡ t
          → suc (length (closings_in before)) ≤ length us
      by true e less y rest is at = ltb-true (length (closings_in before)) (length us) e
      by false e less y rest is at =
          let high = ltb-false (length (closings_in before)) (length us) e in
          let here : length (closings_in before) ≡ length us = omega (arith, high, less) in
          let at-off : off ≡ y ∷ rest = sym (drop-all us off)
          ∙ ap (λ (n : ℕ). drop n (us ++ off)) (sym here) ∙ is in
          let cut = (subst (λ (l : List Gone). AllByRecursion IsCutOff l) at-off c).0 in
          let m = o.0 in
          let o' = over-time z (Closing t) before in
          absurd (omega (arith, cut, at, m, o', le))

  -- ---- where the cut is

  pub record IsCommon (past fs us off : List Gone) : Type 0 where
    pub here : List Gone
    pub first : us ≡ past ++ here
    pub behind : fs ≡ here ++ off

  pub common : (past fs us off : List Gone) → past ++ fs ≡ us ++ off → length past ≤ length us → IsCommon past fs us off
  common [] fs us off e le = record { here = us; first = refl; behind = e }
  common (p ∷ past) fs [] off e le = absurd (omega (arith, le))
  common (p ∷ past) fs (u ∷ us) off e le =
      let c = common past fs us off (rest e) (omega (arith, le)) in
      record { here = c.here; first = heads e ∙ ap (λ (l : List Gone). p ∷ l) c.first; behind = c.behind }
    where
      rest : p ∷ (past ++ fs) ≡ u ∷ (us ++ off) → past ++ fs ≡ us ++ off
      rest k = cc

      heads : p ∷ (past ++ fs) ≡ u ∷ (us ++ off) → u ∷ us ≡ p ∷ us
      heads k = let same : p ≡ u = cc in ap (λ (g : Gone). g ∷ us) (sym same)

  -- ---- states, without the frames that are cut off

  more-same : (off : List Gone) (a b : State) → with_more off a ≡ with_more off b → a ≡ b
  more-same off a b e =
      let rest = append_cancel_right a.rest b.rest off (ap (λ (s : State). s.rest) e) in
      let levels = ap (λ (s : State). s.levels) e in
      let waits = ap (λ (s : State). s.waiting) e in
      ap (λ (r : List Gone). state_with r a.levels a.waiting) rest ∙ ap (λ l. state_with b.rest l a.waiting) levels
      ∙ ap (λ (n : ℕ). state_with b.rest b.levels n) waits

  pub all-same : (off : List Gone) (ls ms : List State) → map (with_more off) ls ≡ map (with_more off) ms → ls ≡ ms
  all-same off [] [] e = refl
  all-same off [] (b ∷ ms) e = absurd (cc)
  all-same off (a ∷ ls) [] e = absurd (cc)
  all-same off (a ∷ ls) (b ∷ ms) e =
      ap (λ (s : State). s ∷ ls) (more-same off a b (heads e))
      ∙ ap (λ (l : List State). b ∷ l) (all-same off ls ms (tails e))
    where
      heads : with_more off a ∷ map (with_more off) ls ≡ with_more off b ∷ map (with_more off) ms
          → with_more off a ≡ with_more off b
      heads k = cc

      tails : with_more off a ∷ map (with_more off) ls ≡ with_more off b ∷ map (with_more off) ms
          → map (with_more off) ls ≡ map (with_more off) ms
      tails k = cc

  pub passed-low : (fs here off : List Gone) (held : List StreamState) (states : List State) → fs ≡ here ++ off
      → AllByRecursion (λ h. h.passed ≤ length fs) held → map (state_of fs) held ≡ map (with_more off) states
      → AllByRecursion (λ h. h.passed ≤ length here) held
  passed-low fs here off [] states is le e = tt
  passed-low fs here off (h ∷ held) [] is le e = absurd (cc)
  passed-low fs here off (h ∷ held) (s ∷ states) is le e = (
    (let first = ap (λ (t : State). length t.rest) (heads e) in
        let size = length-drop h.passed fs in
        let more = length-append s.rest off in
        let all = ap (λ (l : List Gone). length l) is ∙ length-append here off in
        let low = le.0 in
        omega (arith, first, size, more, all, low)),
    passed-low fs here off held states is le.1 (tails e),
  )
    where
      heads : state_of fs h ∷ map (state_of fs) held ≡ with_more off s ∷ map (with_more off) states
          → state_of fs h ≡ with_more off s
      heads k = cc

      tails : state_of fs h ∷ map (state_of fs) held ≡ with_more off s ∷ map (with_more off) states
          → map (state_of fs) held ≡ map (with_more off) states
      tails k = cc
